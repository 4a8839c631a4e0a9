use Rattle.std.proofs.Common.{◌≡◌, ℕ, [], map, take, Option}
use Rattle.pads_accum.specs.Summaries.{list_summed}
use Rattle.pads_accum.proofs.empty.empty_lists.Given as goal

abbrev pub invariant-lists : goal.invariant-lists
invariant-lists l = (room : Option ℕ) → l.lists ≡ map (λ list. list_summed room list []) (take l.list-index l.plan)
