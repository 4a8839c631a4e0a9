use Rattle.std.proofs.Common.{◌≡◌, ◌++◌, drop, map}
use Rattle.std.specs.Option.{option_copied}
use Rattle.pads_accum.specs.Walks.{found_seen, kids_below}
use Rattle.pads_accum.proofs.place.+place.Given as goal

-- what is listed already, then the rest, is the whole
abbrev pub invariant-place_kids-kids : goal.invariant-place_kids-kids
invariant-place_kids-kids l =
    map found_seen l.found.items ++ kids_below l.guide.plan.parts l.part (option_copied l.value) l.i (drop l.i l.kids)
    ≡ map found_seen l.fn.found.items ++ kids_below l.guide.plan.parts l.part (option_copied l.value) 0 l.kids
