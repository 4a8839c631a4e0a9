use Rattle.std.proofs.Common.{◌≡◌, ℕ, [], map, take, Option}
use Rattle.pads_sums.specs.Sums.{part_sum}
use Rattle.pads_accum.proofs.empty.empty_parts.Given as goal

abbrev pub invariant-parts : goal.invariant-parts
invariant-parts l = (room : Option ℕ) → l.sums ≡ map (λ part. part_sum room part.place part.form []) (take l.part-index l.parts)
