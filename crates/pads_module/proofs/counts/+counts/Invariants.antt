use Rattle.std.proofs.Common.{◌≡◌, true, take}
use Rattle.std.specs.List.{list_all}
use Rattle.pads_module.specs.Counts.{counts_fit}
use Rattle.pads_module.proofs.counts.+counts.Given as goal

abbrev pub invariant-parts_fit-loop-part : goal.invariant-parts_fit-loop-part
invariant-parts_fit-loop-part l = list_all (λ part. counts_fit part.term) (take l.part-index l.parts) ≡ true

abbrev pub invariant-arms_fit-loop-arm : goal.invariant-arms_fit-loop-arm
invariant-arms_fit-loop-arm l = list_all (λ arm. counts_fit arm.term) (take l.arm-index l.arms) ≡ true

abbrev pub invariant-cases_fit-loop-case : goal.invariant-cases_fit-loop-case
invariant-cases_fit-loop-case l = list_all (λ case. counts_fit case.arm.term) (take l.case-index l.cases) ≡ true
