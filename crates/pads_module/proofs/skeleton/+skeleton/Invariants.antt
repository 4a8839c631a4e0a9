use Rattle.std.proofs.Common.{◌≡◌, map, take}
use Rattle.pads_calc.specs.declared.term.Arm.{Arm}
use Rattle.pads_calc.specs.declared.term.Case.{Case}
use Rattle.pads_calc.specs.declared.term.Part.{Part}
use Rattle.pads_calc.specs.Skeletons.{skeleton_of}
use Rattle.pads_module.proofs.skeleton.+skeleton.Given as goal

abbrev pub invariant-of_parts-loop-part : goal.invariant-of_parts-loop-part
invariant-of_parts-loop-part l = l.made ≡ map (λ (part : Part). skeleton_of part.term) (take l.part-index l.parts)

abbrev pub invariant-of_arms-loop-arm : goal.invariant-of_arms-loop-arm
invariant-of_arms-loop-arm l = l.made ≡ map (λ (arm : Arm). skeleton_of arm.term) (take l.arm-index l.arms)

abbrev pub invariant-of_cases-loop-case : goal.invariant-of_cases-loop-case
invariant-of_cases-loop-case l = l.made ≡ map (λ (case : Case). skeleton_of case.arm.term) (take l.case-index l.cases)
