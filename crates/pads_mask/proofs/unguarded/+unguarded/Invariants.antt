use Rattle.std.proofs.Common.{◌≡◌, ◌+◌, ◌++◌, ◌*◌, map}
use Rattle.std.specs.Vec.Iter.{into_iter_items}
use denote.Param.Weighed.{most}
use Rattle.pads_calc.specs.declared.term.Arm.{size-Arm}
use Rattle.pads_calc.specs.declared.term.Case.{size-Case}
use Rattle.pads_calc.specs.declared.term.Part.{size-Part}
use Rattle.pads_calc.specs.declared.term.Seq.{size-Seq}
use Rattle.pads_calc.specs.declared.term.Term.{size-Term}
use Rattle.pads_mask.specs.Unguarded.{unguarded_arm, unguarded_case, unguarded_part}
use Rattle.pads_mask.proofs.Sizes.{option_size}
use Rattle.pads_mask.proofs.unguarded.+unguarded.Given as goal

abbrev pub decreases-unguarded : goal.decreases-unguarded
decreases-unguarded l = 4 * size-Term l.term

abbrev pub decreases-of_boxed : goal.decreases-of_boxed
decreases-of_boxed l = 4 * size-Term l.inner + 1

abbrev pub decreases-of_optional : goal.decreases-of_optional
decreases-of_optional l = 4 * option_size l.term + 1

abbrev pub decreases-of_arm : goal.decreases-of_arm
decreases-of_arm l = 4 * size-Arm l.arm + 1

abbrev pub decreases-of_struct : goal.decreases-of_struct
decreases-of_struct l = 4 * most size-Part l.parts.items + 1

abbrev pub decreases-of_union : goal.decreases-of_union
decreases-of_union l = 4 * most size-Arm l.arms.items + 2

abbrev pub decreases-of_switch : goal.decreases-of_switch
decreases-of_switch l = 4 * most size-Case l.cases.items + 2

abbrev pub decreases-of_array : goal.decreases-of_array
decreases-of_array l = 4 * size-Seq l.seq + 1

abbrev pub invariant-of_struct-loop-part : goal.invariant-of_struct-loop-part
invariant-of_struct-loop-part l = map unguarded_part l.fn.parts.items ≡ l.made ++ map unguarded_part (into_iter_items l.part-iterator)

abbrev pub invariant-of_union-loop-arm : goal.invariant-of_union-loop-arm
invariant-of_union-loop-arm l = map unguarded_arm l.fn.arms.items ≡ l.made ++ map unguarded_arm (into_iter_items l.arm-iterator)

abbrev pub invariant-of_switch-loop-case : goal.invariant-of_switch-loop-case
invariant-of_switch-loop-case l = record {
  selector : l.selector ≡ l.initial.selector;
  rest : map unguarded_case l.fn.cases.items ≡ l.made ++ map unguarded_case (into_iter_items l.case-iterator);
}
