use Rattle.std.proofs.Common.{◌≡◌, ◌+◌, ◌*◌, ◌≤◌, ◌++◌, length, map, drop}
use denote.Param.Weighed.{most}
use Rattle.pads_calc.specs.declared.term.Arm.{Arm, size-Arm}
use Rattle.pads_calc.specs.declared.term.Case.{Case, size-Case}
use Rattle.pads_calc.specs.declared.term.Part.{size-Part}
use Rattle.pads_calc.specs.declared.term.Seq.{size-Seq}
use Rattle.pads_calc.specs.declared.term.Term.{size-Term}
use Rattle.pads_image.specs.declared.op.Op.TheVariants as op
use Rattle.pads_image.specs.Blocks.{part_layout, parts_code, parts_size}
use Rattle.pads_image.specs.Validity.{longest}
use Rattle.pads_compile.proofs.Appended.{branch_code, branch_sizes}
use Rattle.pads_compile.proofs.Weights.{option_weight}
use Rattle.pads_compile.proofs.emit.+emit.Given as goal

abbrev pub decreases-emit : goal.decreases-emit
decreases-emit l = 4 * size-Term l.term.now

abbrev pub decreases-emit_guard : goal.decreases-emit_guard
decreases-emit_guard l = 4 * size-Term l.inner.now + 1

abbrev pub decreases-emit_absorb : goal.decreases-emit_absorb
decreases-emit_absorb l = 4 * size-Term l.inner.now + 1

abbrev pub decreases-emit_scan : goal.decreases-emit_scan
decreases-emit_scan l = 4 * size-Term l.inner.now + 1

abbrev pub decreases-emit_struct : goal.decreases-emit_struct
decreases-emit_struct l = 4 * most size-Part l.parts.now + 2

abbrev pub decreases-emit_parts : goal.decreases-emit_parts
decreases-emit_parts l = 4 * most size-Part l.parts.now + 1

abbrev pub decreases-emit_alt : goal.decreases-emit_alt
decreases-emit_alt l = 4 * most size-Arm l.arms.now + 2

abbrev pub decreases-emit_arms : goal.decreases-emit_arms
decreases-emit_arms l = 4 * most size-Arm l.arms.now + 1

abbrev pub decreases-emit_switch : goal.decreases-emit_switch
decreases-emit_switch l = 4 * most size-Case l.cases.now + 2

abbrev pub decreases-emit_cases : goal.decreases-emit_cases
decreases-emit_cases l = 4 * most size-Case l.cases.now + 1

abbrev pub decreases-emit_seq : goal.decreases-emit_seq
decreases-emit_seq l = 4 * size-Seq l.seq.now + 1

abbrev pub decreases-emit_begin : goal.decreases-emit_begin
decreases-emit_begin l = 4 * size-Seq l.seq.now

abbrev pub decreases-emit_turn : goal.decreases-emit_turn
decreases-emit_turn l = option_weight l.sep.now + 1

abbrev pub decreases-emit_elem : goal.decreases-emit_elem
decreases-emit_elem l = 4 * size-Term l.elem.now + 1

abbrev pub decreases-emit_stop : goal.decreases-emit_stop
decreases-emit_stop l = option_weight l.stop.now

abbrev pub decreases-emit_sep : goal.decreases-emit_sep
decreases-emit_sep l = option_weight l.sep.now

abbrev pub invariant-emit_parts-loop-part : goal.invariant-emit_parts-loop-part
invariant-emit_parts-loop-part l =
    (l.initial.code ++ parts_code (map part_layout l.parts) (length l.initial.code)
    ≡ l.code ++ parts_code (map part_layout (drop l.part-index l.parts)) (length l.code))
    × (length l.code + parts_size (map part_layout (drop l.part-index l.parts)) ≤ longest)

abbrev pub invariant-emit_arms-loop-arm : goal.invariant-emit_arms-loop-arm
invariant-emit_arms-loop-arm l =
    let code = branch_code (λ (arm : Arm). arm.term) (λ number. op.Try number l.end) in
    (l.initial.code ++ code l.arms 0 (length l.initial.code) ≡ l.code ++ code (drop l.arm-index l.arms) l.arm-index (length l.code))
    × (length l.code + branch_sizes (λ (arm : Arm). arm.term) (drop l.arm-index l.arms) ≤ longest)
    × (l.number ≡ l.arm-index)

abbrev pub invariant-emit_cases-loop-case : goal.invariant-emit_cases-loop-case
invariant-emit_cases-loop-case l =
    let code = branch_code (λ (case : Case). case.arm.term) (λ number. op.Arm number l.end) in
    (l.initial.code ++ code l.cases 0 (length l.initial.code) ≡ l.code ++ code (drop l.case-index l.cases) l.case-index (length l.code))
    × (length l.code + branch_sizes (λ (case : Case). case.arm.term) (drop l.case-index l.cases) ≤ longest)
    × (l.number ≡ l.case-index)
