use Rattle.std.proofs.Common.{◌≡◌, ◌+◌, ◌≤◌, map, drop}
use Rattle.pads_calc.specs.declared.term.Arm.{Arm}
use Rattle.pads_image.specs.Blocks.{layout, part_layout, case_layout, parts_size, arms_size, blocks}
use Rattle.pads_value.specs.Header.{capped}
use Rattle.pads_compile.proofs.size.+size.Given as goal

abbrev pub invariant-parts_size-loop-part : goal.invariant-parts_size-loop-part
invariant-parts_size-loop-part l =
    (capped (parts_size (map part_layout l.parts)) ≡ capped (l.sum + parts_size (map part_layout (drop l.part-index l.parts))))
    × (l.sum ≤ 18446744073709551615)

abbrev pub invariant-arms_size-loop-arm : goal.invariant-arms_size-loop-arm
invariant-arms_size-loop-arm l =
    let laid = λ (arm : Arm). layout arm.term in
    (capped (arms_size (map laid l.arms)) ≡ capped (l.sum + arms_size (map laid (drop l.arm-index l.arms))))
    × (l.sum ≤ 18446744073709551615)

abbrev pub invariant-cases_size-loop-case : goal.invariant-cases_size-loop-case
invariant-cases_size-loop-case l =
    (capped (arms_size (blocks (map case_layout l.cases))) ≡ capped (l.sum + arms_size (blocks (map case_layout (drop l.case-index l.cases)))))
    × (l.sum ≤ 18446744073709551615)
