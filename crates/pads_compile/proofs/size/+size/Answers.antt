use Rattle.std.proofs.Common.{arith, map}
use Rattle.pads_calc.specs.declared.term.Arm.{Arm}
use Rattle.pads_image.specs.Blocks.{layout, part_layout, case_layout, parts_size, arms_size, blocks}
use Rattle.pads_compile.proofs.Sums.{parts-end, arms-end, cases-end}
use Rattle.pads_compile.proofs.size.+size.Goals as goal

pub parts_size-returns : goal.parts_size-returns
parts_size-returns t c =
    record { size = parts-end c.args.parts.now (parts_size (map part_layout c.args.parts.now)) c.loop-part.part-index c.loop-part.sum (omega arith) c.loop-part.invariant.0 c.loop-part.invariant.1 }

pub arms_size-returns : goal.arms_size-returns
arms_size-returns t c =
    record { size = arms-end c.args.arms.now (arms_size (map (λ (arm : Arm). layout arm.term) c.args.arms.now)) c.loop-arm.arm-index c.loop-arm.sum (omega arith) c.loop-arm.invariant.0 c.loop-arm.invariant.1 }

pub cases_size-returns : goal.cases_size-returns
cases_size-returns t c =
    record { size = cases-end c.args.cases.now (arms_size (blocks (map case_layout c.args.cases.now))) c.loop-case.case-index c.loop-case.sum (omega arith) c.loop-case.invariant.0 c.loop-case.invariant.1 }
