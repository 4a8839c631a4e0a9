-- The operators on one operand.
use Rattle.pads_expr.specs.declared.operators.Unary.{Unary}
use Rattle.pads_expr.specs.declared.operators.Unary.TheVariants.{Part, Arm, IsArm, Len, Neg, Not}
use Rattle.pads_expr.specs.Parts.{part_of, arm_of, is_arm_of, length_of, minus, negation}
use Rattle.pads_expr.specs.Worth.{Worth, Answer}

abbrev pub operate_one : Unary → Worth → Answer
operate_one (Part number) = part_of number
operate_one (Arm number) = arm_of number
operate_one (IsArm number) = is_arm_of number
operate_one Len = length_of
operate_one Neg = minus
operate_one Not = negation
