-- Rows of the definitions, computed: what a reader may compare with the rules.
use Rattle.std.proofs.Common.{◌≡◌, refl, ◌-◌, ◌^◌, ℤ, pos, negsuc, [], ◌∷◌, true, false, Some, None}
use Rattle.pads_value.specs.declared.value.Val.TheVariants as val
use Rattle.pads_expr.specs.declared.expr.BinOp.TheVariants.{Or, And, Eq, Lt, Le, Add, Mul}
use Rattle.pads_expr.specs.declared.expr.Expr.{Expr}
use Rattle.pads_expr.specs.declared.expr.Expr.TheVariants as expr
use Rattle.pads_expr.specs.Numbers.{sum_of, product_of, opposite_of, quotient_of, remainder_of}
use Rattle.pads_expr.specs.Operators.{between, operate}
use Rattle.pads_expr.specs.Ranges.{count_between, over_range}
use Rattle.pads_expr.specs.Value.{Pairs, value, found}
use Rattle.pads_expr.specs.Worth.{Num, Text, Truth, Answer, Is, Absent, Ill}
use Rattle.pads_expr.proofs.Steps.{value-Num, value-Truth, value-Bin}

-- division cuts toward zero, and the remainder has the sign of the left operand
quotient_down : quotient_of (pos 7) (negsuc 1) ≡ Some (negsuc 2)
quotient_down = refl

remainder_up : remainder_of (pos 7) (negsuc 1) ≡ Some (pos 1)
remainder_up = refl

remainder_down : remainder_of (negsuc 6) (pos 2) ≡ Some (negsuc 0)
remainder_down = refl

no_quotient_by_zero : quotient_of (pos 7) (pos 0) ≡ None
no_quotient_by_zero = refl

no_remainder_by_zero : remainder_of (pos 7) (pos 0) ≡ None
no_remainder_by_zero = refl

-- 128 bits: the least number is -2 ^ 127
largest_sum : sum_of (pos (2 ^ 127 - 2)) (pos 1) ≡ Some (pos (2 ^ 127 - 1))
largest_sum = refl

no_sum_above : sum_of (pos (2 ^ 127 - 1)) (pos 1) ≡ None
no_sum_above = refl

no_product_above : product_of (pos (2 ^ 64)) (pos (2 ^ 63)) ≡ None
no_product_above = refl

least_product : product_of (pos (2 ^ 64)) (negsuc (2 ^ 63 - 1)) ≡ Some (negsuc (2 ^ 127 - 1))
least_product = refl

least_has_no_opposite : opposite_of (negsuc (2 ^ 127 - 1)) ≡ None
least_has_no_opposite = refl

no_quotient_of_least : quotient_of (negsuc (2 ^ 127 - 1)) (negsuc 0) ≡ None
no_quotient_of_least = refl

remainder_of_least : remainder_of (negsuc (2 ^ 127 - 1)) (negsuc 0) ≡ Some (pos 0)
remainder_of_least = refl

-- texts: `a` < `ab` < `b`
prefix_first : operate Lt (Text (97 ∷ [])) (Text (97 ∷ 98 ∷ [])) ≡ Is (Truth true)
prefix_first = refl

first_difference : operate Lt (Text (97 ∷ 98 ∷ [])) (Text (98 ∷ [])) ≡ Is (Truth true)
first_difference = refl

not_equal : operate Eq (Text (97 ∷ [])) (Text (97 ∷ 98 ∷ [])) ≡ Is (Truth false)
not_equal = refl

-- sorts that an operator doesn't take
no_sum_of_texts : operate Add (Text []) (Text []) ≡ Ill
no_sum_of_texts = refl

no_order_of_truths : operate Le (Truth true) (Truth true) ≡ Ill
no_order_of_truths = refl

no_number_with_text : operate Eq (Num (pos 1)) (Text (49 ∷ [])) ≡ Ill
no_number_with_text = refl

-- the side that decides hides a right side without a value
false_decides : (right : Answer) → between And (Is (Truth false)) right ≡ Is (Truth false)
false_decides right = refl

true_decides : (right : Answer) → between Or (Is (Truth true)) right ≡ Is (Truth true)
true_decides right = refl

absent_left : (right : Answer) → between And Absent right ≡ Absent
absent_left right = refl

-- ranges: 5 to 4 has no number, 0 to 1,048,576 has one too many
empty_range : (holds : ℤ → Answer) → over_range holds (pos 5) (pos 4) ≡ Is (Truth true)
empty_range holds = refl

too_long : (holds : ℤ → Answer) → over_range holds (pos 0) (pos 1048576) ≡ Absent
too_long holds = refl

longest : count_between (pos 0) (pos 1048575) ≡ 1048576
longest = refl

below_zero : count_between (negsuc 2) (pos 1) ≡ 5
below_zero = refl

-- the latest binding of a name counts
latest_counts : found ((3, val.Num (pos 2)) ∷ (4, val.Num (pos 5)) ∷ (3, val.Num (pos 1)) ∷ []) 3 ≡ Some (val.Num (pos 2))
latest_counts = refl

-- expressions: 1 + 2 * 3, and `false && e` for every e
sum_with_product : (env : Pairs) → value (expr.Bin Add (expr.Num (pos 1)) (expr.Bin Mul (expr.Num (pos 2)) (expr.Num (pos 3)))) env ≡ Is (Num (pos 7))
sum_with_product env = simp (value-Bin, value-Num)

false_and : (right : Expr) (env : Pairs) → value (expr.Bin And (expr.Truth false) right) env ≡ Is (Truth false)
false_and right env = simp (value-Bin, value-Truth)
