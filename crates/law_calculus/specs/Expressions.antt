-- The sort of an expression, where its variables have sorts: none where an operand has a sort that its
-- operator doesn't take. An expression that has a sort is well-sorted.
use Rattle.std.specs.Prelude.{ℕ, ◌==◌, nat_lt, List, ◌∷◌, Option, Some, None, option_map, option_and_then, slice_get, find, if◌then◌else◌}
use Rattle.pads_expr.specs.declared.expr.BinOp.{BinOp}
use Rattle.pads_expr.specs.declared.expr.BinOp.TheVariants.{Or, And, Eq, Ne, Lt, Le, Gt, Ge, Add, Sub, Mul, Div, Rem}
use Rattle.pads_expr.specs.declared.expr.Expr.{Expr, Expr-F, fold-Expr}
use Rattle.law_calculus.specs.Sorts.{Sort, Number, Text, Truth, Labels, Struct, Choice, Array, sort_of}

-- names with the sorts of what they stand for, the latest binding first
abbrev pub SortScope : Type 0
SortScope = List (ℕ × Sort)

abbrev pub sort_named : SortScope → ℕ → Option Sort
sort_named scope name = option_map (λ pair. pair.1) (find (λ pair. pair.0 == name) scope)

-- `+ - * / %` take numbers, and comparisons too
abbrev pub of_numbers : BinOp → Option Sort
of_numbers Or = None
of_numbers And = None
of_numbers Eq = Some Truth
of_numbers Ne = Some Truth
of_numbers Lt = Some Truth
of_numbers Le = Some Truth
of_numbers Gt = Some Truth
of_numbers Ge = Some Truth
of_numbers Add = Some Number
of_numbers Sub = Some Number
of_numbers Mul = Some Number
of_numbers Div = Some Number
of_numbers Rem = Some Number

-- texts are compared alone
abbrev pub of_texts : BinOp → Option Sort
of_texts Or = None
of_texts And = None
of_texts Eq = Some Truth
of_texts Ne = Some Truth
of_texts Lt = Some Truth
of_texts Le = Some Truth
of_texts Gt = Some Truth
of_texts Ge = Some Truth
of_texts Add = None
of_texts Sub = None
of_texts Mul = None
of_texts Div = None
of_texts Rem = None

-- `&& ||` take truths, and so do `== !=`
abbrev pub of_truths : BinOp → Option Sort
of_truths Or = Some Truth
of_truths And = Some Truth
of_truths Eq = Some Truth
of_truths Ne = Some Truth
of_truths Lt = None
of_truths Le = None
of_truths Gt = None
of_truths Ge = None
of_truths Add = None
of_truths Sub = None
of_truths Mul = None
of_truths Div = None
of_truths Rem = None

-- Both operands are numbers, texts or truths.
abbrev pub operator_sort : BinOp → Sort → Sort → Option Sort
operator_sort op Number Number = of_numbers op
operator_sort op Text Text = of_texts op
operator_sort op Truth Truth = of_truths op
operator_sort op _ _ = None

abbrev pub minus_sort : Sort → Option Sort
minus_sort Number = Some Number
minus_sort _ = None

abbrev pub negation_sort : Sort → Option Sort
negation_sort Truth = Some Truth
negation_sort _ = None

abbrev pub length_sort : Sort → Option Sort
length_sort Text = Some Number
length_sort (Array elem) = Some Number
length_sort _ = None

-- The bounds are numbers and the body is a truth.
abbrev pub forall_sort : Sort → Sort → Sort → Option Sort
forall_sort Number Number Truth = Some Truth
forall_sort _ _ _ = None

-- A branch of a union, or a label of an enum, that there is.
abbrev pub chooses_sort : ℕ → Sort → Option Sort
chooses_sort number (Choice branches) = option_map (λ branch. Truth) (slice_get branches number)
chooses_sort number (Labels count) = if nat_lt number count then Some Truth else None
chooses_sort number _ = None

-- where the declarations' values have these sorts
module _ (declared : List Sort) where
  abbrev pub part_sort : ℕ → Sort → Option Sort
  part_sort number (Struct parts) = option_map (λ part. sort_of declared part.term) (slice_get parts number)
  part_sort number _ = None

  abbrev pub branch_sort : ℕ → Sort → Option Sort
  branch_sort number (Choice branches) = option_map (sort_of declared) (slice_get branches number)
  branch_sort number _ = None

  abbrev pub element_sort : Sort → Sort → Option Sort
  element_sort (Array elem) Number = Some (sort_of declared elem)
  element_sort _ _ = None

  -- one equation for each form
  abbrev pub expr_step : Expr-F (SortScope → Option Sort) → SortScope → Option Sort
  expr_step (Expr-F.Num number) scope = Some Number
  expr_step (Expr-F.Text text) scope = Some Text
  expr_step (Expr-F.Truth truth) scope = Some Truth
  expr_step (Expr-F.Var name) scope = sort_named scope name
  expr_step (Expr-F.Part whole number) scope = option_and_then (part_sort number) (whole scope)
  expr_step (Expr-F.Arm whole number) scope = option_and_then (branch_sort number) (whole scope)
  expr_step (Expr-F.Elem whole index) scope =
      option_and_then (λ array. option_and_then (element_sort array) (index scope)) (whole scope)
  expr_step (Expr-F.IsArm whole number) scope = option_and_then (chooses_sort number) (whole scope)
  expr_step (Expr-F.Len whole) scope = option_and_then length_sort (whole scope)
  expr_step (Expr-F.Neg operand) scope = option_and_then minus_sort (operand scope)
  expr_step (Expr-F.Not operand) scope = option_and_then negation_sort (operand scope)
  expr_step (Expr-F.Bin op left right) scope =
      option_and_then (λ a. option_and_then (operator_sort op a) (right scope)) (left scope)
  expr_step (Expr-F.Forall name first last body) scope =
      option_and_then
      (λ a. option_and_then (λ b. option_and_then (forall_sort a b) (body ((name, Number) ∷ scope))) (last scope))
      (first scope)

unfoldable pub sort_in : List Sort → Expr → SortScope → Option Sort
sort_in declared = fold-Expr (SortScope → Option Sort) (expr_step declared)
