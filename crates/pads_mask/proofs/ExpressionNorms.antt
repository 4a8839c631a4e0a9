-- The sort of an expression, told of terms without their constraints, is its sort where its variables' sorts
-- are told so.
use Rattle.std.proofs.Common.{◌≡◌, ◌∙◌, sym, ap, refl, subst, ℕ, zero, suc, ◌==◌, nat_lt, Bool, true, false, if◌then◌else◌, List, [], ◌∷◌, map, Option, None, Some, option_map, option_and_then, slice_get, find}
use Rattle.pads_expr.specs.declared.expr.BinOp.{BinOp}
use Rattle.pads_expr.specs.declared.expr.BinOp.TheVariants.{Or, And, Eq, Ne, Lt, Le, Gt, Ge, Add, Sub, Mul, Div, Rem}
use Rattle.pads_expr.specs.declared.expr.Expr.{Expr, Expr-F, fold-roll-Expr, ind-Expr, map-Expr, roll-Expr}
use Rattle.pads_calc.specs.declared.term.Part.{Part}
use Rattle.pads_calc.specs.declared.term.Term.{Term}
use Rattle.pads_calc.proofs.Choices.{slice_get-map}
use Rattle.law_calculus.specs.Expressions.{SortScope, branch_sort, chooses_sort, element_sort, expr_step, forall_sort, length_sort, minus_sort, negation_sort, of_numbers, of_texts, of_truths, operator_sort, part_sort, sort_in, sort_named}
use Rattle.law_calculus.specs.Sorts.{Sort, Number, Text, Truth, Nothing, Labels, Struct, Choice, Array, sort_of}
use Rattle.pads_mask.specs.Unguarded.{unguarded, unguarded_part}
use Rattle.pads_mask.proofs.Norms.{norm, norms, sort-norm}

abbrev pub normed : Option Sort → Option Sort
normed o = option_map norm o

abbrev norm_pair : ℕ × Sort → ℕ × Sort
norm_pair pair = (pair.0, norm pair.1)

abbrev pub norm_scope : SortScope → SortScope
norm_scope scope = map norm_pair scope

named-by : (here : Bool) (name : ℕ) (sort : Sort) (later later' : Option (ℕ × Sort)) → option_map (λ (pair : ℕ × Sort). pair.1) later' ≡ normed (option_map (λ (pair : ℕ × Sort). pair.1) later)
    → option_map (λ (pair : ℕ × Sort). pair.1) (if here then Some (name, norm sort) else later')
    ≡ normed (option_map (λ (pair : ℕ × Sort). pair.1) (if here then Some (name, sort) else later))
named-by true name sort later later' same = refl
named-by false name sort later later' same = same

named-norm : (scope : SortScope) (name : ℕ) → sort_named (norm_scope scope) name ≡ normed (sort_named scope name)
named-norm [] name = refl
named-norm (pair ∷ scope) name =
    named-by (pair.0 == name) pair.0 pair.1 (find (λ (pair : ℕ × Sort). pair.0 == name) scope) (find (λ (pair : ℕ × Sort). pair.0 == name) (norm_scope scope)) (named-norm scope name)

-- what is asked of a sort
asked : (f g : Sort → Option Sort) → ((s : Sort) → g (norm s) ≡ normed (f s)) → (o : Option Sort) → option_and_then g (normed o) ≡ normed (option_and_then f o)
asked f g same None = refl
asked f g same (Some s) = same s

numbers-norm : (op : BinOp) → of_numbers op ≡ normed (of_numbers op)
numbers-norm Or = refl
numbers-norm And = refl
numbers-norm Eq = refl
numbers-norm Ne = refl
numbers-norm Lt = refl
numbers-norm Le = refl
numbers-norm Gt = refl
numbers-norm Ge = refl
numbers-norm Add = refl
numbers-norm Sub = refl
numbers-norm Mul = refl
numbers-norm Div = refl
numbers-norm Rem = refl

texts-norm : (op : BinOp) → of_texts op ≡ normed (of_texts op)
texts-norm Or = refl
texts-norm And = refl
texts-norm Eq = refl
texts-norm Ne = refl
texts-norm Lt = refl
texts-norm Le = refl
texts-norm Gt = refl
texts-norm Ge = refl
texts-norm Add = refl
texts-norm Sub = refl
texts-norm Mul = refl
texts-norm Div = refl
texts-norm Rem = refl

truths-norm : (op : BinOp) → of_truths op ≡ normed (of_truths op)
truths-norm Or = refl
truths-norm And = refl
truths-norm Eq = refl
truths-norm Ne = refl
truths-norm Lt = refl
truths-norm Le = refl
truths-norm Gt = refl
truths-norm Ge = refl
truths-norm Add = refl
truths-norm Sub = refl
truths-norm Mul = refl
truths-norm Div = refl
truths-norm Rem = refl

operator-norm : (op : BinOp) (a b : Sort) → operator_sort op (norm a) (norm b) ≡ normed (operator_sort op a b)
operator-norm op Number Number = numbers-norm op
operator-norm op Text Text = texts-norm op
operator-norm op Truth Truth = truths-norm op
operator-norm op _ _ = refl

minus-norm : (s : Sort) → minus_sort (norm s) ≡ normed (minus_sort s)
minus-norm Number = refl
minus-norm _ = refl

negation-norm : (s : Sort) → negation_sort (norm s) ≡ normed (negation_sort s)
negation-norm Truth = refl
negation-norm _ = refl

length-norm : (s : Sort) → length_sort (norm s) ≡ normed (length_sort s)
length-norm Text = refl
length-norm (Array element) = refl
length-norm _ = refl

forall-norm : (a b c : Sort) → forall_sort (norm a) (norm b) (norm c) ≡ normed (forall_sort a b c)
forall-norm Number Number Truth = refl
forall-norm _ _ _ = refl

truth-norm : (o : Option Term) → option_map (λ (t : Term). Truth) (option_map unguarded o) ≡ normed (option_map (λ (t : Term). Truth) o)
truth-norm None = refl
truth-norm (Some t) = refl

labels-norm : (there : Bool) → (if there then Some Truth else None) ≡ normed (if there then Some Truth else None)
labels-norm true = refl
labels-norm false = refl

chooses-norm : (number : ℕ) (s : Sort) → chooses_sort number (norm s) ≡ normed (chooses_sort number s)
chooses-norm number (Choice branches) = ap (option_map (λ (t : Term). Truth)) (slice_get-map unguarded branches number) ∙ truth-norm (slice_get branches number)
chooses-norm number (Labels count) = labels-norm (nat_lt number count)
chooses-norm number _ = refl

module _ (declared : List Sort) where
  found-part : (o : Option Part) → option_map (λ (part : Part). sort_of (norms declared) part.term) (option_map unguarded_part o)
      ≡ normed (option_map (λ (part : Part). sort_of declared part.term) o)
  found-part None = refl
  found-part (Some part) = ap (λ s. Some s) (sort-norm declared part.term)

  part-norm : (number : ℕ) (s : Sort) → part_sort (norms declared) number (norm s) ≡ normed (part_sort declared number s)
  part-norm number (Struct parts) = ap (option_map (λ (part : Part). sort_of (norms declared) part.term)) (slice_get-map unguarded_part parts number) ∙ found-part (slice_get parts number)
  part-norm number _ = refl

  found-branch : (o : Option Term) → option_map (sort_of (norms declared)) (option_map unguarded o) ≡ normed (option_map (sort_of declared) o)
  found-branch None = refl
  found-branch (Some t) = ap (λ s. Some s) (sort-norm declared t)

  branch-norm : (number : ℕ) (s : Sort) → branch_sort (norms declared) number (norm s) ≡ normed (branch_sort declared number s)
  branch-norm number (Choice branches) = ap (option_map (sort_of (norms declared))) (slice_get-map unguarded branches number) ∙ found-branch (slice_get branches number)
  branch-norm number _ = refl

  element-norm : (a b : Sort) → element_sort (norms declared) (norm a) (norm b) ≡ normed (element_sort declared a b)
  element-norm (Array element) Number = ap (λ s. Some s) (sort-norm declared element)
  element-norm _ _ = refl

  abbrev Sorting : Type 0
  Sorting = SortScope → Option Sort

  abbrev Norms : Expr → Type 0
  Norms e = (scope : SortScope) → sort_in (norms declared) e (norm_scope scope) ≡ normed (sort_in declared e scope)

  abbrev Known : Type 0
  Known = (e : Expr) × Norms e

  abbrev expr_of : Known → Expr
  expr_of known = known.0

  abbrev step_of : List Sort → Expr-F Expr → Sorting
  step_of sorts layer = expr_step sorts (map-Expr Expr Sorting (sort_in sorts) layer)

  sort-roll : (sorts : List Sort) (layer : Expr-F Expr) (scope : SortScope) → sort_in sorts (roll-Expr layer) scope ≡ step_of sorts layer scope
  unfolding sort_in
  sort-roll sorts layer scope = ap (λ (f : Sorting). f scope) (fold-roll-Expr Sorting (expr_step sorts) layer)

  -- one operand
  one : (f g : Sort → Option Sort) → ((s : Sort) → g (norm s) ≡ normed (f s)) → (e : Known) (scope : SortScope)
      → option_and_then g (sort_in (norms declared) e.0 (norm_scope scope)) ≡ normed (option_and_then f (sort_in declared e.0 scope))
  one f g same e scope = ap (option_and_then g) (e.1 scope) ∙ asked f g same (sort_in declared e.0 scope)

  layer-norm : (y : Expr-F Known) (scope : SortScope)
      → step_of (norms declared) (map-Expr Known Expr expr_of y) (norm_scope scope) ≡ normed (step_of declared (map-Expr Known Expr expr_of y) scope)
  layer-norm (Expr-F.Num number) scope = refl
  layer-norm (Expr-F.Text text) scope = refl
  layer-norm (Expr-F.Truth truth) scope = refl
  layer-norm (Expr-F.Var name) scope = named-norm scope name
  layer-norm (Expr-F.Part whole number) scope = one (part_sort declared number) (part_sort (norms declared) number) (part-norm number) whole scope
  layer-norm (Expr-F.Arm whole number) scope = one (branch_sort declared number) (branch_sort (norms declared) number) (branch-norm number) whole scope
  layer-norm (Expr-F.Elem whole index) scope =
      one (λ a. option_and_then (element_sort declared a) (sort_in declared index.0 scope)) (λ a. option_and_then (element_sort (norms declared) a) (sort_in (norms declared) index.0 (norm_scope scope)))
      (λ a. one (element_sort declared a) (element_sort (norms declared) (norm a)) (element-norm a) index scope) whole scope
  layer-norm (Expr-F.IsArm whole number) scope = one (chooses_sort number) (chooses_sort number) (chooses-norm number) whole scope
  layer-norm (Expr-F.Len whole) scope = one length_sort length_sort length-norm whole scope
  layer-norm (Expr-F.Neg operand) scope = one minus_sort minus_sort minus-norm operand scope
  layer-norm (Expr-F.Not operand) scope = one negation_sort negation_sort negation-norm operand scope
  layer-norm (Expr-F.Bin op left right) scope =
      one (λ a. option_and_then (operator_sort op a) (sort_in declared right.0 scope)) (λ a. option_and_then (operator_sort op a) (sort_in (norms declared) right.0 (norm_scope scope)))
      (λ a. one (operator_sort op a) (operator_sort op (norm a)) (operator-norm op a) right scope) left scope
  layer-norm (Expr-F.Forall name first last body) scope =
      one (λ a. option_and_then (λ b. option_and_then (forall_sort a b) (sort_in declared body.0 ((name, Number) ∷ scope))) (sort_in declared last.0 scope))
      (λ a. option_and_then (λ b. option_and_then (forall_sort a b) (sort_in (norms declared) body.0 ((name, Number) ∷ norm_scope scope))) (sort_in (norms declared) last.0 (norm_scope scope)))
      (λ a. one (λ b. option_and_then (forall_sort a b) (sort_in declared body.0 ((name, Number) ∷ scope)))
      (λ b. option_and_then (forall_sort (norm a) b) (sort_in (norms declared) body.0 ((name, Number) ∷ norm_scope scope)))
      (λ b. one (forall_sort a b) (forall_sort (norm a) (norm b)) (forall-norm a b) body ((name, Number) ∷ scope)) last scope) first scope

  pub expression-norm : (e : Expr) → Norms e
  expression-norm = ind-Expr Norms (λ x y is scope.
      subst (λ (layer : Expr-F Expr). sort_in (norms declared) (roll-Expr layer) (norm_scope scope) ≡ normed (sort_in declared (roll-Expr layer) scope)) is
      (sort-roll (norms declared) (map-Expr Known Expr expr_of y) (norm_scope scope) ∙ layer-norm y scope
      ∙ ap normed (sym (sort-roll declared (map-Expr Known Expr expr_of y) scope))))
