-- The law of expressions: a sorted expression is never ill-sorted, and what it is worth has its sort.
use Rattle.std.proofs.Common.{◌≡◌, ◌≢◌, ◌∙◌, sym, ap, refl, arith, ℕ, zero, suc, ◌+◌, ◌<◌, ◌≤◌, ◌==◌, Bool, true, false, if◌then◌else◌, List, ◌∷◌, Option, Some, None, option_map, option_and_then, find}
use Rattle.pads_value.specs.declared.value.Val.{Val}
use Rattle.pads_value.specs.declared.value.Val.TheVariants as val
use Rattle.pads_expr.specs.declared.expr.Expr.{Expr, Expr-F, fold_out-Expr, out-Expr, roll-Expr, roll-out-Expr, map-Expr, size-Expr, the_lemmas}
use Rattle.pads_expr.specs.Parts.{worth_or}
use Rattle.pads_expr.specs.Value.{Pairs, value, step, found, at_number}
use Rattle.pads_expr.specs.Worth.{Worth, Answer, Is, Absent, Ill}
use Rattle.pads_expr.proofs.Steps.{value-out}
use Rattle.law_calculus.specs.Expressions.{SortScope, sort_in, expr_step, forall_sort}
use Rattle.law_calculus.specs.Sorts.{Sort, Number, Text, Truth}
use Rattle.law_calculus.specs.Values.{has_sort, answer_has, worth_has, HasSorts}
use Rattle.law_calculus.proofs.Operators.{Has, on-has, operator-has, minus-has, negation-has, forall-has}
use Rattle.law_calculus.proofs.Values.{has-Num}
use Rattle.law_calculus.proofs.Worths.{worth-has, part-has, branch-has, element-has, chooses-has, length-has}

-- what is asked of a sort that there is
pub and_then-is : {A B : Type 0} (f : A → Option B) (o : Option A) (y : B) → option_and_then f o ≡ Some y → (x : A) × (o ≡ Some x) × (f x ≡ Some y)
and_then-is f None y is = cc
and_then-is f (Some x) y is = (x, refl, is)

module _ (declared : List Sort) where
  pub sort-out : (e : Expr) (scope : SortScope) → sort_in declared e scope ≡ expr_step declared (map-Expr Expr (SortScope → Option Sort) (sort_in declared) (out-Expr e)) scope
  unfolding sort_in
  sort-out e scope = ap (λ (f : SortScope → Option Sort). f scope) (fold_out-Expr (SortScope → Option Sort) (expr_step declared) e)

  -- one more binding
  pub bound-has : (scope : SortScope) (env : Pairs) (name : ℕ) (sort : Sort) (value : Val) → HasSorts declared scope env → has_sort declared value sort ≡ true
      → HasSorts declared ((name, sort) ∷ scope) ((name, value) ∷ env)
  bound-has scope env name sort value h has other s v = by_name (name == other)
    where
      by_name : (b : Bool) → option_map (λ pair. pair.1) (if b then Some (name, sort) else find (λ pair. pair.0 == other) scope) ≡ Some s
          → option_map (λ pair. pair.1) (if b then Some (name, value) else find (λ pair. pair.0 == other) env) ≡ Some v → has_sort declared v s ≡ true
      by_name true is there = let is : sort ≡ s = cc in let there : value ≡ v = cc in rw (← is, ← there) has
      by_name false is there = h other s v is there

  abbrev IsLawful : Expr → Type 0
  IsLawful e = (scope : SortScope) (env : Pairs) (sort : Sort) → HasSorts declared scope env → sort_in declared e scope ≡ Some sort → Has declared (value e env) sort

  abbrev Smaller : ℕ → Type 0
  Smaller n = (e : Expr) → size-Expr e < n → IsLawful e

  variable-has : (v : Option Val) (sort : Sort) → ((value : Val) → v ≡ Some value → has_sort declared value sort ≡ true) → Has declared (worth_or Absent v) sort
  variable-has None sort h = refl
  variable-has (Some value) sort h = worth-has declared value sort (h value refl)

  -- one layer
  abbrev Lawful : Expr-F Expr → Type 0
  Lawful layer = (scope : SortScope) (env : Pairs) (sort : Sort) → HasSorts declared scope env
      → expr_step declared (map-Expr Expr (SortScope → Option Sort) (sort_in declared) layer) scope ≡ Some sort
      → Has declared (step (map-Expr Expr (Pairs → Answer) value layer) env) sort

  lawful-Var : (name : ℕ) → Lawful (Expr-F.Var name)
  lawful-Var name scope env sort h is = variable-has (found env name) sort (λ value there. h name sort value is there)

  lawful-Part : (whole : Expr) (number : ℕ) → IsLawful whole → Lawful (Expr-F.Part whole number)
  lawful-Part whole number law scope env sort h is =
      let x = and_then-is _ (sort_in declared whole scope) sort is in
      on-has declared (value whole env) x.0 sort _ (law scope env x.0 h x.1) (λ w at. part-has declared w number x.0 sort at x.2)

  lawful-Arm : (whole : Expr) (number : ℕ) → IsLawful whole → Lawful (Expr-F.Arm whole number)
  lawful-Arm whole number law scope env sort h is =
      let x = and_then-is _ (sort_in declared whole scope) sort is in
      on-has declared (value whole env) x.0 sort _ (law scope env x.0 h x.1) (λ w at. branch-has declared w number x.0 sort at x.2)

  lawful-Elem : (whole index : Expr) → IsLawful whole → IsLawful index → Lawful (Expr-F.Elem whole index)
  lawful-Elem whole index law inner scope env sort h is =
      let x = and_then-is _ (sort_in declared whole scope) sort is in
      let y = and_then-is _ (sort_in declared index scope) sort x.2 in
      on-has declared (value whole env) x.0 sort _ (law scope env x.0 h x.1) (λ a at.
      on-has declared (value index env) y.0 sort _ (inner scope env y.0 h y.1) (λ b bt. element-has declared a b x.0 y.0 sort at bt y.2))

  lawful-IsArm : (whole : Expr) (number : ℕ) → IsLawful whole → Lawful (Expr-F.IsArm whole number)
  lawful-IsArm whole number law scope env sort h is =
      let x = and_then-is _ (sort_in declared whole scope) sort is in
      on-has declared (value whole env) x.0 sort _ (law scope env x.0 h x.1) (λ w at. chooses-has declared w number x.0 sort at x.2)

  lawful-Len : (whole : Expr) → IsLawful whole → Lawful (Expr-F.Len whole)
  lawful-Len whole law scope env sort h is =
      let x = and_then-is _ (sort_in declared whole scope) sort is in
      on-has declared (value whole env) x.0 sort _ (law scope env x.0 h x.1) (λ w at. length-has declared w x.0 sort at x.2)

  lawful-Neg : (operand : Expr) → IsLawful operand → Lawful (Expr-F.Neg operand)
  lawful-Neg operand law scope env sort h is =
      let x = and_then-is _ (sort_in declared operand scope) sort is in
      on-has declared (value operand env) x.0 sort _ (law scope env x.0 h x.1) (λ w at. minus-has declared w x.0 sort at x.2)

  lawful-Not : (operand : Expr) → IsLawful operand → Lawful (Expr-F.Not operand)
  lawful-Not operand law scope env sort h is =
      let x = and_then-is _ (sort_in declared operand scope) sort is in
      on-has declared (value operand env) x.0 sort _ (law scope env x.0 h x.1) (λ w at. negation-has declared w x.0 sort at x.2)

  forall_is : (a b c sort : Sort) → forall_sort a b c ≡ Some sort → (a ≡ Number) × (b ≡ Number) × (c ≡ Truth) × (Truth ≡ sort)
  forall_is Number Number Truth sort is = (refl, refl, refl, cc)
  forall_is _ _ _ sort is = cc

  lawful-Forall : (name : ℕ) (first last body : Expr) → IsLawful first → IsLawful last → IsLawful body → Lawful (Expr-F.Forall name first last body)
  lawful-Forall name first last body one other each scope env sort h is =
      let x = and_then-is _ (sort_in declared first scope) sort is in
      let y = and_then-is _ (sort_in declared last scope) sort x.2 in
      let z = and_then-is _ (sort_in declared body ((name, Number) ∷ scope)) sort y.2 in
      let all = forall_is x.0 y.0 z.0 sort z.2 in
      rw (← all.3) (on-has declared (value first env) Number Truth _ (one scope env Number h (x.1 ∙ ap (λ s. Some s) all.0)) (λ a at.
      on-has declared (value last env) Number Truth _ (other scope env Number h (y.1 ∙ ap (λ s. Some s) all.1)) (λ b bt.
      forall-has declared (at_number (value body) name env) a b at bt (λ n.
      each ((name, Number) ∷ scope) ((name, val.Num n) ∷ env) Truth (bound-has scope env name Number (val.Num n) h (has-Num declared n)) (z.1 ∙ ap (λ s. Some s) all.2)))))

  lawful-Bin : (op : _) (left right : Expr) → IsLawful left → IsLawful right → Lawful (Expr-F.Bin op left right)
  lawful-Bin op left right one other scope env sort h is =
      let x = and_then-is _ (sort_in declared left scope) sort is in
      let y = and_then-is _ (sort_in declared right scope) sort x.2 in
      operator-has declared op (value left env) (value right env) x.0 y.0 sort (one scope env x.0 h x.1) (other scope env y.0 h y.1) y.2

  layer : (n : ℕ) → Smaller n → (layer : Expr-F Expr) → size-Expr (roll-Expr layer) ≤ n → Lawful layer
  layer n smaller (Expr-F.Num number) within = λ scope env sort h is. let same : Number ≡ sort = cc in rw (← same) refl
  layer n smaller (Expr-F.Text text) within = λ scope env sort h is. let same : Text ≡ sort = cc in rw (← same) refl
  layer n smaller (Expr-F.Truth truth) within = λ scope env sort h is. let same : Truth ≡ sort = cc in rw (← same) refl
  layer n smaller (Expr-F.Var name) within = lawful-Var name
  layer n smaller (Expr-F.Part whole number) within = lawful-Part whole number (smaller whole (grind (arith, the_lemmas, within)))
  layer n smaller (Expr-F.Arm whole number) within = lawful-Arm whole number (smaller whole (grind (arith, the_lemmas, within)))
  layer n smaller (Expr-F.Elem whole index) within = lawful-Elem whole index (smaller whole (grind (arith, the_lemmas, within))) (smaller index (grind (arith, the_lemmas, within)))
  layer n smaller (Expr-F.IsArm whole number) within = lawful-IsArm whole number (smaller whole (grind (arith, the_lemmas, within)))
  layer n smaller (Expr-F.Len whole) within = lawful-Len whole (smaller whole (grind (arith, the_lemmas, within)))
  layer n smaller (Expr-F.Neg operand) within = lawful-Neg operand (smaller operand (grind (arith, the_lemmas, within)))
  layer n smaller (Expr-F.Not operand) within = lawful-Not operand (smaller operand (grind (arith, the_lemmas, within)))
  layer n smaller (Expr-F.Bin op left right) within = lawful-Bin op left right (smaller left (grind (arith, the_lemmas, within))) (smaller right (grind (arith, the_lemmas, within)))
  layer n smaller (Expr-F.Forall name first last body) within =
      lawful-Forall name first last body (smaller first (grind (arith, the_lemmas, within))) (smaller last (grind (arith, the_lemmas, within))) (smaller body (grind (arith, the_lemmas, within)))

  all-smaller : (n : ℕ) → Smaller n
  all-smaller zero e less scope env sort h is = absurd (omega arith)
  all-smaller (suc n) e less scope env sort h is =
      rw (value-out e env)
      (layer n (all-smaller n) (out-Expr e) (omega (arith, ap size-Expr (roll-out-Expr e))) scope env sort h (sym (sort-out e scope) ∙ is))

  pub expression-has : (e : Expr) → IsLawful e
  expression-has e = all-smaller (size-Expr e + 1) e (omega arith)

  not-ill : (a : Answer) (sort : Sort) → Has declared a sort → a ≡ Ill → ⊥
  not-ill (Is w) sort h is = cc
  not-ill Absent sort h is = cc
  not-ill Ill sort h is = cc

  pub never-ill : (e : Expr) (scope : SortScope) (env : Pairs) (sort : Sort) → HasSorts declared scope env → sort_in declared e scope ≡ Some sort → value e env ≢ Ill
  never-ill e scope env sort h is = not-ill (value e env) sort (expression-has e scope env sort h is)

  pub worth-sorted : (e : Expr) (scope : SortScope) (env : Pairs) (sort : Sort) (worth : Worth) → HasSorts declared scope env → sort_in declared e scope ≡ Some sort
      → value e env ≡ Is worth → worth_has declared worth sort ≡ true
  worth-sorted e scope env sort worth h is there = sym (ap (λ a. answer_has declared a sort) there) ∙ expression-has e scope env sort h is
