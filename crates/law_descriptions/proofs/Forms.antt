-- The sort of a resolved expression, form by form, and what operators give of forms that they take.
use Rattle.std.proofs.Common.{◌≡◌, ◌∙◌, sym, ap, refl, ℕ, ℤ, Bool, true, ◌&&◌, ◌||◌, if◌then◌else◌, List, ◌∷◌, Some, None, option_and_then, eq-eqb, ◌⊎◌, inl, inr}
use Rattle.pads_expr.specs.declared.expr.BinOp.TheVariants as written
use Rattle.pads_rules.specs.declared.sort.Form.{Form}
use Rattle.pads_rules.specs.declared.sort.Form.TheVariants as form
use Rattle.pads_rules.specs.declared.sort.Sort.{Sort}
use Rattle.pads_resolution.specs.declared.decl.Decl.{Decl}
use Rattle.pads_expr.specs.declared.expr.BinOp.{BinOp}
use Rattle.pads_resolution.specs.declared.expr.Expr.{Expr, Expr-F}
use Rattle.pads_resolution.specs.declared.expr.Expr.TheVariants as expr
use Rattle.pads_resolution.specs.declared.expr.NameUse.{NameUse}
use Rattle.pads_rules.specs.Judging.{takes, result_of}
use Rattle.pads_rules.specs.Sorts.{is_num_form, is_text_form, is_truth_form, same_form}
use Rattle.pads_rules.specs.declared.expr_sort.ExprSort.TheVariants as expr_sort
use Rattle.law_descriptions.specs.Expressions.{SortScope, if_told, as_told, plainly, of_numbers, of_texts, of_truths, of_forms, binary_sort, number_alone, truth_alone, length_sort, forall_sort, part_sort, branch_sort, choice_sort, element_sort, meaning_sort, sort_in}
use Rattle.law_descriptions.specs.Sorts.{num, text, truth}
use Rattle.law_descriptions.proofs.TypedTrees.{sort-roll}

-- a sort that is told as it is found
same-self : (f : Form) → same_form f f ≡ true
same-self form.Num = refl
same-self form.Text = refl
same-self form.Truth = refl
same-self (form.Struct n) = eq-eqb n n refl
same-self (form.Union n) = eq-eqb n n refl
same-self (form.Enum n) = eq-eqb n n refl
same-self (form.Array n) = eq-eqb n n refl

pub told-self : (s : Sort) → if_told s s ≡ Some s
told-self s =
    ap (λ b. if b && same_form s.form s.form then Some s else None) (eq-eqb s.optional s.optional refl)
    ∙ ap (λ b. if b then Some s else None) (same-self s.form)

module _ (decls : List Decl) (sorts : List Sort) (scope : SortScope) where
  pub sort-Number : (number : ℤ) → sort_in decls sorts (expr.Number number) scope ≡ Some num
  sort-Number number = ap (λ e. sort_in decls sorts e scope) (sym (expr.rolls-Number number)) ∙ sort-roll decls sorts (Expr-F.Number number) scope

  pub sort-Word : (points : List ℕ) → sort_in decls sorts (expr.Word points) scope ≡ Some text
  sort-Word points = ap (λ e. sort_in decls sorts e scope) (sym (expr.rolls-Word points)) ∙ sort-roll decls sorts (Expr-F.Word points) scope

  pub sort-Truth : (value : Bool) → sort_in decls sorts (expr.Truth value) scope ≡ Some truth
  sort-Truth value = ap (λ e. sort_in decls sorts e scope) (sym (expr.rolls-Truth value)) ∙ sort-roll decls sorts (Expr-F.Truth value) scope

  pub sort-Name : (means : NameUse) (sort : Sort) → sort_in decls sorts (expr.Name means sort) scope ≡ as_told sort (meaning_sort decls sorts means scope)
  sort-Name means sort = ap (λ e. sort_in decls sorts e scope) (sym (expr.rolls-Name means sort)) ∙ sort-roll decls sorts (Expr-F.Name means sort) scope

  pub sort-Part : (whole : Expr) (number : ℕ) (sort : Sort) → sort_in decls sorts (expr.Part whole number sort) scope
      ≡ as_told sort (option_and_then (plainly (part_sort decls sorts number)) (sort_in decls sorts whole scope))
  sort-Part whole number sort = ap (λ e. sort_in decls sorts e scope) (sym (expr.rolls-Part whole number sort)) ∙ sort-roll decls sorts (Expr-F.Part whole number sort) scope

  pub sort-Branch : (whole : Expr) (number : ℕ) (sort : Sort) → sort_in decls sorts (expr.Branch whole number sort) scope
      ≡ as_told sort (option_and_then (branch_sort decls sorts number) (sort_in decls sorts whole scope))
  sort-Branch whole number sort = ap (λ e. sort_in decls sorts e scope) (sym (expr.rolls-Branch whole number sort)) ∙ sort-roll decls sorts (Expr-F.Branch whole number sort) scope

  pub sort-Index : (array index : Expr) (sort : Sort) → sort_in decls sorts (expr.Index array index sort) scope
      ≡ as_told sort (option_and_then (λ a. option_and_then (element_sort decls sorts a) (sort_in decls sorts index scope)) (sort_in decls sorts array scope))
  sort-Index array index sort = ap (λ e. sort_in decls sorts e scope) (sym (expr.rolls-Index array index sort)) ∙ sort-roll decls sorts (Expr-F.Index array index sort) scope

  pub sort-Pis : (value : Expr) (number : ℕ) → sort_in decls sorts (expr.Pis value number) scope ≡ option_and_then (choice_sort decls sorts number) (sort_in decls sorts value scope)
  sort-Pis value number = ap (λ e. sort_in decls sorts e scope) (sym (expr.rolls-Pis value number)) ∙ sort-roll decls sorts (Expr-F.Pis value number) scope

  pub sort-Plen : (value : Expr) → sort_in decls sorts (expr.Plen value) scope ≡ option_and_then (plainly length_sort) (sort_in decls sorts value scope)
  sort-Plen value = ap (λ e. sort_in decls sorts e scope) (sym (expr.rolls-Plen value)) ∙ sort-roll decls sorts (Expr-F.Plen value) scope

  pub sort-Minus : (operand : Expr) → sort_in decls sorts (expr.Minus operand) scope ≡ option_and_then (plainly number_alone) (sort_in decls sorts operand scope)
  sort-Minus operand = ap (λ e. sort_in decls sorts e scope) (sym (expr.rolls-Minus operand)) ∙ sort-roll decls sorts (Expr-F.Minus operand) scope

  pub sort-Not : (operand : Expr) → sort_in decls sorts (expr.Not operand) scope ≡ option_and_then (plainly truth_alone) (sort_in decls sorts operand scope)
  sort-Not operand = ap (λ e. sort_in decls sorts e scope) (sym (expr.rolls-Not operand)) ∙ sort-roll decls sorts (Expr-F.Not operand) scope

  pub sort-Binary : (op : BinOp) (left right : Expr) → sort_in decls sorts (expr.Binary op left right) scope
      ≡ option_and_then (λ a. option_and_then (binary_sort op a) (sort_in decls sorts right scope)) (sort_in decls sorts left scope)
  sort-Binary op left right = ap (λ e. sort_in decls sorts e scope) (sym (expr.rolls-Binary op left right)) ∙ sort-roll decls sorts (Expr-F.Binary op left right) scope

  pub sort-Pforall : (variable : List ℕ) (low high inner : Expr) → sort_in decls sorts (expr.Pforall variable low high inner) scope
      ≡ option_and_then
      (λ a. option_and_then (λ b. option_and_then (forall_sort a b) (sort_in decls sorts inner ((variable, num) ∷ scope))) (sort_in decls sorts high scope))
      (sort_in decls sorts low scope)
  sort-Pforall variable low high inner =
      ap (λ e. sort_in decls sorts e scope) (sym (expr.rolls-Pforall variable low high inner)) ∙ sort-roll decls sorts (Expr-F.Pforall variable low high inner) scope

-- forms that pass a test
pub num-form : (f : Form) → is_num_form f ≡ true → f ≡ form.Num
num-form form.Num h = refl
num-form _ h = cc

pub truth-form : (f : Form) → is_truth_form f ≡ true → f ≡ form.Truth
truth-form form.Truth h = refl
truth-form _ h = cc

same-num : (f g : Form) → is_num_form f ≡ true → same_form f g ≡ true → (f ≡ form.Num) × (g ≡ form.Num)
same-num form.Num form.Num h same = (refl, refl)
same-num _ _ h same = cc

same-truth : (f g : Form) → is_truth_form f ≡ true → same_form f g ≡ true → (f ≡ form.Truth) × (g ≡ form.Truth)
same-truth form.Truth form.Truth h same = (refl, refl)
same-truth _ _ h same = cc

of-num : (op : BinOp) (f g : Form) → is_num_form f ≡ true → same_form f g ≡ true → of_forms op f g ≡ of_numbers op
of-num op f g h same = let x = same-num f g h same in ap (λ f. of_forms op f g) x.0 ∙ ap (of_forms op form.Num) x.1

of-truth : (op : BinOp) (f g : Form) → is_truth_form f ≡ true → same_form f g ≡ true → of_forms op f g ≡ of_truths op
of-truth op f g h same = let x = same-truth f g h same in ap (λ f. of_forms op f g) x.0 ∙ ap (of_forms op form.Truth) x.1

-- two numbers or two texts, or two truths too
of-ordered : (op : BinOp) (f g : Form) → (is_num_form f || is_text_form f) ≡ true → same_form f g ≡ true → of_numbers op ≡ Some truth → of_texts op ≡ Some truth
    → of_forms op f g ≡ Some truth
of-ordered op form.Num form.Num h same numbers texts = numbers
of-ordered op form.Text form.Text h same numbers texts = texts
of-ordered op _ _ h same numbers texts = cc

of-equal : (op : BinOp) (f g : Form) → (is_num_form f || is_text_form f || is_truth_form f) ≡ true → same_form f g ≡ true → of_numbers op ≡ Some truth → of_texts op ≡ Some truth
    → of_truths op ≡ Some truth → of_forms op f g ≡ Some truth
of-equal op form.Num form.Num h same numbers texts truths = numbers
of-equal op form.Text form.Text h same numbers texts truths = texts
of-equal op form.Truth form.Truth h same numbers texts truths = truths
of-equal op _ _ h same numbers texts truths = cc

abbrev pub IsPlainSort : Sort → Type 0
IsPlainSort s = (s ≡ num) ⊎ (s ≡ truth)

-- an operator gives of forms that it takes what the rules say
pub forms-sort : (op : BinOp) (f g : Form) → takes op f ≡ true → same_form f g ≡ true
    → (s : Sort) × (of_forms op f g ≡ Some s) × (result_of op ≡ expr_sort.Known s) × IsPlainSort s
forms-sort written.Or f g h same = (truth, of-truth written.Or f g h same, refl, inr refl)
forms-sort written.And f g h same = (truth, of-truth written.And f g h same, refl, inr refl)
forms-sort written.Eq f g h same = (truth, of-equal written.Eq f g h same refl refl refl, refl, inr refl)
forms-sort written.Ne f g h same = (truth, of-equal written.Ne f g h same refl refl refl, refl, inr refl)
forms-sort written.Lt f g h same = (truth, of-ordered written.Lt f g h same refl refl, refl, inr refl)
forms-sort written.Le f g h same = (truth, of-ordered written.Le f g h same refl refl, refl, inr refl)
forms-sort written.Gt f g h same = (truth, of-ordered written.Gt f g h same refl refl, refl, inr refl)
forms-sort written.Ge f g h same = (truth, of-ordered written.Ge f g h same refl refl, refl, inr refl)
forms-sort written.Add f g h same = (num, of-num written.Add f g h same, refl, inl refl)
forms-sort written.Sub f g h same = (num, of-num written.Sub f g h same, refl, inl refl)
forms-sort written.Mul f g h same = (num, of-num written.Mul f g h same, refl, inl refl)
forms-sort written.Div f g h same = (num, of-num written.Div f g h same, refl, inl refl)
forms-sort written.Rem f g h same = (num, of-num written.Rem f g h same, refl, inl refl)
