-- Names and operators: an expression without violations resolves to a well-sorted one of the judged sort.
use Rattle.std.proofs.Common.{◌≡◌, ◌∙◌, sym, ap, refl, subst, ⊎_elim, ℕ, suc, max, Bool, true, false, not, ◌&&◌, ◌==◌, nat_eq, List, [], ◌++◌, codes, Option, Some, None, option_map, option_and_then, eqb-true}
use Rattle.std.proofs.lemmas.Bool.{not-false, and_parts}
use lib.Pointwise.{pointwise, bytes_decides}
use Rattle.pads_ast.specs.declared.decl.Decl.{Decl as WrittenDecl}
use Rattle.pads_expr.specs.declared.expr.BinOp.{BinOp}
use Rattle.pads_ast.specs.declared.expr.UnaryOperator.{UnaryOperator}
use Rattle.pads_ast.specs.declared.expr.UnaryOperator.TheVariants as unary_form
use Rattle.pads_ast.specs.declared.name.Name.{Name}
use Rattle.pads_rules.specs.declared.sort.Form.{Form}
use Rattle.pads_rules.specs.declared.sort.Sort.{Sort}
use Rattle.pads_resolution.specs.declared.decl.Decl.{Decl}
use Rattle.pads_resolution.specs.declared.expr.Expr.{Expr}
use Rattle.pads_resolution.specs.declared.expr.Expr.TheVariants as expr
use Rattle.pads_resolution.specs.declared.visible.Known.{Known}
use Rattle.pads_resolution.specs.declared.visible.ResolvedExpr.{ResolvedExpr}
use Rattle.pads_resolution.specs.Expressions as made
use Rattle.pads_resolution.specs.Expressions.{sort_known, as_sort, meaning_of, name_in, name_found}
use Rattle.pads_resolution.specs.Scopes.{NameScope as Names, known_in}
use Rattle.pads_resolution.specs.JudgedNames.{judging_scope}
use Rattle.pads_resolution.proofs.JudgedNames.{sort-known}
use Rattle.pads_rules.specs.Faults.{breaks, when}
use Rattle.pads_rules.specs.Judging as judging
use Rattle.pads_rules.specs.Judging.{Judged, judgement, takes, wrong_sort, no_truth, unary_takes, unary_gives, is_text_or_array}
use Rattle.pads_rules.specs.Members.{element}
use Rattle.pads_rules.specs.Sorts as rules
use Rattle.pads_rules.specs.Sorts.{accepts, agree, is_num_form, is_array_form}
use Rattle.pads_rules.specs.Texts.{same_text}
use Rattle.pads_rules.specs.declared.declared.Declared.{Declared}
use Rattle.pads_rules.specs.declared.expr_sort.ExprSort.{ExprSort}
use Rattle.pads_rules.specs.declared.expr_sort.ExprSort.TheVariants as expr_sort
use Rattle.pads_rules.specs.declared.fault.CheckFault.{CheckFault}
use Rattle.pads_rules.specs.declared.rule.Rule.TheVariants as rule
use Rattle.law_descriptions.specs.Expressions.{SortScope, if_told, as_told, of_plain, plainly, of_forms, binary_sort, number_alone, truth_alone, sort_in}
use Rattle.law_descriptions.specs.Sorts.{num, text, truth}
use Rattle.law_descriptions.specs.Described.{IsProper, Describes, Typed, Sees}
use Rattle.pads_rules.proofs.Faultless.{none-left, none-right, not-when, is-taken, own-sort, inner-faults}
use Rattle.law_descriptions.proofs.Forms.{told-self, sort-Name, sort-Minus, sort-Not, sort-Binary, num-form, truth-form, IsPlainSort, forms-sort}

pub own-text : (a : List ℕ) → pointwise nat_eq a a ≡ true
own-text a = (bytes_decides a a).1 refl

pub same-swapped : (a b : List ℕ) (t : Bool) → same_text a b ≡ t → pointwise nat_eq b a ≡ t
unfolding same_text
same-swapped a b true h = (bytes_decides b a).1 (sym ((bytes_decides a b).0 h))
same-swapped a b false h = by (pointwise nat_eq b a) refl
  where
    by : (t : Bool) → pointwise nat_eq b a ≡ t → t ≡ false
    by true is = sym ((bytes_decides a b).1 (sym ((bytes_decides b a).0 is))) ∙ h
    by false is = refl

pub some_is_not_none : same_text (codes "some") (codes "none") ≡ false
unfolding same_text
some_is_not_none = refl

-- what is told of a sort that is there
pub told-found : (told s : Sort) (o : Option Sort) → told ≡ s → o ≡ Some s → as_told told o ≡ Some s
told-found told s o same is = ap (as_told told) is ∙ ap (λ t. if_told t s) same ∙ told-self s

pub told-known : (sort : ExprSort) (s : Sort) → sort ≡ expr_sort.Known s → sort_known sort ≡ s
told-known sort s is = ap sort_known is

pub and_then : {A B : Type 0} (f : A → Option B) (o : Option A) (x : A) (y : B) → o ≡ Some x → f x ≡ Some y → option_and_then f o ≡ Some y
and_then f o x y is gives = ap (option_and_then f) is ∙ gives

pub at-plain : (gives : Form → Option Sort) (s : Sort) → s.optional ≡ 0 → plainly gives s ≡ gives s.form
at-plain gives s is = ap (λ n. of_plain gives n s.form) is

module _ (written : List WrittenDecl) (env : List Declared) (decls : List Decl) (sorts : List Sort) (describes : Describes written env decls sorts) where
  abbrev pub TypedIn : SortScope → Expr → ExprSort → Type 0
  TypedIn = Typed env decls sorts

  -- of the judged sort, and well-sorted
  abbrev pub Fits : ResolvedExpr → Judged → SortScope → Type 0
  Fits r j scope = (r.sort ≡ j.sort) × TypedIn scope r.expr r.sort

  -- an operand that is taken
  pub known-operand : (test : Form → Bool) (sort : ExprSort) (e : Expr) (scope : SortScope) → TypedIn scope e sort → accepts test sort ≡ true
      → (s : Sort) × (sort ≡ expr_sort.Known s) × (s.optional ≡ 0) × (test s.form ≡ true) × IsProper env decls s.form × (sort_in decls sorts e scope ≡ Some s)
  known-operand test expr_sort.Unknown e scope typed h = absurd typed
  known-operand test expr_sort.Nothing e scope typed h = cc
  known-operand test (expr_sort.Known s) e scope typed h =
      (s, refl, eqb-true s.optional 0 (and_parts (s.optional == 0) (test s.form) h).0, (and_parts (s.optional == 0) (test s.form) h).1, typed.0, typed.1)

  pub operand : (test : Form → Bool) (r : ResolvedExpr) (j : Judged) (scope : SortScope) → Fits r j scope → accepts test j.sort ≡ true
      → (s : Sort) × (r.sort ≡ expr_sort.Known s) × (s.optional ≡ 0) × (test s.form ≡ true) × IsProper env decls s.form × (sort_in decls sorts r.expr scope ≡ Some s)
  operand test r j scope fits h = known-operand test r.sort r.expr scope fits.1 (ap (accepts test) fits.0 ∙ h)

  -- a form of a sort that it has whatever its parts are
  as-judged : (e : Expr) (sort : ExprSort) (scope : SortScope) (first height : ℕ) (faults : List CheckFault) → (judgement first height sort faults).faults ≡ [] → TypedIn scope e sort
      → Fits (as_sort e sort) (judgement first height sort faults) scope
  as-judged e sort scope first height faults none typed = (own-sort first height sort faults none, typed)

  pub typed-as : (scope : SortScope) (e : Expr) (sort : ExprSort) (s : Sort) → sort ≡ expr_sort.Known s → IsProper env decls s.form → sort_in decls sorts e scope ≡ Some s → TypedIn scope e sort
  typed-as scope e sort s is proper has = subst (TypedIn scope e) (sym is) (proper, has)

  -- names
  name-typed : (names : Names) (scope : SortScope) (text : List ℕ) (known : Known) → Sees env decls sorts names scope → known_in names text ≡ Some known
      → TypedIn scope (expr.Name (meaning_of text known.stands) (sort_known known.sort)) known.sort
  name-typed names scope text known sees is =
      let x = sees text known is in
      typed-as scope (expr.Name (meaning_of text known.stands) (sort_known known.sort)) known.sort x.0 x.1 x.2
      (sort-Name decls sorts scope (meaning_of text known.stands) (sort_known known.sort) ∙ told-found (sort_known known.sort) x.0 _ (told-known known.sort x.0 x.1) x.3)

  found-fits : (names : Names) (later : List (List ℕ)) (scope : SortScope) (name : Name) (known : Option Known) → Sees env decls sorts names scope → known_in names name.text ≡ known
      → (judging.variable_found (judging_scope names later) name (option_map (λ (k : Known). k.sort) known)).faults ≡ []
      → Fits (name_found name.text known) (judging.variable_found (judging_scope names later) name (option_map (λ (k : Known). k.sort) known)) scope
  found-fits names later scope name (Some known) sees is none = (own-sort name.at 1 known.sort [] none, name-typed names scope name.text known sees is)
  found-fits names later scope name None sees is none = cc

  pub name-fits : (names : Names) (later : List (List ℕ)) (scope : SortScope) (name : Name) → Sees env decls sorts names scope → (judging.variable (judging_scope names later) name).faults ≡ []
      → Fits (name_in names name.text) (judging.variable (judging_scope names later) name) scope
  unfolding name_in
  name-fits names later scope name sees none =
      let is = sort-known names name.text in
      subst (λ s. Fits (name_found name.text (known_in names name.text)) (judging.variable_found (judging_scope names later) name s) scope) (sym is)
      (found-fits names later scope name (known_in names name.text) sees refl (subst (λ s. (judging.variable_found (judging_scope names later) name s).faults ≡ []) is none))

  -- what a form without violations says
  pub judged-form : (first height : ℕ) (sort : ExprSort) (faults : List CheckFault) → (judgement first height sort faults).faults ≡ [] → (sort ≡ (judgement first height sort faults).sort) × (faults ≡ [])
  judged-form first height sort faults none = (own-sort first height sort faults none, inner-faults first height sort faults none)

  pub judged-binary : (op : BinOp) (left right : Judged) → (judging.binary op left right).faults ≡ []
      → (judging.result_of op ≡ (judging.binary op left right).sort) × (left.faults ++ right.faults ++ judging.wrong_operands (takes op) left right ≡ [])
  judged-binary op left right none =
      judged-form left.first (suc (max left.height right.height)) (judging.result_of op) (left.faults ++ right.faults ++ judging.wrong_operands (takes op) left right) none

  pub judged-unary : (op : UnaryOperator) (at : ℕ) (j : Judged) → (judging.unary op at j).faults ≡ []
      → (unary_gives op ≡ (judging.unary op at j).sort) × (j.faults ++ wrong_sort (unary_takes op) j ≡ [])
  judged-unary op at j none = judged-form at (suc j.height) (unary_gives op) (j.faults ++ wrong_sort (unary_takes op) j) none

  pub judged-index : (whole index : Judged) → (judging.indexed env whole index).faults ≡ []
      → (element env whole.sort ≡ (judging.indexed env whole index).sort) × (whole.faults ++ index.faults ++ wrong_sort is_array_form whole ++ wrong_sort is_num_form index ≡ [])
  judged-index whole index none =
      judged-form whole.first (suc (max whole.height index.height)) (element env whole.sort) (whole.faults ++ index.faults ++ wrong_sort is_array_form whole ++ wrong_sort is_num_form index) none

  pub judged-pis : (at : ℕ) (value : Judged) (name : Name) → (judging.pis env at value name).faults ≡ []
      → (rules.truth ≡ (judging.pis env at value name).sort) × (value.faults ++ judging.no_choice env value name ≡ [])
  judged-pis at value name none = judged-form at (suc value.height) rules.truth (value.faults ++ judging.no_choice env value name) none

  pub judged-plen : (at : ℕ) (value : Judged) → (judging.plen at value).faults ≡ [] → (rules.num ≡ (judging.plen at value).sort) × (value.faults ++ wrong_sort is_text_or_array value ≡ [])
  judged-plen at value none = judged-form at (suc value.height) rules.num (value.faults ++ wrong_sort is_text_or_array value) none

  pub judged-pforall : (at : ℕ) (low high body : Judged) → (judging.pforall at low high body).faults ≡ []
      → (rules.truth ≡ (judging.pforall at low high body).sort)
      × (low.faults ++ high.faults ++ body.faults ++ wrong_sort is_num_form low ++ wrong_sort is_num_form high ++ no_truth body ≡ [])
  judged-pforall at low high body none =
      judged-form at (suc (max (max low.height high.height) body.height)) rules.truth
      (low.faults ++ high.faults ++ body.faults ++ wrong_sort is_num_form low ++ wrong_sort is_num_form high ++ no_truth body) none

  -- operators
  plain-proper : (s : Sort) → IsPlainSort s → IsProper env decls s.form
  plain-proper s h = ⊎_elim (λ is. subst (λ (s : Sort). IsProper env decls s.form) (sym is) tt) (λ is. subst (λ (s : Sort). IsProper env decls s.form) (sym is) tt) h

  agree-forms : (a b : Sort) → ((a.optional == b.optional) && rules.same_form a.form b.form) ≡ true → rules.same_form a.form b.form ≡ true
  agree-forms a b h = (and_parts (a.optional == b.optional) (rules.same_form a.form b.form) h).1

  binary-typed : (op : BinOp) (left right : Expr) (scope : SortScope) (a b : Sort) → sort_in decls sorts left scope ≡ Some a → sort_in decls sorts right scope ≡ Some b → a.optional ≡ 0 → b.optional ≡ 0
      → takes op a.form ≡ true → rules.same_form a.form b.form ≡ true → TypedIn scope (expr.Binary op left right) (judging.result_of op)
  binary-typed op left right scope a b one other plain_a plain_b taken same =
      let x = forms-sort op a.form b.form taken same in
      typed-as scope (expr.Binary op left right) (judging.result_of op) x.0 x.2 (plain-proper x.0 x.3)
      (sort-Binary decls sorts scope op left right
      ∙ and_then (λ a. option_and_then (binary_sort op a) (sort_in decls sorts right scope)) (sort_in decls sorts left scope) a x.0 one
      (and_then (binary_sort op a) (sort_in decls sorts right scope) b x.0 other
      (at-plain (λ f. plainly (of_forms op f) b) a plain_a ∙ at-plain (of_forms op a.form) b plain_b ∙ x.1)))

  agreed : (l r : Bool) (both : Bool) → l ≡ true → r ≡ true → (l && r && not both) ≡ false → both ≡ true
  agreed true true both one other h = not-false both h
  agreed true false both one other h = cc
  agreed false r both one other h = cc

  pub binary-fits : (op : BinOp) (l r : ResolvedExpr) (left right : Judged) (scope : SortScope) → Fits l left scope → Fits r right scope → (judging.binary op left right).faults ≡ []
      → Fits (made.binary op l r) (judging.binary op left right) scope
  unfolding made.binary
  binary-fits op l r left right scope one other none =
      let different = accepts (takes op) left.sort && accepts (takes op) right.sort && not (agree left.sort right.sort) in
      let differ = when different (breaks rule.OperandSort right.first) in
      let says = judged-binary op left right none in
      let wrong = none-right (left.faults ++ right.faults) (judging.wrong_operands (takes op) left right) says.1 in
      let sides = none-left (wrong_sort (takes op) left ++ wrong_sort (takes op) right) differ wrong in
      let left_is = is-taken (takes op) left (none-left (wrong_sort (takes op) left) (wrong_sort (takes op) right) sides) in
      let right_is = is-taken (takes op) right (none-right (wrong_sort (takes op) left) (wrong_sort (takes op) right) sides) in
      let together = agreed (accepts (takes op) left.sort) (accepts (takes op) right.sort) (agree left.sort right.sort) left_is right_is
      (not-when different (breaks rule.OperandSort right.first) (none-right (wrong_sort (takes op) left ++ wrong_sort (takes op) right) differ wrong)) in
      let x = operand (takes op) l left scope one left_is in
      let y = operand (takes op) r right scope other right_is in
      let same : agree (expr_sort.Known x.0) (expr_sort.Known y.0) ≡ true =
      ap (λ s. agree s (expr_sort.Known y.0)) (sym (sym one.0 ∙ x.1)) ∙ ap (agree left.sort) (sym (sym other.0 ∙ y.1)) ∙ together in (
        says.0,
        binary-typed op l.expr r.expr scope x.0 y.0 x.5 y.5 x.2 y.2 x.3 (agree-forms x.0 y.0 same),
      )

  unary-typed : (op : UnaryOperator) (e : Expr) (scope : SortScope) (s : Sort) → sort_in decls sorts e scope ≡ Some s → s.optional ≡ 0 → unary_takes op s.form ≡ true
      → TypedIn scope (made.unary_expr op e) (unary_gives op)
  unary-typed unary_form.Minus e scope s has plain taken =
      (tt, sort-Minus decls sorts scope e ∙ and_then (plainly number_alone) (sort_in decls sorts e scope) s num has (at-plain number_alone s plain ∙ ap number_alone (num-form s.form taken)))
  unary-typed unary_form.Not e scope s has plain taken =
      (tt, sort-Not decls sorts scope e ∙ and_then (plainly truth_alone) (sort_in decls sorts e scope) s truth has (at-plain truth_alone s plain ∙ ap truth_alone (truth-form s.form taken)))

  pub unary-fits : (op : UnaryOperator) (at : ℕ) (r : ResolvedExpr) (j : Judged) (scope : SortScope) → Fits r j scope → (judging.unary op at j).faults ≡ []
      → Fits (made.unary op r) (judging.unary op at j) scope
  unfolding made.unary
  unary-fits op at r j scope fits none =
      let says = judged-unary op at j none in
      let x = operand (unary_takes op) r j scope fits (is-taken (unary_takes op) j (none-right j.faults (wrong_sort (unary_takes op) j) says.1)) in
      (says.0, unary-typed op r.expr scope x.0 x.5 x.2 x.3)
