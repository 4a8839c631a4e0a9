-- Members, elements, choices and lengths: an expression without violations resolves to a well-sorted one of the judged sort.
use Rattle.std.proofs.Common.{◌≡◌, ◌∙◌, sym, ap, refl, subst, arith, ℕ, zero, suc, ◌-◌, Bool, true, false, not, ◌&&◌, ◌==◌, if◌then◌else◌, nat_lt, List, [], ◌++◌, codes, Option, Some, None, is_some, option_and_then, ne_eqb}
use Rattle.std.proofs.lemmas.Bool.{not-false}
use Rattle.pads_ast.specs.declared.decl.Decl.{Decl as WrittenDecl}
use Rattle.pads_ast.specs.declared.name.Name.{Name}
use Rattle.pads_rules.specs.declared.sort.Form.{Form}
use Rattle.pads_rules.specs.declared.sort.Form.TheVariants as form
use Rattle.pads_rules.specs.declared.sort.Sort.{Sort}
use Rattle.pads_resolution.specs.declared.decl.Decl.{Decl}
use Rattle.pads_resolution.specs.declared.expr.Expr.{Expr}
use Rattle.pads_resolution.specs.declared.expr.Expr.TheVariants as expr
use Rattle.pads_resolution.specs.declared.visible.ResolvedExpr.{ResolvedExpr}
use Rattle.pads_resolution.specs.Expressions as made
use Rattle.pads_resolution.specs.Expressions.{sort_known, sort_or_unknown, is_struct, is_struct_form, member_expr, member_as}
use Rattle.pads_resolution.specs.Numbers.{field_number, optional_number, choice_in, plain_choice_number, choice_number, plain_member_number, member_number}
use Rattle.pads_rules.specs.Faults.{breaks, when}
use Rattle.pads_rules.specs.Judging as judging
use Rattle.pads_rules.specs.Judging.{Judged, too_high, wrong_sort, is_text_or_array}
use Rattle.pads_rules.specs.Members.{content_of, names_in, has_choice_in, element_in, optional_branch, plain_member, member, element, may_choose, has_choice}
use Rattle.pads_rules.specs.Sorts.{is_num_form, is_array_form}
use Rattle.pads_rules.specs.Texts.{same_text, sort_of}
use Rattle.pads_rules.specs.declared.declared.Content.TheVariants as content
use Rattle.pads_rules.specs.declared.declared.Declared.{Declared}
use Rattle.pads_rules.specs.declared.declared.Named.{Named}
use Rattle.pads_rules.specs.declared.expr_sort.ExprSort.{ExprSort}
use Rattle.pads_rules.specs.declared.expr_sort.ExprSort.TheVariants as expr_sort
use Rattle.pads_rules.specs.declared.rule.Rule.TheVariants as rule
use Rattle.pads_rules.proofs.SameTexts.{same-is}
use Rattle.law_descriptions.specs.Expressions.{SortScope, plainly, number_alone, length_sort, part_sort, union_branch, branch_sort, plain_choice, choice_sort, of_elements, element_sort, sort_in}
use Rattle.law_descriptions.specs.Sorts.{num, truth}
use Rattle.law_descriptions.specs.Described.{IsRead, IsProper, IsKnown, Describes}
use Rattle.pads_rules.proofs.Faultless.{none-left, none-right, not-one, not-when, is-taken, own-sort}
use Rattle.law_descriptions.proofs.Forms.{sort-Part, sort-Branch, sort-Index, sort-Pis, sort-Plen, num-form}
use Rattle.law_descriptions.proofs.TypedOperators as operators
use Rattle.law_descriptions.proofs.TypedOperators.{some_is_not_none, told-found, told-known, and_then, at-plain}

module _ (written : List WrittenDecl) (env : List Declared) (decls : List Decl) (sorts : List Sort) (describes : Describes written env decls sorts) where
  abbrev TypedIn : SortScope → Expr → ExprSort → Type 0
  TypedIn = operators.TypedIn written env decls sorts describes

  abbrev Fits : ResolvedExpr → Judged → SortScope → Type 0
  Fits = operators.Fits written env decls sorts describes

  -- members
  struct-member : (scope : SortScope) (e : Expr) (k : ℕ) (name : List ℕ) (found : ExprSort) (fields : List Named) → content_of env k ≡ content.Fields fields → IsRead decls k
      → sort_in decls sorts e scope ≡ Some (record { optional = 0; form = form.Struct k }) → sort_of (names_in (content_of env k)) name ≡ Some found
      → TypedIn scope (expr.Part e (field_number written k name) (sort_known found)) found
  struct-member scope e k name found fields is reads has there =
      let x = describes.field k fields name found is reads (sym (ap (λ c. sort_of (names_in c) name) is) ∙ there) in
      operators.typed-as written env decls sorts describes scope (expr.Part e (field_number written k name) (sort_known found)) found x.0 x.1 x.2
      (sort-Part decls sorts scope e (field_number written k name) (sort_known found)
      ∙ told-found (sort_known found) x.0 _ (told-known found x.0 x.1) (and_then (plainly (part_sort decls sorts (field_number written k name))) (sort_in decls sorts e scope) _ x.0 has x.3))

  union-member : (scope : SortScope) (e : Expr) (k : ℕ) (name : List ℕ) (found : ExprSort) (branches : List Named) → content_of env k ≡ content.Branches branches → IsRead decls k
      → sort_in decls sorts e scope ≡ Some (record { optional = 0; form = form.Union k }) → sort_of (names_in (content_of env k)) name ≡ Some found
      → TypedIn scope (expr.Branch e (choice_in (content_of env k) name) (sort_known found)) found
  union-member scope e k name found branches is reads has there =
      let x = describes.branch k branches name found is reads (sym (ap (λ c. sort_of (names_in c) name) is) ∙ there) in
      let n = choice_in (content_of env k) name in
      operators.typed-as written env decls sorts describes scope (expr.Branch e n (sort_known found)) found x.0 x.1 x.2
      (sort-Branch decls sorts scope e n (sort_known found)
      ∙ told-found (sort_known found) x.0 _ (told-known found x.0 x.1)
      (and_then (branch_sort decls sorts n) (sort_in decls sorts e scope) _ x.0 has (ap (λ c. union_branch decls sorts (choice_in c name) (form.Union k)) is ∙ x.3)))

  one-less : (o : ℕ) → suc o - 1 ≡ o
  one-less o = omega arith

  some-member : (scope : SortScope) (e : Expr) (o : ℕ) (f : Form) (n : ℕ) → n ≡ 0 → IsProper env decls f → sort_in decls sorts e scope ≡ Some (record { optional = suc o; form = f })
      → TypedIn scope (expr.Branch e n (record { optional = suc o - 1; form = f })) (expr_sort.Known (record { optional = suc o - 1; form = f }))
  some-member scope e o f n first proper has =
      let told : Sort = record { optional = suc o - 1; form = f } in
      let s : Sort = record { optional = o; form = f } in
      let same : told ≡ s = ap (λ (o : ℕ). record { optional = o; form = f }) (one-less o) in
      operators.typed-as written env decls sorts describes scope (expr.Branch e n told) (expr_sort.Known told) s (ap (λ s. expr_sort.Known s) same) proper
      (sort-Branch decls sorts scope e n told
      ∙ told-found told s _ same (and_then (branch_sort decls sorts n) (sort_in decls sorts e scope) (record { optional = suc o; form = f }) s has
      (ap (λ n. branch_sort decls sorts n (record { optional = suc o; form = f })) first)))

  optional-member : (scope : SortScope) (e : Expr) (o : ℕ) (f : Form) (name : List ℕ) (found : ExprSort) (is_some is_none : Bool) → same_text name (codes "some") ≡ is_some → same_text name (codes "none") ≡ is_none
      → IsProper env decls f → sort_in decls sorts e scope ≡ Some (record { optional = suc o; form = f })
      → (if is_some then Some (expr_sort.Known (record { optional = suc o - 1; form = f })) else if is_none then Some expr_sort.Nothing else None) ≡ Some found
      → TypedIn scope (expr.Branch e (if is_none then 1 else 0) (sort_known found)) found
  optional-member scope e o f name found true is_none some none proper has there =
      let not_none : is_none ≡ false = sym none ∙ ap (λ n. same_text n (codes "none")) (same-is name (codes "some") some) ∙ some_is_not_none in
      let same : expr_sort.Known (record { optional = suc o - 1; form = f }) ≡ found = cc in
      subst (λ found. TypedIn scope (expr.Branch e (if is_none then 1 else 0) (sort_known found)) found) same
      (some-member scope e o f (if is_none then 1 else 0) (ap (λ (b : Bool). if b then 1 else 0) not_none) proper has)
  optional-member scope e o f name found false true some none proper has there =
      let same : expr_sort.Nothing ≡ found = cc in
      subst (λ found. TypedIn scope (expr.Branch e 1 (sort_known found)) found) same tt
  optional-member scope e o f name found false false some none proper has there = cc

  -- behind `Popt`
  popt-member : (b : Bool) → b ≡ false → (scope : SortScope) (e : Expr) (o : ℕ) (f : Form) (name : List ℕ) (found : ExprSort) → IsProper env decls f → sort_in decls sorts e scope ≡ Some (record { optional = suc o; form = f })
      → (if b then plain_member env f name else optional_branch (record { optional = suc o; form = f }) name) ≡ Some found
      → TypedIn scope (member_expr (b && is_struct_form f) e (if b then plain_member_number written env f name else optional_number name) (sort_known found)) found
  popt-member true is scope e o f name found proper has there = cc
  popt-member false is scope e o f name found proper has there =
      optional-member scope e o f name found (same_text name (codes "some")) (same_text name (codes "none")) refl refl proper has there

  behind : (o : ℕ) → (suc o == 0) ≡ false
  behind o = ne_eqb (suc o) 0 (λ is. absurd (omega (arith, is)))

  member-by : (scope : SortScope) (e : Expr) (o : ℕ) (f : Form) (name : List ℕ) (found : ExprSort) → IsProper env decls f → sort_in decls sorts e scope ≡ Some (record { optional = o; form = f })
      → member env (expr_sort.Known (record { optional = o; form = f })) name ≡ Some found
      → TypedIn scope (member_expr (is_struct (expr_sort.Known (record { optional = o; form = f }))) e (member_number written env (expr_sort.Known (record { optional = o; form = f })) name) (sort_known found)) found
  unfolding member_number
  member-by scope e zero (form.Struct k) name found proper has there = struct-member scope e k name found proper.0 proper.1 proper.2 has there
  member-by scope e zero (form.Union k) name found proper has there = union-member scope e k name found proper.0 proper.1 proper.2 has there
  member-by scope e zero form.Num name found proper has there = cc
  member-by scope e zero form.Text name found proper has there = cc
  member-by scope e zero form.Truth name found proper has there = cc
  member-by scope e zero (form.Enum k) name found proper has there = cc
  member-by scope e zero (form.Array k) name found proper has there = cc
  member-by scope e (suc o) f name found proper has there = popt-member (suc o == 0) (behind o) scope e o f name found proper has there

  member-typed : (scope : SortScope) (e : Expr) (sort : ExprSort) (name : List ℕ) (found : ExprSort) → TypedIn scope e sort → member env sort name ≡ Some found
      → TypedIn scope (member_expr (is_struct sort) e (member_number written env sort name) (sort_known found)) found
  member-typed scope e expr_sort.Unknown name found typed there = absurd typed
  member-typed scope e expr_sort.Nothing name found typed there = cc
  member-typed scope e (expr_sort.Known s) name found typed there = member-by scope e s.optional s.form name found typed.0 typed.1 there

  member-found : (r : ResolvedExpr) (whole : Judged) (name : Name) (scope : SortScope) (o : Option ExprSort) → TypedIn scope r.expr r.sort → member env r.sort name.text ≡ o
      → (judging.member_found whole name o).faults ≡ []
      → Fits (member_as (is_struct r.sort) r.expr (member_number written env r.sort name.text) (sort_or_unknown o)) (judging.member_found whole name o) scope
  member-found r whole name scope (Some found) typed there none = (own-sort whole.first (suc whole.height) found whole.faults none, member-typed scope r.expr r.sort name.text found typed there)
  member-found r whole name scope None typed there none = absurd (not-one whole.faults (breaks rule.UnknownMember name.at) (too_high whole.first (suc whole.height)) none)

  pub member-fits : (r : ResolvedExpr) (whole : Judged) (name : Name) (scope : SortScope) → Fits r whole scope → (judging.member_found whole name (member env whole.sort name.text)).faults ≡ []
      → Fits (made.member_of written env r name.text) (judging.member_found whole name (member env whole.sort name.text)) scope
  unfolding made.member_of
  member-fits r whole name scope fits none =
      subst (λ s. Fits (member_as (is_struct r.sort) r.expr (member_number written env r.sort name.text) (sort_or_unknown (member env r.sort name.text)))
      (judging.member_found whole name (member env s name.text)) scope) fits.0
      (member-found r whole name scope (member env r.sort name.text) fits.1 refl (subst (λ s. (judging.member_found whole name (member env s name.text)).faults ≡ []) (sym fits.0) none))

  -- elements
  array-element : (scope : SortScope) (array index : Expr) (a b : Sort) → sort_in decls sorts array scope ≡ Some a → sort_in decls sorts index scope ≡ Some b → a.optional ≡ 0 → b.optional ≡ 0
      → is_array_form a.form ≡ true → is_num_form b.form ≡ true → IsProper env decls a.form
      → TypedIn scope (expr.Index array index (sort_known (element env (expr_sort.Known a)))) (element env (expr_sort.Known a))
  array-element scope array index a b one other plain_a plain_b of_array number proper =
      let told = sort_known (element env (expr_sort.Known a)) in
      let x = element-known a.form of_array proper in
      operators.typed-as written env decls sorts describes scope (expr.Index array index told) (element env (expr_sort.Known a)) x.0 x.1 x.2
      (sort-Index decls sorts scope array index told
      ∙ told-found told x.0 _ (told-known (element env (expr_sort.Known a)) x.0 x.1)
      (and_then (λ a. option_and_then (element_sort decls sorts a) (sort_in decls sorts index scope)) (sort_in decls sorts array scope) a x.0 one
      (and_then (element_sort decls sorts a) (sort_in decls sorts index scope) b x.0 other
      (and_then (λ n. plainly (of_elements decls sorts) a) (plainly number_alone b) num x.0 (at-plain number_alone b plain_b ∙ ap number_alone (num-form b.form number))
      (at-plain (of_elements decls sorts) a plain_a ∙ x.3)))))
    where
      element-known : (f : Form) → is_array_form f ≡ true → IsProper env decls f → IsKnown env decls (λ s. of_elements decls sorts f ≡ Some s) (Rattle.pads_rules.specs.Members.plain_element env f)
      element-known (form.Array k) h proper =
          subst (IsKnown env decls (λ s. of_elements decls sorts (form.Array k) ≡ Some s)) (sym (ap element_in proper.1)) (describes.element k proper.0 proper.1 proper.2)
      element-known _ h proper = cc

  pub index-fits : (r i : ResolvedExpr) (whole index : Judged) (scope : SortScope) → Fits r whole scope → Fits i index scope → (judging.indexed env whole index).faults ≡ []
      → Fits (made.indexed env r i) (judging.indexed env whole index) scope
  unfolding made.indexed
  index-fits r i whole index scope one other none =
      let says = operators.judged-index written env decls sorts describes whole index none in
      let of_number = is-taken is_num_form index (none-right (whole.faults ++ index.faults ++ wrong_sort is_array_form whole) (wrong_sort is_num_form index) says.1) in
      let of_array = is-taken is_array_form whole (none-right (whole.faults ++ index.faults) (wrong_sort is_array_form whole)
      (none-left (whole.faults ++ index.faults ++ wrong_sort is_array_form whole) (wrong_sort is_num_form index) says.1)) in
      let x = operators.operand written env decls sorts describes is_array_form r whole scope one of_array in
      let y = operators.operand written env decls sorts describes is_num_form i index scope other of_number in (
        ap (element env) one.0 ∙ says.0,
        subst (λ s. TypedIn scope (expr.Index r.expr i.expr (sort_known (element env s))) (element env s)) (sym x.1)
            (array-element scope r.expr i.expr x.0 y.0 x.5 y.5 x.2 y.2 x.3 y.3 x.4),
      )

  -- choices
  some-there : {A : Type 0} (o : Option A) → is_some o ≡ true → (x : A) × (o ≡ Some x)
  some-there None h = cc
  some-there (Some x) h = (x, refl)

  truth-of-pis : (scope : SortScope) (e : Expr) (n : ℕ) (s : Sort) → sort_in decls sorts e scope ≡ Some s → choice_sort decls sorts n s ≡ Some truth → TypedIn scope (expr.Pis e n) (expr_sort.Known truth)
  truth-of-pis scope e n s has gives = (tt, sort-Pis decls sorts scope e n ∙ and_then (choice_sort decls sorts n) (sort_in decls sorts e scope) s truth has gives)

  optional-choice : (b : Bool) → (if nat_lt (if b then 1 else 0) 2 then Some truth else None) ≡ Some truth
  optional-choice true = refl
  optional-choice false = refl

  choice-by : (scope : SortScope) (e : Expr) (o : ℕ) (f : Form) (name : List ℕ) → IsProper env decls f → sort_in decls sorts e scope ≡ Some (record { optional = o; form = f })
      → has_choice env (expr_sort.Known (record { optional = o; form = f })) name ≡ true
      → TypedIn scope (expr.Pis e (choice_number env (expr_sort.Known (record { optional = o; form = f })) name)) (expr_sort.Known truth)
  unfolding choice_number
  choice-by scope e zero (form.Union k) name proper has chosen =
      let x = some-there (sort_of proper.0 name) (sym (ap (λ c. has_choice_in c name) proper.1) ∙ chosen) in
      truth-of-pis scope e (choice_in (content_of env k) name) _ has
      (ap (λ c. plain_choice decls sorts (choice_in c name) (form.Union k)) proper.1 ∙ describes.chosen k proper.0 name x.0 proper.1 proper.2 x.1)
  choice-by scope e zero (form.Enum k) name proper has chosen =
      truth-of-pis scope e (choice_in (content_of env k) name) _ has
      (ap (λ c. plain_choice decls sorts (choice_in c name) (form.Enum k)) proper.1
      ∙ describes.label k proper.0 name proper.1 proper.2 (sym (ap (λ c. has_choice_in c name) proper.1) ∙ chosen))
  choice-by scope e zero form.Num name proper has chosen = cc
  choice-by scope e zero form.Text name proper has chosen = cc
  choice-by scope e zero form.Truth name proper has chosen = cc
  choice-by scope e zero (form.Struct k) name proper has chosen = cc
  choice-by scope e zero (form.Array k) name proper has chosen = cc
  choice-by scope e (suc o) f name proper has chosen =
      subst (λ (b : Bool). TypedIn scope (expr.Pis e (if b then plain_choice_number env f name else optional_number name)) (expr_sort.Known truth)) (sym (behind o))
      (truth-of-pis scope e (optional_number name) (record { optional = suc o; form = f }) has (optional-choice (same_text name (codes "none"))))

  choice-typed : (scope : SortScope) (e : Expr) (sort : ExprSort) (name : List ℕ) → TypedIn scope e sort → may_choose sort ≡ true → has_choice env sort name ≡ true
      → TypedIn scope (expr.Pis e (choice_number env sort name)) (expr_sort.Known truth)
  choice-typed scope e expr_sort.Unknown name typed may chosen = absurd typed
  choice-typed scope e expr_sort.Nothing name typed may chosen = cc
  choice-typed scope e (expr_sort.Known s) name typed may chosen = choice-by scope e s.optional s.form name typed.0 typed.1 chosen

  and-not : (a b : Bool) → a ≡ true → (a && not b) ≡ false → b ≡ true
  and-not true b one h = not-false b h
  and-not false b one h = cc

  pub pis-fits : (at : ℕ) (r : ResolvedExpr) (value : Judged) (name : Name) (scope : SortScope) → Fits r value scope → (judging.pis env at value name).faults ≡ []
      → Fits (made.pis env r name.text) (judging.pis env at value name) scope
  unfolding made.pis
  pis-fits at r value name scope fits none =
      let says = operators.judged-pis written env decls sorts describes at value name none in
      let no_value = not (may_choose value.sort) in
      let no_name = may_choose value.sort && not (has_choice env value.sort name.text) in
      let wrong = none-right value.faults (judging.no_choice env value name) says.1 in
      let may = not-false (may_choose value.sort) (not-when no_value (breaks rule.UnknownChoice value.first) (none-left (when no_value (breaks rule.UnknownChoice value.first)) (when no_name (breaks rule.UnknownChoice name.at)) wrong)) in
      let chosen = and-not (may_choose value.sort) (has_choice env value.sort name.text) may (not-when no_name (breaks rule.UnknownChoice name.at) (none-right (when no_value (breaks rule.UnknownChoice value.first)) (when no_name (breaks rule.UnknownChoice name.at)) wrong)) in (
        says.0,
        choice-typed scope r.expr r.sort name.text fits.1 (ap may_choose fits.0 ∙ may) (ap (λ s. has_choice env s name.text) fits.0 ∙ chosen),
      )

  -- lengths
  length-of : (f : Form) → is_text_or_array f ≡ true → length_sort f ≡ Some num
  length-of form.Text h = refl
  length-of (form.Array k) h = refl
  length-of _ h = cc

  pub plen-fits : (at : ℕ) (r : ResolvedExpr) (value : Judged) (scope : SortScope) → Fits r value scope → (judging.plen at value).faults ≡ [] → Fits (made.plen r) (judging.plen at value) scope
  unfolding made.plen
  plen-fits at r value scope fits none =
      let says = operators.judged-plen written env decls sorts describes at value none in
      let x = operators.operand written env decls sorts describes is_text_or_array r value scope fits (is-taken is_text_or_array value (none-right value.faults (wrong_sort is_text_or_array value) says.1)) in (
        says.0,
        (tt, sort-Plen decls sorts scope r.expr ∙ and_then (plainly length_sort) (sort_in decls sorts r.expr scope) x.0 num x.5 (at-plain length_sort x.0 x.2 ∙ length-of (x.0).form x.3)),
      )
