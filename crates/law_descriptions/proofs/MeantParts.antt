-- What parts, branches, labels and elements are in the module.
use Rattle.std.proofs.Common.{◌≡◌, ◌∙◌, sym, ap, refl, subst, ℕ, zero, suc, Bool, true, false, if◌then◌else◌, nat_lt, List, [], ◌∷◌, map, length, Option, Some, None, option_map, slice_get}
use Rattle.std.proofs.lemmas.List.{length-map}
use Rattle.pads_calc.specs.declared.term.Part.{Part}
use Rattle.pads_calc.specs.declared.term.Term.{Term, Term-F}
use Rattle.pads_calc.specs.declared.term.Term.TheVariants as term
use Rattle.pads_code.specs.declared.Coding.{Coding}
use Rattle.pads_expr.specs.declared.expr.Expr.{Expr}
use Rattle.pads_rules.specs.declared.sort.Form.{Form}
use Rattle.pads_rules.specs.declared.sort.Form.TheVariants as form
use Rattle.pads_rules.specs.declared.sort.Sort.{Sort}
use Rattle.pads_resolution.specs.declared.decl.Computed.{Computed}
use Rattle.pads_resolution.specs.declared.decl.Computed.TheVariants as computed
use Rattle.pads_resolution.specs.declared.decl.Decl.{Decl}
use Rattle.pads_resolution.specs.declared.decl.DeclBody.{DeclBody}
use Rattle.pads_resolution.specs.declared.decl.DeclBody.TheVariants as body
use Rattle.pads_resolution.specs.declared.decl.Part.{Part as PartTree}
use Rattle.pads_resolution.specs.declared.decl.Part.TheVariants as part
use Rattle.pads_resolution.specs.declared.decl.Role.{Role}
use Rattle.pads_resolution.specs.declared.decl.Role.TheVariants as role
use Rattle.pads_resolution.specs.declared.types.Branch.{Branch}
use Rattle.law_calculus.specs.Expressions as made
use Rattle.law_calculus.specs.Sorts.{Sort as TermSort, Number, Truth, Choice, sort_at, sort_of, AreSorts}
use Rattle.law_calculus.proofs.SortedForms.{layer_sort}
use Rattle.law_calculus.proofs.Expressions.{and_then-is}
use Rattle.pads_trans.specs.Terms.{form_of, label_of, type_of, field_of, part_of, body_of, decl_of}
use Rattle.pads_trans.specs.Expressions.{expr_of}
use Rattle.pads_trans.specs.Names.{Name}
use Rattle.law_descriptions.specs.Expressions as sorting
use Rattle.law_descriptions.specs.Expressions.{SortScope, plainly, number_alone, if_read, body_at, union_branches, value_of, part_sort, branch_of, union_branch, branch_by, branch_sort, optional_branch, plain_choice, choice_by, choice_sort, element_of, of_elements, element_sort}
use Rattle.law_descriptions.specs.Sorts.{truth, computed_sort, type_sort}
use Rattle.law_descriptions.specs.WellSorted.{AreSorts as AreSortsOf, IsBranch, IsPart, behind, AreParts, IsBody, IsDecl, params_scope}
use Rattle.law_descriptions.proofs.Lists.{some-map, there-mapped, each-there, below-there}
use Rattle.law_descriptions.proofs.Means.{FormMeans, MeansBy, Means, compute-sort, field-sort, struct-sort, union-sort, array-sort, enum-sort, read-sort, read-body, any-type-means}
use Rattle.law_descriptions.proofs.MeantOperators.{Gives, plain-is, number-is}

same-body : (role : Role) (inner found : DeclBody) → if_read role inner ≡ Some found → inner ≡ found
same-body role.Part inner found is = cc
same-body role.Precord inner found is = cc
same-body role.Source inner found is = cc

if-true : (b : Bool) (sort : Sort) → (if b then Some truth else None) ≡ Some sort → (b ≡ true) × (truth ≡ sort)
if-true true sort is = (refl, cc)
if-true false sort is = cc

module _ (declared : List TermSort) (names : List Name) (ambient : Coding) (decls : List Decl) (sorts : List Sort)
    (are : AreSorts declared (map (decl_of names ambient) decls)) (are_of : AreSortsOf sorts decls)
    (each : (number : ℕ) (d : Decl) → slice_get decls number ≡ Some d → IsDecl decls sorts number d) where
  abbrev Given : Option TermSort → Sort → Type 0
  Given = Gives declared

  body-there : (n : ℕ) (inner : DeclBody) → body_at decls n ≡ Some inner
      → (sort_at declared n ≡ sort_of declared (body_of names ambient inner)) × (scope : SortScope) × IsBody decls sorts n scope inner
  body-there n inner is =
      let x = and_then-is (λ (d : Decl). if_read d.role d.body) (slice_get decls n) inner is in
      let d = x.0 in
      let same = same-body d.role d.body inner x.2 in
      let is_read : if_read d.role d.body ≡ Some d.body = x.2 ∙ ap (λ b. Some b) (sym same) in (
        read-sort declared names ambient decls sorts are are_of each n d x.1 is_read ∙ ap (λ b. sort_of declared (body_of names ambient b)) same,
        params_scope d.params [],
        subst (IsBody decls sorts n (params_scope d.params [])) same (read-body declared names ambient decls sorts are are_of each n d x.1 is_read),
      )

  -- parts of a struct
  part-there : (number : ℕ) (parts : List PartTree) (scope : SortScope) (n : ℕ) (p : PartTree) → AreParts decls sorts number scope parts → slice_get parts n ≡ Some p
      → (inner : SortScope) × IsPart decls sorts number inner p
  part-there number [] scope n p h there = cc
  part-there number (first ∷ parts) scope zero p h there = let same : first ≡ p = cc in (scope, subst (IsPart decls sorts number scope) same h.0)
  part-there number (first ∷ parts) scope (suc n) p h there = part-there number parts (behind decls sorts number first scope) n p h.1 there

  computed-means : (of : Computed) (e : Expr) → Means declared (computed_sort of) (layer_sort declared (Term-F.Compute e (form_of of)))
  computed-means (computed.Int kind) e = refl
  computed-means computed.Text e = refl

  pub field-means : (number : ℕ) (scope : SortScope) (f : Branch) → IsBranch decls sorts number scope f → Means declared (type_sort sorts f.of) (sort_of declared (field_of names ambient f))
  field-means number scope f h =
      subst (Means declared (type_sort sorts f.of)) (sym (field-sort declared names ambient f)) (any-type-means declared names ambient decls sorts are are_of each number scope f.of h.0)

  pub value-means : (number : ℕ) (scope : SortScope) (p : PartTree) (sort : Sort) → IsPart decls sorts number scope p → value_of decls sorts p ≡ Some sort
      → Means declared sort (sort_of declared (part_of names ambient p).term)
  unfolding part_of
  value-means number scope (part.Literal l) sort h is = cc
  value-means number scope (part.Pcompute of name value) sort h is =
      let same : computed_sort of ≡ sort = cc in
      let t = sort_of declared (term.Compute (expr_of names value) (form_of of)) in
      subst (λ s. Means declared s t) same
      (subst (Means declared (computed_sort of)) (sym (compute-sort declared names ambient (expr_of names value) (form_of of))) (computed-means of (expr_of names value)))
  value-means number scope (part.Field f) sort h is =
      let same : type_sort sorts f.of ≡ sort = cc in
      subst (λ s. Means declared s (sort_of declared (field_of names ambient f))) same (field-means number scope f h)

  struct-gives : (k n : ℕ) (t : TermSort) (sort : Sort) (inner : DeclBody) → t ≡ sort_at declared k → body_at decls k ≡ Some inner → sorting.part_of decls sorts n inner ≡ Some sort
      → Given (made.part_sort declared n t) sort
  unfolding body_of
  struct-gives k n t sort (body.Struct s) means there is =
      let b = body-there k (body.Struct s) there in
      let x = and_then-is (value_of decls sorts) (slice_get s.parts n) sort is in
      let here = part-there k s.parts b.1 n x.0 (b.2).1 x.1 in (
        sort_of declared (part_of names ambient x.0).term,
        ap (made.part_sort declared n) (means ∙ b.0 ∙ struct-sort declared names ambient s)
            ∙ ap (option_map (λ (p : Part). sort_of declared p.term)) (there-mapped (part_of names ambient) s.parts n x.0 x.1),
        value-means k here.0 x.0 sort here.1 x.2,
      )
  struct-gives k n t sort _ means there is = cc

  pub part-gives : (n : ℕ) (f : Form) (t : TermSort) (sort : Sort) → FormMeans declared f t → part_sort decls sorts n f ≡ Some sort → Given (made.part_sort declared n t) sort
  part-gives n (form.Struct k) t sort means is =
      let x = and_then-is (sorting.part_of decls sorts n) (body_at decls k) sort is in struct-gives k n t sort x.0 means x.1 x.2
  part-gives n _ t sort means is = cc

  -- branches of a union or an optional
  union-gives : (k n : ℕ) (t : TermSort) (sort : Sort) (inner : DeclBody) → t ≡ sort_at declared k → body_at decls k ≡ Some inner → branch_of decls sorts n inner ≡ Some sort
      → Given (made.branch_sort declared n t) sort
  unfolding body_of
  union-gives k n t sort (body.Union u) means there is =
      let b = body-there k (body.Union u) there in
      let x = some-map (λ (f : Branch). type_sort sorts f.of) (slice_get (union_branches u) n) sort is in
      let here = each-there (IsBranch decls sorts k b.1) (union_branches u) n x.0 (b.2).2 x.1 in (
        sort_of declared (field_of names ambient x.0),
        ap (made.branch_sort declared n) (means ∙ b.0 ∙ union-sort declared names ambient u)
            ∙ ap (option_map (sort_of declared)) (there-mapped (field_of names ambient) (union_branches u) n x.0 x.1),
        subst (λ s. Means declared s (sort_of declared (field_of names ambient x.0))) x.2 (field-means k b.1 x.0 here),
      )
  union-gives k n t sort _ means there is = cc

  plain-branch-gives : (n : ℕ) (f : Form) (t : TermSort) (sort : Sort) → FormMeans declared f t → union_branch decls sorts n f ≡ Some sort → Given (made.branch_sort declared n t) sort
  plain-branch-gives n (form.Union k) t sort means is =
      let x = and_then-is (branch_of decls sorts n) (body_at decls k) sort is in union-gives k n t sort x.0 means x.1 x.2
  plain-branch-gives n _ t sort means is = cc

  optional-gives : (n : ℕ) (some sort : Sort) (inner : Term) (t : TermSort) → t ≡ Choice (inner ∷ term.Unit ∷ []) → Means declared some (sort_of declared inner)
      → optional_branch n some ≡ Some sort → Given (made.branch_sort declared n t) sort
  optional-gives zero some sort inner t is means there =
      let same : some ≡ sort = cc in
      (sort_of declared inner, ap (made.branch_sort declared 0) is, subst (λ s. Means declared s (sort_of declared inner)) same means)
  optional-gives (suc n) some sort inner t is means there = cc

  branch-by : (n o : ℕ) (f : Form) (t : TermSort) (sort : Sort) → MeansBy declared o f t → branch_by decls sorts n o f ≡ Some sort → Given (made.branch_sort declared n t) sort
  branch-by n zero f t sort means is = plain-branch-gives n f t sort means is
  branch-by n (suc o) f t sort means is = optional-gives n (record { optional = o; form = f }) sort means.0 t means.1 means.2 is

  pub branch-gives : (n : ℕ) (whole : Sort) (t : TermSort) (sort : Sort) → Means declared whole t → branch_sort decls sorts n whole ≡ Some sort → Given (made.branch_sort declared n t) sort
  branch-gives n whole t sort means is = branch-by n whole.optional whole.form t sort means is

  -- what `Pis` asks for
  gives-truth : (o : Option TermSort) (sort : Sort) → o ≡ Some Truth → truth ≡ sort → Given o sort
  gives-truth o sort is same = subst (Given o) same (Truth, is, refl)

  chosen : (branches : List Term) (n : ℕ) (t : TermSort) (sort : Sort) → t ≡ Choice branches → nat_lt n (length branches) ≡ true → truth ≡ sort → Given (made.chooses_sort n t) sort
  chosen branches n t sort is less same =
      let x = below-there branches n less in
      gives-truth (made.chooses_sort n t) sort (ap (made.chooses_sort n) is ∙ ap (option_map (λ branch. Truth)) x.1) same

  union-chosen : (k n : ℕ) (t : TermSort) (sort : Sort) (inner : DeclBody) → t ≡ sort_at declared k → body_at decls k ≡ Some inner
      → sorting.if_there decls sorts n (length (sorting.branches_in inner)) ≡ Some sort → Given (made.chooses_sort n t) sort
  unfolding body_of
  union-chosen k n t sort (body.Union u) means there is =
      let b = body-there k (body.Union u) there in
      let x = if-true (nat_lt n (length (union_branches u))) sort is in
      chosen (map (field_of names ambient) (union_branches u)) n t sort (means ∙ b.0 ∙ union-sort declared names ambient u)
      (ap (nat_lt n) (length-map (union_branches u) (field_of names ambient)) ∙ x.0) x.1
  union-chosen k n t sort _ means there is =
      let x = if-true (nat_lt n 0) sort is in let y = below-there {A = Term} [] n x.0 in cc

  enum-chosen : (k n : ℕ) (t : TermSort) (sort : Sort) (inner : DeclBody) → t ≡ sort_at declared k → body_at decls k ≡ Some inner
      → sorting.if_there decls sorts n (length (sorting.labels_in inner)) ≡ Some sort → Given (made.chooses_sort n t) sort
  unfolding body_of
  enum-chosen k n t sort (body.Enum labels) means there is =
      let b = body-there k (body.Enum labels) there in
      let x = if-true (nat_lt n (length labels)) sort is in
      gives-truth (made.chooses_sort n t) sort
      (ap (made.chooses_sort n) (means ∙ b.0 ∙ enum-sort declared names ambient labels)
      ∙ ap (λ b. if b then Some Truth else None) (ap (nat_lt n) (length-map labels label_of) ∙ x.0)) x.1
  enum-chosen k n t sort _ means there is =
      let x = if-true (nat_lt n 0) sort is in let y = below-there {A = Term} [] n x.0 in cc

  plain-choice-gives : (n : ℕ) (f : Form) (t : TermSort) (sort : Sort) → FormMeans declared f t → plain_choice decls sorts n f ≡ Some sort → Given (made.chooses_sort n t) sort
  plain-choice-gives n (form.Union k) t sort means is =
      let x = and_then-is (λ inner. sorting.if_there decls sorts n (length (sorting.branches_in inner))) (body_at decls k) sort is in union-chosen k n t sort x.0 means x.1 x.2
  plain-choice-gives n (form.Enum k) t sort means is =
      let x = and_then-is (λ inner. sorting.if_there decls sorts n (length (sorting.labels_in inner))) (body_at decls k) sort is in enum-chosen k n t sort x.0 means x.1 x.2
  plain-choice-gives n _ t sort means is = cc

  choice-by : (n o : ℕ) (f : Form) (t : TermSort) (sort : Sort) → MeansBy declared o f t → choice_by decls sorts n o f ≡ Some sort → Given (made.chooses_sort n t) sort
  choice-by n zero f t sort means is = plain-choice-gives n f t sort means is
  choice-by n (suc o) f t sort means is =
      let x = if-true (nat_lt n 2) sort is in chosen (means.0 ∷ term.Unit ∷ []) n t sort means.1 x.0 x.1

  pub choice-gives : (n : ℕ) (value : Sort) (t : TermSort) (sort : Sort) → Means declared value t → choice_sort decls sorts n value ≡ Some sort → Given (made.chooses_sort n t) sort
  choice-gives n value t sort means is = choice-by n value.optional value.form t sort means is

  -- elements of an array
  array-gives : (k : ℕ) (a : TermSort) (sort : Sort) (inner : DeclBody) → a ≡ sort_at declared k → body_at decls k ≡ Some inner → element_of decls sorts inner ≡ Some sort
      → Given (made.element_sort declared a Number) sort
  unfolding body_of
  array-gives k a sort (body.Array array) means there is =
      let b = body-there k (body.Array array) there in
      let same : type_sort sorts array.of ≡ sort = cc in
      let elem = type_of names ambient array.of in (
        sort_of declared elem,
        ap (λ a. made.element_sort declared a Number) (means ∙ b.0 ∙ array-sort declared names ambient array),
        subst (λ s. Means declared s (sort_of declared elem)) same (any-type-means declared names ambient decls sorts are are_of each k b.1 array.of (b.2).0),
      )
  array-gives k a sort _ means there is = cc

  of-elements-gives : (f : Form) (a : TermSort) (sort : Sort) → FormMeans declared f a → of_elements decls sorts f ≡ Some sort → Given (made.element_sort declared a Number) sort
  of-elements-gives (form.Array k) a sort means is =
      let x = and_then-is (element_of decls sorts) (body_at decls k) sort is in array-gives k a sort x.0 means.0 x.1 x.2
  of-elements-gives _ a sort means is = cc

  pub element-gives : (array index : Sort) (a b : TermSort) (sort : Sort) → Means declared array a → Means declared index b → element_sort decls sorts array index ≡ Some sort
      → Given (made.element_sort declared a b) sort
  element-gives array index a b sort one other is =
      let x = and_then-is (λ number. plainly (of_elements decls sorts) array) (plainly number_alone index) sort is in
      let n = number-is declared index b x.0 other x.1 in
      let e = plain-is declared (of_elements decls sorts) array.optional array.form a sort one x.2 in
      rw n.0 (of-elements-gives array.form a sort e.0 e.1)
