-- What the sorts of a description are in its module.
use Rattle.std.proofs.Common.{◌≡◌, ◌∙◌, sym, ap, refl, subst, arith, ⊎_elim, ℕ, zero, suc, ◌+◌, ◌<◌, Bool, true, false, if◌then◌else◌, List, [], ◌∷◌, ◌++◌, map, Option, Some, None, unwrap_or, slice_get}
use Rattle.pads_calc.specs.declared.decl.Decl.{Decl}
use Rattle.pads_calc.specs.declared.term.Arm.{Arm}
use Rattle.pads_calc.specs.declared.term.Case.{Case}
use Rattle.pads_calc.specs.declared.term.Part.{Part}
use Rattle.pads_calc.specs.declared.term.Seq.{Seq}
use Rattle.pads_calc.specs.declared.term.Term.{Term, Term-F, out-Term}
use Rattle.pads_calc.specs.declared.term.Term.TheVariants as term
use Rattle.pads_code.specs.declared.Coding.{Coding}
use Rattle.pads_dispatch.specs.declared.base.Base.TheVariants as base
use Rattle.pads_expr.specs.declared.expr.Expr.{Expr}
use Rattle.pads_rules.specs.declared.sort.Form.{Form}
use Rattle.pads_rules.specs.declared.sort.Form.TheVariants as form
use Rattle.pads_rules.specs.declared.sort.Sort.{Sort}
use Rattle.pads_base_names.specs.declared.meaning.BaseName.{BaseName}
use Rattle.pads_base_names.specs.declared.meaning.BaseName.TheVariants as base_name
use Rattle.pads_resolution.specs.declared.decl.Array.{Array as ArrayTree}
use Rattle.pads_resolution.specs.declared.decl.Case.{Case as CaseTree}
use Rattle.pads_resolution.specs.declared.decl.Constraint.{Constraint}
use Rattle.pads_resolution.specs.declared.decl.Decl.{Decl as DeclTree}
use Rattle.pads_resolution.specs.declared.decl.DeclBody.{DeclBody}
use Rattle.pads_resolution.specs.declared.decl.DeclBody.TheVariants as body
use Rattle.pads_resolution.specs.declared.decl.Label.{Label}
use Rattle.pads_resolution.specs.declared.decl.Role.{Role}
use Rattle.pads_resolution.specs.declared.decl.Role.TheVariants as role
use Rattle.pads_resolution.specs.declared.decl.Struct.{Struct as StructTree}
use Rattle.pads_resolution.specs.declared.decl.Union.{Union}
use Rattle.pads_resolution.specs.declared.decl.Union.TheVariants as union
use Rattle.pads_resolution.specs.declared.expr.Expr.{Expr as ExprTree}
use Rattle.pads_resolution.specs.declared.types.Branch.{Branch}
use Rattle.pads_resolution.specs.declared.types.«Type».{«Type» as Typed}
use Rattle.pads_resolution.specs.declared.types.TypeName.{TypeName}
use Rattle.pads_resolution.specs.declared.types.TypeName.TheVariants as type_name
use Rattle.law_calculus.specs.Sorts.{Sort as TermSort, Number, Text, Truth, Nothing, Struct, Choice, Array, base_sort, sort_at, sort_of, AreSorts}
use Rattle.law_calculus.proofs.SortedForms.{layer_sort, sort-out}
use Rattle.law_calculus.proofs.Layers.{out-Base, out-Struct, out-Alt, out-Switch, out-Guard, out-Seq, out-Call, out-Compute}
use Rattle.pads_trans.specs.Terms.{base_of, label_of, enum_of, named_type, constrained, constrained_type, some_arm, none_arm, optional, bare_type, type_of, field_of, part_of, struct_of, arm_of, case_of, default_of, switch_of, union_of, seq_of, array_of, body_of, read_body, decl_of}
use Rattle.pads_trans.specs.Expressions.{expr_of}
use Rattle.pads_trans.specs.Names.{Name, at_sign, number_of}
use Rattle.law_descriptions.specs.Expressions.{SortScope, if_read, if_default, union_branches}
use Rattle.law_descriptions.specs.Sorts as sorts_of
use Rattle.law_descriptions.specs.Sorts.{num, text, named_sort, type_sort, behind_popt, body_sort}
use Rattle.law_descriptions.specs.WellSorted.{AreSorts as AreSortsOf, MayBeCalled, TellsSort, TellsItself, IsNamed, IsType, IsBody, IsDecl, IfThere, params_scope}
use Rattle.law_descriptions.proofs.Lists.{there-mapped}

module _ (declared : List TermSort) where
  abbrev pub FormMeans : Form → TermSort → Type 0
  FormMeans form.Num t = t ≡ Number
  FormMeans form.Text t = t ≡ Text
  FormMeans form.Truth t = t ≡ Truth
  FormMeans (form.Struct n) t = t ≡ sort_at declared n
  FormMeans (form.Union n) t = t ≡ sort_at declared n
  FormMeans (form.Enum n) t = t ≡ sort_at declared n
  FormMeans (form.Array n) t = (t ≡ sort_at declared n) × (elem : Term) × (t ≡ Array elem)

  -- behind so many `Popt`
  abbrev pub MeansBy : ℕ → Form → TermSort → Type 0
  MeansBy zero f t = FormMeans f t
  MeansBy (suc n) f t = (some : Term) × (t ≡ Choice (some ∷ term.Unit ∷ [])) × MeansBy n f (sort_of declared some)

  abbrev pub Means : Sort → TermSort → Type 0
  Means sort t = MeansBy sort.optional sort.form t

  -- the sorts of terms
  pub sort-by : (t : Term) (layer : Term-F Term Arm Case Part Seq) → out-Term t ≡ layer → sort_of declared t ≡ layer_sort declared layer
  sort-by t layer is = sort-out declared t ∙ ap (layer_sort declared) is

  module _ (names : List Name) (ambient : Coding) where
    pub constrained-sort : (inner : Term) (name : Name) (condition : Option ExprTree) → sort_of declared (constrained names inner name condition) ≡ sort_of declared inner
    constrained-sort inner name None = refl
    constrained-sort inner name (Some e) =
        sort-by (term.Guard inner (number_of names name) (expr_of names e)) (Term-F.Guard inner (number_of names name) (expr_of names e)) (out-Guard inner (number_of names name) (expr_of names e))

    pub typedef-sort : (inner : Term) (constraint : Option Constraint) → sort_of declared (constrained_type names inner constraint) ≡ sort_of declared inner
    typedef-sort inner None = refl
    typedef-sort inner (Some c) = constrained-sort inner c.variable (Some c.condition)

    pub field-sort : (f : Branch) → sort_of declared (field_of names ambient f) ≡ sort_of declared (type_of names ambient f.of)
    unfolding field_of
    field-sort f = constrained-sort (type_of names ambient f.of) f.name f.constraint

    optional-sort : (inner : Term) → sort_of declared (optional names inner) ≡ Choice (inner ∷ term.Unit ∷ [])
    unfolding optional
    optional-sort inner =
        sort-by (term.Alt (some_arm names inner ∷ none_arm names ∷ [])) (Term-F.Alt (some_arm names inner ∷ none_arm names ∷ [])) (out-Alt (some_arm names inner ∷ none_arm names ∷ []))

    pub compute-sort : (e : Expr) (result : _) → sort_of declared (term.Compute e result) ≡ layer_sort declared (Term-F.Compute e result)
    compute-sort e result = sort-by (term.Compute e result) (Term-F.Compute e result) (out-Compute e result)

    pub struct-sort : (s : StructTree) → sort_of declared (struct_of names ambient s) ≡ Struct (map (part_of names ambient) s.parts)
    unfolding struct_of
    struct-sort s =
        let parts = map (part_of names ambient) s.parts in
        constrained-sort (term.Struct parts) at_sign s.condition ∙ sort-by (term.Struct parts) (Term-F.Struct parts) (out-Struct parts)

    arms-are : (branches : List Branch) → map (λ (arm : Arm). arm.term) (map (arm_of names ambient) branches) ≡ map (field_of names ambient) branches
    unfolding arm_of
    arms-are [] = refl
    arms-are (f ∷ branches) = ap (λ (rest : List Term). field_of names ambient f ∷ rest) (arms-are branches)

    cases-are : (cases : List CaseTree) (default : Option Branch) → map (λ (case : Case). case.arm.term) (map (case_of names ambient) cases ++ default_of names ambient default)
        ≡ map (field_of names ambient) (map (λ (c : CaseTree). c.branch) cases ++ if_default default)
    unfolding case_of arm_of
    cases-are [] None = refl
    cases-are [] (Some f) = refl
    cases-are (c ∷ cases) default = ap (λ (rest : List Term). field_of names ambient c.branch ∷ rest) (cases-are cases default)

    pub union-sort : (u : Union) → sort_of declared (union_of names ambient u) ≡ Choice (map (field_of names ambient) (union_branches u))
    unfolding union_of switch_of
    union-sort (union.Branches branches) =
        let arms = map (arm_of names ambient) branches in
        sort-by (term.Alt arms) (Term-F.Alt arms) (out-Alt arms) ∙ ap Choice (arms-are branches)
    union-sort (union.Pswitch s) =
        let cases = map (case_of names ambient) s.cases ++ default_of names ambient s.default in
        sort-by (term.Switch (expr_of names s.value) cases) (Term-F.Switch (expr_of names s.value) cases) (out-Switch (expr_of names s.value) cases)
        ∙ ap Choice (cases-are s.cases s.default)

    pub array-sort : (a : ArrayTree) → sort_of declared (array_of names ambient a) ≡ Array (type_of names ambient a.of)
    unfolding array_of seq_of
    array-sort a =
        let s = seq_of names ambient a in
        constrained-sort (term.Seq s) at_sign a.condition ∙ sort-by (term.Seq s) (Term-F.Seq s) (out-Seq s)

    pub enum-sort : (labels : List Label) → sort_of declared (enum_of ambient labels) ≡ base_sort (base.Enum ambient (map label_of labels))
    enum-sort labels = sort-by (term.Base (base.Enum ambient (map label_of labels)) []) (Term-F.Base (base.Enum ambient (map label_of labels)) []) (out-Base (base.Enum ambient (map label_of labels)) [])

    -- types
    module _ (decls : List DeclTree) (sorts : List Sort) where
      -- what the values of the declaration of this number are
      abbrev pub DeclMeans : ℕ → Type 0
      DeclMeans n = Means (unwrap_or (slice_get sorts n) num) (sort_at declared n)

      -- of a declaration that is read
      abbrev pub ReadMeans : ℕ → Type 0
      ReadMeans n = (d : DeclTree) → slice_get decls n ≡ Some d → if_read d.role d.body ≡ Some d.body → DeclMeans n

      base-means : (b : BaseName) (args : List Expr) → Means (sorts_of.base_sort b) (base_sort (base_of ambient b args))
      base-means (base_name.Int prefix kind) args = refl
      base-means (base_name.IntFw prefix kind) args = refl
      base-means (base_name.Bin kind) args = refl
      base-means (base_name.SizedBin order kind) args = refl
      base-means (base_name.Until prefix) [] = refl
      base-means (base_name.Until prefix) (stop ∷ more) = refl
      base-means (base_name.Fixed prefix) args = refl
      base-means (base_name.Class prefix) args = refl
      base-means (base_name.Char prefix) args = refl
      base-means (base_name.Ip prefix) args = refl
      base-means (base_name.Packed signed) args = refl
      base-means (base_name.Zoned signed) args = refl

      named-means : (number : ℕ) → ((n : ℕ) → MayBeCalled decls sorts number n → ReadMeans n) → (scope : SortScope) (given : List ExprTree) (args : List Expr) (name : TypeName) → IsNamed decls sorts number scope given name
          → Means (named_sort sorts name) (sort_of declared (named_type ambient name args))
      named-means number before scope given args (type_name.Base b) h =
          subst (Means (sorts_of.base_sort b)) (sym (sort-by (term.Base (base_of ambient b args) args) (Term-F.Base (base_of ambient b args) args) (out-Base (base_of ambient b args) args))) (base-means b args)
      named-means number before scope given args (type_name.Declared n) h =
          subst (Means (unwrap_or (slice_get sorts n) num)) (sym (sort-by (term.Call n args) (Term-F.Call n args) (out-Call n args))) (before n h.0 h.1 h.2 h.3)

      optional-means : (sort : Sort) (inner : Term) → Means sort (sort_of declared inner) → Means (sorts_of.optional sort) (sort_of declared (optional names inner))
      optional-means sort inner h = (inner, optional-sort inner, h)

      popt-means : (b : Bool) (sort : Sort) (inner : Term) → Means sort (sort_of declared inner)
          → Means (if b then sorts_of.optional sort else sort) (sort_of declared (if b then optional names inner else inner))
      popt-means true sort inner h = optional-means sort inner h
      popt-means false sort inner h = h

      pub type-means : (number : ℕ) → ((n : ℕ) → MayBeCalled decls sorts number n → ReadMeans n) → (scope : SortScope) (t : Typed) → IsType decls sorts number scope t
          → Means (type_sort sorts t) (sort_of declared (type_of names ambient t))
      unfolding type_of bare_type
      type-means number before scope t h =
          popt-means t.optional (named_sort sorts t.name) (bare_type names ambient t) (named-means number before scope t.args (map (expr_of names) t.args) t.name h)

      -- bodies
      body-means : (number : ℕ) → ((n : ℕ) → MayBeCalled decls sorts number n → ReadMeans n) → (scope : SortScope) (inner : DeclBody) → sort_at declared number ≡ sort_of declared (body_of names ambient inner)
          → IsBody decls sorts number scope inner → Means (body_sort sorts number inner) (sort_of declared (body_of names ambient inner))
      unfolding body_of
      body-means number before scope (body.Struct s) is h = sym is
      body-means number before scope (body.Union u) is h = sym is
      body-means number before scope (body.Array a) is h = (sym is, type_of names ambient a.of, array-sort a)
      body-means number before scope (body.Enum labels) is h = sym is
      body-means number before scope (body.Typedef t) is h =
          subst (Means (type_sort sorts t.of)) (sym (typedef-sort (type_of names ambient t.of) t.constraint)) (type-means number before scope t.of h.0)
      body-means number before scope (body.Opt inner) is h =
          optional-means (type_sort sorts inner) (type_of names ambient inner) (type-means number before scope inner h)

      -- the body of a declaration that is read
      read-is : (role : Role) (inner : DeclBody) → if_read role inner ≡ Some inner → read_body names ambient role inner ≡ body_of names ambient inner
      unfolding read_body
      read-is role.Part inner is = refl
      read-is role.Precord inner is = refl
      read-is role.Source inner is = cc

      module _ (are : AreSorts declared (map (decl_of names ambient) decls)) (are_of : AreSortsOf sorts decls)
          (each : (number : ℕ) (d : DeclTree) → slice_get decls number ≡ Some d → IsDecl decls sorts number d) where
        sort-there : (n : ℕ) (d : DeclTree) → slice_get decls n ≡ Some d → sort_at declared n ≡ sort_of declared (decl_of names ambient d).body
        sort-there n d there =
            let made = there-mapped (decl_of names ambient) decls n d there in
            ap (λ (sorts : List TermSort). sort_at sorts n) are
            ∙ ap (λ o. unwrap_or o Nothing) (there-mapped (λ (d : Decl). sort_of declared d.body) (map (decl_of names ambient) decls) n (decl_of names ambient d) made)

        pub read-sort : (n : ℕ) (d : DeclTree) → slice_get decls n ≡ Some d → if_read d.role d.body ≡ Some d.body → sort_at declared n ≡ sort_of declared (body_of names ambient d.body)
        unfolding decl_of
        read-sort n d there is_read = sort-there n d there ∙ ap (sort_of declared) (read-is d.role d.body is_read)

        pub read-body : (n : ℕ) (d : DeclTree) → slice_get decls n ≡ Some d → if_read d.role d.body ≡ Some d.body → IsBody decls sorts n (params_scope d.params []) d.body
        read-body n d there is_read = subst (IfThere (IsBody decls sorts n (params_scope d.params []))) is_read (each n d there).2

        -- a declaration that tells its sort itself
        own-body : (n : ℕ) (inner : DeclBody) → TellsSort inner → sort_at declared n ≡ sort_of declared (body_of names ambient inner)
            → Means (body_sort sorts n inner) (sort_of declared (body_of names ambient inner))
        unfolding body_of
        own-body n (body.Struct s) own is = sym is
        own-body n (body.Union u) own is = sym is
        own-body n (body.Array a) own is = (sym is, type_of names ambient a.of, array-sort a)
        own-body n (body.Enum labels) own is = sym is
        own-body n (body.Typedef t) own is = absurd own
        own-body n (body.Opt inner) own is = absurd own

        told-means : (n : ℕ) (d : DeclTree) → slice_get decls n ≡ Some d → sort_at declared n ≡ sort_of declared (body_of names ambient d.body)
            → Means (body_sort sorts n d.body) (sort_of declared (body_of names ambient d.body)) → DeclMeans n
        told-means n d there is mine =
            subst (Means (unwrap_or (slice_get sorts n) num)) (sym is)
            (subst (λ o. Means (unwrap_or o num) (sort_of declared (body_of names ambient d.body))) (sym (are_of n d there)) mine)

        itself-means : (n : ℕ) → TellsItself (slice_get decls n) → ReadMeans n
        itself-means n own d there is_read =
            let is = read-sort n d there is_read in
            told-means n d there is (own-body n d.body (subst TellsItself there own) is)

        below : (k n : ℕ) → n < k → ReadMeans n
        below zero n less d there is_read = absurd (omega arith)
        below (suc k) n less d there is_read =
            let is = read-sort n d there is_read in
            told-means n d there is
            (body-means n (λ m may. ⊎_elim (λ earlier. below k m (omega (arith, less, earlier))) (itself-means m) may) (params_scope d.params []) d.body is (read-body n d there is_read))

        -- each declaration that is read has values of its sort
        pub decl-means : (n : ℕ) → ReadMeans n
        decl-means n = below (n + 1) n (omega arith)

        pub any-type-means : (number : ℕ) (scope : SortScope) (t : Typed) → IsType decls sorts number scope t → Means (type_sort sorts t) (sort_of declared (type_of names ambient t))
        any-type-means number scope t h = type-means number (λ n may. decl-means n) scope t h
