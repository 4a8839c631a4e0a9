-- The term of each part of a well-sorted description is well-sorted: types, constraints, the bodies of structs and unions.
use Rattle.std.proofs.Common.{◌≡◌, ◌∙◌, sym, ap, refl, subst, ⊎_elim, ℕ, true, if◌then◌else◌, ◌&&◌, List, [], ◌∷◌, ◌++◌, map, Option, Some, None, slice_get, append_assoc}
use Rattle.std.specs.List.{flat_map, list_all}
use Rattle.std.proofs.lemmas.Bool.{or_left, or_right, and_from}
use Rattle.pads_calc.specs.declared.term.Arm.{Arm}
use Rattle.pads_calc.specs.declared.term.Case.{Case}
use Rattle.pads_calc.specs.declared.term.Key.{Key}
use Rattle.pads_calc.specs.declared.term.Term.{Term, Term-F}
use Rattle.pads_calc.specs.declared.term.Term.TheVariants as term
use Rattle.pads_code.specs.declared.Coding.{Coding}
use Rattle.pads_rules.specs.declared.sort.Form.{Form}
use Rattle.pads_rules.specs.declared.sort.Form.TheVariants as form
use Rattle.pads_rules.specs.declared.sort.Sort.{Sort}
use Rattle.pads_base_names.specs.Names as base_names
use Rattle.pads_base_names.specs.declared.meaning.BaseName.{BaseName}
use Rattle.pads_base_names.specs.declared.meaning.BaseName.TheVariants as base_name
use Rattle.pads_resolution.specs.declared.decl.Case.{Case as CaseTree}
use Rattle.pads_resolution.specs.declared.decl.Computed.{Computed}
use Rattle.pads_resolution.specs.declared.decl.Computed.TheVariants as computed
use Rattle.pads_resolution.specs.declared.decl.Decl.{Decl as DeclTree}
use Rattle.pads_resolution.specs.declared.decl.Part.{Part as PartTree}
use Rattle.pads_resolution.specs.declared.decl.Part.TheVariants as part
use Rattle.pads_resolution.specs.declared.decl.Struct.{Struct as StructTree}
use Rattle.pads_resolution.specs.declared.decl.Switch.{Switch}
use Rattle.pads_resolution.specs.declared.decl.Union.{Union}
use Rattle.pads_resolution.specs.declared.decl.Union.TheVariants as union
use Rattle.pads_resolution.specs.declared.expr.Expr.{Expr as ExprTree}
use Rattle.pads_resolution.specs.declared.types.Branch.{Branch}
use Rattle.pads_resolution.specs.declared.types.Const.{Const}
use Rattle.pads_resolution.specs.declared.types.Const.TheVariants as const
use Rattle.pads_resolution.specs.declared.types.Literal.{Literal}
use Rattle.pads_resolution.specs.declared.types.Literal.TheVariants as literal
use Rattle.pads_resolution.specs.declared.types.Param.{Param}
use Rattle.pads_resolution.specs.declared.types.«Type».{«Type» as Typed}
use Rattle.pads_resolution.specs.declared.types.TypeName.{TypeName}
use Rattle.pads_resolution.specs.declared.types.TypeName.TheVariants as type_name
use Rattle.law_calculus.specs.Expressions as made
use Rattle.law_calculus.specs.Sorted.{Sorts, IsSorted, Standing, stands, bind_sort, parts_standing, has, takes, no_argument, one_number, one_text, is_argument, are_arguments, calls, computes, chooses, is_number_key, is_text_key, sorts_in}
use Rattle.law_calculus.specs.Sorts.{Sort as TermSort, Number, Text, Nothing, is_number, is_text, is_truth, sort_at, sort_of, AreSorts}
use Rattle.law_calculus.proofs.Layers.{out-Unit, out-Base, out-Lit, out-Eor, out-Struct, out-Alt, out-Switch, out-Guard, out-Call, out-Compute, out-Absorb, out-Scan}
use Rattle.law_calculus.proofs.Made.{Each as AllOf, sorted-as}
use Rattle.pads_trans.specs.Terms.{base_of, text_of, literal_of, form_of, key_of, named_type, constrained, some_arm, none_arm, optional, bare_type, type_of, field_of, part_of, struct_of, arm_of, case_of, default_of, switch_of, union_of, decl_of}
use Rattle.pads_trans.specs.Expressions.{expr_of}
use Rattle.pads_trans.specs.Met.{Met, in_expr, in_option, in_type, in_branch, in_part, in_where, in_struct, in_case, in_default, in_switch, in_union}
use Rattle.pads_trans.specs.Names.{Name, at_sign, some_name, none_name, number_of}
use Rattle.law_descriptions.specs.Expressions.{SortScope, if_default}
use Rattle.law_descriptions.specs.Sorts.{plain, num, text, truth, computed_sort, type_sort}
use Rattle.law_descriptions.specs.WellSorted.{AreSorts as AreSortsOf, Each, IsNumberKey, IsTextKey, AreTaken, HasSort, HaveSorts, IsTruth, IsConstraint, IsNamed, IsType, IsBranch, IsPart, IsParam, behind, AreParts, IsStruct, Chooses, IsUnion, IsDecl, param_sorts}
use Rattle.law_descriptions.proofs.Lists.{each-left, each-right, either-one, there-mapped}
use Rattle.law_descriptions.proofs.Means.{Means, sort-by, struct-sort, any-type-means}
use Rattle.law_descriptions.proofs.Meant.{ScopeMeans, scope-more, meant}
use Rattle.law_descriptions.proofs.MeantOperators.{Gives}
use Rattle.law_descriptions.proofs.MeantParts.{field-means, value-means}
use Rattle.law_descriptions.proofs.SortedNames.{Known}

-- the sort of a parameter in the module
abbrev pub param_form : Form → TermSort
param_form form.Num = Number
param_form form.Text = Text
param_form _ = Nothing

abbrev pub param_sort : Param → TermSort
param_sort param = param_form (param.sort).form

abbrev pub params_of : List DeclTree → List (List TermSort)
params_of decls = map (λ d. map param_sort d.params) decls

module _ (declared : List TermSort) where
  pub number-has : (o : Option TermSort) → Gives declared o num → has is_number o ≡ true
  number-has o given = ap (has is_number) given.1 ∙ ap is_number given.2

  text-has : (o : Option TermSort) → Gives declared o text → has is_text o ≡ true
  text-has o given = ap (has is_text) given.1 ∙ ap is_text given.2

  pub truth-has : (o : Option TermSort) → Gives declared o truth → has is_truth o ≡ true
  truth-has o given = ap (has is_truth) given.1 ∙ ap is_truth given.2

  pub param-means : (param : Param) → IsParam param → Means declared param.sort (param_sort param)
  param-means param h = ⊎_elim
      (λ is. subst (λ (sort : Sort). Means declared sort (param_form sort.form)) (sym is) refl)
      (λ is. subst (λ (sort : Sort). Means declared sort (param_form sort.form)) (sym is) refl) h

module _ (declared : List TermSort) (names : List Name) (ambient : Coding) (decls : List DeclTree) (sorts : List Sort)
    (are : AreSorts declared (map (decl_of names ambient) decls)) (are_of : AreSortsOf sorts decls)
    (each : (number : ℕ) (d : DeclTree) → slice_get decls number ≡ Some d → IsDecl decls sorts number d) where
  abbrev pub made_sorts : Sorts
  made_sorts = record { declared = declared; params = params_of decls }

  abbrev pub IsMade : made.SortScope → Term → Type 0
  IsMade bound t = IsSorted made_sorts bound t

  abbrev StandsMade : Standing → Type 0
  StandsMade inner = IsSorted made_sorts inner.scope inner.term

  abbrev pub AllKnown : Met → Type 0
  AllKnown met = Each (Known names) met

  abbrev pub ScopeIs : SortScope → made.SortScope → Type 0
  ScopeIs = ScopeMeans declared names

  abbrev pub sort_made : ExprTree → made.SortScope → Option TermSort
  sort_made e bound = made.sort_in declared (expr_of names e) bound

  pub expr-meant : (e : ExprTree) (scope : SortScope) (bound : made.SortScope) (sort : Sort) → ScopeIs scope bound → AllKnown (in_expr e) → HasSort decls sorts scope e sort → Gives declared (sort_made e bound) sort
  expr-meant e = meant declared names ambient decls sorts are are_of each e

  pub each-stands : (bound : made.SortScope) (ts : List Term) → AllOf (IsMade bound) ts → AllOf StandsMade (map (stands bound) ts)
  each-stands bound [] all = tt
  each-stands bound (t ∷ ts) all = (all.0, each-stands bound ts all.1)

  pub unit-sorted : (bound : made.SortScope) → IsMade bound term.Unit
  unit-sorted bound = sorted-as made_sorts bound term.Unit Term-F.Unit out-Unit refl tt

  -- arguments
  abbrev given_sorts : List ExprTree → made.SortScope → List (Option TermSort)
  given_sorts args bound = sorts_in made_sorts (map (expr_of names) args) bound

  none-given : (scope : SortScope) (bound : made.SortScope) (args : List ExprTree) → HaveSorts decls sorts scope args [] → no_argument (given_sorts args bound) ≡ true
  none-given scope bound [] h = refl
  none-given scope bound (e ∷ args) h = absurd h

  number-given : (scope : SortScope) (bound : made.SortScope) (args : List ExprTree) → ScopeIs scope bound → AllKnown (flat_map in_expr args) → HaveSorts decls sorts scope args (num ∷ [])
      → one_number (given_sorts args bound) ≡ true
  number-given scope bound [] means met h = absurd h
  number-given scope bound (e ∷ args) means met h =
      and_from (has is_number (sort_made e bound)) (no_argument (given_sorts args bound))
      (number-has declared (sort_made e bound) (expr-meant e scope bound num means (each-left (Known names) (in_expr e) (flat_map in_expr args) met) h.0))
      (none-given scope bound args h.1)

  text-given : (scope : SortScope) (bound : made.SortScope) (args : List ExprTree) → ScopeIs scope bound → AllKnown (flat_map in_expr args) → HaveSorts decls sorts scope args (text ∷ [])
      → one_text (given_sorts args bound) ≡ true
  text-given scope bound [] means met h = absurd h
  text-given scope bound (e ∷ args) means met h =
      and_from (has is_text (sort_made e bound)) (no_argument (given_sorts args bound))
      (text-has declared (sort_made e bound) (expr-meant e scope bound text means (each-left (Known names) (in_expr e) (flat_map in_expr args) met) h.0))
      (none-given scope bound args h.1)

  base-takes : (scope : SortScope) (bound : made.SortScope) (b : BaseName) (args : List ExprTree) → ScopeIs scope bound → AllKnown (flat_map in_expr args) → AreTaken (base_names.takes b) (HaveSorts decls sorts scope args)
      → takes (base_of ambient b (map (expr_of names) args)) (given_sorts args bound) ≡ true
  base-takes scope bound (base_name.Int prefix kind) args means met h = none-given scope bound args h
  base-takes scope bound (base_name.IntFw prefix kind) args means met h = number-given scope bound args means met h
  base-takes scope bound (base_name.Bin kind) args means met h =
      or_left (no_argument (given_sorts args bound)) (one_number (given_sorts args bound)) (none-given scope bound args h)
  base-takes scope bound (base_name.SizedBin order kind) args means met h = ⊎_elim
      (λ none. or_left (no_argument (given_sorts args bound)) (one_number (given_sorts args bound)) (none-given scope bound args none))
      (λ one. or_right (no_argument (given_sorts args bound)) (one_number (given_sorts args bound)) (number-given scope bound args means met one)) h
  base-takes scope bound (base_name.Until prefix) [] means met h = refl
  base-takes scope bound (base_name.Until prefix) (stop ∷ more) means met h = ⊎_elim (λ none. absurd none) (λ one. text-given scope bound (stop ∷ more) means met one) h
  base-takes scope bound (base_name.Fixed prefix) args means met h = number-given scope bound args means met h
  base-takes scope bound (base_name.Class prefix) args means met h = text-given scope bound args means met h
  base-takes scope bound (base_name.Char prefix) args means met h = none-given scope bound args h
  base-takes scope bound (base_name.Ip prefix) args means met h = none-given scope bound args h
  base-takes scope bound (base_name.Packed signed) args means met h = number-given scope bound args means met h
  base-takes scope bound (base_name.Zoned signed) args means met h = number-given scope bound args means met h

  argument-is : (scope : SortScope) (bound : made.SortScope) (e : ExprTree) (param : Param) → IsParam param → ScopeIs scope bound → AllKnown (in_expr e) → HasSort decls sorts scope e param.sort
      → is_argument (param_sort param) (sort_made e bound) ≡ true
  argument-is scope bound e param is means met h =
      let given = expr-meant e scope bound param.sort means met h in
      ⊎_elim
      (λ number. ap (λ (sort : Sort). is_argument (param_form sort.form) (sort_made e bound)) number ∙ number-has declared (sort_made e bound) (subst (Gives declared (sort_made e bound)) number given))
      (λ words. ap (λ (sort : Sort). is_argument (param_form sort.form) (sort_made e bound)) words ∙ text-has declared (sort_made e bound) (subst (Gives declared (sort_made e bound)) words given)) is

  arguments-are : (scope : SortScope) (bound : made.SortScope) (args : List ExprTree) (params : List Param) → Each IsParam params → ScopeIs scope bound → AllKnown (flat_map in_expr args)
      → HaveSorts decls sorts scope args (param_sorts params) → are_arguments (map param_sort params) (given_sorts args bound) ≡ true
  arguments-are scope bound [] [] all means met h = refl
  arguments-are scope bound [] (param ∷ params) all means met h = absurd h
  arguments-are scope bound (e ∷ args) [] all means met h = absurd h
  arguments-are scope bound (e ∷ args) (param ∷ params) all means met h =
      and_from (is_argument (param_sort param) (sort_made e bound)) (are_arguments (map param_sort params) (given_sorts args bound))
      (argument-is scope bound e param all.0 means (each-left (Known names) (in_expr e) (flat_map in_expr args) met) h.0)
      (arguments-are scope bound args params all.1 means (each-right (Known names) (in_expr e) (flat_map in_expr args) met) h.1)

  -- types
  named-sorted : (number : ℕ) (scope : SortScope) (bound : made.SortScope) (args : List ExprTree) (name : TypeName) → ScopeIs scope bound → AllKnown (flat_map in_expr args)
      → IsNamed decls sorts number scope args name → IsMade bound (named_type ambient name (map (expr_of names) args))
  named-sorted number scope bound args (type_name.Base b) means met h =
      let base = base_of ambient b (map (expr_of names) args) in
      sorted-as made_sorts bound (term.Base base (map (expr_of names) args)) (Term-F.Base base (map (expr_of names) args)) (out-Base base (map (expr_of names) args))
      (base-takes scope bound b args means met h) tt
  named-sorted number scope bound args (type_name.Declared n) means met h =
      sorted-as made_sorts bound (term.Call n (map (expr_of names) args)) (Term-F.Call n (map (expr_of names) args)) (out-Call n (map (expr_of names) args))
      (ap (λ o. calls o (given_sorts args bound)) (there-mapped (λ (d : DeclTree). map param_sort d.params) decls n h.1 h.2)
      ∙ arguments-are scope bound args (h.1).params (each n h.1 h.2).1 means met h.4) tt

  pub optional-sorted : (bound : made.SortScope) (inner : Term) → IsMade bound inner → IsMade bound (optional names inner)
  unfolding optional
  optional-sorted bound inner h =
      sorted-as made_sorts bound (term.Alt (some_arm names inner ∷ none_arm names ∷ [])) (Term-F.Alt (some_arm names inner ∷ none_arm names ∷ [])) (out-Alt (some_arm names inner ∷ none_arm names ∷ []))
      refl (h, (unit-sorted bound, tt))

  pub type-sorted : (number : ℕ) (scope : SortScope) (bound : made.SortScope) (t : Typed) → ScopeIs scope bound → AllKnown (in_type t) → IsType decls sorts number scope t → IsMade bound (type_of names ambient t)
  unfolding type_of bare_type in_type
  type-sorted number scope bound t means met h =
      let bare = named-sorted number scope bound t.args t.name means (each-right (Known names) (if t.optional then some_name ∷ none_name ∷ [] else []) (flat_map in_expr t.args) met) h in
      either-one (IsMade bound) t.optional (optional names (bare_type names ambient t)) (bare_type names ambient t) (optional-sorted bound (bare_type names ambient t) bare) bare

  -- constraints
  pub guard-sorted : (inner : Term) (name : Name) (e : ExprTree) (scope : SortScope) (bound : made.SortScope) (sort : Sort) → ScopeIs scope bound → Known names name → AllKnown (in_expr e)
      → Means declared sort (sort_of declared inner) → IsTruth decls sorts ((name, sort) ∷ scope) e → IsMade bound inner → IsMade bound (constrained names inner name (Some e))
  guard-sorted inner name e scope bound sort means known met value h fits =
      let n = number_of names name in
      let inside = (n, sort_of declared inner) ∷ bound in
      sorted-as made_sorts bound (term.Guard inner n (expr_of names e)) (Term-F.Guard inner n (expr_of names e)) (out-Guard inner n (expr_of names e))
      (truth-has declared (sort_made e inside)
      (expr-meant e ((name, sort) ∷ scope) inside truth (scope-more declared names scope bound name sort (sort_of declared inner) known value means) met h))
      (fits, tt)

  pub constrained-sorted : (inner : Term) (name : Name) (condition : Option ExprTree) (scope : SortScope) (bound : made.SortScope) (sort : Sort) → ScopeIs scope bound → Known names name
      → AllKnown (in_option condition) → Means declared sort (sort_of declared inner) → IsConstraint decls sorts scope name sort condition → IsMade bound inner → IsMade bound (constrained names inner name condition)
  unfolding in_option
  constrained-sorted inner name None scope bound sort means known met value h fits = fits
  constrained-sorted inner name (Some e) scope bound sort means known met value h fits = guard-sorted inner name e scope bound sort means known met value h fits

  where-sorted : (inner : Term) (condition : Option ExprTree) (scope : SortScope) (bound : made.SortScope) (sort : Sort) → ScopeIs scope bound
      → AllKnown (in_where condition) → Means declared sort (sort_of declared inner) → IsConstraint decls sorts scope at_sign sort condition → IsMade bound inner
      → IsMade bound (constrained names inner at_sign condition)
  unfolding in_where
  where-sorted inner None scope bound sort means met value h fits = fits
  where-sorted inner (Some e) scope bound sort means met value h fits = guard-sorted inner at_sign e scope bound sort means met.0 met.1 value h fits

  -- parts and branches
  field-sorted : (number : ℕ) (scope : SortScope) (bound : made.SortScope) (f : Branch) → ScopeIs scope bound → AllKnown (in_branch f) → IsBranch decls sorts number scope f → IsMade bound (field_of names ambient f)
  unfolding field_of in_branch
  field-sorted number scope bound f means met h =
      let named = each-right (Known names) (in_type f.of) (f.name ∷ in_option f.constraint) met in
      constrained-sorted (type_of names ambient f.of) f.name f.constraint scope bound (type_sort sorts f.of) means named.0 named.1
      (any-type-means declared names ambient decls sorts are are_of each number scope f.of h.0) h.1
      (type-sorted number scope bound f.of means (each-left (Known names) (in_type f.of) (f.name ∷ in_option f.constraint) met) h.0)

  field-known : (f : Branch) → AllKnown (in_branch f) → Known names f.name
  unfolding in_branch
  field-known f met = (each-right (Known names) (in_type f.of) (f.name ∷ in_option f.constraint) met).0

  pub literal-sorted : (bound : made.SortScope) (l : Literal) → IsMade bound (literal_of ambient l)
  literal-sorted bound (literal.Word points) = sorted-as made_sorts bound (text_of ambient points) (Term-F.Lit _) (out-Lit _) refl tt
  literal-sorted bound literal.Peor = sorted-as made_sorts bound term.Eor Term-F.Eor out-Eor refl tt

  pub absorbed-sorted : (bound : made.SortScope) (l : Literal) → IsMade bound (term.Absorb (literal_of ambient l))
  absorbed-sorted bound l =
      sorted-as made_sorts bound (term.Absorb (literal_of ambient l)) (Term-F.Absorb (literal_of ambient l)) (out-Absorb (literal_of ambient l)) refl (literal-sorted bound l, tt)

  computed-fits : (of : Computed) (o : Option TermSort) → Gives declared o (computed_sort of) → computes (form_of of) o ≡ true
  computed-fits (computed.Int kind) o given = number-has declared o given
  computed-fits computed.Text o given = text-has declared o given

  part-sorted : (number : ℕ) (scope : SortScope) (bound : made.SortScope) (p : PartTree) → ScopeIs scope bound → AllKnown (in_part p) → IsPart decls sorts number scope p
      → IsMade bound (part_of names ambient p).term
      × ScopeIs (behind decls sorts number p scope) (bind_sort (part_of names ambient p).name (sort_of declared (part_of names ambient p).term) bound)
  unfolding part_of in_part
  part-sorted number scope bound (part.Literal l) means met h = (
    sorted-as made_sorts bound (term.Scan (term.Absorb (literal_of ambient l))) (Term-F.Scan (term.Absorb (literal_of ambient l))) (out-Scan (term.Absorb (literal_of ambient l)))
        refl (absorbed-sorted bound l, tt),
    means,
  )
  part-sorted number scope bound (part.Pcompute of name value) means met h =
      let e = expr_of names value in (
        sorted-as made_sorts bound (term.Compute e (form_of of)) (Term-F.Compute e (form_of of)) (out-Compute e (form_of of))
            (computed-fits of (sort_made value bound) (expr-meant value scope bound (computed_sort of) means met.1 h)) tt,
        scope-more declared names scope bound name (computed_sort of) (sort_of declared (term.Compute e (form_of of))) met.0
            (value-means declared names ambient decls sorts are are_of each number scope (part.Pcompute of name value) (computed_sort of) h refl) means,
      )
  part-sorted number scope bound (part.Field f) means met h = (
    field-sorted number scope bound f means met h,
    scope-more declared names scope bound f.name (type_sort sorts f.of) (sort_of declared (field_of names ambient f)) (field-known f met)
        (field-means declared names ambient decls sorts are are_of each number scope f h) means,
  )

  parts-sorted : (number : ℕ) (scope : SortScope) (bound : made.SortScope) (parts : List PartTree) → ScopeIs scope bound → AllKnown (flat_map in_part parts) → AreParts decls sorts number scope parts
      → AllOf StandsMade (parts_standing declared bound (map (part_of names ambient) parts))
  parts-sorted number scope bound [] means met h = tt
  parts-sorted number scope bound (p ∷ parts) means met h =
      let here = part-sorted number scope bound p means (each-left (Known names) (in_part p) (flat_map in_part parts) met) h.0 in (
        here.0,
        parts-sorted number (behind decls sorts number p scope) (bind_sort (part_of names ambient p).name (sort_of declared (part_of names ambient p).term) bound) parts here.1
            (each-right (Known names) (in_part p) (flat_map in_part parts) met) h.1,
      )

  pub struct-sorted : (number : ℕ) (scope : SortScope) (bound : made.SortScope) (s : StructTree) → sort_at declared number ≡ sort_of declared (struct_of names ambient s) → ScopeIs scope bound → AllKnown (in_struct s)
      → IsStruct decls sorts number scope s → IsMade bound (struct_of names ambient s)
  unfolding struct_of in_struct
  struct-sorted number scope bound s own means met h =
      let parts = map (part_of names ambient) s.parts in
      where-sorted (term.Struct parts) s.condition scope bound (plain (form.Struct number)) means (each-right (Known names) (flat_map in_part s.parts) (in_where s.condition) met)
      (sort-by declared (term.Struct parts) (Term-F.Struct parts) (out-Struct parts) ∙ sym (own ∙ struct-sort declared names ambient s)) h.2
      (sorted-as made_sorts bound (term.Struct parts) (Term-F.Struct parts) (out-Struct parts) refl
      (parts-sorted number scope bound s.parts means (each-left (Known names) (flat_map in_part s.parts) (in_where s.condition) met) h.1))

  arms-sorted : (number : ℕ) (scope : SortScope) (bound : made.SortScope) (branches : List Branch) → ScopeIs scope bound → AllKnown (flat_map in_branch branches) → Each (IsBranch decls sorts number scope) branches
      → AllOf (IsMade bound) (map (λ (arm : Arm). arm.term) (map (arm_of names ambient) branches))
  unfolding arm_of
  arms-sorted number scope bound [] means met h = tt
  arms-sorted number scope bound (f ∷ branches) means met h = (
    field-sorted number scope bound f means (each-left (Known names) (in_branch f) (flat_map in_branch branches) met) h.0,
    arms-sorted number scope bound branches means (each-right (Known names) (in_branch f) (flat_map in_branch branches) met) h.1,
  )

  cases-sorted : (number : ℕ) (scope : SortScope) (bound : made.SortScope) (cases : List CaseTree) (default : Option Branch) → ScopeIs scope bound → AllKnown (flat_map in_case cases ++ in_default default)
      → Each (IsBranch decls sorts number scope) (map (λ (c : CaseTree). c.branch) cases ++ if_default default)
      → AllOf (IsMade bound) (map (λ (case : Case). case.arm.term) (map (case_of names ambient) cases ++ default_of names ambient default))
  unfolding case_of arm_of in_case in_default
  cases-sorted number scope bound [] None means met h = tt
  cases-sorted number scope bound [] (Some f) means met h = (field-sorted number scope bound f means met h.0, tt)
  cases-sorted number scope bound (c ∷ cases) default means met h =
      let split : AllKnown (in_branch c.branch ++ (flat_map in_case cases ++ in_default default)) =
      subst AllKnown (append_assoc (in_branch c.branch) (flat_map in_case cases) (in_default default)) met in (
        field-sorted number scope bound c.branch means (each-left (Known names) (in_branch c.branch) (flat_map in_case cases ++ in_default default) split) h.0,
        cases-sorted number scope bound cases default means (each-right (Known names) (in_branch c.branch) (flat_map in_case cases ++ in_default default) split) h.1,
      )

  -- the keys of a switch
  number-key : (key : Const) → IsNumberKey key → is_number_key (Some (key_of key)) ≡ true
  number-key (const.Number number) h = refl
  number-key (const.Word points) h = absurd h

  text-key : (key : Const) → IsTextKey key → is_text_key (Some (key_of key)) ≡ true
  text-key (const.Number number) h = absurd h
  text-key (const.Word points) h = refl

  abbrev keys : List CaseTree → Option Branch → List (Option Key)
  keys cases default = map (λ (case : Case). case.key) (map (case_of names ambient) cases ++ default_of names ambient default)

  number-keys : (cases : List CaseTree) (default : Option Branch) → Each (λ (c : CaseTree). IsNumberKey c.key) cases → list_all is_number_key (keys cases default) ≡ true
  unfolding case_of
  number-keys [] None h = refl
  number-keys [] (Some f) h = refl
  number-keys (c ∷ cases) default h = and_from (is_number_key (Some (key_of c.key))) _ (number-key c.key h.0) (number-keys cases default h.1)

  text-keys : (cases : List CaseTree) (default : Option Branch) → Each (λ (c : CaseTree). IsTextKey c.key) cases → list_all is_text_key (keys cases default) ≡ true
  unfolding case_of
  text-keys [] None h = refl
  text-keys [] (Some f) h = refl
  text-keys (c ∷ cases) default h = and_from (is_text_key (Some (key_of c.key))) _ (text-key c.key h.0) (text-keys cases default h.1)

  chooses-one : (number : ℕ) (scope : SortScope) (bound : made.SortScope) (s : Switch) → ScopeIs scope bound → AllKnown (in_expr s.value) → Chooses decls sorts number scope s.value s.cases
      → chooses (sort_made s.value bound) (keys s.cases s.default) ≡ true
  chooses-one number scope bound s means met h =
      let o = sort_made s.value bound in
      let ks = keys s.cases s.default in
      ⊎_elim
      (λ number. or_left (has is_number o && list_all is_number_key ks) (has is_text o && list_all is_text_key ks)
      (and_from (has is_number o) (list_all is_number_key ks) (number-has declared o (expr-meant s.value scope bound num means met number.0)) (number-keys s.cases s.default number.1)))
      (λ words. or_right (has is_number o && list_all is_number_key ks) (has is_text o && list_all is_text_key ks)
      (and_from (has is_text o) (list_all is_text_key ks) (text-has declared o (expr-meant s.value scope bound text means met words.0)) (text-keys s.cases s.default words.1))) h

  pub union-sorted : (number : ℕ) (scope : SortScope) (bound : made.SortScope) (u : Union) → ScopeIs scope bound → AllKnown (in_union u) → IsUnion decls sorts number scope u → IsMade bound (union_of names ambient u)
  unfolding union_of switch_of in_union in_switch
  union-sorted number scope bound (union.Branches branches) means met h =
      let arms = map (arm_of names ambient) branches in
      sorted-as made_sorts bound (term.Alt arms) (Term-F.Alt arms) (out-Alt arms) refl
      (each-stands bound (map (λ (arm : Arm). arm.term) arms) (arms-sorted number scope bound branches means met h.2))
  union-sorted number scope bound (union.Pswitch s) means met' h =
      let cases = map (case_of names ambient) s.cases ++ default_of names ambient s.default in
      let inside = flat_map in_case s.cases ++ in_default s.default in
      let met : AllKnown (in_expr s.value ++ inside) = subst AllKnown (append_assoc (in_expr s.value) (flat_map in_case s.cases) (in_default s.default)) met' in
      let e = expr_of names s.value in
      sorted-as made_sorts bound (term.Switch e cases) (Term-F.Switch e cases) (out-Switch e cases)
      (chooses-one number scope bound s means (each-left (Known names) (in_expr s.value) inside met) h.1)
      (each-stands bound (map (λ (case : Case). case.arm.term) cases)
      (cases-sorted number scope bound s.cases s.default means (each-right (Known names) (in_expr s.value) inside met) h.2))
