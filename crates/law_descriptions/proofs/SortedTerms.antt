-- The term of each form of a well-sorted description is well-sorted.
use Rattle.std.proofs.Common.{◌≡◌, ◌∙◌, sym, ap, refl, subst, ⊎_elim, ℕ, true, List, [], ◌∷◌, ◌++◌, map, Option, Some, None, option_map, slice_get}
use Rattle.std.specs.List.{flat_map}
use Rattle.std.proofs.lemmas.Bool.{and_from}
use Rattle.pads_calc.specs.declared.decl.Decl.{Decl}
use Rattle.pads_calc.specs.declared.term.Term.{Term, Term-F}
use Rattle.pads_calc.specs.declared.term.Term.TheVariants as term
use Rattle.pads_code.specs.declared.Coding.{Coding}
use Rattle.pads_dispatch.specs.declared.base.Base.TheVariants as base
use Rattle.pads_rules.specs.declared.sort.Form.TheVariants as form
use Rattle.pads_rules.specs.declared.sort.Sort.{Sort}
use Rattle.pads_resolution.specs.declared.decl.Array.{Array as ArrayTree}
use Rattle.pads_resolution.specs.declared.decl.ArrayOption.{ArrayOption}
use Rattle.pads_resolution.specs.declared.decl.ArrayOption.TheVariants as option
use Rattle.pads_resolution.specs.declared.decl.Constraint.{Constraint}
use Rattle.pads_resolution.specs.declared.decl.Decl.{Decl as DeclTree}
use Rattle.pads_resolution.specs.declared.decl.DeclBody.{DeclBody}
use Rattle.pads_resolution.specs.declared.decl.DeclBody.TheVariants as body
use Rattle.pads_resolution.specs.declared.decl.Description.{Description}
use Rattle.pads_resolution.specs.declared.decl.Role.{Role}
use Rattle.pads_resolution.specs.declared.decl.Role.TheVariants as role
use Rattle.pads_resolution.specs.declared.expr.Expr.{Expr as ExprTree}
use Rattle.pads_resolution.specs.declared.types.Literal.{Literal}
use Rattle.pads_resolution.specs.declared.types.Literal.TheVariants as literal
use Rattle.pads_resolution.specs.declared.types.Param.{Param}
use Rattle.law_calculus.specs.Expressions as made
use Rattle.law_calculus.specs.Sorted as sorting
use Rattle.law_calculus.specs.Sorted.{Sorts, Sorted, IsSortedDecl, has, size_fits, last_fits, are_parameters}
use Rattle.law_calculus.specs.Sorts.{Sort as TermSort, Array, is_truth, sort_at, sort_of, AreSorts}
use Rattle.law_calculus.specs.Terms.{if_there}
use Rattle.law_calculus.proofs.Layers.{out-Base, out-Seq}
use Rattle.law_calculus.proofs.Made.{Each as AllOf, sorted-as}
use Rattle.law_calculus.proofs.ModuleSorts.{module-sorts}
use Rattle.pads_trans.specs.Modules.{module_of}
use Rattle.pads_trans.specs.Terms.{text_of, literal_of, label_of, first, separator, terminator, last, constrained_type, type_of, seq_of, array_of, body_of, read_body, decl_of}
use Rattle.pads_trans.specs.Expressions.{option_of}
use Rattle.pads_trans.specs.Met.{Met, names_of, in_expr, in_option, in_type, in_array_option, in_array, in_constraint, in_typedef, in_body, in_read_body, in_decl}
use Rattle.pads_trans.specs.Names.{Name, at_sign, number_of}
use Rattle.law_descriptions.specs.Expressions.{SortScope, if_read}
use Rattle.law_descriptions.specs.Sorts.{plain, num, truth, type_sort}
use Rattle.law_descriptions.specs.WellSorted.{AreSorts as AreSortsOf, Each, IfThere, IsTruth, IsNumber, IsParam, IsOption, IsArray, IsBody, IsDecl, WellSorted, params_scope}
use Rattle.law_descriptions.proofs.Lists.{all-append, each-left, each-right, there-mapped, mapped-there, each-flat}
use Rattle.law_descriptions.proofs.Means.{Means, sort-by, array-sort, read-sort, any-type-means}
use Rattle.law_descriptions.proofs.Meant.{scope-more}
use Rattle.law_descriptions.proofs.SortedNames.{Known, all-met}
use Rattle.law_descriptions.proofs.Options.{first-holds}
use Rattle.law_descriptions.proofs.SortedParts as lower
use Rattle.law_descriptions.proofs.SortedParts.{param_form, param_sort, params_of, number-has, truth-has, param-means}

module _ (declared : List TermSort) (names : List Name) (ambient : Coding) (decls : List DeclTree) (sorts : List Sort)
    (are : AreSorts declared (map (decl_of names ambient) decls)) (are_of : AreSortsOf sorts decls)
    (each : (number : ℕ) (d : DeclTree) → slice_get decls number ≡ Some d → IsDecl decls sorts number d) where
  abbrev made_sorts : Sorts
  made_sorts = lower.made_sorts declared names ambient decls sorts are are_of each

  abbrev IsMade : made.SortScope → Term → Type 0
  IsMade = lower.IsMade declared names ambient decls sorts are are_of each

  abbrev AllKnown : Met → Type 0
  AllKnown = lower.AllKnown declared names ambient decls sorts are are_of each

  abbrev ScopeIs : SortScope → made.SortScope → Type 0
  ScopeIs = lower.ScopeIs declared names ambient decls sorts are are_of each

  abbrev sort_made : ExprTree → made.SortScope → Option TermSort
  sort_made = lower.sort_made declared names ambient decls sorts are are_of each

  -- arrays
  separators-sorted : (bound : made.SortScope) (o : Option (List ℕ)) → AllOf (IsMade bound) (if_there (option_map (λ points. term.Absorb (text_of ambient points)) o))
  separators-sorted bound None = tt
  separators-sorted bound (Some points) = (lower.absorbed-sorted declared names ambient decls sorts are are_of each bound (literal.Word points), tt)

  terminators-sorted : (bound : made.SortScope) (o : Option Literal) → AllOf (IsMade bound) (if_there (option_map (literal_of ambient) o))
  terminators-sorted bound None = tt
  terminators-sorted bound (Some l) = (lower.literal-sorted declared names ambient decls sorts are are_of each bound l, tt)

  size-sorted : (scope : SortScope) (bound : made.SortScope) (size : Option ExprTree) → ScopeIs scope bound → AllKnown (in_option size) → IfThere (IsNumber decls sorts scope) size
      → size_fits made_sorts (option_of names size) bound ≡ true
  unfolding in_option
  size-sorted scope bound None means met h = refl
  size-sorted scope bound (Some e) means met h = number-has declared (sort_made e bound) (lower.expr-meant declared names ambient decls sorts are are_of each e scope bound num means met h)

  abbrev Lasts : made.SortScope → ExprTree → Type 0
  Lasts bound e = has is_truth (sort_made e bound) ≡ true

  options-sorted : (number : ℕ) (scope : SortScope) (bound : made.SortScope) (options : List ArrayOption) → ScopeIs ((at_sign, plain (form.Array number)) ∷ scope) bound → AllKnown (flat_map in_array_option options)
      → Each (IsOption decls sorts number scope) options → Each (λ o. IfThere (Lasts bound) (last o)) options
  unfolding in_array_option
  options-sorted number scope bound [] means met h = tt
  options-sorted number scope bound (option.Psep points ∷ options) means met h = (tt, options-sorted number scope bound options means met h.1)
  options-sorted number scope bound (option.Pterm l ∷ options) means met h = (tt, options-sorted number scope bound options means met h.1)
  options-sorted number scope bound (option.Plast e ∷ options) means met h = (
    truth-has declared (sort_made e bound) (lower.expr-meant declared names ambient decls sorts are are_of each e ((at_sign, plain (form.Array number)) ∷ scope) bound truth means (each-left (Known names) (in_expr e) (flat_map in_array_option options) met) h.0),
    options-sorted number scope bound options means (each-right (Known names) (in_expr e) (flat_map in_array_option options) met) h.1,
  )

  last-sorted : (bound : made.SortScope) (o : Option ExprTree) → IfThere (Lasts bound) o → last_fits made_sorts (option_of names o) bound ≡ true
  last-sorted bound None h = refl
  last-sorted bound (Some e) h = h

  array-sorted : (number : ℕ) (scope : SortScope) (bound : made.SortScope) (a : ArrayTree) → sort_at declared number ≡ sort_of declared (array_of names ambient a) → ScopeIs scope bound → AllKnown (in_array a)
      → IsArray decls sorts number scope a → IsMade bound (array_of names ambient a)
  unfolding array_of seq_of in_array
  array-sorted number scope bound a own means met h =
      let s = seq_of names ambient a in
      let n = number_of names at_sign in
      let elem = type_of names ambient a.of in
      let options = flat_map in_array_option a.options in
      let condition = in_option a.condition in
      let so_many = at_sign ∷ in_option a.size in
      let conditions = each-right (Known names) (in_type a.of ++ so_many ++ options) condition met in
      let front = each-left (Known names) (in_type a.of ++ so_many ++ options) condition met in
      let lasts_met = each-right (Known names) (in_type a.of ++ so_many) options front in
      let sized = each-left (Known names) (in_type a.of ++ so_many) options front in
      let inside = each-right (Known names) (in_type a.of) so_many sized in
      let is : Array elem ≡ sort_at declared number = sym (own ∙ array-sort declared names ambient a) in
      let value : Means declared (plain (form.Array number)) (Array elem) = (is, elem, refl) in
      let so_far = (n, Array elem) ∷ bound in
      let lasts = options-sorted number scope so_far a.options (scope-more declared names scope bound at_sign (plain (form.Array number)) (Array elem) inside.0 value means)
      lasts_met h.2 in
      lower.constrained-sorted declared names ambient decls sorts are are_of each (term.Seq s) at_sign a.condition scope bound (plain (form.Array number)) means inside.0
      conditions
      (subst (Means declared (plain (form.Array number))) (sym (sort-by declared (term.Seq s) (Term-F.Seq s) (out-Seq s))) value) h.3
      (sorted-as made_sorts bound (term.Seq s) (Term-F.Seq s) (out-Seq s)
      (and_from (size_fits made_sorts s.size bound) (last_fits made_sorts s.last so_far)
      (size-sorted scope bound a.size means inside.1 h.1)
      (last-sorted so_far (first last a.options) (first-holds (Lasts so_far) last a.options lasts)))
      (lower.each-stands declared names ambient decls sorts are are_of each bound (s.elem ∷ if_there s.sep ++ if_there s.stop) (
        lower.type-sorted declared names ambient decls sorts are are_of each number scope bound a.of means (each-left (Known names) (in_type a.of) so_many sized) h.0,
        all-append (IsMade bound) (if_there s.sep) (if_there s.stop) (separators-sorted bound (first separator a.options)) (terminators-sorted bound (first terminator a.options)),
      )))

  -- bodies
  typedef-sorted : (scope : SortScope) (bound : made.SortScope) (inner : Term) (sort : Sort) (constraint : Option Constraint) → ScopeIs scope bound → AllKnown (in_constraint constraint)
      → Means declared sort (sort_of declared inner) → IfThere (λ c. IsTruth decls sorts ((c.variable, sort) ∷ scope) c.condition) constraint → IsMade bound inner
      → IsMade bound (constrained_type names inner constraint)
  unfolding in_constraint
  typedef-sorted scope bound inner sort None means met value h fits = fits
  typedef-sorted scope bound inner sort (Some c) means met value h fits = lower.guard-sorted declared names ambient decls sorts are are_of each inner c.variable c.condition scope bound sort means met.0 met.1 value h fits

  body-sorted : (number : ℕ) (scope : SortScope) (bound : made.SortScope) (inner : DeclBody) → sort_at declared number ≡ sort_of declared (body_of names ambient inner) → ScopeIs scope bound → AllKnown (in_body inner)
      → IsBody decls sorts number scope inner → IsMade bound (body_of names ambient inner)
  unfolding body_of in_body in_typedef
  body-sorted number scope bound (body.Struct s) own means met h = lower.struct-sorted declared names ambient decls sorts are are_of each number scope bound s own means met h
  body-sorted number scope bound (body.Union u) own means met h = lower.union-sorted declared names ambient decls sorts are are_of each number scope bound u means met h
  body-sorted number scope bound (body.Array a) own means met h = array-sorted number scope bound a own means met h
  body-sorted number scope bound (body.Enum labels) own means met h =
      let b = base.Enum ambient (map label_of labels) in
      sorted-as made_sorts bound (term.Base b []) (Term-F.Base b []) (out-Base b []) refl tt
  body-sorted number scope bound (body.Typedef t) own means met h =
      typedef-sorted scope bound (type_of names ambient t.of) (type_sort sorts t.of) t.constraint means (each-right (Known names) (in_type t.of) (in_constraint t.constraint) met)
      (any-type-means declared names ambient decls sorts are are_of each number scope t.of h.0) h.1
      (lower.type-sorted declared names ambient decls sorts are are_of each number scope bound t.of means (each-left (Known names) (in_type t.of) (in_constraint t.constraint) met) h.0)
  body-sorted number scope bound (body.Opt inner) own means met h =
      lower.optional-sorted declared names ambient decls sorts are are_of each bound (type_of names ambient inner) (lower.type-sorted declared names ambient decls sorts are are_of each number scope bound inner means met.1.1 h)

  read-sorted : (number : ℕ) (scope : SortScope) (bound : made.SortScope) (role : Role) (inner : DeclBody)
      → (if_read role inner ≡ Some inner → sort_at declared number ≡ sort_of declared (body_of names ambient inner)) → ScopeIs scope bound → AllKnown (in_read_body role inner)
      → IfThere (IsBody decls sorts number scope) (if_read role inner) → IsMade bound (read_body names ambient role inner)
  unfolding read_body in_read_body
  read-sorted number scope bound role.Part inner own means met h = body-sorted number scope bound inner (own refl) means met h
  read-sorted number scope bound role.Precord inner own means met h = body-sorted number scope bound inner (own refl) means met h
  read-sorted number scope bound role.Source inner own means met h = lower.unit-sorted declared names ambient decls sorts are are_of each bound

  -- parameters
  abbrev name_number : Param → ℕ
  name_number param = number_of names param.name

  params-mean : (params : List Param) (scope : SortScope) (bound : made.SortScope) → Each IsParam params → AllKnown (map (λ (param : Param). param.name) params) → ScopeIs scope bound
      → ScopeIs (params_scope params scope) (sorting.params_scope (map name_number params) (map param_sort params) bound)
  params-mean [] scope bound all met means = means
  params-mean (param ∷ params) scope bound all met means =
      params-mean params ((param.name, param.sort) ∷ scope) ((name_number param, param_sort param) ∷ bound) all.1 met.1
      (scope-more declared names scope bound param.name param.sort (param_sort param) met.0 (param-means declared param all.0) means)

  nothing-means : ScopeIs [] []
  nothing-means name sort is = cc

  parameter-is : (param : Param) → IsParam param → sorting.is_parameter (param_sort param) ≡ true
  parameter-is param h = ⊎_elim
      (λ is. ap (λ (sort : Sort). sorting.is_parameter (param_form sort.form)) is)
      (λ is. ap (λ (sort : Sort). sorting.is_parameter (param_form sort.form)) is) h

  parameters-are : (params : List Param) → Each IsParam params → are_parameters (map name_number params) (map param_sort params) ≡ true
  parameters-are [] all = refl
  parameters-are (param ∷ params) all = and_from (sorting.is_parameter (param_sort param)) _ (parameter-is param all.0) (parameters-are params all.1)

  decl-sorted : (number : ℕ) (d : DeclTree) → slice_get decls number ≡ Some d → AllKnown (in_decl d) → IsDecl decls sorts number d
      → (params : List TermSort) × (slice_get (params_of decls) number ≡ Some params) × (are_parameters (decl_of names ambient d).params params ≡ true)
      × IsSortedDecl made_sorts (decl_of names ambient d) params
  unfolding decl_of in_decl
  decl-sorted number d there met h =
      let given = map (λ (param : Param). param.name) d.params in (
        map param_sort d.params,
        there-mapped (λ (d : DeclTree). map param_sort d.params) decls number d there,
        parameters-are d.params h.1,
        read-sorted number (params_scope d.params []) (sorting.params_scope (map name_number d.params) (map param_sort d.params) []) d.role d.body
            (λ is_read. read-sort declared names ambient decls sorts are are_of each number d there is_read)
            (params-mean d.params [] [] h.1 (each-left (Known names) given (in_read_body d.role d.body) met.1) nothing-means)
            (each-right (Known names) given (in_read_body d.role d.body) met.1) h.2,
      )

module _ (d : Description) (ambient : Coding) (well : WellSorted d) (declared : List TermSort) (are : AreSorts declared (module_of d ambient).decls) where
  abbrev Bodies : Decl → ℕ → Type 0
  Bodies made number =
      (params : List TermSort) × (slice_get (params_of d.decls) number ≡ Some params) × (are_parameters made.params params ≡ true)
      × IsSortedDecl (made_sorts declared (names_of d) ambient d.decls well.sorts are well.are well.decls) made params

  each-body : (number : ℕ) (made : Decl) → slice_get (module_of d ambient).decls number ≡ Some made → Bodies made number
  each-body number made there =
      let names = names_of d in
      let tree = mapped-there (decl_of names ambient) d.decls number made there in
      subst (λ made. Bodies made number) tree.2
      (decl-sorted declared names ambient d.decls well.sorts are well.are well.decls number tree.0 tree.1
      (each-flat (Known names) in_decl d.decls number tree.0 (all-met d) tree.1) (well.decls number tree.0 tree.1))

  sorted-with : Sorted (module_of d ambient).decls
  sorted-with = (made_sorts declared (names_of d) ambient d.decls well.sorts are well.are well.decls, record { declared = are; bodies = each-body })

pub module-sorted : (d : Description) (ambient : Coding) → WellSorted d → Sorted (module_of d ambient).decls
module-sorted d ambient well =
    let sorts = module-sorts (module_of d ambient).decls in
    sorted-with d ambient well sorts.0 sorts.1
