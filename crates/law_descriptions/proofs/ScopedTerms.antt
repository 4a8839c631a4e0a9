-- The term of each form of a well-sorted description speaks of names, declarations and variables that are there.
use Rattle.std.proofs.Common.{◌≡◌, ◌∙◌, sym, ap, refl, subst, ⊎_elim, ℕ, suc, Bool, true, false, if◌then◌else◌, ◌&&◌, ◌||◌, nat_eq, nat_lt, List, [], ◌∷◌, ◌++◌, map, length, Option, Some, None, option_map, slice_get, eq-eqb, append_assoc}
use Rattle.std.specs.List.{flat_map, list_all}
use Rattle.std.proofs.lemmas.List.{length-map}
use Rattle.std.proofs.lemmas.Bool.{or_right, and_from}
use Rattle.pads_module.specs.Scopes.{is_bound, bind_name, name_there, in_scope, expr_in_scope, exprs_in_scope, option_in_scope, option_term_in, has_arity, arm_in, case_in, binding_of, parts_in, arities_of, decl_in_scope}
use Rattle.pads_calc.specs.declared.decl.Decl.{Decl}
use Rattle.pads_calc.specs.declared.term.Arm.{Arm}
use Rattle.pads_calc.specs.declared.term.Case.{Case}
use Rattle.pads_calc.specs.declared.term.Part.{Part}
use Rattle.pads_calc.specs.declared.term.Term.{Term}
use Rattle.pads_calc.specs.declared.term.Term.TheVariants as term
use Rattle.pads_module.proofs.TermRolls.{in-Unit, in-Base, in-Lit, in-Eor, in-Struct, in-Alt, in-Switch, in-Guard, in-Seq, in-Call, in-Compute, in-Absorb, in-Scan}
use Rattle.pads_code.specs.declared.Coding.{Coding}
use Rattle.pads_dispatch.specs.declared.base.Base.TheVariants as base
use Rattle.pads_rules.specs.declared.sort.Form.TheVariants as form
use Rattle.pads_rules.specs.declared.sort.Sort.{Sort}
use Rattle.pads_base_names.specs.Names.{takes}
use Rattle.pads_base_names.specs.declared.meaning.Takes.{Takes}
use Rattle.pads_base_names.specs.declared.meaning.Takes.TheVariants as takes_form
use Rattle.pads_resolution.specs.declared.decl.Array.{Array}
use Rattle.pads_resolution.specs.declared.decl.ArrayOption.{ArrayOption}
use Rattle.pads_resolution.specs.declared.decl.ArrayOption.TheVariants as option
use Rattle.pads_resolution.specs.declared.decl.Case.{Case as CaseTree}
use Rattle.pads_resolution.specs.declared.decl.Constraint.{Constraint}
use Rattle.pads_resolution.specs.declared.decl.Decl.{Decl as DeclTree}
use Rattle.pads_resolution.specs.declared.decl.DeclBody.{DeclBody}
use Rattle.pads_resolution.specs.declared.decl.DeclBody.TheVariants as body
use Rattle.pads_resolution.specs.declared.decl.Part.{Part as PartTree}
use Rattle.pads_resolution.specs.declared.decl.Part.TheVariants as part
use Rattle.pads_resolution.specs.declared.decl.Role.{Role}
use Rattle.pads_resolution.specs.declared.decl.Role.TheVariants as role
use Rattle.pads_resolution.specs.declared.decl.Struct.{Struct}
use Rattle.pads_resolution.specs.declared.decl.Switch.{Switch}
use Rattle.pads_resolution.specs.declared.decl.Union.{Union}
use Rattle.pads_resolution.specs.declared.decl.Union.TheVariants as union
use Rattle.pads_resolution.specs.declared.expr.Expr.{Expr as ExprTree}
use Rattle.pads_resolution.specs.declared.types.Branch.{Branch}
use Rattle.pads_resolution.specs.declared.types.Literal.{Literal}
use Rattle.pads_resolution.specs.declared.types.Literal.TheVariants as literal
use Rattle.pads_resolution.specs.declared.types.Param.{Param}
use Rattle.pads_resolution.specs.declared.types.«Type».{«Type» as Typed}
use Rattle.pads_resolution.specs.declared.types.TypeName.{TypeName}
use Rattle.pads_resolution.specs.declared.types.TypeName.TheVariants as type_name
use Rattle.pads_trans.specs.Terms.{base_of, text_of, literal_of, form_of, label_of, first, separator, terminator, last, named_type, constrained, constrained_type, some_arm, none_arm, optional, bare_type, type_of, field_of, part_of, struct_of, arm_of, case_of, default_of, switch_of, union_of, seq_of, array_of, body_of, read_body, decl_of}
use Rattle.pads_trans.specs.Expressions.{expr_of, option_of}
use Rattle.pads_trans.specs.Met.{Met, in_expr, in_option, in_type, in_branch, in_part, in_where, in_struct, in_case, in_default, in_switch, in_union, in_array_option, in_array, in_constraint, in_typedef, in_body, in_read_body, in_decl}
use Rattle.pads_trans.specs.Names.{Name, at_sign, some_name, none_name, number_of}
use Rattle.law_descriptions.specs.Expressions.{SortScope, if_read, if_default}
use Rattle.law_descriptions.specs.Sorts.{plain, num, computed_sort, type_sort}
use Rattle.law_descriptions.specs.WellSorted.{Each, IfThere, AreTaken, HaveSorts, IsTruth, IsNumber, IsConstraint, IsNamed, IsType, IsBranch, IsPart, behind, AreParts, IsStruct, Chooses, IsUnion, IsOption, IsArray, IsBody, IsDecl, params_scope, param_sorts}
use Rattle.law_descriptions.proofs.Lists.{each-left, each-right, each-weaker, there-mapped}
use Rattle.law_descriptions.proofs.SortedNames.{Known, number-below}
use Rattle.law_descriptions.proofs.Options.{first-holds}
use Rattle.law_descriptions.proofs.Scoped.{Covers, covers-also, covers-more, scoped}

-- the arguments of a base type have some sorts
pub takes-some : (t : Takes) (Given : List Sort → Type 0) → AreTaken t Given → (wanted : List Sort) × Given wanted
takes-some takes_form.Nothing Given h = (_, h)
takes-some takes_form.Number Given h = (_, h)
takes-some takes_form.NumberOrNothing Given h = ⊎_elim (λ none. (_, none)) (λ one. (_, one)) h
takes-some takes_form.Text Given h = (_, h)
takes-some takes_form.TextOrEnd Given h = ⊎_elim (λ none. (_, none)) (λ one. (_, one)) h

module _ (names : List Name) (ambient : Coding) (decls : List DeclTree) (sorts : List Sort) where
  abbrev arities : List ℕ
  arities = arities_of (map (decl_of names ambient) decls)

  abbrev count : ℕ
  count = length names

  abbrev Fits : Term → List ℕ → Type 0
  Fits t bound = in_scope count arities t bound ≡ true

  abbrev AllKnown : Met → Type 0
  AllKnown met = Each (Known names) met

  -- arguments
  args-scoped : (scope : SortScope) (bound : List ℕ) (args : List ExprTree) (wanted : List Sort) → Covers names scope bound → AllKnown (flat_map in_expr args)
      → HaveSorts decls sorts scope args wanted → exprs_in_scope count (map (expr_of names) args) bound ≡ true
  args-scoped scope bound [] wanted covers met h = refl
  args-scoped scope bound (e ∷ args) [] covers met h = absurd h
  args-scoped scope bound (e ∷ args) (sort ∷ wanted) covers met h =
      and_from (expr_in_scope count (expr_of names e) bound) (exprs_in_scope count (map (expr_of names) args) bound)
      (scoped names decls sorts e scope bound sort covers (each-left (Known names) (in_expr e) (flat_map in_expr args) met) h.0)
      (args-scoped scope bound args wanted covers (each-right (Known names) (in_expr e) (flat_map in_expr args) met) h.1)

  args-count : (scope : SortScope) (args : List ExprTree) (wanted : List Sort) → HaveSorts decls sorts scope args wanted → length args ≡ length wanted
  args-count scope [] [] h = refl
  args-count scope [] (sort ∷ wanted) h = absurd h
  args-count scope (e ∷ args) [] h = absurd h
  args-count scope (e ∷ args) (sort ∷ wanted) h = ap (λ n. suc n) (args-count scope args wanted h.1)

  arity-at : (n : ℕ) (d : DeclTree) → slice_get decls n ≡ Some d → slice_get arities n ≡ Some (length d.params)
  unfolding decl_of
  arity-at n d there =
      there-mapped (λ (d : Decl). length d.params) (map (decl_of names ambient) decls) n (decl_of names ambient d) (there-mapped (decl_of names ambient) decls n d there)
      ∙ ap (λ n. Some n) (length-map d.params (λ (param : Param). number_of names param.name))

  has-arity : (scope : SortScope) (args : List ExprTree) (n : ℕ) (d : DeclTree) → slice_get decls n ≡ Some d → HaveSorts decls sorts scope args (param_sorts d.params)
      → has_arity (slice_get arities n) (length (map (expr_of names) args)) ≡ true
  has-arity scope args n d there h =
      ap (λ o. has_arity o (length (map (expr_of names) args))) (arity-at n d there)
      ∙ eq-eqb (length d.params) (length (map (expr_of names) args))
      (sym (length-map args (expr_of names) ∙ args-count scope args (param_sorts d.params) h ∙ length-map d.params (λ (param : Param). param.sort)))

  -- types
  named-scoped : (number : ℕ) (scope : SortScope) (bound : List ℕ) (args : List ExprTree) (name : TypeName) → Covers names scope bound → AllKnown (flat_map in_expr args)
      → IsNamed decls sorts number scope args name → Fits (named_type ambient name (map (expr_of names) args)) bound
  named-scoped number scope bound args (type_name.Base b) covers met h =
      let given = takes-some (takes b) (HaveSorts decls sorts scope args) h in
      in-Base count arities (base_of ambient b (map (expr_of names) args)) (map (expr_of names) args) bound ∙ args-scoped scope bound args given.0 covers met given.1
  named-scoped number scope bound args (type_name.Declared n) covers met h =
      in-Call count arities n (map (expr_of names) args) bound
      ∙ and_from (has_arity (slice_get arities n) (length (map (expr_of names) args))) (exprs_in_scope count (map (expr_of names) args) bound)
      (has-arity scope args n h.1 h.2 h.4) (args-scoped scope bound args (param_sorts (h.1).params) covers met h.4)

  optional-scoped : (inner : Term) (bound : List ℕ) → Known names some_name → Known names none_name → Fits inner bound → Fits (optional names inner) bound
  unfolding optional
  optional-scoped inner bound some none h =
      in-Alt count arities (some_arm names inner ∷ none_arm names ∷ []) bound
      ∙ and_from (nat_lt (number_of names some_name) count && in_scope count arities inner bound) ((nat_lt (number_of names none_name) count && in_scope count arities term.Unit bound) && true)
      (and_from (nat_lt (number_of names some_name) count) (in_scope count arities inner bound) (number-below names some_name some) h)
      (and_from (nat_lt (number_of names none_name) count && in_scope count arities term.Unit bound) true
      (and_from (nat_lt (number_of names none_name) count) (in_scope count arities term.Unit bound) (number-below names none_name none) (in-Unit count arities bound)) refl)

  type-by : (b : Bool) (bare : Term) (given : Met) (bound : List ℕ) → AllKnown ((if b then some_name ∷ none_name ∷ [] else []) ++ given) → Fits bare bound
      → Fits (if b then optional names bare else bare) bound
  type-by true bare given bound met h = optional-scoped bare bound met.0 met.1.0 h
  type-by false bare given bound met h = h

  type-scoped : (number : ℕ) (scope : SortScope) (bound : List ℕ) (t : Typed) → Covers names scope bound → AllKnown (in_type t) → IsType decls sorts number scope t
      → Fits (type_of names ambient t) bound
  unfolding type_of bare_type in_type
  type-scoped number scope bound t covers met h =
      type-by t.optional (bare_type names ambient t) (flat_map in_expr t.args) bound met
      (named-scoped number scope bound t.args t.name covers
      (each-right (Known names) (if t.optional then some_name ∷ none_name ∷ [] else []) (flat_map in_expr t.args) met) h)

  -- constraints
  guard-scoped : (inner : Term) (name : Name) (e : ExprTree) (scope : SortScope) (bound : List ℕ) (sort : Sort) → Covers names scope bound → Known names name → AllKnown (in_expr e)
      → IsTruth decls sorts ((name, sort) ∷ scope) e → Fits inner bound → Fits (constrained names inner name (Some e)) bound
  guard-scoped inner name e scope bound sort covers known met h fits =
      in-Guard count arities inner (number_of names name) (expr_of names e) bound
      ∙ and_from (in_scope count arities inner bound && nat_lt (number_of names name) count) (expr_in_scope count (expr_of names e) (number_of names name ∷ bound))
      (and_from (in_scope count arities inner bound) (nat_lt (number_of names name) count) fits (number-below names name known))
      (scoped names decls sorts e ((name, sort) ∷ scope) (number_of names name ∷ bound) _ (covers-more names scope bound name sort covers) met h)

  constrained-scoped : (inner : Term) (name : Name) (condition : Option ExprTree) (scope : SortScope) (bound : List ℕ) (sort : Sort) → Covers names scope bound → Known names name
      → AllKnown (in_option condition) → IsConstraint decls sorts scope name sort condition → Fits inner bound → Fits (constrained names inner name condition) bound
  unfolding in_option
  constrained-scoped inner name None scope bound sort covers known met h fits = fits
  constrained-scoped inner name (Some e) scope bound sort covers known met h fits = guard-scoped inner name e scope bound sort covers known met h fits

  where-scoped : (inner : Term) (condition : Option ExprTree) (scope : SortScope) (bound : List ℕ) (sort : Sort) → Covers names scope bound
      → AllKnown (in_where condition) → IsConstraint decls sorts scope at_sign sort condition → Fits inner bound → Fits (constrained names inner at_sign condition) bound
  unfolding in_where
  where-scoped inner None scope bound sort covers met h fits = fits
  where-scoped inner (Some e) scope bound sort covers met h fits = guard-scoped inner at_sign e scope bound sort covers met.0 met.1 h fits

  -- parts and branches
  field-scoped : (number : ℕ) (scope : SortScope) (bound : List ℕ) (f : Branch) → Covers names scope bound → AllKnown (in_branch f) → IsBranch decls sorts number scope f
      → (nat_lt (number_of names f.name) count ≡ true) × Fits (field_of names ambient f) bound
  unfolding field_of in_branch
  field-scoped number scope bound f covers met h =
      let named = each-right (Known names) (in_type f.of) (f.name ∷ in_option f.constraint) met in (
        number-below names f.name named.0,
        constrained-scoped (type_of names ambient f.of) f.name f.constraint scope bound (type_sort sorts f.of) covers named.0 named.1 h.1
            (type-scoped number scope bound f.of covers (each-left (Known names) (in_type f.of) (f.name ∷ in_option f.constraint) met) h.0),
      )

  literal-scoped : (l : Literal) (bound : List ℕ) → Fits (literal_of ambient l) bound
  literal-scoped (literal.Word points) bound = in-Lit count arities _ bound
  literal-scoped literal.Peor bound = in-Eor count arities bound

  part-scoped : (number : ℕ) (scope : SortScope) (bound : List ℕ) (p : PartTree) → Covers names scope bound → AllKnown (in_part p) → IsPart decls sorts number scope p
      → (name_there count (part_of names ambient p).name ≡ true) × Fits (part_of names ambient p).term bound
      × Covers names (behind decls sorts number p scope) (bind_name (part_of names ambient p).name bound)
  unfolding part_of in_part in_branch
  part-scoped number scope bound (part.Literal l) covers met h =
      (refl, in-Scan count arities (term.Absorb (literal_of ambient l)) bound ∙ in-Absorb count arities (literal_of ambient l) bound ∙ literal-scoped l bound, covers)
  part-scoped number scope bound (part.Pcompute of name value) covers met h = (
    number-below names name met.0,
    in-Compute count arities (expr_of names value) (form_of of) bound ∙ scoped names decls sorts value scope bound (computed_sort of) covers met.1 h,
    covers-more names scope bound name (computed_sort of) covers,
  )
  part-scoped number scope bound (part.Field f) covers met h =
      let field = field-scoped number scope bound f covers met h in
      (field.0, field.1, covers-more names scope bound f.name (type_sort sorts f.of) covers)

  parts-scoped : (number : ℕ) (scope : SortScope) (bound : List ℕ) (parts : List PartTree) → Covers names scope bound → AllKnown (flat_map in_part parts) → AreParts decls sorts number scope parts
      → (list_all (λ (part : Part). name_there count part.name) (map (part_of names ambient) parts) ≡ true)
      × (parts_in (map (binding_of count arities) (map (part_of names ambient) parts)) bound ≡ true)
  parts-scoped number scope bound [] covers met h = (refl, refl)
  parts-scoped number scope bound (p ∷ parts) covers met h =
      let here = part-scoped number scope bound p covers (each-left (Known names) (in_part p) (flat_map in_part parts) met) h.0 in
      let later = parts-scoped number (behind decls sorts number p scope) (bind_name (part_of names ambient p).name bound) parts here.2
      (each-right (Known names) (in_part p) (flat_map in_part parts) met) h.1 in (
        and_from (name_there count (part_of names ambient p).name) _ here.0 later.0,
        and_from (in_scope count arities (part_of names ambient p).term bound) _ here.1 later.1,
      )

  struct-scoped : (number : ℕ) (scope : SortScope) (bound : List ℕ) (s : Struct) → Covers names scope bound → AllKnown (in_struct s) → IsStruct decls sorts number scope s
      → Fits (struct_of names ambient s) bound
  unfolding struct_of in_struct
  struct-scoped number scope bound s covers met h =
      let parts = map (part_of names ambient) s.parts in
      let inside = parts-scoped number scope bound s.parts covers (each-left (Known names) (flat_map in_part s.parts) (in_where s.condition) met) h.1 in
      where-scoped (term.Struct parts) s.condition scope bound (plain (form.Struct number)) covers (each-right (Known names) (flat_map in_part s.parts) (in_where s.condition) met) h.2
      (in-Struct count arities parts bound
      ∙ and_from (list_all (λ (part : Part). name_there count part.name) parts) (parts_in (map (binding_of count arities) parts) bound) inside.0 inside.1)

  arms-scoped : (number : ℕ) (scope : SortScope) (bound : List ℕ) (branches : List Branch) → Covers names scope bound → AllKnown (flat_map in_branch branches)
      → Each (IsBranch decls sorts number scope) branches → list_all (λ (arm : Arm). arm_in count arities arm bound) (map (arm_of names ambient) branches) ≡ true
  unfolding arm_of
  arms-scoped number scope bound [] covers met h = refl
  arms-scoped number scope bound (f ∷ branches) covers met h =
      let field = field-scoped number scope bound f covers (each-left (Known names) (in_branch f) (flat_map in_branch branches) met) h.0 in
      and_from (nat_lt (number_of names f.name) count && in_scope count arities (field_of names ambient f) bound) _
      (and_from (nat_lt (number_of names f.name) count) (in_scope count arities (field_of names ambient f) bound) field.0 field.1)
      (arms-scoped number scope bound branches covers (each-right (Known names) (in_branch f) (flat_map in_branch branches) met) h.1)

  case-scoped : (number : ℕ) (scope : SortScope) (bound : List ℕ) (f : Branch) → Covers names scope bound → AllKnown (in_branch f) → IsBranch decls sorts number scope f
      → (nat_lt (number_of names f.name) count && in_scope count arities (field_of names ambient f) bound) ≡ true
  case-scoped number scope bound f covers met h =
      let field = field-scoped number scope bound f covers met h in
      and_from (nat_lt (number_of names f.name) count) (in_scope count arities (field_of names ambient f) bound) field.0 field.1

  cases-scoped : (number : ℕ) (scope : SortScope) (bound : List ℕ) (cases : List CaseTree) (default : Option Branch) → Covers names scope bound
      → AllKnown (flat_map in_case cases ++ in_default default)
      → Each (IsBranch decls sorts number scope) (map (λ (c : CaseTree). c.branch) cases ++ if_default default)
      → list_all (λ (case : Case). case_in count arities case bound) (map (case_of names ambient) cases ++ default_of names ambient default) ≡ true
  unfolding case_of arm_of in_case in_default
  cases-scoped number scope bound [] None covers met h = refl
  cases-scoped number scope bound [] (Some f) covers met h =
      and_from (nat_lt (number_of names f.name) count && in_scope count arities (field_of names ambient f) bound) true (case-scoped number scope bound f covers met h.0) refl
  cases-scoped number scope bound (c ∷ cases) default covers met h =
      let split : AllKnown (in_branch c.branch ++ (flat_map in_case cases ++ in_default default)) =
      subst AllKnown (append_assoc (in_branch c.branch) (flat_map in_case cases) (in_default default)) met in
      and_from (nat_lt (number_of names (c.branch).name) count && in_scope count arities (field_of names ambient c.branch) bound) _
      (case-scoped number scope bound c.branch covers (each-left (Known names) (in_branch c.branch) (flat_map in_case cases ++ in_default default) split) h.0)
      (cases-scoped number scope bound cases default covers (each-right (Known names) (in_branch c.branch) (flat_map in_case cases ++ in_default default) split) h.1)

  chosen-scoped : (number : ℕ) (scope : SortScope) (bound : List ℕ) (s : Switch) → Covers names scope bound → AllKnown (in_expr s.value) → Chooses decls sorts number scope s.value s.cases
      → expr_in_scope count (expr_of names s.value) bound ≡ true
  chosen-scoped number scope bound s covers met h =
      ⊎_elim (λ h. scoped names decls sorts s.value scope bound _ covers met h.0) (λ h. scoped names decls sorts s.value scope bound _ covers met h.0) h

  union-scoped : (number : ℕ) (scope : SortScope) (bound : List ℕ) (u : Union) → Covers names scope bound → AllKnown (in_union u) → IsUnion decls sorts number scope u
      → Fits (union_of names ambient u) bound
  unfolding union_of switch_of in_union in_switch
  union-scoped number scope bound (union.Branches branches) covers met h =
      in-Alt count arities (map (arm_of names ambient) branches) bound ∙ arms-scoped number scope bound branches covers met h.2
  union-scoped number scope bound (union.Pswitch s) covers met' h =
      let cases = map (case_of names ambient) s.cases ++ default_of names ambient s.default in
      let inside = flat_map in_case s.cases ++ in_default s.default in
      let met : AllKnown (in_expr s.value ++ inside) = subst AllKnown (append_assoc (in_expr s.value) (flat_map in_case s.cases) (in_default s.default)) met' in
      in-Switch count arities (expr_of names s.value) cases bound
      ∙ and_from (expr_in_scope count (expr_of names s.value) bound) (list_all (λ (case : Case). case_in count arities case bound) cases)
      (chosen-scoped number scope bound s covers (each-left (Known names) (in_expr s.value) inside met) h.1)
      (cases-scoped number scope bound s.cases s.default covers (each-right (Known names) (in_expr s.value) inside met) h.2)

  -- arrays
  separators-scoped : (o : Option (List ℕ)) (bound : List ℕ) → option_term_in count arities (option_map (λ points. term.Absorb (text_of ambient points)) o) bound ≡ true
  separators-scoped None bound = refl
  separators-scoped (Some points) bound = in-Absorb count arities (text_of ambient points) bound ∙ literal-scoped (literal.Word points) bound

  terminators-scoped : (o : Option Literal) (bound : List ℕ) → option_term_in count arities (option_map (literal_of ambient) o) bound ≡ true
  terminators-scoped None bound = refl
  terminators-scoped (Some l) bound = literal-scoped l bound

  size-scoped : (scope : SortScope) (bound : List ℕ) (size : Option ExprTree) → Covers names scope bound → AllKnown (in_option size) → IfThere (IsNumber decls sorts scope) size
      → option_in_scope count (option_of names size) bound ≡ true
  unfolding in_option
  size-scoped scope bound None covers met h = refl
  size-scoped scope bound (Some e) covers met h = scoped names decls sorts e scope bound num covers met h

  abbrev Lasts : List ℕ → ExprTree → Type 0
  Lasts bound e = expr_in_scope count (expr_of names e) bound ≡ true

  options-scoped : (number : ℕ) (scope : SortScope) (bound : List ℕ) (options : List ArrayOption) → Covers names scope bound → AllKnown (flat_map in_array_option options)
      → Each (IsOption decls sorts number scope) options → Each (λ o. IfThere (Lasts (number_of names at_sign ∷ bound)) (last o)) options
  unfolding in_array_option
  options-scoped number scope bound [] covers met h = tt
  options-scoped number scope bound (option.Psep points ∷ options) covers met h = (tt, options-scoped number scope bound options covers met h.1)
  options-scoped number scope bound (option.Pterm l ∷ options) covers met h = (tt, options-scoped number scope bound options covers met h.1)
  options-scoped number scope bound (option.Plast e ∷ options) covers met h = (
    scoped names decls sorts e ((at_sign, plain (form.Array number)) ∷ scope) (number_of names at_sign ∷ bound) _
        (covers-more names scope bound at_sign (plain (form.Array number)) covers) (each-left (Known names) (in_expr e) (flat_map in_array_option options) met) h.0,
    options-scoped number scope bound options covers (each-right (Known names) (in_expr e) (flat_map in_array_option options) met) h.1,
  )

  last-scoped : (o : Option ExprTree) (bound : List ℕ) → IfThere (Lasts bound) o → option_in_scope count (option_of names o) bound ≡ true
  last-scoped None bound h = refl
  last-scoped (Some e) bound h = h

  array-scoped : (number : ℕ) (scope : SortScope) (bound : List ℕ) (a : Array) → Covers names scope bound → AllKnown (in_array a) → IsArray decls sorts number scope a
      → Fits (array_of names ambient a) bound
  unfolding array_of seq_of in_array
  array-scoped number scope bound a covers met h =
      let s = seq_of names ambient a in
      let options = flat_map in_array_option a.options in
      let condition = in_option a.condition in
      let so_many = at_sign ∷ in_option a.size in
      let conditions = each-right (Known names) (in_type a.of ++ so_many ++ options) condition met in
      let front = each-left (Known names) (in_type a.of ++ so_many ++ options) condition met in
      let lasts_met = each-right (Known names) (in_type a.of ++ so_many) options front in
      let sized = each-left (Known names) (in_type a.of ++ so_many) options front in
      let inside = each-right (Known names) (in_type a.of) so_many sized in
      let lasts = options-scoped number scope bound a.options covers lasts_met h.2 in
      constrained-scoped (term.Seq s) at_sign a.condition scope bound (plain (form.Array number)) covers inside.0
      conditions h.3
      (in-Seq count arities s bound
      ∙ and_from (in_scope count arities s.elem bound && option_term_in count arities s.sep bound && option_term_in count arities s.stop bound && nat_lt s.elts count
      && option_in_scope count s.size bound) (option_in_scope count s.last (s.elts ∷ bound))
      (and_from (in_scope count arities s.elem bound && option_term_in count arities s.sep bound && option_term_in count arities s.stop bound && nat_lt s.elts count) (option_in_scope count s.size bound)
      (and_from (in_scope count arities s.elem bound && option_term_in count arities s.sep bound && option_term_in count arities s.stop bound) (nat_lt s.elts count)
      (and_from (in_scope count arities s.elem bound && option_term_in count arities s.sep bound) (option_term_in count arities s.stop bound)
      (and_from (in_scope count arities s.elem bound) (option_term_in count arities s.sep bound)
      (type-scoped number scope bound a.of covers (each-left (Known names) (in_type a.of) so_many sized) h.0)
      (separators-scoped (first separator a.options) bound))
      (terminators-scoped (first terminator a.options) bound))
      (number-below names at_sign inside.0))
      (size-scoped scope bound a.size covers inside.1 h.1))
      (last-scoped (first last a.options) (number_of names at_sign ∷ bound) (first-holds (Lasts (number_of names at_sign ∷ bound)) last a.options lasts)))

  -- bodies
  typedef-scoped : (scope : SortScope) (bound : List ℕ) (inner : Term) (sort : Sort) (constraint : Option Constraint) → Covers names scope bound → AllKnown (in_constraint constraint)
      → IfThere (λ c. IsTruth decls sorts ((c.variable, sort) ∷ scope) c.condition) constraint → Fits inner bound → Fits (constrained_type names inner constraint) bound
  unfolding in_constraint
  typedef-scoped scope bound inner sort None covers met h fits = fits
  typedef-scoped scope bound inner sort (Some c) covers met h fits = guard-scoped inner c.variable c.condition scope bound sort covers met.0 met.1 h fits

  body-scoped : (number : ℕ) (scope : SortScope) (bound : List ℕ) (inner : DeclBody) → Covers names scope bound → AllKnown (in_body inner) → IsBody decls sorts number scope inner
      → Fits (body_of names ambient inner) bound
  unfolding body_of in_body in_typedef
  body-scoped number scope bound (body.Struct s) covers met h = struct-scoped number scope bound s covers met h
  body-scoped number scope bound (body.Union u) covers met h = union-scoped number scope bound u covers met h
  body-scoped number scope bound (body.Array a) covers met h = array-scoped number scope bound a covers met h
  body-scoped number scope bound (body.Enum labels) covers met h = in-Base count arities (base.Enum ambient (map label_of labels)) [] bound
  body-scoped number scope bound (body.Typedef t) covers met h =
      typedef-scoped scope bound (type_of names ambient t.of) (type_sort sorts t.of) t.constraint covers (each-right (Known names) (in_type t.of) (in_constraint t.constraint) met) h.1
      (type-scoped number scope bound t.of covers (each-left (Known names) (in_type t.of) (in_constraint t.constraint) met) h.0)
  body-scoped number scope bound (body.Opt inner) covers met h =
      optional-scoped (type_of names ambient inner) bound met.0 met.1.0 (type-scoped number scope bound inner covers met.1.1 h)

  read-scoped : (number : ℕ) (scope : SortScope) (bound : List ℕ) (role : Role) (inner : DeclBody) → Covers names scope bound → AllKnown (in_read_body role inner)
      → IfThere (IsBody decls sorts number scope) (if_read role inner) → Fits (read_body names ambient role inner) bound
  unfolding read_body in_read_body
  read-scoped number scope bound role.Part inner covers met h = body-scoped number scope bound inner covers met h
  read-scoped number scope bound role.Precord inner covers met h = body-scoped number scope bound inner covers met h
  read-scoped number scope bound role.Source inner covers met h = in-Unit count arities bound

  -- parameters
  abbrev name_number : Param → ℕ
  name_number param = number_of names param.name

  abbrev Bound : List ℕ → Param → Type 0
  Bound bound param = is_bound (name_number param) bound ≡ true

  params-bound : (params : List Param) → Each (Bound (map name_number params)) params
  params-bound [] = tt
  params-bound (param ∷ params) = (
    ap (λ b. b || is_bound (name_number param) (map name_number params)) (eq-eqb (name_number param) (name_number param) refl),
    each-weaker (Bound (map name_number params)) (Bound (name_number param ∷ map name_number params))
        (λ other h. or_right (nat_eq (name_number other) (name_number param)) (is_bound (name_number other) (map name_number params)) h) params (params-bound params),
  )

  params-cover : (params : List Param) (scope : SortScope) (bound : List ℕ) → Covers names scope bound → Each (Bound bound) params → Covers names (params_scope params scope) bound
  params-cover [] scope bound covers all = covers
  params-cover (param ∷ params) scope bound covers all =
      params-cover params ((param.name, param.sort) ∷ scope) bound (covers-also names scope bound param.name param.sort covers all.0) all.1

  nothing-covers : (bound : List ℕ) → Covers names [] bound
  nothing-covers bound name sort is = cc

  params-below : (params : List Param) → AllKnown (map (λ (param : Param). param.name) params) → list_all (λ name. nat_lt name count) (map name_number params) ≡ true
  params-below [] met = refl
  params-below (param ∷ params) met = and_from (nat_lt (name_number param) count) _ (number-below names param.name met.0) (params-below params met.1)

  pub decl-scoped : (number : ℕ) (d : DeclTree) → AllKnown (in_decl d) → IsDecl decls sorts number d → decl_in_scope count arities (decl_of names ambient d) ≡ true
  unfolding decl_of in_decl
  decl-scoped number d met h =
      let params = map name_number d.params in
      let given = map (λ (param : Param). param.name) d.params in
      and_from (nat_lt (number_of names d.name) count && list_all (λ name. nat_lt name count) params) (in_scope count arities (read_body names ambient d.role d.body) params)
      (and_from (nat_lt (number_of names d.name) count) (list_all (λ name. nat_lt name count) params) (number-below names d.name met.0)
      (params-below d.params (each-left (Known names) given (in_read_body d.role d.body) met.1)))
      (read-scoped number (params_scope d.params []) params d.role d.body (params-cover d.params [] params (nothing-covers params) (params-bound d.params))
      (each-right (Known names) given (in_read_body d.role d.body) met.1) h.2)
