-- 16 bits count what the term of each form has.
use Rattle.std.proofs.Common.{◌≡◌, ◌∙◌, sym, ap, refl, ℕ, suc, true, ◌&&◌, nat_le, List, [], ◌∷◌, ◌++◌, map, length, Option, Some, None, option_map}
use Rattle.std.specs.List.{list_all}
use Rattle.std.proofs.lemmas.List.{length-map}
use Rattle.std.proofs.lemmas.Bool.{and_from}
use Rattle.pads_module.specs.Counts.{few, most, counts_fit, option_counts, decl_counts, module_counts}
use Rattle.pads_calc.specs.declared.term.Arm.{Arm}
use Rattle.pads_calc.specs.declared.term.Case.{Case}
use Rattle.pads_calc.specs.declared.term.Part.{Part}
use Rattle.pads_calc.specs.declared.term.Term.{Term}
use Rattle.pads_calc.specs.declared.term.Term.TheVariants as term
use Rattle.pads_module.proofs.CountRolls.{counts-Unit, counts-Base, counts-Lit, counts-Eor, counts-Struct, counts-Alt, counts-Switch, counts-Guard, counts-Seq, counts-Call, counts-Compute, counts-Absorb, counts-Scan}
use Rattle.pads_code.specs.declared.Coding.{Coding}
use Rattle.pads_dispatch.specs.Labels.{labels_fit}
use Rattle.pads_dispatch.specs.declared.base.Base.TheVariants as base
use Rattle.pads_expr.specs.declared.expr.Expr.{Expr}
use Rattle.pads_rules.specs.declared.sort.Sort.{Sort}
use Rattle.pads_base_names.specs.declared.meaning.BaseName.{BaseName}
use Rattle.pads_base_names.specs.declared.meaning.BaseName.TheVariants as base_name
use Rattle.pads_resolution.specs.declared.decl.Array.{Array}
use Rattle.pads_resolution.specs.declared.decl.Case.{Case as CaseTree}
use Rattle.pads_resolution.specs.declared.decl.Constraint.{Constraint}
use Rattle.pads_resolution.specs.declared.decl.Decl.{Decl as DeclTree}
use Rattle.pads_resolution.specs.declared.decl.DeclBody.{DeclBody}
use Rattle.pads_resolution.specs.declared.decl.DeclBody.TheVariants as body
use Rattle.pads_resolution.specs.declared.decl.Description.{Description}
use Rattle.pads_resolution.specs.declared.decl.Label.{Label}
use Rattle.pads_resolution.specs.declared.decl.Part.{Part as PartTree}
use Rattle.pads_resolution.specs.declared.decl.Part.TheVariants as part
use Rattle.pads_resolution.specs.declared.decl.Role.{Role}
use Rattle.pads_resolution.specs.declared.decl.Role.TheVariants as role
use Rattle.pads_resolution.specs.declared.decl.Struct.{Struct}
use Rattle.pads_resolution.specs.declared.decl.Union.{Union}
use Rattle.pads_resolution.specs.declared.decl.Union.TheVariants as union
use Rattle.pads_resolution.specs.declared.expr.Expr.{Expr as ExprTree}
use Rattle.pads_resolution.specs.declared.types.Branch.{Branch}
use Rattle.pads_resolution.specs.declared.types.Literal.{Literal}
use Rattle.pads_resolution.specs.declared.types.Literal.TheVariants as literal
use Rattle.pads_resolution.specs.declared.types.«Type».{«Type» as Typed}
use Rattle.pads_resolution.specs.declared.types.TypeName.{TypeName}
use Rattle.pads_resolution.specs.declared.types.TypeName.TheVariants as type_name
use Rattle.pads_trans.specs.Modules.{module_of}
use Rattle.pads_trans.specs.Terms.{base_of, text_of, literal_of, form_of, label_of, enum_of, first, separator, terminator, named_type, constrained, constrained_type, some_arm, none_arm, optional, bare_type, type_of, field_of, part_of, struct_of, arm_of, case_of, default_of, switch_of, union_of, seq_of, array_of, body_of, read_body, decl_of}
use Rattle.pads_trans.specs.Expressions.{expr_of}
use Rattle.pads_trans.specs.Met.{names_of}
use Rattle.pads_trans.specs.Names.{Name, at_sign, number_of}
use Rattle.law_descriptions.specs.Expressions.{SortScope, if_read, if_default, union_branches}
use Rattle.law_descriptions.specs.WellSorted.{IfThere, IsBody, IsDecl, WellSorted, params_scope}
use Rattle.law_descriptions.proofs.Lists.{either-one, mapped-there, all-at}

-- a list has as many items when it's mapped
mapped-few : {A B : Type 0} (f : A → B) (xs : List A) → few xs ≡ true → few (map f xs) ≡ true
mapped-few f xs h = ap (λ n. nat_le n most) (length-map xs f) ∙ h

module _ (names : List Name) (ambient : Coding) where
  abbrev Fits : Term → Type 0
  Fits t = counts_fit t ≡ true

  base-labels : (b : BaseName) (args : List Expr) → labels_fit (base_of ambient b args) ≡ true
  base-labels (base_name.Int prefix kind) args = refl
  base-labels (base_name.IntFw prefix kind) args = refl
  base-labels (base_name.Bin kind) args = refl
  base-labels (base_name.SizedBin order kind) args = refl
  base-labels (base_name.Until prefix) [] = refl
  base-labels (base_name.Until prefix) (stop ∷ more) = refl
  base-labels (base_name.Fixed prefix) args = refl
  base-labels (base_name.Class prefix) args = refl
  base-labels (base_name.Char prefix) args = refl
  base-labels (base_name.Ip prefix) args = refl
  base-labels (base_name.Packed signed) args = refl
  base-labels (base_name.Zoned signed) args = refl

  named-fits : (name : TypeName) (args : List Expr) → Fits (named_type ambient name args)
  named-fits (type_name.Base b) args = counts-Base (base_of ambient b args) args ∙ base-labels b args
  named-fits (type_name.Declared n) args = counts-Call n args

  optional-fits : (inner : Term) → Fits inner → Fits (optional names inner)
  unfolding optional
  optional-fits inner h =
      counts-Alt (some_arm names inner ∷ none_arm names ∷ [])
      ∙ and_from (counts_fit inner) (counts_fit term.Unit && true) h (ap (λ b. b && true) counts-Unit)

  type-fits : (t : Typed) → Fits (type_of names ambient t)
  unfolding type_of bare_type
  type-fits t =
      let bare = named-fits t.name (map (expr_of names) t.args) in
      either-one Fits t.optional (optional names (bare_type names ambient t)) (bare_type names ambient t) (optional-fits (bare_type names ambient t) bare) bare

  constrained-fits : (inner : Term) (name : Name) (condition : Option ExprTree) → Fits inner → Fits (constrained names inner name condition)
  constrained-fits inner name None h = h
  constrained-fits inner name (Some e) h = counts-Guard inner (number_of names name) (expr_of names e) ∙ h

  field-fits : (f : Branch) → Fits (field_of names ambient f)
  unfolding field_of
  field-fits f = constrained-fits (type_of names ambient f.of) f.name f.constraint (type-fits f.of)

  literal-fits : (l : Literal) → Fits (literal_of ambient l)
  literal-fits (literal.Word points) = counts-Lit _
  literal-fits literal.Peor = counts-Eor

  part-fits : (p : PartTree) → Fits (part_of names ambient p).term
  unfolding part_of
  part-fits (part.Literal l) = counts-Scan (term.Absorb (literal_of ambient l)) ∙ counts-Absorb (literal_of ambient l) ∙ literal-fits l
  part-fits (part.Pcompute of name value) = counts-Compute (expr_of names value) (form_of of)
  part-fits (part.Field f) = field-fits f

  parts-fit : (parts : List PartTree) → list_all (λ (part : Part). counts_fit part.term) (map (part_of names ambient) parts) ≡ true
  parts-fit [] = refl
  parts-fit (p ∷ parts) = and_from (counts_fit (part_of names ambient p).term) _ (part-fits p) (parts-fit parts)

  struct-fits : (s : Struct) → few s.parts ≡ true → Fits (struct_of names ambient s)
  unfolding struct_of
  struct-fits s h =
      let parts = map (part_of names ambient) s.parts in
      constrained-fits (term.Struct parts) at_sign s.condition
      (counts-Struct parts ∙ and_from (few parts) (list_all (λ (part : Part). counts_fit part.term) parts) (mapped-few (part_of names ambient) s.parts h) (parts-fit s.parts))

  arms-fit : (branches : List Branch) → list_all (λ (arm : Arm). counts_fit arm.term) (map (arm_of names ambient) branches) ≡ true
  unfolding arm_of
  arms-fit [] = refl
  arms-fit (f ∷ branches) = and_from (counts_fit (field_of names ambient f)) _ (field-fits f) (arms-fit branches)

  cases-fit : (cases : List CaseTree) (default : Option Branch) → list_all (λ (case : Case). counts_fit case.arm.term) (map (case_of names ambient) cases ++ default_of names ambient default) ≡ true
  unfolding case_of arm_of
  cases-fit [] None = refl
  cases-fit [] (Some f) = and_from (counts_fit (field_of names ambient f)) true (field-fits f) refl
  cases-fit (c ∷ cases) default = and_from (counts_fit (field_of names ambient c.branch)) _ (field-fits c.branch) (cases-fit cases default)

  -- there are as many cases as branches
  cases-count : (cases : List CaseTree) (default : Option Branch)
      → length (map (case_of names ambient) cases ++ default_of names ambient default) ≡ length (map (λ (c : CaseTree). c.branch) cases ++ if_default default)
  cases-count [] None = refl
  cases-count [] (Some f) = refl
  cases-count (c ∷ cases) default = ap (λ n. suc n) (cases-count cases default)

  union-fits : (u : Union) → few (union_branches u) ≡ true → Fits (union_of names ambient u)
  unfolding union_of switch_of
  union-fits (union.Branches branches) h =
      let arms = map (arm_of names ambient) branches in
      counts-Alt arms ∙ and_from (few arms) (list_all (λ (arm : Arm). counts_fit arm.term) arms) (mapped-few (arm_of names ambient) branches h) (arms-fit branches)
  union-fits (union.Pswitch s) h =
      let cases = map (case_of names ambient) s.cases ++ default_of names ambient s.default in
      counts-Switch (expr_of names s.value) cases
      ∙ and_from (few cases) (list_all (λ (case : Case). counts_fit case.arm.term) cases) (ap (λ n. nat_le n most) (cases-count s.cases s.default) ∙ h) (cases-fit s.cases s.default)

  separators-fit : (o : Option (List ℕ)) → option_counts (option_map (λ points. term.Absorb (text_of ambient points)) o) ≡ true
  separators-fit None = refl
  separators-fit (Some points) = counts-Absorb (text_of ambient points) ∙ literal-fits (literal.Word points)

  terminators-fit : (o : Option Literal) → option_counts (option_map (literal_of ambient) o) ≡ true
  terminators-fit None = refl
  terminators-fit (Some l) = literal-fits l

  array-fits : (a : Array) → Fits (array_of names ambient a)
  unfolding array_of seq_of
  array-fits a =
      let s = seq_of names ambient a in
      constrained-fits (term.Seq s) at_sign a.condition
      (counts-Seq s
      ∙ and_from (counts_fit s.elem && option_counts s.sep) (option_counts s.stop)
      (and_from (counts_fit s.elem) (option_counts s.sep) (type-fits a.of) (separators-fit (first separator a.options)))
      (terminators-fit (first terminator a.options)))

  enum-fits : (labels : List Label) → few labels ≡ true → Fits (enum_of ambient labels)
  enum-fits labels h = counts-Base (base.Enum ambient (map label_of labels)) [] ∙ mapped-few label_of labels h

  typedef-fits : (inner : Term) (constraint : Option Constraint) → Fits inner → Fits (constrained_type names inner constraint)
  typedef-fits inner None h = h
  typedef-fits inner (Some c) h = constrained-fits inner c.variable (Some c.condition) h

  module _ (decls : List DeclTree) (sorts : List Sort) (number : ℕ) (scope : SortScope) where
    body-fits : (inner : DeclBody) → IsBody decls sorts number scope inner → Fits (body_of names ambient inner)
    unfolding body_of
    body-fits (body.Struct s) h = struct-fits s h.0
    body-fits (body.Union u) h = union-fits u h.0
    body-fits (body.Array a) h = array-fits a
    body-fits (body.Enum labels) h = enum-fits labels h.0
    body-fits (body.Typedef t) h = typedef-fits (type_of names ambient t.of) t.constraint (type-fits t.of)
    body-fits (body.Opt inner) h = optional-fits (type_of names ambient inner) (type-fits inner)

    read-fits : (role : Role) (inner : DeclBody) → IfThere (IsBody decls sorts number scope) (if_read role inner) → Fits (read_body names ambient role inner)
    unfolding read_body
    read-fits role.Part inner h = body-fits inner h
    read-fits role.Precord inner h = body-fits inner h
    read-fits role.Source inner h = counts-Unit

  decl-fits : (decls : List DeclTree) (sorts : List Sort) (number : ℕ) (d : DeclTree) → IsDecl decls sorts number d → decl_counts (decl_of names ambient d) ≡ true
  unfolding decl_of
  decl-fits decls sorts number d h =
      and_from (few (map (λ param. number_of names param.name) d.params)) (counts_fit (read_body names ambient d.role d.body))
      (mapped-few (λ param. number_of names param.name) d.params h.0)
      (read-fits decls sorts number (params_scope d.params []) d.role d.body h.2)

pub module-counts : (d : Description) (ambient : Coding) → WellSorted d → module_counts (module_of d ambient).decls ≡ true
module-counts d ambient well =
    let names = names_of d in
    and_from (few (map (decl_of names ambient) d.decls)) (list_all decl_counts (map (decl_of names ambient) d.decls))
    (mapped-few (decl_of names ambient) d.decls well.few_decls)
    (all-at decl_counts (map (decl_of names ambient) d.decls) (λ n made there.
    let tree = mapped-there (decl_of names ambient) d.decls n made there in
    ap decl_counts (sym tree.2) ∙ decl-fits names ambient d.decls well.sorts n tree.0 (well.decls n tree.0 tree.1)))
