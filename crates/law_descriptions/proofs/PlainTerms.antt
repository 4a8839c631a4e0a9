-- The term of each form of a well-sorted description is plain.
use Rattle.std.proofs.Common.{sym, subst, ℕ, List, [], ◌∷◌, ◌++◌, map, Option, Some, None, option_map}
use Rattle.pads_calc.specs.declared.decl.Decl.{Decl}
use Rattle.pads_calc.specs.declared.term.Term.{Term, Term-F, out-Term}
use Rattle.pads_calc.specs.declared.term.Term.TheVariants as term
use Rattle.pads_code.specs.declared.Coding.{Coding}
use Rattle.pads_dispatch.specs.declared.base.Base.TheVariants as base
use Rattle.pads_expr.specs.declared.expr.Expr.{Expr}
use Rattle.pads_rules.specs.declared.sort.Sort.{Sort}
use Rattle.pads_base_names.specs.declared.meaning.BaseName.{BaseName}
use Rattle.pads_base_names.specs.declared.meaning.BaseName.TheVariants as base_name
use Rattle.pads_resolution.specs.declared.decl.Array.{Array}
use Rattle.pads_resolution.specs.declared.decl.Case.{Case as CaseTree}
use Rattle.pads_resolution.specs.declared.decl.Constraint.{Constraint}
use Rattle.pads_resolution.specs.declared.decl.Decl.{Decl as DeclTree}
use Rattle.pads_resolution.specs.declared.decl.DeclBody.{DeclBody}
use Rattle.pads_resolution.specs.declared.decl.DeclBody.TheVariants as body
use Rattle.pads_resolution.specs.declared.decl.Description.{Description}
use Rattle.pads_resolution.specs.declared.decl.Part.{Part as PartTree}
use Rattle.pads_resolution.specs.declared.decl.Part.TheVariants as part
use Rattle.pads_resolution.specs.declared.decl.Role.{Role}
use Rattle.pads_resolution.specs.declared.decl.Role.TheVariants as role
use Rattle.pads_resolution.specs.declared.decl.Struct.{Struct}
use Rattle.pads_resolution.specs.declared.decl.Union.{Union}
use Rattle.pads_resolution.specs.declared.decl.Union.TheVariants as union
use Rattle.pads_resolution.specs.declared.expr.Expr.{Expr as ExprTree}
use Rattle.pads_resolution.specs.declared.types.Branch.{Branch}
use Rattle.pads_resolution.specs.declared.types.Literal.{Literal}
use Rattle.pads_resolution.specs.declared.types.Literal.TheVariants as literal
use Rattle.pads_resolution.specs.declared.types.«Type».{«Type» as Typed}
use Rattle.pads_resolution.specs.declared.types.TypeName.{TypeName}
use Rattle.pads_resolution.specs.declared.types.TypeName.TheVariants as type_name
use Rattle.law_calculus.specs.Plain.{IsPlain, Plain, HasPlainLabels, IsMark, IsAbsorb, IsSeparator}
use Rattle.law_calculus.specs.Terms.{if_there}
use Rattle.law_calculus.proofs.Layers.{out-Unit, out-Base, out-Lit, out-Eor, out-Struct, out-Alt, out-Switch, out-Guard, out-Seq, out-Call, out-Compute, out-Absorb, out-Scan}
use Rattle.law_calculus.proofs.Made.{Each as AllOf, plain-as}
use Rattle.pads_trans.specs.Modules.{module_of}
use Rattle.pads_trans.specs.Terms.{base_of, text_of, literal_of, form_of, label_of, enum_of, first, separator, terminator, named_type, constrained, constrained_type, some_arm, none_arm, optional, bare_type, type_of, field_of, part_of, struct_of, arm_of, case_of, default_of, switch_of, union_of, seq_of, array_of, body_of, read_body, decl_of}
use Rattle.pads_trans.specs.Expressions.{expr_of}
use Rattle.pads_trans.specs.Met.{names_of}
use Rattle.pads_trans.specs.Names.{Name, at_sign, number_of}
use Rattle.law_descriptions.specs.Expressions.{SortScope, if_read, if_default}
use Rattle.law_descriptions.specs.WellSorted.{Each, IfThere, IsNamed, IsType, IsBranch, IsPart, behind, AreParts, IsStruct, IsUnion, IsArray, IsEnum, IsBody, IsDecl, WellSorted, params_scope}
use Rattle.law_descriptions.proofs.Lists.{all-append, either-one, mapped-there}

module _ (names : List Name) (ambient : Coding) (decls : List DeclTree) (sorts : List Sort) (number : ℕ) where
  abbrev IsPlainTerm : Term → Type 0
  IsPlainTerm = IsPlain

  unit-plain : IsPlainTerm term.Unit
  unit-plain = plain-as term.Unit Term-F.Unit out-Unit tt tt

  -- types
  base-labels : (b : BaseName) (args : List Expr) → HasPlainLabels (base_of ambient b args)
  base-labels (base_name.Int prefix kind) args = tt
  base-labels (base_name.IntFw prefix kind) args = tt
  base-labels (base_name.Bin kind) args = tt
  base-labels (base_name.SizedBin order kind) args = tt
  base-labels (base_name.Until prefix) [] = tt
  base-labels (base_name.Until prefix) (stop ∷ more) = tt
  base-labels (base_name.Fixed prefix) args = tt
  base-labels (base_name.Class prefix) args = tt
  base-labels (base_name.Char prefix) args = tt
  base-labels (base_name.Ip prefix) args = tt
  base-labels (base_name.Packed signed) args = tt
  base-labels (base_name.Zoned signed) args = tt

  named-plain : (scope : SortScope) (given : List ExprTree) (args : List Expr) (name : TypeName) → IsNamed decls sorts number scope given name → IsPlainTerm (named_type ambient name args)
  named-plain scope given args (type_name.Base b) h = plain-as (term.Base (base_of ambient b args) args) (Term-F.Base (base_of ambient b args) args) (out-Base (base_of ambient b args) args) (base-labels b args) tt
  named-plain scope given args (type_name.Declared n) h = plain-as (term.Call n args) (Term-F.Call n args) (out-Call n args) tt tt

  optional-plain : (inner : Term) → IsPlainTerm inner → IsPlainTerm (optional names inner)
  unfolding optional
  optional-plain inner h =
      plain-as (term.Alt (some_arm names inner ∷ none_arm names ∷ [])) (Term-F.Alt (some_arm names inner ∷ none_arm names ∷ [])) (out-Alt (some_arm names inner ∷ none_arm names ∷ []))
      tt (h, (unit-plain, tt))

  type-plain : (scope : SortScope) (t : Typed) → IsType decls sorts number scope t → IsPlainTerm (type_of names ambient t)
  unfolding type_of bare_type
  type-plain scope t h =
      let bare = named-plain scope t.args (map (expr_of names) t.args) t.name h in
      either-one IsPlainTerm t.optional (optional names (bare_type names ambient t)) (bare_type names ambient t) (optional-plain (bare_type names ambient t) bare) bare

  constrained-plain : (inner : Term) (name : Name) (condition : Option ExprTree) → IsPlainTerm inner → IsPlainTerm (constrained names inner name condition)
  constrained-plain inner name None h = h
  constrained-plain inner name (Some e) h =
      plain-as (term.Guard inner (number_of names name) (expr_of names e)) (Term-F.Guard inner (number_of names name) (expr_of names e))
      (out-Guard inner (number_of names name) (expr_of names e)) tt (h, tt)

  -- parts and branches
  field-plain : (scope : SortScope) (f : Branch) → IsBranch decls sorts number scope f → IsPlainTerm (field_of names ambient f)
  unfolding field_of
  field-plain scope f h = constrained-plain (type_of names ambient f.of) f.name f.constraint (type-plain scope f.of h.0)

  literal-plain : (l : Literal) → IsPlainTerm (literal_of ambient l) × IsMark (out-Term (literal_of ambient l))
  literal-plain (literal.Word points) =
      let layer = out-Lit _ in
      (plain-as (text_of ambient points) (Term-F.Lit _) layer tt tt, subst IsMark (sym layer) tt)
  literal-plain literal.Peor = (plain-as term.Eor Term-F.Eor out-Eor tt tt, subst IsMark (sym out-Eor) tt)

  absorbed-plain : (l : Literal) → IsPlainTerm (term.Absorb (literal_of ambient l))
  absorbed-plain l =
      let inner = literal-plain l in
      plain-as (term.Absorb (literal_of ambient l)) (Term-F.Absorb (literal_of ambient l)) (out-Absorb (literal_of ambient l)) inner.1 (inner.0, tt)

  searched-plain : (inner : Term) → IsPlainTerm inner → IsPlainTerm (term.Scan inner)
  searched-plain inner h = plain-as (term.Scan inner) (Term-F.Scan inner) (out-Scan inner) tt (h, tt)

  computed-plain : (e : Expr) (form : _) → IsPlainTerm (term.Compute e form)
  computed-plain e form = plain-as (term.Compute e form) (Term-F.Compute e form) (out-Compute e form) tt tt

  part-plain : (scope : SortScope) (p : PartTree) → IsPart decls sorts number scope p → IsPlainTerm (part_of names ambient p).term
  unfolding part_of
  part-plain scope (part.Literal l) h = searched-plain (term.Absorb (literal_of ambient l)) (absorbed-plain l)
  part-plain scope (part.Pcompute of name value) h = computed-plain (expr_of names value) (form_of of)
  part-plain scope (part.Field f) h = field-plain scope f h

  parts-plain : (scope : SortScope) (parts : List PartTree) → AreParts decls sorts number scope parts → AllOf IsPlainTerm (map (λ part. part.term) (map (part_of names ambient) parts))
  parts-plain scope [] h = tt
  parts-plain scope (p ∷ parts) h = (part-plain scope p h.0, parts-plain (behind decls sorts number p scope) parts h.1)

  struct-plain : (scope : SortScope) (s : Struct) → IsStruct decls sorts number scope s → IsPlainTerm (struct_of names ambient s)
  unfolding struct_of
  struct-plain scope s h =
      let parts = map (part_of names ambient) s.parts in
      constrained-plain (term.Struct parts) at_sign s.condition
      (plain-as (term.Struct parts) (Term-F.Struct parts) (out-Struct parts) tt (parts-plain scope s.parts h.1))

  arms-plain : (scope : SortScope) (branches : List Branch) → Each (IsBranch decls sorts number scope) branches → AllOf IsPlainTerm (map (λ arm. arm.term) (map (arm_of names ambient) branches))
  unfolding arm_of
  arms-plain scope [] h = tt
  arms-plain scope (f ∷ branches) h = (field-plain scope f h.0, arms-plain scope branches h.1)

  cases-plain : (scope : SortScope) (cases : List CaseTree) (default : Option Branch) → Each (IsBranch decls sorts number scope) (map (λ case. case.branch) cases ++ if_default default)
      → AllOf IsPlainTerm (map (λ case. case.arm.term) (map (case_of names ambient) cases ++ default_of names ambient default))
  unfolding case_of arm_of
  cases-plain scope [] None h = tt
  cases-plain scope [] (Some f) h = (field-plain scope f h.0, tt)
  cases-plain scope (c ∷ cases) default h = (field-plain scope c.branch h.0, cases-plain scope cases default h.1)

  union-plain : (scope : SortScope) (u : Union) → IsUnion decls sorts number scope u → IsPlainTerm (union_of names ambient u)
  unfolding union_of switch_of
  union-plain scope (union.Branches branches) h =
      let arms = map (arm_of names ambient) branches in
      plain-as (term.Alt arms) (Term-F.Alt arms) (out-Alt arms) tt (arms-plain scope branches h.2)
  union-plain scope (union.Pswitch s) h =
      let cases = map (case_of names ambient) s.cases ++ default_of names ambient s.default in
      plain-as (term.Switch (expr_of names s.value) cases) (Term-F.Switch (expr_of names s.value) cases) (out-Switch (expr_of names s.value) cases)
      tt (cases-plain scope s.cases s.default h.2)

  -- arrays
  separators-plain : (o : Option (List ℕ)) → AllOf IsPlainTerm (if_there (option_map (λ points. term.Absorb (text_of ambient points)) o))
  separators-plain None = tt
  separators-plain (Some points) = (absorbed-plain (literal.Word points), tt)

  is-separator : (o : Option (List ℕ)) → IsSeparator (option_map (λ points. term.Absorb (text_of ambient points)) o)
  is-separator None = tt
  is-separator (Some points) = subst IsAbsorb (sym (out-Absorb (text_of ambient points))) tt

  terminators-plain : (o : Option Literal) → AllOf IsPlainTerm (if_there (option_map (literal_of ambient) o))
  terminators-plain None = tt
  terminators-plain (Some l) = ((literal-plain l).0, tt)

  array-plain : (scope : SortScope) (a : Array) → IsArray decls sorts number scope a → IsPlainTerm (array_of names ambient a)
  unfolding array_of seq_of
  array-plain scope a h =
      let s = seq_of names ambient a in
      constrained-plain (term.Seq s) at_sign a.condition
      (plain-as (term.Seq s) (Term-F.Seq s) (out-Seq s) (is-separator (first separator a.options))
      (type-plain scope a.of h.0, all-append IsPlainTerm (if_there s.sep) (if_there s.stop) (separators-plain (first separator a.options)) (terminators-plain (first terminator a.options))))

  -- bodies
  enum-plain : (labels : _) → IsEnum decls sorts number labels → IsPlainTerm (enum_of ambient labels)
  enum-plain labels h =
      let b = base.Enum ambient (map label_of labels) in
      plain-as (term.Base b []) (Term-F.Base b []) (out-Base b []) h.1 tt

  typedef-plain : (inner : Term) (constraint : Option Constraint) → IsPlainTerm inner → IsPlainTerm (constrained_type names inner constraint)
  typedef-plain inner None h = h
  typedef-plain inner (Some c) h = constrained-plain inner c.variable (Some c.condition) h

  body-plain : (scope : SortScope) (inner : DeclBody) → IsBody decls sorts number scope inner → IsPlainTerm (body_of names ambient inner)
  unfolding body_of
  body-plain scope (body.Struct s) h = struct-plain scope s h
  body-plain scope (body.Union u) h = union-plain scope u h
  body-plain scope (body.Array a) h = array-plain scope a h
  body-plain scope (body.Enum labels) h = enum-plain labels h
  body-plain scope (body.Typedef t) h = typedef-plain (type_of names ambient t.of) t.constraint (type-plain scope t.of h.0)
  body-plain scope (body.Opt inner) h = optional-plain (type_of names ambient inner) (type-plain scope inner h)

  read-plain : (scope : SortScope) (role : Role) (inner : DeclBody) → IfThere (IsBody decls sorts number scope) (if_read role inner) → IsPlainTerm (read_body names ambient role inner)
  unfolding read_body
  read-plain scope role.Part inner h = body-plain scope inner h
  read-plain scope role.Precord inner h = body-plain scope inner h
  read-plain scope role.Source inner h = unit-plain

  pub decl-plain : (d : DeclTree) → IsDecl decls sorts number d → IsPlainTerm (decl_of names ambient d).body
  unfolding decl_of
  decl-plain d h = read-plain (params_scope d.params []) d.role d.body h.2

pub module-plain : (d : Description) (ambient : Coding) → WellSorted d → Plain (module_of d ambient).decls
module-plain d ambient well number made there =
    let names = names_of d in
    let tree = mapped-there (decl_of names ambient) d.decls number made there in
    subst (λ (made : Decl). IsPlain made.body) tree.2 (decl-plain names ambient d.decls well.sorts number tree.0 (well.decls number tree.0 tree.1))
