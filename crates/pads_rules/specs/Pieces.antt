-- A declaration as the list of its pieces that rules speak of, in the order of the text, each with the names
-- in scope there.
use Rattle.std.specs.Prelude.{ℕ, List, [], ◌∷◌, ◌++◌, map, flat_map, take, Option, Some, None, codes}
use Rattle.std.specs.List.{enumerate_from}
use Rattle.pads_ast.specs.declared.decl.Array.{Array}
use Rattle.pads_ast.specs.declared.decl.ArrayOption.{ArrayOption}
use Rattle.pads_ast.specs.declared.decl.ArrayOption.TheVariants as array_option
use Rattle.pads_ast.specs.declared.decl.Constraint.{Constraint}
use Rattle.pads_ast.specs.declared.decl.Decl.{Decl}
use Rattle.pads_ast.specs.declared.decl.DeclBody.{DeclBody}
use Rattle.pads_ast.specs.declared.decl.DeclBody.TheVariants as decl
use Rattle.pads_ast.specs.declared.decl.Label.{Label}
use Rattle.pads_ast.specs.declared.decl.Part.{Part}
use Rattle.pads_ast.specs.declared.decl.Part.TheVariants as part
use Rattle.pads_ast.specs.declared.decl.Struct.{Struct}
use Rattle.pads_ast.specs.declared.decl.UnionBody.{UnionBody}
use Rattle.pads_ast.specs.declared.decl.UnionBody.TheVariants as union
use Rattle.pads_ast.specs.declared.expr.Expr.{Expr}
use Rattle.pads_ast.specs.declared.name.Word.{Word}
use Rattle.pads_ast.specs.declared.types.Branch.{Branch}
use Rattle.pads_ast.specs.declared.types.Const.{Const}
use Rattle.pads_ast.specs.declared.types.Literal.{Literal}
use Rattle.pads_ast.specs.declared.types.Literal.TheVariants as literal
use Rattle.pads_ast.specs.declared.types.Type.{«Type»}
use Rattle.pads_rules.specs.declared.sort.Form.TheVariants as form
use Rattle.pads_rules.specs.declared.declared.Declared.{Declared}
use Rattle.pads_rules.specs.declared.declared.Named.{Named}
use Rattle.pads_rules.specs.Judging.{Scope, hiding}
use Rattle.pads_rules.specs.Resolving.{Sight, seen_from, declared, type_sort, named, branch_named, param_named}
use Rattle.pads_rules.specs.Sorts.{num, plain}
use Rattle.pads_ast.specs.Trees.{params_of, named_part, part_names, branches_of}

-- A declaration where it stands: the declarations and the declared types of the whole description, and the
-- declaration's number among them, from 0.
pub record Site : Type 0 where
  pub decls : List Decl
  pub env : List Declared
  pub number : ℕ
  pub decl : Decl

abbrev pub sites : List Decl → List Site
sites decls = map (λ numbered. record { decls = decls; env = declared decls; number = numbered.0; decl = numbered.1 }) (enumerate_from 0 decls)

-- The types that are declared before.
abbrev pub earlier : Site → List Declared
earlier site = take site.number site.env

-- What its type names see.
abbrev pub sight : Site → Sight
sight site = seen_from site.env site.number

pub data Piece : Type 0 where
  -- the type of a field, a branch, an element, a typedef or an optional
  Used : Scope → «Type» → Piece
  -- the type of a parameter
  OfParam : «Type» → Piece
  -- a computed field: its type and its value
  Computed : Scope → «Type» → Expr → Piece
  -- a constraint, `Pwhere` or `Plast`
  Condition : Scope → Expr → Piece
  -- the size of an array
  Size : Scope → Expr → Piece
  -- the expression of a switch, and its case constants
  Choice : Scope → Expr → List Const → Piece
  -- a literal, separator, terminator or enum spelling
  Spelled : Word → Piece

-- A scope outside a struct's parts, where no later field is near.
abbrev pub scope_of : List Named → Scope
scope_of names = record { visible = names; later = [] }

abbrev pub conditions : Scope → Option Expr → List Piece
conditions scope None = []
conditions scope (Some e) = Condition scope e ∷ []

abbrev pub literal_pieces : Literal → List Piece
literal_pieces (literal.Word word) = Spelled word ∷ []
literal_pieces (literal.Peor at) = []

-- A part of a struct, where `names` are in scope before it, and `later` are the names of this and the later
-- parts. A field's own constraint sees the field.
abbrev pub part_pieces : Sight → List Named → List (List ℕ) → Part → List Piece
part_pieces types names later (part.Literal l) = literal_pieces l
part_pieces types names later (part.Pcompute of name value) = Computed (record { visible = names; later = later }) of value ∷ []
part_pieces types names later (part.Field branch) =
    Used (record { visible = names; later = later }) branch.of
    ∷ conditions (record { visible = names ++ branch_named types branch ∷ []; later = later }) branch.constraint

abbrev pub texts_of_parts : List Part → List (List ℕ)
texts_of_parts parts = map (λ name. name.text) (flat_map part_names parts)

-- The names in scope behind a part.
abbrev pub names_after : Sight → List Named → Part → List Named
names_after types names p = names ++ map (named types) (named_part p)

abbrev pub parts_pieces : Sight → List Named → List Part → List Piece
parts_pieces types names [] = []
parts_pieces types names (p ∷ parts) =
    part_pieces types names (texts_of_parts (p ∷ parts)) p ++ parts_pieces types (names_after types names p) parts

-- The names in scope behind all parts.
abbrev pub names_after_all : Sight → List Named → List Part → List Named
names_after_all types names parts = names ++ map (named types) (flat_map named_part parts)

abbrev pub struct_pieces : Sight → List Named → Struct → List Piece
struct_pieces types params d =
    parts_pieces types params d.parts ++ conditions (scope_of (names_after_all types params d.parts)) d.condition

-- A branch: its type sees the parameters, its constraint that branch too.
abbrev pub branch_pieces : Sight → List Named → Branch → List Piece
branch_pieces types params branch =
    Used (scope_of params) branch.of ∷ conditions (scope_of (params ++ branch_named types branch ∷ [])) branch.constraint

abbrev pub union_body_pieces : Sight → List Named → UnionBody → List Piece
union_body_pieces types params (union.Branches branches) = flat_map (branch_pieces types params) branches
union_body_pieces types params (union.Switch switch) =
    Choice (scope_of params) switch.value (map (λ case. case.key) switch.cases)
    ∷ flat_map (branch_pieces types params) (branches_of (union.Switch switch))

-- In the conditions of an array its elements so far and their number hide other names.
abbrev pub array_scope : List Named → ℕ → Scope
array_scope params number =
    hiding (codes "elts") (plain (form.Array number)) (hiding (codes "length") num (scope_of params))

abbrev pub option_pieces : Scope → ArrayOption → List Piece
option_pieces scope (array_option.Psep at separator) = Spelled separator ∷ []
option_pieces scope (array_option.Pterm at terminator) = literal_pieces terminator
option_pieces scope (array_option.Plast at condition) = Condition scope condition ∷ []

abbrev pub sizes : Scope → Option Expr → List Piece
sizes scope None = []
sizes scope (Some e) = Size scope e ∷ []

abbrev pub array_pieces : ℕ → List Named → Array → List Piece
array_pieces number params d =
    Used (scope_of params) d.of
    ∷ (sizes (scope_of params) d.size ++ flat_map (option_pieces (array_scope params number)) d.options
    ++ conditions (array_scope params number) d.condition)

abbrev pub label_pieces : Label → List Piece
label_pieces label = spelled label.spelling
  where
    spelled : Option Word → List Piece
    spelled None = []
    spelled (Some word) = Spelled word ∷ []

-- In a typedef's constraint its variable hides other names; it has the type's sort.
abbrev pub constraint_pieces : Sight → List Named → «Type» → Option Constraint → List Piece
constraint_pieces types params of None = []
constraint_pieces types params of (Some constraint) =
    Condition (hiding constraint.variable.text (type_sort types of) (scope_of params)) constraint.condition ∷ []

abbrev pub body_pieces : Sight → ℕ → List Named → DeclBody → List Piece
body_pieces types number params (decl.Struct d) = struct_pieces types params d
body_pieces types number params (decl.Union d) = union_body_pieces types params d.body
body_pieces types number params (decl.Array d) = array_pieces number params d
body_pieces types number params (decl.Enum d) = flat_map label_pieces d.labels
body_pieces types number params (decl.Typedef d) = Used (scope_of params) d.of ∷ constraint_pieces types params d.of d.constraint
body_pieces types number params (decl.Opt d) = Used (scope_of params) d.of ∷ []

abbrev pub pieces : Site → List Piece
pieces site =
    map (λ param. OfParam param.of) (params_of site.decl.body)
    ++ body_pieces (sight site) site.number (map (param_named (sight site)) (params_of site.decl.body)) site.decl.body
