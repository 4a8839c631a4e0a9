-- What the bodies of declarations resolve to, behind the names of their parameters.
use Rattle.std.specs.Prelude.{List, [], ◌∷◌, ◌++◌, map, Option, option_map}
use Rattle.pads_ast.specs.declared.decl.Array.{Array as WrittenArray}
use Rattle.pads_ast.specs.declared.decl.ArrayOption.{ArrayOption as WrittenOption}
use Rattle.pads_ast.specs.declared.decl.ArrayOption.TheVariants as written_option
use Rattle.pads_ast.specs.declared.decl.Case.{Case as WrittenCase}
use Rattle.pads_ast.specs.declared.decl.Constraint.{Constraint as WrittenConstraint}
use Rattle.pads_ast.specs.declared.decl.DeclBody.{DeclBody as WrittenBody}
use Rattle.pads_ast.specs.declared.decl.DeclBody.TheVariants as written_body
use Rattle.pads_ast.specs.declared.decl.Label.{Label as WrittenLabel}
use Rattle.pads_ast.specs.declared.decl.Part.{Part as WrittenPart}
use Rattle.pads_ast.specs.declared.decl.Part.TheVariants as written_part
use Rattle.pads_ast.specs.declared.decl.Struct.{Struct as WrittenStruct}
use Rattle.pads_ast.specs.declared.decl.Switch.{Switch as WrittenSwitch}
use Rattle.pads_ast.specs.declared.decl.Typedef.{Typedef as WrittenTypedef}
use Rattle.pads_ast.specs.declared.decl.UnionBody.{UnionBody}
use Rattle.pads_ast.specs.declared.decl.UnionBody.TheVariants as written_union
use Rattle.pads_ast.specs.declared.expr.Expr.{Expr as Tree}
use Rattle.pads_ast.specs.declared.types.Branch.{Branch as WrittenBranch}
use Rattle.pads_resolution.specs.declared.decl.Array.{Array}
use Rattle.pads_resolution.specs.declared.decl.ArrayOption.{ArrayOption}
use Rattle.pads_resolution.specs.declared.decl.ArrayOption.TheVariants as option
use Rattle.pads_resolution.specs.declared.decl.Case.{Case}
use Rattle.pads_resolution.specs.declared.decl.Constraint.{Constraint}
use Rattle.pads_resolution.specs.declared.decl.DeclBody.{DeclBody}
use Rattle.pads_resolution.specs.declared.decl.DeclBody.TheVariants as body
use Rattle.pads_resolution.specs.declared.decl.Label.{Label}
use Rattle.pads_resolution.specs.declared.decl.Part.{Part}
use Rattle.pads_resolution.specs.declared.decl.Part.TheVariants as part
use Rattle.pads_resolution.specs.declared.decl.Struct.{Struct}
use Rattle.pads_resolution.specs.declared.decl.Switch.{Switch}
use Rattle.pads_resolution.specs.declared.decl.Typedef.{Typedef}
use Rattle.pads_resolution.specs.declared.decl.Union.{Union}
use Rattle.pads_resolution.specs.declared.decl.Union.TheVariants as union
use Rattle.pads_resolution.specs.declared.expr.Expr.{Expr}
use Rattle.pads_resolution.specs.declared.types.Branch.{Branch}
use Rattle.pads_rules.specs.Pieces.{Site, sight}
use Rattle.pads_rules.specs.Resolving.{branch_named, type_sort}
use Rattle.pads_ast.specs.Trees.{points_of}
use Rattle.pads_resolution.specs.declared.visible.Stands.TheVariants as stands
use Rattle.pads_resolution.specs.Expressions.{expr_of}
use Rattle.pads_resolution.specs.Scopes.{NameScope, hiding, variable, names_after, fields_after, array_scope}
use Rattle.pads_resolution.specs.Types.{type_at, literal_of, const_of, computed_of}

-- A label, and its spelling where one is written.
unfoldable pub label_of : WrittenLabel → Label
label_of label = record { name = label.name.text; spelling = option_map points_of label.spelling }

-- By the place of the declaration.
module _ (site : Site) where
  unfoldable pub expr_at : NameScope → Tree → Expr
  expr_at scope e = expr_of site.decls site.env scope e

  abbrev pub option_at : NameScope → Option Tree → Option Expr
  option_at scope e = option_map (expr_at scope) e

  -- A field or branch: its type sees the names before it, its constraint sees it too.
  unfoldable pub branch_at : NameScope → WrittenBranch → Branch
  branch_at names f = record {
    of = type_at site names f.of;
    name = f.name.text;
    constraint = option_at (names ++ variable (branch_named (sight site) f) ∷ []) f.constraint;
  }

  -- A part of a struct behind the names of its parameters and earlier parts.
  unfoldable pub part_at : NameScope → WrittenPart → Part
  part_at names (written_part.Literal l) = part.Literal (literal_of l)
  part_at names (written_part.Pcompute of name value) = part.Pcompute (computed_of of) name.text (expr_at names value)
  part_at names (written_part.Field f) = part.Field (branch_at names f)

  abbrev pub parts_at : NameScope → List WrittenPart → List Part
  parts_at names [] = []
  parts_at names (p ∷ parts) = part_at names p ∷ parts_at (names_after (sight site) names p) parts

  -- In the `Pwhere` of a struct its fields are fields by number.
  unfoldable pub struct_at : NameScope → WrittenStruct → Struct
  struct_at params d = record {
    parts = parts_at params d.parts;
    condition = option_at (fields_after (sight site) params 0 d.parts) d.condition;
  }

  unfoldable pub case_at : NameScope → WrittenCase → Case
  case_at params c = record { key = const_of c.key; branch = branch_at params c.branch }

  unfoldable pub switch_at : NameScope → WrittenSwitch → Switch
  switch_at params s = record {
    value = expr_at params s.value;
    cases = map (case_at params) s.cases;
    default = option_map (branch_at params) s.default;
  }

  unfoldable pub union_at : NameScope → UnionBody → Union
  union_at params (written_union.Branches branches) = union.Branches (map (branch_at params) branches)
  union_at params (written_union.Switch s) = union.Pswitch (switch_at params s)

  unfoldable pub array_option_at : NameScope → WrittenOption → ArrayOption
  array_option_at scope (written_option.Psep at separator) = option.Psep (points_of separator)
  array_option_at scope (written_option.Pterm at terminator) = option.Pterm (literal_of terminator)
  array_option_at scope (written_option.Plast at condition) = option.Plast (expr_at scope condition)

  -- An array: its conditions see its elements so far and their number.
  unfoldable pub array_at : NameScope → WrittenArray → Array
  array_at params d = record {
    of = type_at site params d.of;
    size = option_at params d.size;
    options = map (array_option_at (array_scope site.number params)) d.options;
    condition = option_at (array_scope site.number params) d.condition;
  }

  -- The constraint of a typedef, in which its variable hides other names.
  unfoldable pub constraint_at : NameScope → WrittenTypedef → WrittenConstraint → Constraint
  constraint_at params d c = record {
    variable = c.variable.text;
    condition = expr_at (hiding c.variable.text stands.Variable (type_sort (sight site) d.of) params) c.condition;
  }

  unfoldable pub typedef_at : NameScope → WrittenTypedef → Typedef
  typedef_at params d = record {
    of = type_at site params d.of;
    constraint = option_map (constraint_at params d) d.constraint;
  }

  unfoldable pub body_at : NameScope → WrittenBody → DeclBody
  body_at params (written_body.Struct d) = body.Struct (struct_at params d)
  body_at params (written_body.Union d) = body.Union (union_at params d.body)
  body_at params (written_body.Array d) = body.Array (array_at params d)
  body_at params (written_body.Enum d) = body.Enum (map label_of d.labels)
  body_at params (written_body.Typedef d) = body.Typedef (typedef_at params d)
  body_at params (written_body.Opt d) = body.Opt (type_at site params d.of)
