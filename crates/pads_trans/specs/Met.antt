-- The names that the translation meets, from the left: declaration by declaration its name, its parameters,
-- then its body. A name is met where it is given; where it is used it was met before.
use Rattle.std.specs.Prelude.{List, [], ◌∷◌, ◌++◌, map, Option, Some, None, if◌then◌else◌}
use Rattle.std.specs.List.{flat_map}
use Rattle.pads_resolution.specs.declared.decl.Array.{Array}
use Rattle.pads_resolution.specs.declared.decl.ArrayOption.{ArrayOption}
use Rattle.pads_resolution.specs.declared.decl.ArrayOption.TheVariants as option
use Rattle.pads_resolution.specs.declared.decl.Case.{Case}
use Rattle.pads_resolution.specs.declared.decl.Constraint.{Constraint}
use Rattle.pads_resolution.specs.declared.decl.Decl.{Decl}
use Rattle.pads_resolution.specs.declared.decl.DeclBody.{DeclBody}
use Rattle.pads_resolution.specs.declared.decl.DeclBody.TheVariants as body
use Rattle.pads_resolution.specs.declared.decl.Description.{Description}
use Rattle.pads_resolution.specs.declared.decl.Part.{Part}
use Rattle.pads_resolution.specs.declared.decl.Part.TheVariants as part
use Rattle.pads_resolution.specs.declared.decl.Role.{Role}
use Rattle.pads_resolution.specs.declared.decl.Role.TheVariants as role
use Rattle.pads_resolution.specs.declared.decl.Struct.{Struct}
use Rattle.pads_resolution.specs.declared.decl.Switch.{Switch}
use Rattle.pads_resolution.specs.declared.decl.Typedef.{Typedef}
use Rattle.pads_resolution.specs.declared.decl.Union.{Union}
use Rattle.pads_resolution.specs.declared.decl.Union.TheVariants as union
use Rattle.pads_resolution.specs.declared.expr.Expr.{Expr, Expr-F, fold-Expr}
use Rattle.pads_resolution.specs.declared.types.Branch.{Branch}
use Rattle.pads_resolution.specs.declared.types.«Type».{«Type» as Typed}
use Rattle.pads_trans.specs.Names.{Name, at_sign, some_name, none_name, with_names}

abbrev pub Met : Type 0
Met = List Name

abbrev pub expr_met : Expr-F Met → Met
expr_met (Expr-F.Number number) = []
expr_met (Expr-F.Word text) = []
expr_met (Expr-F.Truth truth) = []
expr_met (Expr-F.Name meaning sort) = []
expr_met (Expr-F.Part whole number sort) = whole
expr_met (Expr-F.Branch whole number sort) = whole
expr_met (Expr-F.Index array index sort) = array ++ index
expr_met (Expr-F.Pis value number) = value
expr_met (Expr-F.Plen value) = value
expr_met (Expr-F.Minus operand) = operand
expr_met (Expr-F.Not operand) = operand
expr_met (Expr-F.Binary operator left right) = left ++ right
expr_met (Expr-F.Pforall variable low high inner) = variable ∷ low ++ high ++ inner

unfoldable pub in_expr : Expr → Met
in_expr = fold-Expr Met expr_met

unfoldable pub in_option : Option Expr → Met
in_option None = []
in_option (Some e) = in_expr e

unfoldable pub in_type : Typed → Met
in_type t = (if t.optional then some_name ∷ none_name ∷ [] else []) ++ flat_map in_expr t.args

-- A field or a branch.
unfoldable pub in_branch : Branch → Met
in_branch f = in_type f.of ++ f.name ∷ in_option f.constraint

unfoldable pub in_part : Part → Met
in_part (part.Literal literal) = []
in_part (part.Pcompute of name value) = name ∷ in_expr value
in_part (part.Field f) = in_branch f

-- The `Pwhere` of a struct, where `@` is the struct.
unfoldable pub in_where : Option Expr → Met
in_where None = []
in_where (Some e) = at_sign ∷ in_expr e

unfoldable pub in_struct : Struct → Met
in_struct s = flat_map in_part s.parts ++ in_where s.condition

unfoldable pub in_case : Case → Met
in_case c = in_branch c.branch

unfoldable pub in_default : Option Branch → Met
in_default None = []
in_default (Some f) = in_branch f

unfoldable pub in_switch : Switch → Met
in_switch s = in_expr s.value ++ flat_map in_case s.cases ++ in_default s.default

unfoldable pub in_union : Union → Met
in_union (union.Branches branches) = flat_map in_branch branches
in_union (union.Pswitch s) = in_switch s

unfoldable pub in_array_option : ArrayOption → Met
in_array_option (option.Psep separator) = []
in_array_option (option.Pterm terminator) = []
in_array_option (option.Plast e) = in_expr e

-- An array, whose elements so far are `@` from the brackets on.
unfoldable pub in_array : Array → Met
in_array a = in_type a.of ++ at_sign ∷ in_option a.size ++ flat_map in_array_option a.options ++ in_option a.condition

unfoldable pub in_constraint : Option Constraint → Met
in_constraint None = []
in_constraint (Some c) = c.variable ∷ in_expr c.condition

unfoldable pub in_typedef : Typedef → Met
in_typedef t = in_type t.of ++ in_constraint t.constraint

unfoldable pub in_body : DeclBody → Met
in_body (body.Struct s) = in_struct s
in_body (body.Union u) = in_union u
in_body (body.Array a) = in_array a
in_body (body.Enum labels) = []
in_body (body.Typedef t) = in_typedef t
in_body (body.Opt inner) = some_name ∷ none_name ∷ in_type inner

-- A record list or a source isn't read, so the names in its body aren't met.
unfoldable pub in_read_body : Role → DeclBody → Met
in_read_body role.Part inner = in_body inner
in_read_body role.Precord inner = in_body inner
in_read_body role.Source inner = []

unfoldable pub in_decl : Decl → Met
in_decl d = d.name ∷ map (λ param. param.name) d.params ++ in_read_body d.role d.body

-- The different names of a description, each where it is first met.
unfoldable pub names_of : Description → List Name
names_of description = with_names [] (flat_map in_decl description.decls)
