-- What types, literals and constants resolve to.
use Rattle.std.specs.Prelude.{ℕ, List, [], ◌∷◌, flat_map, Option, Some, None, is_some}
use Rattle.pads_ast.specs.declared.decl.Decl.{Decl}
use Rattle.pads_ast.specs.declared.types.Arg.{Arg}
use Rattle.pads_ast.specs.declared.types.Arg.TheVariants as arg
use Rattle.pads_ast.specs.declared.types.Const.{Const as WrittenConst}
use Rattle.pads_ast.specs.declared.types.Const.TheVariants as written_const
use Rattle.pads_ast.specs.declared.types.Literal.{Literal as WrittenLiteral}
use Rattle.pads_ast.specs.declared.types.Literal.TheVariants as written_literal
use Rattle.pads_ast.specs.declared.types.Param.{Param as WrittenParam}
use Rattle.pads_ast.specs.declared.types.Type.{«Type»}
use Rattle.pads_base_names.specs.declared.meaning.BaseName.{BaseName}
use Rattle.pads_base_names.specs.declared.meaning.BaseName.TheVariants as base
use Rattle.pads_base_names.specs.declared.meaning.NamedCoding.TheVariants as coding
use Rattle.pads_base_names.specs.Names.{base_name}
use Rattle.pads_resolution.specs.declared.decl.Computed.{Computed}
use Rattle.pads_resolution.specs.declared.decl.Computed.TheVariants as computed
use Rattle.pads_resolution.specs.declared.expr.Expr.{Expr}
use Rattle.pads_resolution.specs.declared.types.Const.{Const}
use Rattle.pads_resolution.specs.declared.types.Const.TheVariants as const
use Rattle.pads_resolution.specs.declared.types.Literal.{Literal}
use Rattle.pads_resolution.specs.declared.types.Literal.TheVariants as literal
use Rattle.pads_resolution.specs.declared.types.Param.{Param}
use Rattle.pads_resolution.specs.declared.types.«Type».{«Type» as ResolvedType}
use Rattle.pads_resolution.specs.declared.types.TypeName.{TypeName}
use Rattle.pads_resolution.specs.declared.types.TypeName.TheVariants as type_name
use Rattle.pads_rules.specs.declared.declared.Declared.{Declared}
use Rattle.pads_rules.specs.PieceRules.{signed}
use Rattle.pads_rules.specs.Pieces.{Site, sight}
use Rattle.pads_rules.specs.Resolving.{Sight, type_sort}
use Rattle.pads_ast.specs.Trees.{args_of, points_of}
use Rattle.pads_resolution.specs.Expressions.{expr_of, sort_known}
use Rattle.pads_resolution.specs.Numbers.{short, declared_number}
use Rattle.pads_resolution.specs.Scopes.{NameScope}

-- A declared type by its number; one that is declared nowhere is a character.
abbrev pub declared_type : Option ℕ → TypeName
declared_type (Some number) = type_name.Declared (short number)
declared_type None = type_name.Base (base.Char coding.Ambient)

-- A base type's name always names the base type.
abbrev pub type_name_of : Option BaseName → Option ℕ → TypeName
type_name_of (Some name) number = type_name.Base name
type_name_of None number = declared_type number

-- What a type's name names, by the types that it sees.
unfoldable pub named_type : Sight → «Type» → TypeName
named_type types t = type_name_of (base_name t.name.text) (declared_number types.types t.name.text)

-- The expressions among some arguments.
abbrev pub arg_exprs : List Decl → List Declared → NameScope → Arg → List Expr
arg_exprs decls env scope (arg.Expr e) = expr_of decls env scope e ∷ []
arg_exprs decls env scope (arg.Peor at) = []

unfoldable pub args : List Decl → List Declared → NameScope → List Arg → List Expr
args decls env scope written = flat_map (arg_exprs decls env scope) written

-- A type where it stands in a declaration, in a scope.
unfoldable pub type_at : Site → NameScope → «Type» → ResolvedType
type_at site scope t = record {
  optional = is_some t.optional;
  name = named_type (sight site) t;
  args = args site.decls site.env scope (args_of t);
}

abbrev pub literal_of : WrittenLiteral → Literal
literal_of (written_literal.Word word) = literal.Word (points_of word)
literal_of (written_literal.Peor at) = literal.Peor

-- A constant; one with a sign is a number below 0, or 0.
abbrev pub const_of : WrittenConst → Const
const_of (written_const.Number negative value at) = const.Number (signed negative value)
const_of (written_const.Word word) = const.Word (points_of word)

-- What a `Pcompute` of a type's name is to give: a number of the kind's range, else a text.
abbrev pub computed_as : Option BaseName → Computed
computed_as (Some (base.Int c kind)) = computed.Int kind
computed_as _ = computed.Text

unfoldable pub computed_of : «Type» → Computed
computed_of t = computed_as (base_name t.name.text)

-- A parameter: its name, and the sort of its type.
unfoldable pub param_of : Sight → WrittenParam → Param
param_of types param = record { name = param.name.text; sort = sort_known (type_sort types param.of) }
