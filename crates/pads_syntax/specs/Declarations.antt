-- The grammar of declarations.
--
--   desc    = { decl } End
--   decl    = [ "Precord" | "Psource" | "Precursive" ] ( struct | union | array | enum | typedef | opt ) ";"
--   struct  = "Pstruct" Name [ params ] "{" { part } "}" [ where ]
--   union   = "Punion" Name [ params ] "{" ( switch | { branch } ) "}"
--   array   = "Parray" Name [ params ] "{" type "[" [ expr ] "]" [ ":" option { "&&" option } ] ";" "}" [ where ]
--   enum    = "Penum" Name "{" label { "," label } [ "," ] "}"
--   typedef = "Ptypedef" type Name [ params ] [ ":" Name Name "=>" "{" expr "}" ]
--   opt     = "Popt" type Name [ params ]
use Rattle.std.specs.Prelude.{Option, List}
use Rattle.pads_lex.specs.declared.token.Keyword.{Keyword}
use Rattle.pads_lex.specs.declared.token.Keyword.TheVariants.{Parray, Penum, Popt, Precord, Precursive, Psource, Pstruct, Ptypedef, Punion}
use Rattle.pads_lex.specs.declared.token.Mark.TheVariants.{CloseBrace, CloseBracket, OpenBrace, OpenBracket, Semicolon}
use Rattle.pads_grammar.specs.declared.kind.Kind.TheVariants as kind
use Rattle.pads_grammar.specs.Grammar.{Grammar, token, apply, optional, many, ◌&◌, ◌<*◌, ◌*>◌, ◌or◌, mark, keyword}
use Rattle.pads_ast.specs.declared.expr.Expr.{Expr}
use Rattle.pads_ast.specs.declared.decl.Array.{Array}
use Rattle.pads_ast.specs.declared.decl.ArrayOption.{ArrayOption}
use Rattle.pads_ast.specs.declared.decl.Decl.{Decl}
use Rattle.pads_ast.specs.declared.decl.DeclBody.{DeclBody}
use Rattle.pads_ast.specs.declared.decl.DeclBody.TheVariants as decl_form
use Rattle.pads_ast.specs.declared.decl.DeclMark.{DeclMark}
use Rattle.pads_ast.specs.declared.decl.DeclMark.TheVariants as mark_form
use Rattle.pads_ast.specs.declared.decl.Enum.{Enum}
use Rattle.pads_ast.specs.declared.decl.Opt.{Opt}
use Rattle.pads_ast.specs.declared.decl.Struct.{Struct}
use Rattle.pads_ast.specs.declared.decl.Typedef.{Typedef}
use Rattle.pads_ast.specs.declared.decl.Union.{Union}
use Rattle.pads_ast.specs.declared.decl.UnionBody.{UnionBody}
use Rattle.pads_ast.specs.declared.decl.UnionBody.TheVariants as union_form
use Rattle.pads_ast.specs.declared.name.Name.{Name}
use Rattle.pads_ast.specs.declared.types.Param.{Param}
use Rattle.pads_ast.specs.declared.types.«Type».{«Type»}
use Rattle.pads_syntax_expr.specs.Leaves.{name}
use Rattle.pads_syntax_parts.specs.Types.{expression, type_use, params, branch}
use Rattle.pads_syntax_parts.specs.Parts.{part, condition, array_options, labels, refinement}
use Rattle.pads_syntax.specs.Switches.{switch}

-- A name and the parameters behind it.
unfoldable pub signature : Grammar (Name × Option (List Param))
signature = name & optional params

-- What stands before a body in braces.
abbrev pub heading : Keyword → Grammar (Name × Option (List Param))
heading k = (keyword k *> signature) <* mark OpenBrace

unfoldable pub struct_decl : Grammar Struct
struct_decl = apply (λ all. record { name = all.0.0.0; params = all.0.0.1; parts = all.0.1; condition = all.1 })
    (((heading Pstruct & many part) <* mark CloseBrace) & optional condition)

unfoldable pub union_body : Grammar UnionBody
union_body = apply union_form.Switch switch or apply union_form.Branches (many branch)

unfoldable pub union_decl : Grammar Union
union_decl = apply (λ both. record { name = both.0.0; params = both.0.1; body = both.1 })
    ((heading Punion & union_body) <* mark CloseBrace)

-- The type of an array's elements, and its size between brackets.
unfoldable pub sized : Grammar («Type» × Option Expr)
sized = ((type_use <* mark OpenBracket) & optional expression) <* mark CloseBracket

-- The options, and what ends an array's body behind them.
unfoldable pub array_body : Grammar (List ArrayOption)
array_body = (array_options <* mark Semicolon) <* mark CloseBrace

unfoldable pub array_decl : Grammar Array
array_decl = apply (λ all. record { name = all.0.0.0.0; params = all.0.0.0.1; of = all.0.0.1.0; size = all.0.0.1.1; options = all.0.1; condition = all.1 })
    (heading Parray & sized & array_body & optional condition)

abbrev pub enum_heading : Grammar Name
enum_heading = (keyword Penum *> name) <* mark OpenBrace

unfoldable pub enum_decl : Grammar Enum
enum_decl = apply (λ both. record { name = both.0; labels = both.1 }) ((enum_heading & labels) <* mark CloseBrace)

unfoldable pub typedef_decl : Grammar Typedef
typedef_decl = apply (λ all. record { of = all.0.0; name = all.0.1.0; params = all.0.1.1; constraint = all.1 })
    ((keyword Ptypedef *> type_use) & signature & optional refinement)

unfoldable pub opt_decl : Grammar Opt
opt_decl = apply (λ both. record { of = both.0; name = both.1.0; params = both.1.1 })
    ((keyword Popt *> type_use) & signature)

abbrev pub decl_mark : Grammar DeclMark
decl_mark =
    token (kind.Keyword Precord) (λ _. mark_form.Precord) or token (kind.Keyword Psource) (λ _. mark_form.Psource)
    or token (kind.Keyword Precursive) (λ _. mark_form.Precursive)

-- What a declaration is marked as, where it is marked.
unfoldable pub marked : Grammar (Option DeclMark)
marked = optional decl_mark

unfoldable pub other_body : Grammar DeclBody
other_body = apply decl_form.Enum enum_decl or apply decl_form.Typedef typedef_decl or apply decl_form.Opt opt_decl

unfoldable pub decl_body : Grammar DeclBody
decl_body = apply decl_form.Struct struct_decl or apply decl_form.Union union_decl or apply decl_form.Array array_decl or other_body

unfoldable pub decl : Grammar Decl
decl = apply (λ both. record { mark = both.0; body = both.1 }) ((marked & decl_body) <* mark Semicolon)

abbrev pub decls : Grammar (List Decl)
decls = many decl
