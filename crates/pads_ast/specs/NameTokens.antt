-- The names that declarations are written with, in any order.
use Rattle.std.specs.Prelude.{ℕ, List, [], ◌∷◌, ◌++◌, map, flat_map, Option}
use Rattle.pads_ast.specs.declared.decl.ArrayOption.{ArrayOption}
use Rattle.pads_ast.specs.declared.decl.ArrayOption.TheVariants as array_option
use Rattle.pads_ast.specs.declared.decl.Constraint.{Constraint}
use Rattle.pads_ast.specs.declared.decl.Decl.{Decl}
use Rattle.pads_ast.specs.declared.decl.DeclBody.{DeclBody}
use Rattle.pads_ast.specs.declared.decl.DeclBody.TheVariants as decl
use Rattle.pads_ast.specs.declared.decl.Part.{Part}
use Rattle.pads_ast.specs.declared.decl.Part.TheVariants as part
use Rattle.pads_ast.specs.declared.decl.UnionBody.{UnionBody}
use Rattle.pads_ast.specs.declared.decl.UnionBody.TheVariants as union
use Rattle.pads_ast.specs.declared.expr.Expr.{Expr, Expr-F, fold-Expr}
use Rattle.pads_ast.specs.declared.expr.Step.{Step}
use Rattle.pads_ast.specs.declared.expr.Step.TheVariants as step_form
use Rattle.pads_ast.specs.declared.types.Arg.{Arg}
use Rattle.pads_ast.specs.declared.types.Arg.TheVariants as arg
use Rattle.pads_ast.specs.declared.types.Branch.{Branch}
use Rattle.pads_ast.specs.declared.types.Param.{Param}
use Rattle.pads_ast.specs.declared.types.Type.{«Type»}
use Rattle.pads_ast.specs.Trees.{args_of, name_of, params_of, branches_of, listed}

abbrev pub Names : Type 0
Names = List (List ℕ)

abbrev pub names_in_step : Step Names → Names
names_in_step (step_form.Name name) = name.text ∷ []
names_in_step (step_form.Index at index) = index

abbrev pub names_in_form : Expr-F Names → Names
names_in_form (Expr-F.Chain first links) = first ++ flat_map (λ link. link.operand) links
names_in_form (Expr-F.Unary operator at operand) = operand
names_in_form (Expr-F.Post base steps) = base ++ flat_map names_in_step steps
names_in_form (Expr-F.Number value at) = []
names_in_form (Expr-F.Word word) = []
names_in_form (Expr-F.Truth value at) = []
names_in_form (Expr-F.Name name) = name.text ∷ []
names_in_form (Expr-F.Paren at inner) = inner
names_in_form (Expr-F.Pis at value name) = value ++ name.text ∷ []
names_in_form (Expr-F.Plen at value) = value
names_in_form (Expr-F.Pforall at name low high body) = name.text ∷ (low ++ high ++ body)

unfoldable pub names_in_expr : Expr → Names
names_in_expr = fold-Expr Names names_in_form

abbrev pub names_in_option : Option Expr → Names
names_in_option e = flat_map names_in_expr (listed e)

abbrev pub names_in_arg : Arg → Names
names_in_arg (arg.Expr e) = names_in_expr e
names_in_arg (arg.Peor at) = []

abbrev pub names_in_type : «Type» → Names
names_in_type t = t.name.text ∷ flat_map names_in_arg (args_of t)

abbrev pub names_in_param : Param → Names
names_in_param param = names_in_type param.of ++ param.name.text ∷ []

abbrev pub names_in_branch : Branch → Names
names_in_branch branch = names_in_type branch.of ++ branch.name.text ∷ names_in_option branch.constraint

abbrev pub names_in_part : Part → Names
names_in_part (part.Literal literal) = []
names_in_part (part.Pcompute of name value) = names_in_type of ++ name.text ∷ names_in_expr value
names_in_part (part.Field branch) = names_in_branch branch

abbrev pub names_in_array_option : ArrayOption → Names
names_in_array_option (array_option.Psep at separator) = []
names_in_array_option (array_option.Pterm at terminator) = []
names_in_array_option (array_option.Plast at condition) = names_in_expr condition

abbrev pub names_in_union : UnionBody → Names
names_in_union (union.Branches branches) = flat_map names_in_branch branches
names_in_union (union.Switch switch) = names_in_expr switch.value ++ flat_map names_in_branch (branches_of (union.Switch switch))

abbrev pub names_in_constraint : Constraint → Names
names_in_constraint constraint = constraint.name.text ∷ constraint.variable.text ∷ names_in_expr constraint.condition

abbrev pub names_in_body : DeclBody → Names
names_in_body (decl.Struct d) = flat_map names_in_part d.parts ++ names_in_option d.condition
names_in_body (decl.Union d) = names_in_union d.body
names_in_body (decl.Array d) = names_in_type d.of ++ names_in_option d.size ++ flat_map names_in_array_option d.options ++ names_in_option d.condition
names_in_body (decl.Enum d) = map (λ label. label.name.text) d.labels
names_in_body (decl.Typedef d) = names_in_type d.of ++ flat_map names_in_constraint (listed d.constraint)
names_in_body (decl.Opt d) = names_in_type d.of

-- Every name token of a declaration.
abbrev pub names_in_decl : DeclBody → Names
names_in_decl d = (name_of d).text ∷ (flat_map names_in_param (params_of d) ++ names_in_body d)

-- Every name token of some declarations.
abbrev pub names_in : List Decl → Names
names_in decls = flat_map (λ d. names_in_decl d.body) decls
