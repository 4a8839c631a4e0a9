-- What an expression resolves to, in a scope. Operators, names and indexes that stand in a row are nested to
-- the left, and round brackets are gone.
use Rattle.std.specs.Prelude.{ℕ, pos, ◌==◌, Bool, true, false, ◌&&◌, List, [], ◌∷◌, Option, Some, None}
use Rattle.pads_ast.specs.declared.decl.Decl.{Decl}
use Rattle.pads_expr.specs.declared.expr.BinOp.{BinOp}
use Rattle.pads_ast.specs.declared.expr.Expr.{Expr as Tree, Expr-F as Tree-F, fold-Expr as fold-Tree}
use Rattle.pads_ast.specs.declared.expr.Link.{Link}
use Rattle.pads_ast.specs.declared.expr.Step.{Step}
use Rattle.pads_ast.specs.declared.expr.Step.TheVariants as step_form
use Rattle.pads_ast.specs.declared.expr.UnaryOperator.{UnaryOperator}
use Rattle.pads_ast.specs.declared.expr.UnaryOperator.TheVariants as unary_form
use Rattle.pads_rules.specs.declared.sort.Form.{Form}
use Rattle.pads_rules.specs.declared.sort.Form.TheVariants as form
use Rattle.pads_rules.specs.declared.sort.Sort.{Sort}
use Rattle.pads_resolution.specs.declared.expr.Expr.{Expr}
use Rattle.pads_resolution.specs.declared.expr.Expr.TheVariants as expr
use Rattle.pads_resolution.specs.declared.expr.NameUse.{NameUse}
use Rattle.pads_resolution.specs.declared.expr.NameUse.TheVariants as meaning
use Rattle.pads_rules.specs.declared.declared.Declared.{Declared}
use Rattle.pads_rules.specs.declared.expr_sort.ExprSort.{ExprSort}
use Rattle.pads_rules.specs.declared.expr_sort.ExprSort.TheVariants as expr_sort
use Rattle.pads_rules.specs.Judging.{result_of, unary_gives}
use Rattle.pads_rules.specs.Members.{member, element}
use Rattle.pads_rules.specs.Sorts.{num, text, truth}
use Rattle.pads_ast.specs.Trees.{points_of}
use Rattle.pads_resolution.specs.declared.visible.Known.{Known}
use Rattle.pads_resolution.specs.declared.visible.ResolvedExpr.{ResolvedExpr}
use Rattle.pads_resolution.specs.declared.visible.Stands.{Stands}
use Rattle.pads_resolution.specs.declared.visible.Stands.TheVariants as stands
use Rattle.pads_resolution.specs.Numbers.{choice_number, member_number}
use Rattle.pads_resolution.specs.Scopes.{NameScope, known_in, hiding}

-- A sort as a resolved tree has it: one that isn't known is a number's.
abbrev pub sort_known : ExprSort → Sort
sort_known (expr_sort.Known sort) = sort
sort_known expr_sort.Unknown = record { optional = 0; form = form.Num }
sort_known expr_sort.Nothing = record { optional = 0; form = form.Num }

abbrev pub sort_or_unknown : Option ExprSort → ExprSort
sort_or_unknown None = expr_sort.Unknown
sort_or_unknown (Some sort) = sort

abbrev pub as_sort : Expr → ExprSort → ResolvedExpr
as_sort e sort = record { expr = e; sort = sort }

-- What a name stands for.
abbrev pub meaning_of : List ℕ → Stands → NameUse
meaning_of name stands.Variable = meaning.Variable name
meaning_of name stands.Elts = meaning.Elts
meaning_of name stands.Length = meaning.Length
meaning_of name (stands.Field number) = meaning.Field number

abbrev pub known_name : List ℕ → Known → ResolvedExpr
known_name name known = as_sort (expr.Name (meaning_of name known.stands) (sort_known known.sort)) known.sort

-- What is known of a name that isn't in scope: it is a variable.
abbrev pub unknown_name : Known
unknown_name = record { stands = stands.Variable; sort = expr_sort.Unknown }

abbrev pub name_found : List ℕ → Option Known → ResolvedExpr
name_found name (Some known) = known_name name known
name_found name None = known_name name unknown_name

unfoldable pub name_in : NameScope → List ℕ → ResolvedExpr
name_in scope name = name_found name (known_in scope name)

unfoldable pub binary : BinOp → ResolvedExpr → ResolvedExpr → ResolvedExpr
binary operator left right = as_sort (expr.Binary operator left.expr right.expr) (result_of operator)

-- Operands of one level.
abbrev pub chained : ResolvedExpr → List (Link (NameScope → ResolvedExpr)) → NameScope → ResolvedExpr
chained left [] scope = left
chained left (link ∷ links) scope = chained (binary link.operator left (link.operand scope)) links scope

abbrev pub unary_expr : UnaryOperator → Expr → Expr
unary_expr unary_form.Minus operand = expr.Minus operand
unary_expr unary_form.Not operand = expr.Not operand

unfoldable pub unary : UnaryOperator → ResolvedExpr → ResolvedExpr
unary written_as operand = as_sort (unary_expr written_as operand.expr) (unary_gives written_as)

abbrev pub is_struct_form : Form → Bool
is_struct_form (form.Struct number) = true
is_struct_form form.Num = false
is_struct_form form.Text = false
is_struct_form form.Truth = false
is_struct_form (form.Union number) = false
is_struct_form (form.Enum number) = false
is_struct_form (form.Array number) = false

-- A sort is a struct's, without `Popt` around it.
abbrev pub is_struct : ExprSort → Bool
is_struct (expr_sort.Known sort) = sort.optional == 0 && is_struct_form sort.form
is_struct expr_sort.Unknown = false
is_struct expr_sort.Nothing = false

-- `.name` of a struct is a part, of all else a branch.
abbrev pub member_expr : Bool → Expr → ℕ → Sort → Expr
member_expr true whole number sort = expr.Part whole number sort
member_expr false whole number sort = expr.Branch whole number sort

abbrev pub member_as : Bool → Expr → ℕ → ExprSort → ResolvedExpr
member_as of_struct whole number sort = as_sort (member_expr of_struct whole number (sort_known sort)) sort

unfoldable pub member_of : List Decl → List Declared → ResolvedExpr → List ℕ → ResolvedExpr
member_of decls env whole name =
    member_as (is_struct whole.sort) whole.expr (member_number decls env whole.sort name) (sort_or_unknown (member env whole.sort name))

abbrev pub element_as : Expr → Expr → ExprSort → ResolvedExpr
element_as array index sort = as_sort (expr.Index array index (sort_known sort)) sort

unfoldable pub indexed : List Declared → ResolvedExpr → ResolvedExpr → ResolvedExpr
indexed env whole index = element_as whole.expr index.expr (element env whole.sort)

abbrev pub step : List Decl → List Declared → ResolvedExpr → Step (NameScope → ResolvedExpr) → NameScope → ResolvedExpr
step decls env whole (step_form.Name name) scope = member_of decls env whole name.text
step decls env whole (step_form.Index at index) scope = indexed env whole (index scope)

-- What stands behind an atom.
abbrev pub posted : List Decl → List Declared → ResolvedExpr → List (Step (NameScope → ResolvedExpr)) → NameScope → ResolvedExpr
posted decls env whole [] scope = whole
posted decls env whole (next ∷ steps) scope = posted decls env (step decls env whole next scope) steps scope

unfoldable pub pis : List Declared → ResolvedExpr → List ℕ → ResolvedExpr
pis env value name = as_sort (expr.Pis value.expr (choice_number env value.sort name)) truth

unfoldable pub plen : ResolvedExpr → ResolvedExpr
plen value = as_sort (expr.Plen value.expr) num

unfoldable pub pforall : List ℕ → ResolvedExpr → ResolvedExpr → ResolvedExpr → ResolvedExpr
pforall name low high body = as_sort (expr.Pforall name low.expr high.expr body.expr) truth

-- One form of expression, from what its parts resolve to in any scope.
abbrev pub resolve_form : List Decl → List Declared → Tree-F (NameScope → ResolvedExpr) → NameScope → ResolvedExpr
resolve_form decls env (Tree-F.Chain first links) scope = chained (first scope) links scope
resolve_form decls env (Tree-F.Unary written_as at operand) scope = unary written_as (operand scope)
resolve_form decls env (Tree-F.Post base steps) scope = posted decls env (base scope) steps scope
resolve_form decls env (Tree-F.Number value at) scope = as_sort (expr.Number (pos value)) num
resolve_form decls env (Tree-F.Word word) scope = as_sort (expr.Word (points_of word)) text
resolve_form decls env (Tree-F.Truth value at) scope = as_sort (expr.Truth value) truth
resolve_form decls env (Tree-F.Name name) scope = name_in scope name.text
resolve_form decls env (Tree-F.Paren at inner) scope = inner scope
resolve_form decls env (Tree-F.Pis at value name) scope = pis env (value scope) name.text
resolve_form decls env (Tree-F.Plen at value) scope = plen (value scope)
resolve_form decls env (Tree-F.Pforall at name low high body) scope =
    pforall name.text (low scope) (high scope) (body (hiding name.text stands.Variable num scope))

-- An expression of a description with these declarations and declared types, in a scope.
unfoldable pub expression : List Decl → List Declared → Tree → NameScope → ResolvedExpr
expression decls env = fold-Tree (NameScope → ResolvedExpr) (resolve_form decls env)

-- The tree of it alone.
unfoldable pub expr_of : List Decl → List Declared → NameScope → Tree → Expr
expr_of decls env scope e = (expression decls env e scope).expr
