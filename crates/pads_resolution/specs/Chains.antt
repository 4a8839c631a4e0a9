-- What operators, names and indexes that stand in a row resolve to, one after the other.
use Rattle.std.specs.Prelude.{List}
use Rattle.pads_ast.specs.declared.decl.Decl.{Decl}
use Rattle.pads_ast.specs.declared.expr.Expr.{Expr}
use Rattle.pads_ast.specs.declared.expr.Link.{Link}
use Rattle.pads_ast.specs.declared.expr.Step.{Step}
use Rattle.pads_ast.specs.declared.expr.Step.TheVariants as step_form
use Rattle.pads_rules.specs.declared.declared.Declared.{Declared}
use Rattle.pads_resolution.specs.declared.visible.ResolvedExpr.{ResolvedExpr}
use Rattle.pads_resolution.specs.Expressions.{expression, binary, member_of, indexed}
use Rattle.pads_resolution.specs.Scopes.{NameScope}

module _ (decls : List Decl) (env : List Declared) (scope : NameScope) where
  -- An operator and its right operand behind a left one.
  unfoldable pub linked : ResolvedExpr → Link Expr → ResolvedExpr
  linked left link = binary link.operator left (expression decls env link.operand scope)

  -- What stands behind an atom.
  unfoldable pub stepped : ResolvedExpr → Step Expr → ResolvedExpr
  stepped whole (step_form.Name name) = member_of decls env whole name.text
  stepped whole (step_form.Index at index) = indexed env whole (expression decls env index scope)
