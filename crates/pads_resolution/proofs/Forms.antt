-- What each form of expression resolves to, from what its parts resolve to.
use Rattle.std.proofs.Common.{◌≡◌, ◌∙◌, sym, ap, refl, ℕ, pos, Bool, List, [], ◌∷◌, fold}
use Rattle.pads_ast.specs.declared.decl.Decl.{Decl}
use Rattle.pads_ast.specs.declared.expr.Expr.{Expr, Expr-F, fold-roll-Expr, roll-Expr, map-Expr}
use Rattle.pads_ast.specs.declared.expr.Expr.TheShapes.{former-Expr-Chain-1, former-Expr-Post-1}
use Rattle.pads_ast.specs.declared.expr.Expr.TheVariants as expr
use Rattle.pads_ast.specs.declared.expr.Link.{Link}
use Rattle.pads_ast.specs.declared.expr.Step.{Step}
use Rattle.pads_ast.specs.declared.expr.Step.TheVariants as step_form
use Rattle.pads_ast.specs.declared.expr.UnaryOperator.{UnaryOperator}
use Rattle.pads_ast.specs.declared.name.Name.{Name}
use Rattle.pads_ast.specs.declared.name.Word.{Word}
use Rattle.pads_resolution.specs.declared.expr.Expr.TheVariants as resolved
use Rattle.pads_rules.specs.declared.declared.Declared.{Declared}
use Rattle.pads_rules.specs.Sorts.{num, text, truth}
use Rattle.pads_ast.specs.Trees.{points_of}
use Rattle.pads_resolution.specs.declared.visible.ResolvedExpr.{ResolvedExpr}
use Rattle.pads_resolution.specs.declared.visible.Stands.TheVariants as stands
use Rattle.pads_resolution.specs.Chains.{linked, stepped}
use Rattle.pads_resolution.specs.Expressions.{as_sort, binary, unary, member_of, indexed, name_in, pis, plen, pforall, chained, posted, resolve_form, expression}
use Rattle.pads_resolution.specs.Scopes.{NameScope, hiding}

module _ (decls : List Decl) (env : List Declared) (scope : NameScope) where
  -- links and steps, from the left
  fold-chained : (left : ResolvedExpr) (links : List (Link Expr)) →
      chained left ((former-Expr-Chain-1).map Expr (NameScope → ResolvedExpr) (expression decls env) links) scope ≡ fold (linked decls env scope) left links
  unfolding linked
  fold-chained left [] = refl
  fold-chained left (link ∷ links) = fold-chained (binary link.operator left (expression decls env link.operand scope)) links

  fold-posted : (whole : ResolvedExpr) (steps : List (Step Expr)) →
      posted decls env whole ((former-Expr-Post-1).map Expr (NameScope → ResolvedExpr) (expression decls env) steps) scope ≡ fold (stepped decls env scope) whole steps
  unfolding stepped
  fold-posted whole [] = refl
  fold-posted whole (step_form.Name name ∷ steps) = fold-posted (member_of decls env whole name.text) steps
  fold-posted whole (step_form.Index at index ∷ steps) = fold-posted (indexed env whole (expression decls env index scope)) steps

  -- one form at a time
  expression-roll : (layer : Expr-F Expr) (e : Expr) → roll-Expr layer ≡ e →
      expression decls env e scope ≡ resolve_form decls env (map-Expr Expr (NameScope → ResolvedExpr) (expression decls env) layer) scope
  unfolding expression
  expression-roll layer e rolls =
      ap (λ x. expression decls env x scope) (sym rolls) ∙ ap (λ (f : NameScope → ResolvedExpr). f scope) (fold-roll-Expr (NameScope → ResolvedExpr) (resolve_form decls env) layer)

  pub of-Chain : (first : Expr) (links : List (Link Expr)) → expression decls env (expr.Chain first links) scope ≡ fold (linked decls env scope) (expression decls env first scope) links
  of-Chain first links = expression-roll (Expr-F.Chain first links) _ (expr.rolls-Chain first links) ∙ fold-chained (expression decls env first scope) links

  pub of-Unary : (operator : UnaryOperator) (at : ℕ) (operand : Expr) → expression decls env (expr.Unary operator at operand) scope ≡ unary operator (expression decls env operand scope)
  of-Unary operator at operand = expression-roll (Expr-F.Unary operator at operand) _ (expr.rolls-Unary operator at operand)

  pub of-Post : (base : Expr) (steps : List (Step Expr)) → expression decls env (expr.Post base steps) scope ≡ fold (stepped decls env scope) (expression decls env base scope) steps
  of-Post base steps = expression-roll (Expr-F.Post base steps) _ (expr.rolls-Post base steps) ∙ fold-posted (expression decls env base scope) steps

  pub of-Number : (value at : ℕ) → expression decls env (expr.Number value at) scope ≡ as_sort (resolved.Number (pos value)) num
  of-Number value at = expression-roll (Expr-F.Number value at) _ (expr.rolls-Number value at)

  pub of-Word : (word : Word) → expression decls env (expr.Word word) scope ≡ as_sort (resolved.Word (points_of word)) text
  of-Word word = expression-roll (Expr-F.Word word) _ (expr.rolls-Word word)

  pub of-Truth : (value : Bool) (at : ℕ) → expression decls env (expr.Truth value at) scope ≡ as_sort (resolved.Truth value) truth
  of-Truth value at = expression-roll (Expr-F.Truth value at) _ (expr.rolls-Truth value at)

  pub of-Name : (name : Name) → expression decls env (expr.Name name) scope ≡ name_in scope name.text
  of-Name name = expression-roll (Expr-F.Name name) _ (expr.rolls-Name name)

  pub of-Paren : (at : ℕ) (inner : Expr) → expression decls env (expr.Paren at inner) scope ≡ expression decls env inner scope
  of-Paren at inner = expression-roll (Expr-F.Paren at inner) _ (expr.rolls-Paren at inner)

  pub of-Pis : (at : ℕ) (value : Expr) (name : Name) → expression decls env (expr.Pis at value name) scope ≡ pis env (expression decls env value scope) name.text
  of-Pis at value name = expression-roll (Expr-F.Pis at value name) _ (expr.rolls-Pis at value name)

  pub of-Plen : (at : ℕ) (value : Expr) → expression decls env (expr.Plen at value) scope ≡ plen (expression decls env value scope)
  of-Plen at value = expression-roll (Expr-F.Plen at value) _ (expr.rolls-Plen at value)

  pub of-Pforall : (at : ℕ) (name : Name) (low high body : Expr) →
      expression decls env (expr.Pforall at name low high body) scope
      ≡ pforall name.text (expression decls env low scope) (expression decls env high scope) (expression decls env body (hiding name.text stands.Variable num scope))
  of-Pforall at name low high body = expression-roll (Expr-F.Pforall at name low high body) _ (expr.rolls-Pforall at name low high body)

pub ruleset forms = (of-Chain, of-Unary, of-Post, of-Number, of-Word, of-Truth, of-Name, of-Paren, of-Pis, of-Plen, of-Pforall)
