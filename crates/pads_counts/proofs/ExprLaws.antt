-- The names of expressions, form by form.
use Rattle.std.proofs.Common.{◌≡◌, ◌∙◌, ap, refl, ℕ, Bool, List, [], ◌∷◌, ◌++◌, flat_map, ◌⊎◌, inl, inr}
use Rattle.pads_ast.specs.declared.expr.Expr.{Expr, Expr-F}
use Rattle.pads_ast.specs.declared.expr.Expr.TheShapes.{former-Expr-Chain-1, former-Expr-Post-1}
use Rattle.pads_ast.specs.declared.expr.Expr.TheVariants as expr
use Rattle.pads_ast.specs.declared.expr.Link.{Link}
use Rattle.pads_ast.specs.declared.expr.Step.{Step}
use Rattle.pads_ast.specs.declared.expr.Step.TheVariants as step_form
use Rattle.pads_ast.specs.declared.name.Word.{Word}
use Rattle.pads_ast.specs.NameTokens.{Names, names_in_expr, names_in_step}
use Rattle.pads_ast.proofs.ExprNames.{names_as, names_in-Number, names_in-Word, names_in-Truth}
use Rattle.pads_counts.specs.Met.{names_behind}

in-links : (links : List (Link Expr)) →
    flat_map (λ link. link.operand) ((former-Expr-Chain-1).map Expr Names names_in_expr links) ≡ flat_map (λ link. names_in_expr link.operand) links
in-links [] = refl
in-links (link ∷ links) = ap (λ names. names_in_expr link.operand ++ names) (in-links links)

in-steps : (steps : List (Step Expr)) →
    flat_map names_in_step ((former-Expr-Post-1).map Expr Names names_in_expr steps) ≡ flat_map names_behind steps
in-steps [] = refl
in-steps (step_form.Name name ∷ steps) = ap (λ names. name.text ∷ names) (in-steps steps)
in-steps (step_form.Index at index ∷ steps) = ap (λ names. names_in_expr index ++ names) (in-steps steps)

pub in-Chain : (first : Expr) (links : List (Link Expr)) →
    names_in_expr (expr.Chain first links) ≡ names_in_expr first ++ flat_map (λ link. names_in_expr link.operand) links
in-Chain first links = names_as (Expr-F.Chain first links) _ (expr.rolls-Chain first links) ∙ ap (λ names. names_in_expr first ++ names) (in-links links)

pub in-Post : (base : Expr) (steps : List (Step Expr)) → names_in_expr (expr.Post base steps) ≡ names_in_expr base ++ flat_map names_behind steps
in-Post base steps = names_as (Expr-F.Post base steps) _ (expr.rolls-Post base steps) ∙ ap (λ names. names_in_expr base ++ names) (in-steps steps)

-- an expression of one literal has no names
pub nameless : (e : Expr) → ((value : ℕ) × (at : ℕ) × e ≡ expr.Number value at) ⊎ (((word : Word) × e ≡ expr.Word word) ⊎ ((value : Bool) × (at : ℕ) × e ≡ expr.Truth value at)) →
    names_in_expr e ≡ []
nameless e (inl h) = ap names_in_expr h.2 ∙ names_in-Number h.0 h.1
nameless e (inr (inl h)) = ap names_in_expr h.1 ∙ names_in-Word h.0
nameless e (inr (inr h)) = ap names_in_expr h.2 ∙ names_in-Truth h.0 h.1
