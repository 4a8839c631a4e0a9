-- What begins an outermost expression, and that one token decides in it.
use Rattle.std.proofs.Common.{◌≡◌, ℕ, suc, Bool, true, false, not, ◌&&◌, refl, sym, ◌∙◌}
use Rattle.pads_grammar.specs.declared.kind.Kind.{Kind}
use Rattle.pads_grammar.specs.Kinds.{all_kinds}
use Rattle.pads_grammar.specs.Grammar.{nullable, begins, ahead, Apart, Decides}
use Rattle.pads_grammar.proofs.Disjoint.{all_of, apart_by, every_kind}
use Rattle.pads_syntax_expr.specs.Expressions.{expr, unary, begins_expr}
use Rattle.pads_syntax_expr.proofs.ExprDecides.{any_on, expr_ok}
use Rattle.pads_syntax_parts.specs.Types.{expression}

abbrev pub alike : Bool → Bool → Bool
alike true b = b
alike false b = not b

pub agree : (a b : Bool) → alike a b ≡ true → a ≡ b
agree true true h = refl
agree true false h = cc
agree false true h = cc
agree false false h = refl

begins_nested : (d : ℕ) (j : Kind) → begins (expr (suc d)) j ≡ begins_expr j
unfolding unary
begins_nested d j = agree (begins (expr (suc d)) j) (begins_expr j) (every_kind (λ i. alike (begins (expr (suc d)) i) (begins_expr i)) refl j)

solid_nested : (d : ℕ) → nullable (expr (suc d)) ≡ false
unfolding unary
solid_nested d = refl

pub begins_expression : (j : Kind) → begins expression j ≡ begins_expr j
unfolding expression
begins_expression j = begins_nested 63 j

pub solid_expression : nullable expression ≡ false
unfolding expression
solid_expression = solid_nested 63

pub expression_ok : (F : Kind → Bool) → Apart any_on F → Decides expression F
unfolding expression
expression_ok F f = expr_ok 64 F f

-- What is apart from all that begins an expression.
pub apart_from : (I : Kind → Bool) → all_of (λ j. not (I j && begins_expr j)) all_kinds ≡ true → (F : Kind → Bool) → Apart I (ahead expression F)
apart_from I h F j e = rw (solid_expression, begins_expression j, apart_by I begins_expr h j e) refl

pub apart_to : (F : Kind → Bool) → all_of (λ j. not (begins_expr j && F j)) all_kinds ≡ true → Apart (begins expression) F
apart_to F h j e = apart_by begins_expr F h j (sym (begins_expression j) ∙ e)
