use Rattle.std.proofs.Common.{◌≡◌, ◌∙◌, sym, ap, subst, true, false}
use Rattle.pads_grammar.specs.Grammar.{Outcome, begins}
use Rattle.pads_grammar.specs.Kinds.{peek}
use Rattle.pads_grammar.specs.Reads.{Reads}
use Rattle.pads_ast.specs.declared.expr.Expr.{Expr}
use Rattle.pads_syntax_expr.specs.Expressions.{operators, level, unary, sign, step}
use Rattle.pads_syntax_expr.proofs.LevelLaws.{links_go, links_shorter, steps_go, steps_shorter, unary_plain, unary_signed}
use Rattle.pads_syntax_expr.proofs.nested.+expr.Goals as goal

pub links-links-smaller : goal.links-links-smaller
links-links-smaller t c = links_shorter c.args.of (level c.args.part (unary c.args.depth)) c.links.cursor c.joined.new.cursor c.in_ok-joined.field-0 c.in_ok-joined.ensures.reads

pub links-links-preserved : goal.links-links-preserved
links-links-preserved t c = rw c.in_ok-push.ensures.ok (links_go c.args.of (level c.args.part (unary c.args.depth)) _ c.links.rest c.links.cursor c.joined.new.cursor c.in_ok-joined.field-0
    (ap (begins (operators c.args.of)) (sym c.peek.ensures.kind) ∙ (sym c.joins.ensures.begins ∙ c.links-test.true)) c.in_ok-joined.ensures.reads c.links.invariant)

pub steps-steps-smaller : goal.steps-steps-smaller
steps-steps-smaller t c = steps_shorter c.args.inner c.steps.cursor c.step.new.cursor c.in_ok-step.field-0 c.in_ok-step.ensures.reads

pub steps-steps-preserved : goal.steps-steps-preserved
steps-steps-preserved t c = rw c.in_ok-push.ensures.ok (steps_go c.args.inner _ c.steps.steps c.steps.cursor c.step.new.cursor c.in_ok-step.field-0
    (ap (begins (step c.args.inner)) (sym c.peek.ensures.kind) ∙ (sym c.begins_step.ensures.begins ∙ c.steps-test.true)) c.in_ok-step.ensures.reads c.steps.invariant)

pub unary-returns-then-is_sign : goal.unary-returns-then-is_sign
unary-returns-then-is_sign t c =
    let b : begins sign (peek c.args.cursor.now) ≡ true = ap (begins sign) (sym c.peek.ensures.kind) ∙ (sym c.is_sign.ensures.begins ∙ c.if-is_sign.true) in
    record { reads = subst (λ (r : Outcome Expr). Reads r c.signed.result c.signed.new.cursor) (sym (unary_signed c.args.depth c.in-Some.inner c.args.cursor.now (sym c.below.ensures.below ∙ c.in-Some.is) b)) c.signed.ensures.reads }

pub unary-returns-else-is_sign : goal.unary-returns-else-is_sign
unary-returns-else-is_sign t c =
    let b : begins sign (peek c.args.cursor.now) ≡ false = ap (begins sign) (sym c.peek.ensures.kind) ∙ (sym c.is_sign.ensures.begins ∙ c.if-is_sign.false) in
    record { reads = subst (λ (r : Outcome Expr). Reads r c.posted-else-is_sign.result c.posted-else-is_sign.new.cursor) (sym (unary_plain c.args.depth c.in-Some.inner c.args.cursor.now (sym c.below.ensures.below ∙ c.in-Some.is) b)) c.posted-else-is_sign.ensures.reads }
