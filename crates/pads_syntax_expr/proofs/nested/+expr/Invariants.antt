use Rattle.std.proofs.Common.{◌+◌, ◌*◌, length}
use Rattle.pads_grammar.specs.Grammar.{reads, many}
use Rattle.pads_grammar.proofs.Loops.{Whole}
use Rattle.pads_syntax_expr.specs.Expressions.{unary, level, step, link, operators, rank}
use Rattle.pads_syntax_expr.proofs.LevelLaws.{weight}
use Rattle.pads_syntax_expr.proofs.nested.+expr.Given as goal

abbrev pub decreases-level : goal.decreases-level
decreases-level l = l.depth * 128 + (64 + 4 * rank l.of)

abbrev pub decreases-links : goal.decreases-links
decreases-links l = l.depth * 128 + (66 + 4 * rank l.part)

abbrev pub decreases-joined : goal.decreases-joined
decreases-joined l = l.depth * 128 + (65 + 4 * rank l.part)

abbrev pub decreases-signed : goal.decreases-signed
decreases-signed l = l.inner * 128 + 190

abbrev pub decreases-unary : goal.decreases-unary
decreases-unary l = l.depth * 128 + 63

abbrev pub decreases-posted : goal.decreases-posted
decreases-posted l = weight l.inner * 128 + 60

abbrev pub decreases-atom : goal.decreases-atom
decreases-atom l = weight l.inner * 128 + 58

abbrev pub decreases-steps : goal.decreases-steps
decreases-steps l = weight l.inner * 128 + 58

abbrev pub decreases-step : goal.decreases-step
decreases-step l = weight l.inner * 128 + 56

abbrev pub decreases-paren : goal.decreases-paren
decreases-paren l = l.inner * 128 + 182

abbrev pub decreases-pis : goal.decreases-pis
decreases-pis l = l.inner * 128 + 182

abbrev pub decreases-plen : goal.decreases-plen
decreases-plen l = l.inner * 128 + 182

abbrev pub decreases-pforall : goal.decreases-pforall
decreases-pforall l = l.inner * 128 + 182

abbrev pub decreases-body : goal.decreases-body
decreases-body l = l.inner * 128 + 180

abbrev pub invariant-links-links : goal.invariant-links-links
invariant-links-links l = Whole (link (operators l.of) (level l.part (unary l.depth))) (reads (many (link (operators l.of) (level l.part (unary l.depth)))) l.fn.cursor) l.rest l.cursor

abbrev pub decreases-links-links : goal.decreases-links-links
decreases-links-links l = length l.cursor

abbrev pub invariant-steps-steps : goal.invariant-steps-steps
invariant-steps-steps l = Whole (step l.inner) (reads (many (step l.inner)) l.fn.cursor) l.steps l.cursor

abbrev pub decreases-steps-steps : goal.decreases-steps-steps
decreases-steps-steps l = length l.cursor
