use Rattle.std.proofs.Common.{◌≡◌, take, flat_map}
use Rattle.pads_ast.specs.NameTokens.{names_in_expr}
use Rattle.pads_counts.specs.Met.{met, names_behind}
use Rattle.pads_counts.proofs.in_expr.+meet.Given as goal

abbrev pub invariant-meet_links-loop-link : goal.invariant-meet_links-loop-link
invariant-meet_links-loop-link l = l.names ≡ met l.fn.names (flat_map (λ link. names_in_expr link.operand) (take l.link-index l.links))

abbrev pub invariant-meet_steps-loop-next : goal.invariant-meet_steps-loop-next
invariant-meet_steps-loop-next l = l.names ≡ met l.fn.names (flat_map names_behind (take l.next-index l.steps))
