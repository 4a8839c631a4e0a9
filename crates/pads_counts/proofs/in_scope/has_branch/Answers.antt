use Rattle.std.proofs.Common.{◌∙◌, ap, nat_lt}
use Rattle.pads_ast.specs.Trees.{branches_of}
use Rattle.pads_counts.proofs.CountLaws.{has-some}
use Rattle.pads_counts.proofs.in_scope.has_branch.Goals as goal

pub returns : goal.returns
returns c = record { branch = ap (nat_lt 0) c.branch_count.ensures.count ∙ has-some (branches_of c.args.body.now) }
