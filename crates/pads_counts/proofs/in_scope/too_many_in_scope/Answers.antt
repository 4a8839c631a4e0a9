use Rattle.pads_counts.proofs.CountLaws.{scope-told}
use Rattle.pads_counts.proofs.in_scope.too_many_in_scope.Goals as goal

pub returns : goal.returns
returns c = record { much = scope-told c.args.body.now _ _ _ c.in_ok-count.ensures.count c.has_one_more.ensures.one c.exceeds.ensures.much }
