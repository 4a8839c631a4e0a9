use Rattle.std.proofs.Common.{◌∙◌, ap, not}
use Rattle.pads_walk.proofs.TakenBack.{put-back}
use Rattle.pads_walk.proofs.fields.put_back.Goals as goal

pub returns-in-Some-clause-back : goal.returns-in-Some-clause-back
returns-in-Some-clause-back c value outer front rest bound items size =
    put-back c.args.part.now.name c.in-Some.field-0-0 c.in-Some.value value outer c.args.env.now.pairs c.pop.new.self.pairs c.args.values.now.items front rest c.args.at
    (c.is_none.ensures ∙ ap not c.if-is_none.false) c.in-Some.ensures.latest bound items size
