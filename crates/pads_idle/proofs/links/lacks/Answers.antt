use Rattle.std.proofs.Common.{◌∙◌, sym}
use Rattle.std.proofs.lemmas.Bool.{not-true}
use Rattle.pads_steps.specs.Records.{subject_of}
use Rattle.pads_idle.proofs.Idling.{lit-lacks}
use Rattle.pads_idle.proofs.links.lacks.Goals as goal

pub returns : goal.returns
returns c = record {
  lacks = λ is. lit-lacks (subject_of c.args.from.now) c.args.literal.now c.args.place (sym c.stands.ensures.stands ∙ not-true c.stands.result is);
}
