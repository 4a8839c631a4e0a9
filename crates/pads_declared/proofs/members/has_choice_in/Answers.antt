use Rattle.std.proofs.Common.{◌∙◌, ap, is_some}
use Rattle.pads_rules.specs.Members.{content_of}
use Rattle.pads_declared.proofs.MemberLemmas.{choice-there}
use Rattle.pads_declared.proofs.members.has_choice_in.Goals as goal

pub returns : goal.returns
returns c = record { found = c.is_some.ensures ∙ ap is_some c.choice_position.ensures.first ∙ choice-there (content_of c.args.env.now c.args.number) c.args.name.now }
