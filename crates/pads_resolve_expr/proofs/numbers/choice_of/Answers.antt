use Rattle.std.proofs.Common.{◌∙◌, ap}
use Rattle.pads_rules.specs.Members.{content_of}
use Rattle.pads_resolution.specs.Numbers.{number_of}
use Rattle.pads_resolve_expr.proofs.PartLemmas.{choice-number}
use Rattle.pads_resolve_expr.proofs.numbers.choice_of.Goals as goal

pub returns : goal.returns
returns c = record { number = c.number_of.ensures.number ∙ ap number_of c.choice_position.ensures.first ∙ choice-number (content_of c.args.env.now c.args.number) c.args.name.now }
