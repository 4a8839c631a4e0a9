use Rattle.std.proofs.Common.{◌∙◌, ap}
use Rattle.pads_resolution.specs.Numbers.{number_of}
use Rattle.pads_resolve_expr.proofs.PartLemmas.{field-number}
use Rattle.pads_resolve_expr.proofs.numbers.field_number.Goals as goal

pub returns : goal.returns
returns c = record { number = c.number_of.ensures.number ∙ ap number_of c.part_position.ensures.first ∙ field-number c.args.decls.now c.args.number c.args.name.now }
