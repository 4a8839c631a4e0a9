use Rattle.std.proofs.Common.{◌∙◌, ap, is_some}
use Rattle.pads_rules.specs.declared.declared.Declared.{Declared}
use Rattle.pads_rules.specs.Texts.{same_text}
use Rattle.pads_declared.proofs.TypeLemmas.{found-there}
use Rattle.pads_declared.proofs.type_table.TypeTable.declares.Goals as goal

pub returns : goal.returns
returns c = record { declared = c.is_some.ensures ∙ ap is_some c.number_of.ensures.first ∙ found-there (λ (d : Declared). same_text d.name c.args.name.now) c.args.self.now }
