use Rattle.std.proofs.Common.{◌∙◌}
use Rattle.pads_value.proofs.NameLemmas.{texts-copied}
use Rattle.pads_value.proofs.name_table.NameTable.copy.Goals as goal

pub returns : goal.returns
returns c = record {
  equal = texts-copied c.self.inside.names.keys c.in_ok-clone.field-0.keys c.in_ok-clone.ensures.cases ∙ c.self.view_is;
}
