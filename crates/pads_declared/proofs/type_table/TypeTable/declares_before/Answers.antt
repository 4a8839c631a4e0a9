use Rattle.std.proofs.Common.{◌∙◌, sym, None}
use Rattle.pads_rules.specs.declared.declared.Declared.{Declared}
use Rattle.pads_rules.specs.Texts.{same_text}
use Rattle.pads_declared.proofs.TypeLemmas.{first-before, found-before}
use Rattle.pads_declared.proofs.type_table.TypeTable.declares_before.Goals as goal

pub returns-in-Some : goal.returns-in-Some
returns-in-Some c = record {
  declared =
      first-before (λ (d : Declared). same_text d.name c.args.name.now) c.args.number c.args.self.now c.in-Some.first (sym c.number_of.ensures.first ∙ c.in-Some.is);
}

pub returns-in-None : goal.returns-in-None
returns-in-None c = record {
  declared = found-before (λ (d : Declared). same_text d.name c.args.name.now) c.args.number c.args.self.now None (sym c.number_of.ensures.first ∙ c.in-None.is);
}
