use Rattle.std.proofs.Common.{sym}
use Rattle.pads_piece_rules.specs.Told.{stands}
use Rattle.pads_violations.proofs.DeclarationLemmas.{told-names}
use Rattle.pads_violations.proofs.declaration.name_again.Goals as goal

pub returns : goal.returns
returns c = record {
  told =
      rw (c.lesser.ensures.least, c.in_ok-name.ensures.told, c.options_again-option.ensures.told, c.as_slice.ensures.value, c.in_ok-names.ensures.names, c.options_of.ensures.items)
      (sym (told-names (stands c.args.site.now)));
}
