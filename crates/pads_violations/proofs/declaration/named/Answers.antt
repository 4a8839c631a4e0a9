use Rattle.std.proofs.Common.{sym}
use Rattle.pads_piece_rules.specs.Told.{stands}
use Rattle.pads_violations.proofs.DeclarationLemmas.{told-named}
use Rattle.pads_violations.proofs.declaration.named.Goals as goal

pub returns : goal.returns
returns c = record {
  told =
      rw (c.lesser.ensures.least, c.lesser-others.ensures.least, c.lesser-names.ensures.least, c.name_taken.ensures.told, c.in_ok-again.ensures.told, c.other_name.ensures.told, c.in_ok-spelling_again.ensures.told)
      (sym (told-named (stands c.args.site.now)));
}
