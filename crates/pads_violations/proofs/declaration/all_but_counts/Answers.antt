use Rattle.std.proofs.Common.{sym}
use Rattle.pads_piece_rules.specs.Told.{stands}
use Rattle.pads_violations.proofs.DeclarationLemmas.{site-in-two}
use Rattle.pads_violations.proofs.declaration.all_but_counts.Goals as goal

pub returns : goal.returns
returns c = record {
  told =
      rw (c.lesser.ensures.least, c.in_ok-rules.ensures.told, c.in_ok-pieces.ensures.told)
      (sym (site-in-two (stands c.args.site.now)));
}
