use Rattle.std.proofs.Common.{sym}
use Rattle.pads_piece_rules.specs.Told.{stands}
use Rattle.pads_violations.proofs.DeclarationLemmas.{told-decl}
use Rattle.pads_violations.proofs.declaration.decl_rules.Goals as goal

pub returns : goal.returns
returns c = record {
  told =
      rw (c.lesser.ensures.least, c.lesser-sources.ensures.least, c.lesser-marks.ensures.least, c.in_ok-names.ensures.told, c.marked_with_params.ensures.told, c.misplaced_source.ensures.told, c.misplaced_precursive.ensures.told)
      (sym (told-decl (stands c.args.site.now)));
}
