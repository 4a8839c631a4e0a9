use Rattle.std.proofs.Common.{sym}
use Rattle.pads_piece_rules.specs.Told.{stands}
use Rattle.pads_violations.proofs.WalkLemmas.{in-names}
use Rattle.pads_violations.proofs.BodyLemmas.{told-array}
use Rattle.pads_violations.proofs.bodies.array.Goals as goal

pub returns : goal.returns
returns c = record {
  told =
      rw (c.lesser.ensures.least, c.lesser-before.ensures.least, c.used.ensures.told, c.sizes.ensures.told, c.with_length.ensures.told, in-names)
      (sym (told-array (stands c.args.site.now) c.args.site.now.number c.args.params.now c.args.d.now));
}
