use Rattle.std.proofs.Common.{◌∙◌, refl}
use Rattle.pads_rules.specs.Pieces.{sight}
use Rattle.pads_piece_rules.specs.Told.{stands}
use Rattle.pads_piece_rules.proofs.Steps.{none-lesser}
use Rattle.pads_violations.proofs.WalkLemmas.{parts-step, parts-end, names-step, names-end}
use Rattle.pads_violations.proofs.struct_parts.parts.Goals as goal

pub loop-number-init : goal.loop-number-init
loop-number-init c = record { told = none-lesser _; names = refl }

pub loop-number-preserved : goal.loop-number-preserved
loop-number-preserved c = record {
  told =
      rw (c.lesser-best.ensures.least, c.in_ok-fault.ensures.told, c.in_ok-fault.ensures.names, c.from.ensures.rest)
      (parts-step (stands c.args.site.now) (sight (stands c.args.site.now)) c.loop-number.names c.args.parts.now c.loop-number.number c.index-parts-number.result c.loop-number.best
      c.loop-number-test.true c.index-parts-number.is ∙ c.loop-number.invariant.told);
  names =
      rw (c.in_ok-fault.ensures.names)
      (names-step (sight (stands c.args.site.now)) c.loop-number.names c.args.parts.now c.loop-number.number c.index-parts-number.result c.loop-number-test.true c.index-parts-number.is
      ∙ c.loop-number.invariant.names);
}

pub returns : goal.returns
returns c = record {
  told =
      parts-end (stands c.args.site.now) (sight (stands c.args.site.now)) c.loop-number.names c.args.parts.now c.loop-number.number c.loop-number.best _ c.loop-number-test.false
      c.loop-number.invariant.told;
  names = names-end (sight (stands c.args.site.now)) c.loop-number.names c.args.parts.now c.loop-number.number _ c.loop-number-test.false c.loop-number.invariant.names;
}
