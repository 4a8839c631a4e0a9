use Rattle.std.proofs.Common.{refl}
use Rattle.pads_machine.proofs.TermsThere.{optional-there}
use Rattle.pads_machine.proofs.doomed.is_optional.Goals as goal

pub returns : goal.returns
returns c = record {
  term = λ is.
      optional-there c.args.code.now c.args.address (c.if-not-marks.ensures.mark refl) (c.if-not-is_one.ensures.term refl) (c.if-not-tries_to.ensures.tries refl) (c.if-not-is_unit.ensures.unit refl)
      (c.if-not-tries_to-2.ensures.tries refl) (c.has_no_arm.ensures.none is);
}
