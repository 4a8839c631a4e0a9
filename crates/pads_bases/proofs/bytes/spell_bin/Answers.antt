use Rattle.std.proofs.Common.{◌∙◌, arith, sym}
use Rattle.std.specs.Int.RustNames.{unsigned_abs}
use Rattle.std.proofs.lemmas.Int.{ints, to_z-of_z}
use Rattle.pads_bases.proofs.BinaryLemmas.{no_size_below, no_size_above, not_of_kind, no_place, bytes_spelled}
use Rattle.pads_bases.proofs.bytes.spell_bin.Goals as goal

pub returns-then-size-lt1 : goal.returns-then-size-lt1
returns-then-size-lt1 c = record { spelling = no_size_below _ _ _ _ (grind (arith, to_z-of_z)) }

pub returns-then-size-gt8 : goal.returns-then-size-gt8
returns-then-size-gt8 c = record { spelling = no_size_above _ _ _ _ (grind (arith, to_z-of_z)) }

pub returns-then-not-has_number : goal.returns-then-not-has_number
returns-then-not-has_number c = record { spelling = not_of_kind c.args.range c.args.order c.args.size c.args.v (unsigned_abs c.args.size) (omega (arith, ints)) (grind (arith, to_z-of_z)) }

pub returns-then-not-fits_size : goal.returns-then-not-fits_size
returns-then-not-fits_size c =
    let number_fits = c.ranges.v in
    let size_fits = c.ranges.size in
    let place = simp to_z-of_z at c.fits_size.ensures.fits in
    let signed = c.is_signed.ensures.signed in
    record { spelling = no_place c.args.range c.args.order c.args.size c.args.v (unsigned_abs c.args.size) (omega (arith, ints)) (rw (← signed) (sym place ∙ c.if-not-fits_size.true)) }

pub returns : goal.returns
returns c =
    let number_fits = c.ranges.v in
    let size_fits = c.ranges.size in
    let place = simp to_z-of_z at c.fits_size.ensures.fits in
    let signed = c.is_signed.ensures.signed in
    let bytes = simp to_z-of_z at c.spelled.ensures.bytes in
    record {
      spelling = bytes_spelled c.args.range c.args.order c.args.size c.args.v (unsigned_abs c.args.size) _ (omega (arith, ints)) (omega (arith, ints)) (omega (arith, ints))
          (grind (arith, to_z-of_z)) (rw (← signed) (sym place ∙ c.if-not-fits_size.false)) bytes;
    }
