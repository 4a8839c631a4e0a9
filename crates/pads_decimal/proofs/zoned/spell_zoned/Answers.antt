use Rattle.std.proofs.Common.{◌≡◌, ◌∙◌, arith, sym}
use Rattle.std.proofs.lemmas.Int.{ints, to_z-of_z}
use Rattle.pads_decimal.proofs.SpellingLemmas.{zoned_uncounted, zoned_unfit, zoned_spelled, fit_small}
use Rattle.pads_decimal.proofs.Good.{written_sign}
use Rattle.pads_decimal.proofs.zoned.spell_zoned.Goals as goal

pub returns-in-None : goal.returns-in-None
returns-in-None c =
    let digits_fit = c.ranges.digits in
    record { spelling = zoned_uncounted c.args.digits c.args.signed c.args.v (simp to_z-of_z at c.in-None.ensures.count) }

pub returns-then-not-fits : goal.returns-then-not-fits
returns-then-not-fits c =
    let digits_fit = c.ranges.digits in
    let number_fits = c.ranges.v in
    record { spelling = zoned_unfit c.args.digits c.args.signed c.args.v c.in-Some.count (simp to_z-of_z at c.in-Some.ensures.count) (sym (simp to_z-of_z at c.fits.ensures.fits) ∙ c.if-not-fits.true) }

pub returns : goal.returns
returns c =
    let digits_fit = c.ranges.digits in
    let number_fits = c.ranges.v in
    let size = simp to_z-of_z at c.unsigned_abs-number.ensures.value in
    let sign = simp to_z-of_z at c.sign_of.ensures.sign in
    let bytes = c.zoned_bytes.ensures.bytes in
    record {
      spelling = zoned_spelled c.args.digits c.args.signed c.args.v c.in-Some.count c.zoned_bytes.result.items (simp to_z-of_z at c.in-Some.ensures.count)
          (sym (simp to_z-of_z at c.fits.ensures.fits) ∙ c.if-not-fits.false) (rw (size, sign) at bytes);
    }
