use Rattle.std.proofs.Common.{◌∙◌, sym}
use Rattle.pads_int.proofs.ReadingLemmas.{FindsDigits, run_without_digits, run_with_digits}
use Rattle.pads_int.proofs.reading.read_int.Goals as goal

pub returns-then-is_empty : goal.returns-then-is_empty
returns-then-is_empty c =
    let found : FindsDigits c.args.kind c.args.coding c.args.bytes.now c.sign_len-sign.result c.split_at.result.1.now c.leading_digits-digits.result.now =
    record { size = c.sign_len-sign.ensures.size; behind = c.split_at.ensures.back; run = c.leading_digits-digits.ensures.run } in
    record { reading = run_without_digits _ _ _ _ _ _ found (sym c.is_empty.ensures ∙ c.if-is_empty.true) }

pub returns : goal.returns
returns c =
    let found : FindsDigits c.args.kind c.args.coding c.args.bytes.now c.sign_len-sign.result c.split_at.result.1.now c.leading_digits-digits.result.now =
    record { size = c.sign_len-sign.ensures.size; behind = c.split_at.ensures.back; run = c.leading_digits-digits.ensures.run } in
    record {
      reading = c.ranged.ensures.range
          ∙ rw (c.has_minus-negative.ensures.negative, c.magnitude.ensures.number) (run_with_digits _ _ _ _ _ _ found (sym c.is_empty.ensures ∙ c.if-is_empty.false));
    }
