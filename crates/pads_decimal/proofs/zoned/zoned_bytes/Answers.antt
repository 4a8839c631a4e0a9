use Rattle.std.proofs.Common.{◌≡◌, ◌∙◌, ◌-◌, arith, length, ap, refl}
use Rattle.std.proofs.lemmas.List.{length_push}
use Rattle.pads_decimal.proofs.SpellingLemmas.{zoned_rest, zoned_more, zoned_last, zoned_first}
use Rattle.pads_decimal.proofs.zoned.zoned_bytes.Goals as goal

pub loop-done-preserved : goal.loop-done-preserved
loop-done-preserved c =
    let last = c.args.count - 1 in
    let n = c.args.number in
    let digit = c.digit_at.ensures.digit in
    let items = c.push.ensures.items in
    let more = zoned_more c.loop-done.bytes.items (zoned_rest n c.args.sign last) n c.args.sign last c.loop-done.done (last - c.loop-done.done) (omega arith) refl c.loop-done.invariant.rest in
    record {
      size = ap length items ∙ length_push c.loop-done.bytes.items _ ∙ omega (arith, c.loop-done.invariant.size);
      rest = rw (items, digit) more;
    }

pub returns : goal.returns
returns c =
    let last = c.args.count - 1 in
    let n = c.args.number in
    let digit = c.digit_at-2.ensures.digit in
    let done = zoned_last c.loop-done.bytes.items (zoned_rest n c.args.sign last) n c.args.sign last c.loop-done.done (omega arith) c.loop-done.invariant.rest in
    record { bytes = rw (c.push-2.ensures.items, digit) (done ∙ zoned_first c.args.count n c.args.sign c.requires.some) }
