use Rattle.std.proofs.Common.{◌≡◌, ◌∙◌, ◌++◌, ◌+◌, ◌-◌, ◌*◌, ◌/◌, ◌%◌, ◌^◌, ◌∷◌, [], arith, length, ap, sym, refl}
use Rattle.std.proofs.lemmas.List.{length_push}
use Rattle.pads_decimal.proofs.SpellingLemmas.{packed_rest, packed_more, packed_last, packed_first}
use Rattle.pads_decimal.proofs.packed.packed_bytes.Goals as goal

pub loop-done-preserved : goal.loop-done-preserved
loop-done-preserved c =
    let pairs = c.args.count / 2 in
    let n = c.args.number in
    let place = 2 * (pairs - c.loop-done.done) in
    let first = c.digit_at.ensures.digit in
    let second = c.digit_at-in-loop-done.ensures.digit in
    let items = c.push.ensures.items in
    let more = packed_more c.loop-done.bytes.items (packed_rest n c.args.sign pairs) n c.args.sign pairs c.loop-done.done place (omega arith) refl c.loop-done.invariant.rest in
    record {
      size = ap length items ∙ length_push c.loop-done.bytes.items _ ∙ omega (arith, c.loop-done.invariant.size);
      rest = rw (items, first, second) more;
    }

pub returns : goal.returns
returns c =
    let pairs = c.args.count / 2 in
    let n = c.args.number in
    let digit = c.digit_at-2.ensures.digit in
    let done = packed_last c.loop-done.bytes.items (packed_rest n c.args.sign pairs) n c.args.sign pairs c.loop-done.done (omega arith) c.loop-done.invariant.rest in
    record { bytes = rw (c.push-2.ensures.items, digit) (done ∙ packed_first c.args.count n c.args.sign c.requires.fits) }
