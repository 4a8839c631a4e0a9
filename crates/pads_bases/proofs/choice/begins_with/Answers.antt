use Rattle.std.proofs.Common.{arith, sym, ◌∙◌}
use Rattle.pads_code.specs.CodePage.{points_of}
use Rattle.pads_code.proofs.TextLemmas.{length-points}
use Rattle.pads_bases.proofs.ChoiceLemmas.{begins_short, begins_differs, begins_goes_on}
use Rattle.pads_bases.proofs.choice.begins_with.Goals as goal

pub returns-then-bytes-spelling : goal.returns-then-bytes-spelling
returns-then-bytes-spelling c =
    record { begins = sym (begins_short c.args.spelling.now (points_of c.args.coding c.args.bytes.now) (omega (arith, length-points c.args.coding c.args.bytes.now))) }

pub returns-then-decode-point : goal.returns-then-decode-point
returns-then-decode-point c = record { begins = begins_differs c.args.coding c.args.spelling.now c.args.bytes.now c.loop-place.place (omega arith) (omega arith) c.loop-place.invariant (λ e. c.if-decode-point.true (c.decode.ensures.code_page ∙ e)) }

pub loop-place-preserved : goal.loop-place-preserved
loop-place-preserved c = begins_goes_on c.args.coding c.args.spelling.now c.args.bytes.now c.loop-place.place (omega arith) (omega arith) c.loop-place.invariant (sym c.decode.ensures.code_page ∙ c.if-decode-point.false)
