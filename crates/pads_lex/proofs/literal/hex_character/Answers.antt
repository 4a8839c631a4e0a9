use Rattle.std.proofs.Common.{sym, ◌∙◌, arith}
use Rattle.pads_lex.proofs.ByteLemmas.{digit_small}
use Rattle.pads_lex.proofs.literal.hex_character.Goals as goal

pub overflow_mul-result : goal.overflow_mul-result
overflow_mul-result c =
    let high = digit_small c.args.high (sym c.is_hex.ensures.class ∙ c.if-is_hex.true) in
    omega (arith, high, c.digit_value.ensures.value)

pub overflow_add-result : goal.overflow_add-result
overflow_add-result c =
    let high = digit_small c.args.high (sym c.is_hex.ensures.class ∙ c.if-is_hex.true) in
    let low = digit_small c.args.low (sym c.is_hex-then-is_hex.ensures.class ∙ c.if-is_hex-2.true) in
    omega (arith, high, low, c.digit_value.ensures.value, c.digit_value-then-is_hex-2.ensures.value)
