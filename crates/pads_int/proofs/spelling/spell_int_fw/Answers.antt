use Rattle.std.proofs.Common.{arith, ◌≡◌, ◌∙◌, ap, length}
use Rattle.std.specs.Fmt.{signed_decimal}
use Rattle.std.proofs.lemmas.Int.{to_z-of_z}
use Rattle.pads_int.proofs.SpellingLemmas.{no_field, not_in_field, no_room, spelled_in_field}
use Rattle.pads_int.proofs.spelling.spell_int_fw.Goals as goal

pub returns-then-not-is_field_width : goal.returns-then-not-is_field_width
returns-then-not-is_field_width c = record { spelling = no_field _ _ _ _ (grind (arith, to_z-of_z)) }

pub returns-then-not-contains : goal.returns-then-not-contains
returns-then-not-contains c = record { spelling = not_in_field _ _ _ _ (grind (arith, to_z-of_z)) (grind (arith, to_z-of_z)) }

pub returns-then-size-text : goal.returns-then-size-text
returns-then-size-text c =
    let number_fits = c.ranges.v in
    let width_fits = c.ranges.width in
    let text : c.as_bytes-text.result.now ≡ signed_decimal c.args.v = c.as_bytes-text.ensures.value ∙ simp to_z-of_z at c.format.ensures.text in
    let less = simp to_z-of_z at c.if-size-text.true in
    record { spelling = no_room _ _ _ _ (grind (arith, to_z-of_z)) (grind (arith, to_z-of_z)) (omega (arith, ap length text)) }

pub returns : goal.returns
returns c =
    let number_fits = c.ranges.v in
    let width_fits = c.ranges.width in
    let text : c.as_bytes-text.result.now ≡ signed_decimal c.args.v = c.as_bytes-text.ensures.value ∙ simp to_z-of_z at c.format.ensures.text in
    let room = simp to_z-of_z at c.if-size-text.false in
    let sign = simp to_z-of_z at c.sign_len.ensures.sign in
    let field = simp to_z-of_z at c.in_ok-zero_filled.ensures.field in
    record { spelling = spelled_in_field _ _ _ _ _ (grind (arith, to_z-of_z)) (grind (arith, to_z-of_z)) (omega (arith, ap length text)) (rw (sign, text) at field) }
