-- Fields computed on the definitions.
use Rattle.std.proofs.Common.{◌≡◌, true, false, pos, negsuc, [], ◌∷◌, Some, None, refl}
use Rattle.pads_value.specs.declared.cause.Cause.TheVariants as cause
use Rattle.pads_value.specs.declared.reading.Read.TheVariants.{Good, Soft, Hard}
use Rattle.pads_decimal.specs.Packed.{packed_field, packed_in_front, packed_reading, packed_bytes, packed_spelling}
use Rattle.pads_decimal.specs.Zoned.{zoned_field, zoned_in_front, zoned_reading, zoned_bytes, zoned_spelling}

-- packed

an_even_number_of_digits : packed_reading (pos 4) true (0x01 ∷ 0x23 ∷ 0x4c ∷ []) ≡ Good 3 (pos 1234)
unfolding packed_reading packed_in_front packed_field
an_even_number_of_digits = refl

a_digit_in_front_of_them : packed_reading (pos 4) true (0x11 ∷ 0x23 ∷ 0x4c ∷ []) ≡ Soft 3 cause.Range
unfolding packed_reading packed_in_front packed_field
a_digit_in_front_of_them = refl

a_sign_that_is_none : packed_reading (pos 4) true (0x01 ∷ 0x23 ∷ 0x4a ∷ []) ≡ Soft 3 cause.Invalid
unfolding packed_reading packed_in_front packed_field
a_sign_that_is_none = refl

too_few_bytes : packed_reading (pos 4) true (0x01 ∷ 0x23 ∷ []) ≡ Hard cause.Width
unfolding packed_reading packed_in_front packed_field
too_few_bytes = refl

minus : packed_reading (pos 7) true (0x01 ∷ 0x23 ∷ 0x45 ∷ 0x6d ∷ 0xf0 ∷ []) ≡ Good 4 (negsuc 123455)
unfolding packed_reading packed_in_front packed_field
minus = refl

minus_without_sign : packed_reading (pos 1) false (0x1d ∷ []) ≡ Soft 1 cause.Invalid
unfolding packed_reading packed_in_front packed_field
minus_without_sign = refl

minus_zero : packed_reading (pos 1) true (0x0d ∷ []) ≡ Good 1 (pos 0)
unfolding packed_reading packed_in_front packed_field
minus_zero = refl

no_digits : packed_reading (pos 0) true (0x0c ∷ []) ≡ Hard cause.BadParam
unfolding packed_reading packed_in_front packed_field
no_digits = refl

nineteen_digits : packed_reading (pos 19) true [] ≡ Hard cause.BadParam
unfolding packed_reading packed_in_front packed_field
nineteen_digits = refl

packed_with_pad : packed_spelling (pos 4) true (negsuc 1233) ≡ Some (0x01 ∷ 0x23 ∷ 0x4d ∷ [])
unfolding packed_spelling packed_bytes
packed_with_pad = refl

zero_is_plus : packed_spelling (pos 3) true (pos 0) ≡ Some (0x00 ∷ 0x0c ∷ [])
unfolding packed_spelling packed_bytes
zero_is_plus = refl

packed_without_sign : packed_spelling (pos 3) false (pos 123) ≡ Some (0x12 ∷ 0x3f ∷ [])
unfolding packed_spelling packed_bytes
packed_without_sign = refl

a_number_too_long : packed_spelling (pos 3) true (pos 1000) ≡ None
unfolding packed_spelling packed_bytes
a_number_too_long = refl

a_negative_number_without_sign : packed_spelling (pos 3) false (negsuc 0) ≡ None
unfolding packed_spelling packed_bytes
a_negative_number_without_sign = refl

-- zoned

zoned_minus : zoned_reading (pos 3) true (0xf1 ∷ 0xf2 ∷ 0xd3 ∷ []) ≡ Good 3 (negsuc 122)
unfolding zoned_reading zoned_in_front zoned_field
zoned_minus = refl

zoned_plus : zoned_reading (pos 3) true (0xf0 ∷ 0xf5 ∷ 0xc0 ∷ []) ≡ Good 3 (pos 50)
unfolding zoned_reading zoned_in_front zoned_field
zoned_plus = refl

a_sign_in_front : zoned_reading (pos 3) true (0xd1 ∷ 0xf2 ∷ 0xf3 ∷ []) ≡ Soft 3 cause.Invalid
unfolding zoned_reading zoned_in_front zoned_field
a_sign_in_front = refl

digits_of_ascii : zoned_reading (pos 3) false (0x31 ∷ 0x32 ∷ 0x33 ∷ []) ≡ Soft 3 cause.Invalid
unfolding zoned_reading zoned_in_front zoned_field
digits_of_ascii = refl

zoned_spelled : zoned_spelling (pos 3) true (pos 123) ≡ Some (0xf1 ∷ 0xf2 ∷ 0xc3 ∷ [])
unfolding zoned_spelling zoned_bytes
zoned_spelled = refl

zoned_without_sign : zoned_spelling (pos 3) false (pos 50) ≡ Some (0xf0 ∷ 0xf5 ∷ 0xf0 ∷ [])
unfolding zoned_spelling zoned_bytes
zoned_without_sign = refl
