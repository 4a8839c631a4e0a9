-- What the code spells is the canonical spelling.
use Rattle.std.proofs.Common.{◌≡◌, ℕ, zero, suc, ◌-◌, ◌<◌, ◌≤◌, nat_le, true, false, ℤ, pos, negsuc, int_lt, List, map, length, replicate, Some, None, refl, arith}
use Rattle.std.specs.Int.RustNames.{unsigned_abs}
use Rattle.std.specs.Fmt.{decimal, signed_decimal}
use Rattle.std.proofs.lemmas.Int.{ints}
use Rattle.std.proofs.lemmas.Bool.{lt-leb, le-leb}
use Rattle.std.proofs.lemmas.List.{map-append}
use Rattle.pads_code.specs.declared.Coding.{Coding}
use Rattle.pads_code.specs.CodePage.{byte_of}
use Rattle.pads_int.specs.declared.kind.Kind.{Kind}
use Rattle.pads_int.specs.Kinds.{in_range}
use Rattle.pads_int.specs.Filled.{filled, sign_of}
use Rattle.pads_int.specs.Spellings.{int_spelling, int_fw_spelling, signed_padded, is_field_width}

pub not_spelled : (kind : Kind) (coding : Coding) (v : ℤ) → in_range kind v ≡ false → None ≡ int_spelling kind coding v
unfolding int_spelling
not_spelled kind coding v out = rw out refl

pub spelled : (kind : Kind) (coding : Coding) (v : ℤ) (bytes : List ℕ) → in_range kind v ≡ true → bytes ≡ map (byte_of coding) (signed_decimal v) → Some bytes ≡ int_spelling kind coding v
unfolding int_spelling
spelled kind coding v bytes within are = rw (within, are) refl

pub no_field : (kind : Kind) (coding : Coding) (width v : ℤ) → is_field_width width ≡ false → None ≡ int_fw_spelling kind coding width v
unfolding int_fw_spelling
no_field kind coding width v other = rw other refl

pub not_in_field : (kind : Kind) (coding : Coding) (width v : ℤ) → is_field_width width ≡ true → in_range kind v ≡ false → None ≡ int_fw_spelling kind coding width v
unfolding int_fw_spelling
not_in_field kind coding width v wide out = rw (wide, out) refl

pub no_room : (kind : Kind) (coding : Coding) (width v : ℤ) → is_field_width width ≡ true → in_range kind v ≡ true → unsigned_abs width < length (signed_decimal v) → None ≡ int_fw_spelling kind coding width v
unfolding int_fw_spelling
no_room kind coding width v wide within less =
    let narrow : nat_le (length (signed_decimal v)) (unsigned_abs width) ≡ false = lt-leb (length (signed_decimal v)) (unsigned_abs width) less in
    rw (wide, within, narrow) refl

pub sign_none : (v : ℤ) → int_lt v (pos 0) ≡ false → 0 ≡ sign_of v
sign_none (pos n) h = refl
sign_none (negsuc n) h = absurd (grind (arith, ints))

pub sign_one : (v : ℤ) → int_lt v (pos 0) ≡ true → 1 ≡ sign_of v
sign_one (pos n) h = absurd (grind (arith, ints))
sign_one (negsuc n) h = refl

pub sign_within : (v : ℤ) → sign_of v ≤ length (signed_decimal v)
sign_within (pos n) = omega arith
sign_within (negsuc n) = omega arith

map-replicate : (f : ℕ → ℕ) (n x : ℕ) → map f (replicate n x) ≡ replicate n (f x)
map-replicate f zero x = refl
map-replicate f (suc n) x = rw (map-replicate f n x) refl

pub signed_padded-filled : (coding : Coding) (size : ℕ) (v : ℤ) → map (byte_of coding) (signed_padded size v) ≡ filled coding size (sign_of v) (signed_decimal v)
signed_padded-filled coding size (pos n) = rw (map-append, map-replicate) refl
signed_padded-filled coding size (negsuc n) =
    let zeros : size - 1 - length (decimal (suc n)) ≡ size - suc (length (decimal (suc n))) = omega arith in
    let f = byte_of coding in
    let rest : ℕ = size - 1 - length (decimal (suc n)) in
    rw (map-append f (replicate rest 48) (decimal (suc n)), map-replicate f rest 48, zeros) refl

pub spelled_in_field : (kind : Kind) (coding : Coding) (width v : ℤ) (bytes : List ℕ) → is_field_width width ≡ true → in_range kind v ≡ true → length (signed_decimal v) ≤ unsigned_abs width
    → bytes ≡ filled coding (unsigned_abs width) (sign_of v) (signed_decimal v) → Some bytes ≡ int_fw_spelling kind coding width v
unfolding int_fw_spelling
spelled_in_field kind coding width v bytes wide within fits are =
    let room : nat_le (length (signed_decimal v)) (unsigned_abs width) ≡ true = le-leb (length (signed_decimal v)) (unsigned_abs width) fits in
    rw (wide, within, room, are, signed_padded-filled coding (unsigned_abs width) v) refl
