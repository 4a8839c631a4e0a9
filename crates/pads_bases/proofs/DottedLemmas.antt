-- What the code spells of an address, piece by piece, is the canonical spelling.
use Rattle.std.proofs.Common.{◌≡◌, ℕ, ◌/◌, ◌%◌, ◌^◌, ◌<◌, ℤ, pos, negsuc, int_lt, nat_lt, true, false, List, ◌∷◌, ◌++◌, Some, None, refl, arith, append_assoc}
use Rattle.std.specs.Int.RustNames.{unsigned_abs}
use Rattle.std.specs.Fmt.{decimal}
use Rattle.std.proofs.lemmas.Int.{ints}
use Rattle.std.proofs.lemmas.Bool.{lt-ltb}
use Rattle.std.proofs.lemmas.List.{map-append}
use Rattle.pads_code.specs.declared.Coding.{Coding}
use Rattle.pads_code.specs.CodePage.{byte_of, bytes_of}
use Rattle.pads_bases.specs.Addresses.{dot, ip_spelling}

pub spelled_below : (coding : Coding) (v : ℤ) → int_lt v (pos 0) ≡ true → None ≡ ip_spelling coding v
unfolding ip_spelling
spelled_below coding (negsuc n) h = refl
spelled_below coding (pos n) h = absurd (grind (arith, ints))

pub spelled_above : (coding : Coding) (v : ℤ) → int_lt (pos 4294967295) v ≡ true → None ≡ ip_spelling coding v
unfolding ip_spelling
spelled_above coding (negsuc n) h = absurd (grind (arith, ints))
spelled_above coding (pos n) h = let large : nat_lt n (2 ^ 32) ≡ false = grind (arith, ints) in rw large refl

-- four octets, each put behind the others
abbrev pub pieces : Coding → ℕ → List ℕ
pieces coding n =
    let octet : ℕ → List ℕ = λ k. bytes_of coding (decimal k) in
    let mark = byte_of coding dot in
    ((octet (n / 2 ^ 24) ++ mark ∷ octet (n / 2 ^ 16 % 256)) ++ mark ∷ octet (n / 2 ^ 8 % 256)) ++ mark ∷ octet (n % 256)

four_parts : (coding : Coding) (a b c d : List ℕ) → bytes_of coding (a ++ dot ∷ (b ++ dot ∷ (c ++ dot ∷ d)))
    ≡ ((bytes_of coding a ++ byte_of coding dot ∷ bytes_of coding b) ++ byte_of coding dot ∷ bytes_of coding c) ++ byte_of coding dot ∷ bytes_of coding d
four_parts coding a b c d = simp (map-append, append_assoc)

pub spelled_address : (coding : Coding) (v : ℤ) (n : ℕ) (bytes : List ℕ) → v ≡ pos n → n < 2 ^ 32 → bytes ≡ pieces coding n → Some bytes ≡ ip_spelling coding v
unfolding ip_spelling
spelled_address coding v n bytes is small are =
    let low : nat_lt n (2 ^ 32) ≡ true = lt-ltb n (2 ^ 32) small in
    rw (is, low, are, four_parts coding (decimal (n / 2 ^ 24)) (decimal (n / 2 ^ 16 % 256)) (decimal (n / 2 ^ 8 % 256)) (decimal (n % 256))) refl

pub in_32_bits : (v : ℤ) → int_lt v (pos 0) ≡ false → int_lt (pos 4294967295) v ≡ false → (v ≡ pos (unsigned_abs v)) × (unsigned_abs v < 2 ^ 32)
in_32_bits (pos n) low high = (refl, grind (arith, ints))
in_32_bits (negsuc n) low high = absurd (grind (arith, ints))
