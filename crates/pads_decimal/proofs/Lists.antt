-- Half bytes of lists, and lists by their last element.
use Rattle.std.proofs.Common.{◌≡◌, ℕ, zero, suc, ◌+◌, ◌*◌, ◌-◌, ◌%◌, ◌<◌, ◌≤◌, Bool, true, false, ◌&&◌, nat_lt, List, [], ◌∷◌, ◌++◌, length, take, replicate, map, refl, sym, ap, ◌∙◌, arith, append_assoc, take_at, take_all}
use Rattle.std.specs.List.{list_all}
use Rattle.std.proofs.lemmas.Bool.{and_parts, and_from, ltb-true, lt-ltb, eqb-true, eq-eqb}
use Rattle.std.proofs.lemmas.List.{length_push, take_more, get_or_at}
use Rattle.std.proofs.lemmas.Nat.{div-mul-add, mod-mul-add}
use Rattle.pads_decimal.specs.HalfBytes.{high, low, is_digit, halves, joined, last, front}
use Rattle.pads_decimal.specs.Numbers.{is_pair}
use Rattle.pads_decimal.specs.Zoned.{zone, is_zoned}

-- the last of a list, and those in front of it

pub front_push : (xs : List ℕ) (x : ℕ) → front (xs ++ x ∷ []) ≡ xs
front_push xs x = take_at xs (x ∷ []) (length (xs ++ x ∷ []) - 1) (omega (arith, length_push xs x))

pub last_push : (xs : List ℕ) (x : ℕ) → last (xs ++ x ∷ []) ≡ x
last_push xs x = get_or_at xs x [] 0 (length (xs ++ x ∷ []) - 1) (omega (arith, length_push xs x))

pub front_and_last : (xs : List ℕ) → 0 < length xs → xs ≡ front xs ++ last xs ∷ []
front_and_last xs some =
    let whole : take (length xs - 1 + 1) xs ≡ xs = take_all (length xs - 1 + 1) xs (omega arith) in
    sym whole ∙ take_more xs (length xs - 1) 0 (omega arith)

-- half bytes

pub halves-append : (xs ys : List ℕ) → halves (xs ++ ys) ≡ halves xs ++ halves ys
halves-append [] ys = refl
halves-append (x ∷ xs) ys = rw (halves-append xs ys) refl

pub length-halves : (xs : List ℕ) → length (halves xs) ≡ 2 * length xs
length-halves [] = refl
length-halves (x ∷ xs) = omega (arith, length-halves xs)

halves_push : (xs : List ℕ) (x : ℕ) → halves (xs ++ x ∷ []) ≡ (halves xs ++ high x ∷ []) ++ low x ∷ []
halves_push xs x = halves-append xs (x ∷ []) ∙ sym (append_assoc (halves xs) (high x ∷ []) (low x ∷ []))

pub front_halves : (xs : List ℕ) (x : ℕ) → front (halves (xs ++ x ∷ [])) ≡ halves xs ++ high x ∷ []
front_halves xs x = ap front (halves_push xs x) ∙ front_push (halves xs ++ high x ∷ []) (low x)

pub last_halves : (xs : List ℕ) (x : ℕ) → last (halves (xs ++ x ∷ [])) ≡ low x
last_halves xs x = ap last (halves_push xs x) ∙ last_push (halves xs ++ high x ∷ []) (low x)

and_grouped : (a b c : Bool) → (a && (b && c)) ≡ ((a && b) && c)
and_grouped true b c = refl
and_grouped false b c = refl

pub all_pairs : (xs : List ℕ) → list_all is_digit (halves xs) ≡ list_all is_pair xs
all_pairs [] = refl
all_pairs (x ∷ xs) = rw (all_pairs xs) (and_grouped (is_digit (high x)) (is_digit (low x)) (list_all is_pair xs))

-- four bits hold it
abbrev pub is_half : ℕ → Bool
is_half n = nat_lt n 16

pub halves-joined : (hs : List ℕ) → list_all is_half hs ≡ true → length hs % 2 ≡ 0 → halves (joined hs) ≡ hs
halves-joined [] small even = refl
halves-joined (h ∷ []) small even = absurd (omega arith)
halves-joined (h ∷ l ∷ rest) small even =
    let one = and_parts (is_half h) (is_half l && list_all is_half rest) small in
    let two = and_parts (is_half l) (list_all is_half rest) one.1 in
    let lt : l < 16 = ltb-true l 16 two.0 in
    rw (div-mul-add h 16 l lt, mod-mul-add h 16 l lt, halves-joined rest two.1 (omega arith)) refl

pub length-joined : (hs : List ℕ) → 2 * length (joined hs) ≤ length hs
length-joined [] = omega arith
length-joined (h ∷ []) = omega arith
length-joined (h ∷ l ∷ rest) = omega (arith, length-joined rest)

pub digits_are_halves : (ds : List ℕ) → list_all is_digit ds ≡ true → list_all is_half ds ≡ true
digits_are_halves [] all = refl
digits_are_halves (d ∷ ds) all =
    let both = and_parts (is_digit d) (list_all is_digit ds) all in
    let small : d < 10 = ltb-true d 10 both.0 in
    and_from (is_half d) (list_all is_half ds) (lt-ltb d 16 (omega arith)) (digits_are_halves ds both.1)

-- digits in their zones have the zones, and are digits
pub zones_of : (xs : List ℕ) → list_all is_zoned xs ≡ true → map high xs ≡ replicate (length xs) zone
zones_of [] all = refl
zones_of (x ∷ xs) all =
    let both = and_parts (is_zoned x) (list_all is_zoned xs) all in
    let this = and_parts _ (is_digit (low x)) both.0 in
    rw (eqb-true (high x) zone this.0, zones_of xs both.1) refl

pub digits_in_zones : (xs : List ℕ) → list_all is_zoned xs ≡ true → list_all is_digit (map low xs) ≡ true
digits_in_zones [] all = refl
digits_in_zones (x ∷ xs) all =
    let both = and_parts (is_zoned x) (list_all is_zoned xs) all in
    let this = and_parts _ (is_digit (low x)) both.0 in
    and_from (is_digit (low x)) (list_all is_digit (map low xs)) this.1 (digits_in_zones xs both.1)

pub zoned_from : (xs : List ℕ) (k : ℕ) → map high xs ≡ replicate k zone → list_all is_digit (map low xs) ≡ true → list_all is_zoned xs ≡ true
zoned_from [] k zones all = refl
zoned_from (x ∷ xs) zero zones all = cc
zoned_from (x ∷ xs) (suc k) zones all =
    let both = and_parts (is_digit (low x)) (list_all is_digit (map low xs)) all in
    let this : high x ≡ zone = cc in
    let rest : map high xs ≡ replicate k zone = cc in
    and_from (is_zoned x) (list_all is_zoned xs) (and_from _ (is_digit (low x)) (eq-eqb (high x) zone this) both.0) (zoned_from xs k rest both.1)
