-- Texts between quotes, one byte or code point after another.
use Rattle.std.proofs.Common.{◌≡◌, ◌∙◌, sym, ap, ap₂, refl, ℕ, zero, suc, ◌<◌, ◌≤◌, ◌+◌, ◌-◌, ◌/◌, ◌%◌, Bool, true, false, ◌&&◌, ltb-true, List, [], ◌∷◌, ◌++◌, length, take, drop, get_or, encode_utf8, encode_utf8_all, arith}
use Rattle.std.proofs.lemmas.Bool.{eqb-false, le-ltb, lt-ltb, not-true, and_parts}
use Rattle.std.proofs.lemmas.List.{append-nil, append_assoc, take-append-drop, drop-drop, drop-take}
use Rattle.std.proofs.lemmas.List.Folds.{list_all-append}
use Rattle.std.proofs.lemmas.Str.{encode_ascii}
use Rattle.std.specs.List.{list_all}
use lib.Utf8.{encode}
use Rattle.json.specs.Print.{escape_byte, escape}
use Rattle.json.proofs.Printed.Strings.{escape_byte_plain}
use Rattle.pads_json.specs.Texts.{stands, escaped_points}

pub escaped_append : (xs ys : List ℕ) → escape (xs ++ ys) ≡ escape xs ++ escape ys
escaped_append [] ys = refl
escaped_append (x ∷ xs) ys = ap (λ rest. escape_byte x ++ rest) (escaped_append xs ys) ∙ sym (append_assoc (escape_byte x) (escape xs) (escape ys))

record Stands (x : ℕ) : Type 0 where
  byte : escape_byte x ≡ x ∷ []
  point : encode_utf8 x ≡ x ∷ []

alone : (x : ℕ) → stands x ≡ true → Stands x
alone x h =
    let low = and_parts _ _ h in
    let high = and_parts _ _ low.1 in
    let marks = and_parts _ _ high.1 in
    let below : x < 128 = ltb-true x 128 high.0 in
    let above : 31 < x = ltb-true 31 x low.0 in
    record {
      byte = escape_byte_plain x (eqb-false x 34 (not-true _ marks.0)) (eqb-false x 92 (not-true _ marks.1)) (omega (arith, above));
      point = encode_ascii x below;
    }

-- a text that stands as it is, byte by byte
pub bytes_stand : (text : List ℕ) → list_all stands text ≡ true → escape text ≡ text
bytes_stand [] h = refl
bytes_stand (x ∷ text) h =
    let parts = and_parts (stands x) (list_all stands text) h in
    ap₂ (λ (front rest : List ℕ). front ++ rest) (alone x parts.0).byte (bytes_stand text parts.1)

as-encoded : (points : List ℕ) → list_all stands points ≡ true → encode_utf8_all points ≡ points
as-encoded [] h = refl
as-encoded (x ∷ points) h =
    let parts = and_parts (stands x) (list_all stands points) h in
    ap₂ (λ (front rest : List ℕ). front ++ rest) (alone x parts.0).point (as-encoded points parts.1)

pub points_stand : (points : List ℕ) → list_all stands points ≡ true → escaped_points points ≡ points
points_stand points h = ap escape (as-encoded points h) ∙ bytes_stand points h

-- one code point
pub low_written : (x : ℕ) → x < 128 → escape (encode_utf8 x) ≡ escape_byte x
low_written x low = ap escape (encode_ascii x low) ∙ append-nil (escape_byte x)

pub two_bytes : (x : ℕ) → 128 ≤ x → x < 2048 → encode x ≡ (192 + x / 64) ∷ (128 + x % 64) ∷ []
unfolding encode
two_bytes x high low = rw (le-ltb x 128 high, lt-ltb x 2048 low) refl

pub high_written : (x : ℕ) → 128 ≤ x → x < 256 → escape (encode_utf8 x) ≡ (192 + x / 64) ∷ (128 + x % 64) ∷ []
high_written x high low =
    ap escape (two_bytes x high (omega arith))
    ∙ ap₂ (λ (front rest : List ℕ). front ++ rest) (plain (192 + x / 64) (omega arith))
    (ap₂ (λ (front rest : List ℕ). front ++ rest) (plain (128 + x % 64) (omega arith)) refl)
  where
    plain : (b : ℕ) → 128 ≤ b → escape_byte b ≡ b ∷ []
    plain b h = escape_byte_plain b (λ e. omega (arith, e)) (λ e. omega (arith, e)) (omega (arith, h))

-- one more byte
pub byte_next : (text front done : List ℕ) (i next d : ℕ) → next ≡ suc i → i < length text → done ≡ front ++ escape (take i text)
    → done ++ escape_byte (get_or text i d) ≡ front ++ escape (take next text)
byte_next text front done i next d is_next h so_far =
    rw is_next (ap (λ front. front ++ escape_byte (get_or text i d)) so_far
    ∙ append_assoc front (escape (take i text)) (escape_byte (get_or text i d))
    ∙ ap (λ rest. front ++ rest) (sym (one text i h)))
  where
    one : (text : List ℕ) (i : ℕ) → i < length text → escape (take (suc i) text) ≡ escape (take i text) ++ escape_byte (get_or text i d)
    one [] i h = absurd (omega (arith, h))
    one (x ∷ text) zero h = append-nil (escape_byte x)
    one (x ∷ text) (suc i) h = ap (λ rest. escape_byte x ++ rest) (one text i (omega (arith, h))) ∙ sym (append_assoc (escape_byte x) (escape (take i text)) (escape_byte (get_or text i d)))

-- one more code point
pub point_next : (points front done : List ℕ) (i next d : ℕ) → next ≡ suc i → i < length points → done ≡ front ++ escaped_points (take i points)
    → done ++ escape (encode_utf8 (get_or points i d)) ≡ front ++ escaped_points (take next points)
point_next points front done i next d is_next h so_far =
    rw is_next (ap (λ front. front ++ escape (encode_utf8 (get_or points i d))) so_far
    ∙ append_assoc front (escaped_points (take i points)) (escape (encode_utf8 (get_or points i d)))
    ∙ ap (λ rest. front ++ rest) (sym (one points i h)))
  where
    one : (points : List ℕ) (i : ℕ) → i < length points → escaped_points (take (suc i) points) ≡ escaped_points (take i points) ++ escape (encode_utf8 (get_or points i d))
    one [] i h = absurd (omega (arith, h))
    one (x ∷ points) zero h = ap escape (append-nil (encode_utf8 x))
    one (x ∷ points) (suc i) h =
        escaped_append (encode_utf8 x) (encode_utf8_all (take (suc i) points))
        ∙ ap (λ rest. escape (encode_utf8 x) ++ rest) (one points i (omega (arith, h)))
        ∙ sym (append_assoc (escape (encode_utf8 x)) (escaped_points (take i points)) (escape (encode_utf8 (get_or points i d))))
        ∙ ap (λ front. front ++ escape (encode_utf8 (get_or points i d))) (sym (escaped_append (encode_utf8 x) (encode_utf8_all (take i points))))

-- ---- runs of code points

module _ (test : ℕ → Bool) where
  all-dropped : (xs : List ℕ) (i : ℕ) → list_all test xs ≡ true → list_all test (drop i xs) ≡ true
  all-dropped xs zero h = h
  all-dropped [] (suc i) h = refl
  all-dropped (x ∷ xs) (suc i) h = all-dropped xs i (and_parts (test x) (list_all test xs) h).1

  all-split : (xs : List ℕ) (i : ℕ) → list_all test xs ≡ (list_all test (take i xs) && list_all test (drop i xs))
  all-split xs i = ap (list_all test) (sym (take-append-drop i xs)) ∙ list_all-append test (take i xs) (drop i xs)

  -- what is tested twice changes nothing
  once : (front more back : Bool) → (front ≡ true → more ≡ true) → (front && (more && back)) ≡ (front && back)
  once false more back h = refl
  once true more back h = rw (h refl) refl

  -- two runs of one length, which may share elements, cover all
  pub by_ends : (xs : List ℕ) (count : ℕ) → count ≤ length xs → length xs ≤ count + count
      → (list_all test (take count xs) && list_all test (drop (length xs - count) xs)) ≡ list_all test xs
  by_ends xs count fits covers =
      let start = length xs - count in
      let shared = count - start in
      let whole : start + shared ≡ count = omega (arith, fits, covers) in
      let back : drop shared (drop start xs) ≡ drop count xs = drop-drop shared start xs ∙ ap (λ (n : ℕ). drop n xs) whole in
      let twice : drop start (take count xs) ≡ take shared (drop start xs) = ap (λ (n : ℕ). drop start (take n xs)) (sym whole) ∙ drop-take start shared xs in
      ap (λ (b : Bool). list_all test (take count xs) && b) (all-split (drop start xs) shared ∙ ap (λ (rest : List ℕ). list_all test (take shared (drop start xs)) && list_all test rest) back)
      ∙ once (list_all test (take count xs)) (list_all test (take shared (drop start xs))) (list_all test (drop count xs))
      (λ h. ap (list_all test) (sym twice) ∙ all-dropped (take count xs) start h)
      ∙ sym (all-split xs count)
