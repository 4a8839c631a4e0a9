-- Addresses read what they spell.
use Rattle.std.proofs.Common.{◌≡◌, ℕ, ◌+◌, ◌-◌, ◌*◌, ◌/◌, ◌%◌, ◌^◌, ◌<◌, ◌≤◌, ◌&&◌, Bool, true, false, cond, ℤ, pos, negsuc, nat_eq, nat_lt, nat_le, List, [], ◌∷◌, ◌++◌, length, take, drop, Option, Some, None, option_map, option_and_then, refl, sym, ap, ◌∙◌, arith, append_assoc, append-nil, length-append, length-take-le}
use Rattle.std.specs.Option.{IsSomeAnd}
use Rattle.std.specs.Char.{is_ascii_digit}
use Rattle.std.specs.List.{prefix_len, take_while}
use Rattle.std.specs.Fmt.{decimal}
use Rattle.std.proofs.Math.Seq.{take-append_seam, drop-append_seam}
use Rattle.std.proofs.lemmas.List.{take-append-drop}
use Rattle.std.proofs.lemmas.List.Folds.{prefix_len-append, length-prefix_len}
use Rattle.std.proofs.lemmas.Fmt.{length-decimal-le}
use Rattle.std.proofs.lemmas.Bool.{eqb-true, eq-eqb, ltb-true, lt-ltb, leb-true, le-leb, and_parts}
use Rattle.pads_value.specs.declared.reading.Read.TheVariants.{Good}
use Rattle.pads_code.specs.declared.Coding.{Coding}
use Rattle.pads_code.specs.CodePage.{points_of, bytes_of}
use Rattle.pads_code.specs.Numerals.{is_numeral, number}
use Rattle.pads_code.proofs.TextLemmas.{length-points, length-bytes, points-take, points-bytes}
use Rattle.pads_code.proofs.NumeralLemmas.{numeral_parts, digits_run, decimal-numeral, number-decimal, length-decimal-number, spelled_if}
use Rattle.pads_bases.specs.Addresses.{dot, is_octet, Numbered, octet, behind_dot, joined, next_octet, address, address_read, ip_reading, dotted, ip_spelling, IsAddress, SpellsIp}

-- an octet in front, by its parts
pub record OctetIn (points digits : List ℕ) (o : Numbered) : Type 0 where
  pub parts : points ≡ digits ++ o.rest
  pub octet : is_octet digits ≡ true
  pub number : o.number ≡ number digits

taken_if : (b : Bool) (x o : Numbered) → cond b (Some x) None ≡ Some o → (b ≡ true) × (o ≡ x)
taken_if true x o e = (refl, cc)
taken_if false x o e = cc

octet_in : (points : List ℕ) (o : Numbered) → octet points ≡ Some o → OctetIn points (take_while is_ascii_digit points) o
unfolding octet
octet_in points o e =
    let digits = take_while is_ascii_digit points in
    let found = taken_if (is_octet digits) (record { number = number digits; rest = drop (length digits) points }) o e in
    let rest : o.rest ≡ drop (length digits) points = ap (λ (x : Numbered). x.rest) found.1 in
    record {
      parts = sym (ap (λ r. digits ++ r) rest ∙ rw (length-prefix_len is_ascii_digit points) (take-append-drop (prefix_len is_ascii_digit points) points));
      octet = found.0;
      number = ap (λ (x : Numbered). x.number) found.1;
    }

dot_in : (points rest : List ℕ) → behind_dot points ≡ Some rest → points ≡ dot ∷ rest
dot_in [] rest e = cc
dot_in (p ∷ ps) rest e = elim (nat_eq p dot) as (λ b. nat_eq p dot ≡ b → cond b (Some ps) None ≡ Some rest → p ∷ ps ≡ dot ∷ rest) [
  | true ↦ λ is h. let same : ps ≡ rest = cc in rw (eqb-true p dot is, same) refl
  | false ↦ λ is h. cc
] refl e

-- one more octet, behind a dot
pub record NextIn (before : Numbered) (o : Numbered) : Type 0 where
  pub digits : List ℕ
  pub parts : before.rest ≡ dot ∷ (digits ++ o.rest)
  pub octet : is_octet digits ≡ true
  pub number : o.number ≡ before.number * 256 + number digits

joined_some : (front : ℕ) (r : Option Numbered) (o : Numbered) → option_map (joined front) r ≡ Some o → (x : Numbered) × (r ≡ Some x) × (o ≡ joined front x)
joined_some front None o e = cc
joined_some front (Some x) o e = (x, refl, cc)

behind_some : (r : Option (List ℕ)) (o : Numbered) → option_and_then octet r ≡ Some o → (rest : List ℕ) × (r ≡ Some rest) × (octet rest ≡ Some o)
behind_some None o e = cc
behind_some (Some rest) o e = (rest, refl, e)

next_in : (before o : Numbered) → next_octet before ≡ Some o → NextIn before o
unfolding next_octet
next_in before o e =
    let joint = joined_some before.number (option_and_then octet (behind_dot before.rest)) o e in
    let behind = behind_some (behind_dot before.rest) joint.0 joint.1 in
    let found = octet_in behind.0 joint.0 behind.2 in
    let rest : o.rest ≡ joint.0.rest = ap (λ (x : Numbered). x.rest) joint.2 in
    record {
      digits = take_while is_ascii_digit behind.0;
      parts = dot_in before.rest behind.0 behind.1 ∙ ap (λ r. dot ∷ r) (found.parts ∙ ap (λ r. take_while is_ascii_digit behind.0 ++ r) (sym rest));
      octet = found.octet;
      number = ap (λ (x : Numbered). x.number) joint.2 ∙ ap (λ (k : ℕ). before.number * 256 + k) found.number;
    }

next_some : (r : Option Numbered) (o : Numbered) → option_and_then next_octet r ≡ Some o → (before : Numbered) × (r ≡ Some before) × (next_octet before ≡ Some o)
next_some None o e = cc
next_some (Some before) o e = (before, refl, e)

-- an address in front, and what stands behind it
pub record AddressIn (points : List ℕ) (o : Numbered) : Type 0 where
  pub text : List ℕ
  pub parts : points ≡ text ++ o.rest
  pub address : IsAddress o.number text

pub address_in : (points : List ℕ) (o : Numbered) → address points ≡ Some o → AddressIn points o
unfolding address
address_in points o e =
    let three = next_some (option_and_then next_octet (option_and_then next_octet (octet points))) o e in
    let two = next_some (option_and_then next_octet (octet points)) three.0 three.1 in
    let one = next_some (octet points) two.0 two.1 in
    let first = octet_in points one.0 one.1 in
    let second = next_in one.0 two.0 one.2 in
    let third = next_in two.0 three.0 two.2 in
    let fourth = next_in three.0 o three.2 in
    let a = take_while is_ascii_digit points in
    let all : points ≡ a ++ dot ∷ (second.digits ++ dot ∷ (third.digits ++ dot ∷ (fourth.digits ++ o.rest))) =
    first.parts ∙ ap (λ r. a ++ r) (second.parts ∙ ap (λ r. dot ∷ (second.digits ++ r)) (third.parts ∙ ap (λ r. dot ∷ (third.digits ++ r)) fourth.parts)) in
    record {
      text = a ++ dot ∷ (second.digits ++ dot ∷ (third.digits ++ dot ∷ fourth.digits));
      parts = all ∙ simp append_assoc;
      address = record {
        a = a;
        b = second.digits;
        c = third.digits;
        d = fourth.digits;
        parts = refl;
        first = first.octet;
        second = second.octet;
        third = third.octet;
        fourth = fourth.octet;
        value = omega (arith, first.number, second.number, third.number, fourth.number);
      };
    }

-- read back
octet_digits : (digits : List ℕ) → is_octet digits ≡ true → (is_numeral digits ≡ true) × (length digits ≤ 3) × (number digits ≤ 255)
octet_digits digits h =
    let numeral = and_parts (is_numeral digits) (nat_le (length digits) 3 && nat_le (number digits) 255) h in
    let bounds = and_parts (nat_le (length digits) 3) (nat_le (number digits) 255) numeral.1 in
    (numeral.0, leb-true _ _ bounds.0, leb-true _ _ bounds.1)

octet_at : (digits rest : List ℕ) → is_octet digits ≡ true → prefix_len is_ascii_digit rest ≡ 0 → octet (digits ++ rest) ≡ Some (record { number = number digits; rest = rest })
unfolding octet
octet_at digits rest h stops =
    let numeral = numeral_parts digits (octet_digits digits h).0 in
    let run : prefix_len is_ascii_digit (digits ++ rest) ≡ length digits =
    rw (prefix_len-append is_ascii_digit digits rest, digits_run is_ascii_digit digits numeral.1, eq-eqb (length digits) (length digits) refl, stops) (omega arith) in
    rw (run, take-append_seam digits rest, h, drop-append_seam digits rest) refl

next_at : (front : ℕ) (digits rest : List ℕ) → is_octet digits ≡ true → prefix_len is_ascii_digit rest ≡ 0
    → next_octet (record { number = front; rest = dot ∷ (digits ++ rest) }) ≡ Some (record { number = front * 256 + number digits; rest = rest })
unfolding next_octet
next_at front digits rest h stops = rw (octet_at digits rest h stops) refl

last_at : (front : ℕ) (digits : List ℕ) → is_octet digits ≡ true → next_octet (record { number = front; rest = dot ∷ digits }) ≡ Some (record { number = front * 256 + number digits; rest = [] })
last_at front digits h = rw (append-nil digits) at (next_at front digits [] h refl)

address_at : (n : ℕ) (points : List ℕ) → IsAddress n points → address points ≡ Some (record { number = n; rest = [] })
unfolding address
address_at n points t =
    rw (
      t.parts,
      octet_at t.a (dot ∷ (t.b ++ dot ∷ (t.c ++ dot ∷ t.d))) t.first refl,
      next_at (number t.a) t.b (dot ∷ (t.c ++ dot ∷ t.d)) t.second refl,
      next_at (number t.a * 256 + number t.b) t.c (dot ∷ t.d) t.third refl,
      last_at ((number t.a * 256 + number t.b) * 256 + number t.c) t.d t.fourth,
      ← t.value,
    ) refl

pub ip_reads_back : (coding : Coding) (v : ℤ) (bytes : List ℕ) → SpellsIp coding v bytes → ip_reading coding bytes ≡ Good (length bytes) v
unfolding ip_reading
ip_reads_back coding v bytes spells =
    let size : length bytes - 0 ≡ length bytes = omega arith in
    rw (address_at spells.n (points_of coding bytes) spells.address, size, ← spells.value) refl

-- what a good reading says
record IpRead (coding : Coding) (bytes : List ℕ) (k : ℕ) (v : ℤ) : Type 0 where
  n : ℕ
  value : v ≡ pos n
  within : k ≤ length bytes
  address : IsAddress n (points_of coding (take k bytes))

read_found : (size : ℕ) (r : Option Numbered) (k : ℕ) (v : ℤ) → address_read size r ≡ Good k v → (o : Numbered) × (r ≡ Some o) × (k ≡ size - length o.rest) × (v ≡ pos o.number)
read_found size None k v e = cc
read_found size (Some o) k v e = (o, refl, cc, cc)

ip_read : (coding : Coding) (bytes : List ℕ) (k : ℕ) (v : ℤ) → ip_reading coding bytes ≡ Good k v → IpRead coding bytes k v
unfolding ip_reading
ip_read coding bytes k v e =
    let points = points_of coding bytes in
    let found = read_found (length bytes) (address points) k v e in
    let front = address_in points found.0 found.1 in
    let size : length bytes ≡ length front.text + length found.0.rest = sym (length-points coding bytes) ∙ (ap length front.parts ∙ length-append front.text found.0.rest) in
    let cut : k ≡ length front.text = omega (arith, found.2, size) in
    let text : points_of coding (take k bytes) ≡ front.text =
    sym (points-take coding k bytes) ∙ (ap (λ (j : ℕ). take j points) cut ∙ (ap (take (length front.text)) front.parts ∙ take-append_seam front.text found.0.rest)) in
    record { n = found.0.number; value = found.3; within = omega (arith, cut, size); address = rw text front.address }

pub ip_within : (coding : Coding) (bytes : List ℕ) (k : ℕ) (v : ℤ) → ip_reading coding bytes ≡ Good k v → k ≤ length bytes
ip_within coding bytes k v e = (ip_read coding bytes k v e).within

pub ip_spelled : (coding : Coding) (bytes : List ℕ) (k : ℕ) (v : ℤ) → ip_reading coding bytes ≡ Good k v → SpellsIp coding v (take k bytes)
ip_spelled coding bytes k v e = let r = ip_read coding bytes k v e in record { n = r.n; value = r.value; address = r.address }

-- the canonical spelling is no longer
record Quads (n : ℕ) (a b c d : ℕ) : Type 0 where
  one : n / 2 ^ 24 ≡ a
  two : n / 2 ^ 16 % 256 ≡ b
  three : n / 2 ^ 8 % 256 ≡ c
  four : n % 256 ≡ d
  small : n < 2 ^ 32

quads : (n a b c d : ℕ) → n ≡ ((a * 256 + b) * 256 + c) * 256 + d → a ≤ 255 → b ≤ 255 → c ≤ 255 → d ≤ 255 → Quads n a b c d
quads n a b c d is a_in b_in c_in d_in = record { one = omega arith; two = omega arith; three = omega arith; four = omega arith; small = omega arith }

length-dotted : (n : ℕ) → length (dotted n) ≡ length (decimal (n / 2 ^ 24)) + (1 + (length (decimal (n / 2 ^ 16 % 256)) + (1 + (length (decimal (n / 2 ^ 8 % 256)) + (1 + length (decimal (n % 256)))))))
length-dotted n = simp length-append (omega arith)

not_longer : (digits : List ℕ) → is_octet digits ≡ true → length (decimal (number digits)) ≤ length digits
not_longer digits h = let parts = octet_digits digits h in length-decimal-number digits parts.0 (omega (arith, parts.2))

dotted_short : (n : ℕ) (points : List ℕ) → IsAddress n points → (n < 2 ^ 32) × (length (dotted n) ≤ length points)
dotted_short n points t =
    let q = quads n (number t.a) (number t.b) (number t.c) (number t.d) t.value (octet_digits t.a t.first).2 (octet_digits t.b t.second).2 (octet_digits t.c t.third).2 (octet_digits t.d t.fourth).2 in
    let lengths : length points ≡ length t.a + (1 + (length t.b + (1 + (length t.c + (1 + length t.d))))) = rw t.parts (simp length-append (omega arith)) in (
      q.small,
      rw (length-dotted n, q.one, q.two, q.three, q.four, lengths)
          (omega (arith, not_longer t.a t.first, not_longer t.b t.second, not_longer t.c t.third, not_longer t.d t.fourth)),
    )

ip_fits : (coding : Coding) (v : ℤ) (n k : ℕ) → v ≡ pos n → n < 2 ^ 32 → length (dotted n) ≤ k → IsSomeAnd (ip_spelling coding v) (λ s. length s ≤ k)
unfolding ip_spelling
ip_fits coding v n k is small short = rw (is, lt-ltb n (2 ^ 32) small) (omega (arith, length-bytes coding (dotted n)))

pub ip_canonical : (coding : Coding) (bytes : List ℕ) (k : ℕ) (v : ℤ) → ip_reading coding bytes ≡ Good k v → IsSomeAnd (ip_spelling coding v) (λ s. length s ≤ k)
ip_canonical coding bytes k v e =
    let r = ip_read coding bytes k v e in
    let short = dotted_short r.n (points_of coding (take k bytes)) r.address in
    ip_fits coding v r.n k r.value short.0 (omega (arith, short.1, length-points coding (take k bytes), length-take-le k bytes r.within))

-- and it is an address
decimal_octet : (k : ℕ) → k < 256 → is_octet (decimal k) ≡ true
decimal_octet k small =
    let numeral : is_numeral (decimal k) ≡ true = decimal-numeral k (omega arith) in
    let short : nat_le (length (decimal k)) 3 ≡ true = le-leb (length (decimal k)) 3 (length-decimal-le 3 k (omega arith) (omega arith) (omega arith)) in
    let low : nat_le (number (decimal k)) 255 ≡ true = le-leb (number (decimal k)) 255 (omega (arith, number-decimal k (omega arith))) in
    rw (numeral, short, low) refl

dotted_address : (n : ℕ) → n < 2 ^ 32 → IsAddress n (dotted n)
dotted_address n small = record {
  a = decimal (n / 2 ^ 24);
  b = decimal (n / 2 ^ 16 % 256);
  c = decimal (n / 2 ^ 8 % 256);
  d = decimal (n % 256);
  parts = refl;
  first = decimal_octet (n / 2 ^ 24) (omega arith);
  second = decimal_octet (n / 2 ^ 16 % 256) (omega arith);
  third = decimal_octet (n / 2 ^ 8 % 256) (omega arith);
  fourth = decimal_octet (n % 256) (omega arith);
  value = rw (number-decimal (n / 2 ^ 24) (omega arith), number-decimal (n / 2 ^ 16 % 256) (omega arith), number-decimal (n / 2 ^ 8 % 256) (omega arith), number-decimal (n % 256) (omega arith)) (omega arith);
}

pub ip_spells : (coding : Coding) (v : ℤ) (s : List ℕ) → ip_spelling coding v ≡ Some s → SpellsIp coding v s
unfolding ip_spelling
ip_spells coding (negsuc n) s e = cc
ip_spells coding (pos n) s e =
    let parts = spelled_if (nat_lt n (2 ^ 32)) (bytes_of coding (dotted n)) s e in
    let text : points_of coding s ≡ dotted n = ap (points_of coding) parts.1 ∙ points-bytes coding (dotted n) in
    record { n = n; value = refl; address = rw text (dotted_address n (ltb-true _ _ parts.0)) }

pub ip_canonical_reads_back : (coding : Coding) (v : ℤ) (s : List ℕ) → ip_spelling coding v ≡ Some s → ip_reading coding s ≡ Good (length s) v
ip_canonical_reads_back coding v s e = ip_reads_back coding v s (ip_spells coding v s e)
