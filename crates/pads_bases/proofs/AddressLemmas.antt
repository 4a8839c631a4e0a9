-- What the code finds in the bytes is the address of their points.
use Rattle.std.proofs.Common.{◌≡◌, ℕ, pos, ◌-◌, ◌<◌, ◌≤◌, Bool, true, false, cond, length-take-le, min, nat_eq, nat_le, List, [], ◌∷◌, length, take, drop, Option, Some, None, refl, ◌∙◌, arith}
use Rattle.std.specs.Char.{is_ascii_digit}
use Rattle.std.specs.List.{prefix_len, list_all}
use Rattle.std.proofs.lemmas.Bool.{lt-leb, le-leb}
use Rattle.std.proofs.Math.Bool.{and-false, or-false}
use Rattle.pads_value.specs.declared.reading.Read.TheVariants.{Good, Hard}
use Rattle.pads_value.specs.declared.cause.Cause.TheVariants as cause
use Rattle.pads_code.specs.declared.Coding.{Coding}
use Rattle.pads_code.specs.CodePage.{points_of}
use Rattle.pads_code.specs.Numerals.{number}
use Rattle.pads_code.proofs.TextLemmas.{length-points, points-take, points-drop}
use Rattle.pads_code.proofs.NumeralLemmas.{run_passes}
use Rattle.pads_bases.specs.Classes.{has_point}
use Rattle.pads_bases.specs.Addresses.{octet, is_octet, Numbered, behind_dot, joined, next_octet, address, ip_reading}

prefix_same : (f g : ℕ → Bool) → ((p : ℕ) → f p ≡ g p) → (xs : List ℕ) → prefix_len f xs ≡ prefix_len g xs
prefix_same f g same [] = refl
prefix_same f g same (x ∷ xs) = rw (same x, prefix_same f g same xs) refl

-- the class `0-9` has the digits
pub digits_class : (xs : List ℕ) → prefix_len (has_point (48 ∷ 45 ∷ 57 ∷ [])) xs ≡ prefix_len is_ascii_digit xs
digits_class xs = prefix_same (has_point (48 ∷ 45 ∷ 57 ∷ [])) is_ascii_digit (λ p. or-false (is_ascii_digit p)) xs

-- what the code finds at the octet in front
pub record FindsRun (coding : Coding) (bytes digits rest : List ℕ) (n : ℕ) : Type 0 where
  pub run : n ≡ prefix_len is_ascii_digit (points_of coding bytes)
  pub within : n ≤ length bytes
  pub front : digits ≡ take n bytes
  pub back : rest ≡ drop n bytes

octet_found : (coding : Coding) (bytes digits rest : List ℕ) (n : ℕ) → FindsRun coding bytes digits rest n
    → octet (points_of coding bytes) ≡ cond (is_octet (points_of coding digits)) (Some (record { number = number (points_of coding digits); rest = points_of coding rest })) None
unfolding octet
octet_found coding bytes digits rest n f =
    let points : take n (points_of coding bytes) ≡ points_of coding digits = rw f.front (points-take coding n bytes) in
    let size : length (points_of coding digits) ≡ n = rw f.front (length-points coding (take n bytes) ∙ length-take-le n bytes f.within) in
    rw (← f.run, points, size, f.back, ← points-drop coding n bytes) refl

pub octet_missing : (coding : Coding) (bytes digits rest : List ℕ) (n : ℕ) → FindsRun coding bytes digits rest n → nat_eq (length digits) 0 ≡ true → None ≡ octet (points_of coding bytes)
octet_missing coding bytes digits rest n f none =
    rw (octet_found coding bytes digits rest n f, length-points coding digits, none) refl

pub octet_too_long : (coding : Coding) (bytes digits rest : List ℕ) (n : ℕ) → FindsRun coding bytes digits rest n → 3 < length digits → None ≡ octet (points_of coding bytes)
octet_too_long coding bytes digits rest n f long =
    let more : nat_le (length digits) 3 ≡ false = lt-leb (length digits) 3 long in
    rw (octet_found coding bytes digits rest n f, length-points coding digits, more, and-false) refl

pub octet_too_large : (coding : Coding) (bytes digits rest : List ℕ) (n : ℕ) → FindsRun coding bytes digits rest n → 255 < min (number (points_of coding digits)) 256 → None ≡ octet (points_of coding bytes)
octet_too_large coding bytes digits rest n f large =
    let more : nat_le (number (points_of coding digits)) 255 ≡ false = lt-leb (number (points_of coding digits)) 255 (omega arith) in
    rw (octet_found coding bytes digits rest n f, more, and-false (nat_le (length (points_of coding digits)) 3), and-false) refl

pub octet_there : (coding : Coding) (bytes digits rest : List ℕ) (n : ℕ) → FindsRun coding bytes digits rest n → nat_eq (length digits) 0 ≡ false → length digits ≤ 3 → min (number (points_of coding digits)) 256 ≤ 255
    → Some (record { number = min (number (points_of coding digits)) 256; rest = points_of coding rest }) ≡ octet (points_of coding bytes)
octet_there coding bytes digits rest n f some short small =
    let points : take n (points_of coding bytes) ≡ points_of coding digits = rw f.front (points-take coding n bytes) in
    let digit : list_all is_ascii_digit (points_of coding digits) ≡ true = rw (← points, f.run) (run_passes is_ascii_digit (points_of coding bytes)) in
    let size : nat_le (length digits) 3 ≡ true = le-leb (length digits) 3 short in
    let low : nat_le (number (points_of coding digits)) 255 ≡ true = le-leb (number (points_of coding digits)) 255 (omega arith) in
    let same : min (number (points_of coding digits)) 256 ≡ number (points_of coding digits) = omega arith in
    rw (octet_found coding bytes digits rest n f, length-points coding digits, some, digit, size, low, same) refl

-- one more octet, and four of them, step by step
abbrev at : ℕ → List ℕ → Numbered
at front points = record { number = front; rest = points }

pub next_without_dot : (front : ℕ) (points : List ℕ) → None ≡ behind_dot points → None ≡ next_octet (at front points)
unfolding next_octet
next_without_dot front points h = rw (← h) refl

pub next_without_octet : (front : ℕ) (points rest : List ℕ) → Some rest ≡ behind_dot points → None ≡ octet rest → None ≡ next_octet (at front points)
unfolding next_octet
next_without_octet front points rest h none = rw (← h, ← none) refl

pub next_there : (front : ℕ) (points rest : List ℕ) (o : Numbered) → Some rest ≡ behind_dot points → Some o ≡ octet rest → Some (joined front o) ≡ next_octet (at front points)
unfolding next_octet
next_there front points rest o h there = rw (← h, ← there) refl

pub address_one : (points : List ℕ) → None ≡ octet points → None ≡ address points
unfolding address
address_one points none = rw (← none) refl

pub address_two : (points : List ℕ) (one : Numbered) → Some one ≡ octet points → None ≡ next_octet one → None ≡ address points
unfolding address
address_two points one is none = rw (← is, ← none) refl

pub address_three : (points : List ℕ) (one two : Numbered) → Some one ≡ octet points → Some two ≡ next_octet one → None ≡ next_octet two → None ≡ address points
unfolding address
address_three points one two is is_two none = rw (← is, ← is_two, ← none) refl

pub address_four : (points : List ℕ) (one two three : Numbered) (r : Option Numbered) → Some one ≡ octet points → Some two ≡ next_octet one → Some three ≡ next_octet two → r ≡ next_octet three → r ≡ address points
unfolding address
address_four points one two three r is is_two is_three last = rw (← is, ← is_two, ← is_three) last

pub no_address : (coding : Coding) (bytes : List ℕ) → None ≡ address (points_of coding bytes) → Hard cause.Invalid ≡ ip_reading coding bytes
unfolding ip_reading
no_address coding bytes none = rw (← none) refl

pub an_address : (coding : Coding) (bytes rest : List ℕ) (n : ℕ) → Some (at n (points_of coding rest)) ≡ address (points_of coding bytes) → Good (length bytes - length rest) (pos n) ≡ ip_reading coding bytes
unfolding ip_reading
an_address coding bytes rest n is = rw (← is, length-points coding rest) refl
