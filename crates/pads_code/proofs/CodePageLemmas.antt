-- The two code pages undo each other, and the code's tables are the page: computed once over 256 places.
use Rattle.std.proofs.Common.{◌≡◌, ℕ, zero, suc, ◌<◌, ◌≤◌, Bool, true, ◌&&◌, nat_eq, nat_lt, length, get_or, refl, sym, ap, ◌∙◌, arith, inl, inr}
use Rattle.std.specs.List.{list_all, position_or_len}
use Rattle.std.proofs.lemmas.Bool.{cases_eq, cases_lt, ltb-true, ne_eqb, eqb-true, and_parts}
use Rattle.std.proofs.lemmas.List.{get_or_past, get_or_default}
use Rattle.std.proofs.lemmas.List.Elements.{All-get_or}
use Rattle.std.proofs.lemmas.List.Sums.{AllPass-from_list_all, position_or_len_is}
use Rattle.pads_code.specs.declared.Coding.{Coding}
use Rattle.pads_code.specs.declared.Coding.TheVariants.{Ascii, Ebcdic}
use Rattle.pads_code.specs.declared.page.TheConstants.{POINTS, BYTES}
use Rattle.pads_code.specs.CodePage.{page_037, point, byte_of}

-- two tables have the same numbers below n
unfoldable same_below : (ℕ → ℕ) → (ℕ → ℕ) → ℕ → Bool
same_below f g zero = true
same_below f g (suc n) = nat_eq (f n) (g n) && same_below f g n

same_at : (f g : ℕ → ℕ) (n : ℕ) → same_below f g n ≡ true → (k : ℕ) → k < n → f k ≡ g k
unfolding same_below
same_at f g zero h k lt = absurd (omega arith)
same_at f g (suc n) h k lt =
    let both = and_parts (nat_eq (f n) (g n)) (same_below f g n) h in
    elim (cases_eq k n) [ inl same ↦ rw same (eqb-true _ _ both.0) | inr other ↦ same_at f g n both.1 k (omega arith) ]

pub point-table : (b : ℕ) → b < 256 → get_or POINTS b 0 ≡ point Ebcdic b
unfolding point page_037 same_below
point-table b lt = same_at (λ k. get_or POINTS k 0) (point Ebcdic) 256 refl b lt

pub byte_of-table : (p : ℕ) → p < 256 → get_or BYTES p 0 ≡ byte_of Ebcdic p
unfolding byte_of page_037 same_below
byte_of-table p lt = same_at (λ k. get_or BYTES k 0) (byte_of Ebcdic) 256 refl p lt

-- past the page there is no byte, and a number above FF stands nowhere in it
page_length : length page_037 ≡ 256
unfolding page_037
page_length = refl

point_past : (b : ℕ) → 256 ≤ b → point Ebcdic b ≡ b
unfolding point
point_past b le = get_or_past page_037 b b (omega (arith, page_length))

page_small : list_all (λ p. nat_lt p 256) page_037 ≡ true
unfolding page_037
page_small = refl

page_at_small : (k : ℕ) → k < 256 → get_or page_037 k 0 < 256
page_at_small k lt =
    ltb-true _ _
    (All-get_or (λ p. nat_lt p 256 ≡ true) page_037 k 0 (omega (arith, page_length)) (AllPass-from_list_all (λ p. nat_lt p 256) page_037 page_small))

byte_of_past : (p : ℕ) → 256 ≤ p → byte_of Ebcdic p ≡ p
unfolding byte_of
byte_of_past p le =
    let none : position_or_len (λ q. nat_eq q p) page_037 ≡ 256 =
    position_or_len_is (λ q. nat_eq q p) page_037 256 0 (omega (arith, page_length))
    (λ k lt. let small = page_at_small k lt in ne_eqb (get_or page_037 k 0) p (λ e. omega arith))
    (λ lt. absurd (omega (arith, page_length))) in
    rw (none, page_length) refl

decoded_page : (b : ℕ) → b < 256 → byte_of Ebcdic (point Ebcdic b) ≡ b
unfolding point byte_of page_037 same_below
decoded_page b lt = same_at (λ k. byte_of Ebcdic (point Ebcdic k)) (λ k. k) 256 refl b lt

encoded_page : (p : ℕ) → p < 256 → point Ebcdic (byte_of Ebcdic p) ≡ p
unfolding point byte_of page_037 same_below
encoded_page p lt = same_at (λ k. point Ebcdic (byte_of Ebcdic k)) (λ k. k) 256 refl p lt

-- a byte's point has that byte
pub byte_of-point : (coding : Coding) (b : ℕ) → byte_of coding (point coding b) ≡ b
unfolding point byte_of
byte_of-point Ascii b = refl
byte_of-point Ebcdic b = elim (cases_lt b 256) [ inl lt ↦ decoded_page b lt | inr le ↦ rw (point_past b le) (byte_of_past b le) ]

-- a point's byte has that point
pub point-byte_of : (coding : Coding) (p : ℕ) → point coding (byte_of coding p) ≡ p
unfolding point byte_of
point-byte_of Ascii p = refl
point-byte_of Ebcdic p = elim (cases_lt p 256) [ inl lt ↦ encoded_page p lt | inr le ↦ rw (byte_of_past p le) (point_past p le) ]

point_small : (b : ℕ) → b < 256 → point Ebcdic b < 256
unfolding point
point_small b lt =
    let same = get_or_default page_037 b b 0 (omega (arith, page_length)) in
    omega (arith, page_at_small b lt)

-- a byte's point is from 00 to FF, and so is a point's byte
pub point-lt : (coding : Coding) (b : ℕ) → b < 256 → point coding b < 256
unfolding point
point-lt Ascii b lt = lt
point-lt Ebcdic b lt = point_small b lt

pub byte_of-lt : (coding : Coding) (p : ℕ) → p < 256 → byte_of coding p < 256
unfolding byte_of
byte_of-lt Ascii p lt = lt
byte_of-lt Ebcdic p lt =
    elim (cases_lt (byte_of Ebcdic p) 256) [
      | inl small ↦ small
      | inr le ↦ absurd (omega (arith, ap (λ b. b) (sym (point_past (byte_of Ebcdic p) le) ∙ encoded_page p lt)))
    ]
