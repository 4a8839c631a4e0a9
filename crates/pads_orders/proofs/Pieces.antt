-- A text is cut into pieces at its marks, from the left.
use Rattle.std.proofs.Common.{◌≡◌, ℕ, ◌+◌, ◌-◌, ◌<◌, ◌≤◌, ◌==◌, true, false, nat_lt, suc, List, [], ◌∷◌, Option, Some, None, length, take, drop, position, refl, sym, ap, ◌∙◌, arith}
use Rattle.std.proofs.lemmas.Bool.{ltb-true, ltb-false}
use Rattle.std.proofs.lemmas.List.{take_rest}
use Rattle.std.specs.List.{position_or_len}
use Rattle.pads_orders.specs.Masks.{in_front, item_with, pieces}

-- there is a first piece
pub some_piece : (mark : ℕ) (text : List ℕ) → (first : List ℕ) × (more : List (List ℕ)) × (pieces mark text ≡ first ∷ more)
some_piece mark [] = ([], [], refl)
some_piece mark (b ∷ text) =
    let behind = some_piece mark text in
    elim (b == mark) as (λ t. b == mark ≡ t → (first : List ℕ) × (more : List (List ℕ)) × (pieces mark (b ∷ text) ≡ first ∷ more)) [
      | true ↦ λ e. ([], behind.0 ∷ behind.1, rw (behind.2, e) refl)
      | false ↦ λ e. (b ∷ behind.0, behind.1, rw (behind.2, e) refl)
    ] refl

-- at a mark a piece ends
at_mark : (mark b : ℕ) (text : List ℕ) → b == mark ≡ true → pieces mark (b ∷ text) ≡ [] ∷ pieces mark text
at_mark mark b text e = let behind = some_piece mark text in rw (behind.2, e) refl

-- any other byte stands in it
in_piece : (mark b : ℕ) (text first : List ℕ) (more : List (List ℕ)) → b == mark ≡ false → pieces mark text ≡ first ∷ more → pieces mark (b ∷ text) ≡ (b ∷ first) ∷ more
in_piece mark b text first more e behind = rw (behind, e) refl

cut_within : (mark : ℕ) (text : List ℕ) → position_or_len (λ b. b == mark) text < length text
    → pieces mark text ≡ take (position_or_len (λ b. b == mark) text) text ∷ pieces mark (drop (position_or_len (λ b. b == mark) text + 1) text)
cut_within mark [] h = absurd (omega (arith, h))
cut_within mark (b ∷ text) h = elim (b == mark) as (λ t. b == mark ≡ t
    → pieces mark (b ∷ text) ≡ take (position_or_len (λ b. b == mark) (b ∷ text)) (b ∷ text) ∷ pieces mark (drop (position_or_len (λ b. b == mark) (b ∷ text) + 1) (b ∷ text))) [
      | true ↦ λ e. rw (at_mark mark b text e, e) refl
      | false ↦ λ e.
          let n = position_or_len (λ b. b == mark) text in
          let less : n < length text = let shorter : 1 + n < suc (length text) = rw e at h in omega (arith, shorter) in
          let one : 1 + n ≡ suc n = omega arith in
          let two : suc n + 1 ≡ suc (n + 1) = omega arith in
          rw (in_piece mark b text (take n text) (pieces mark (drop (n + 1) text)) e (cut_within mark text less), e, one, two) refl
    ] refl

cut_nowhere : (mark : ℕ) (text : List ℕ) → length text ≤ position_or_len (λ b. b == mark) text → pieces mark text ≡ text ∷ []
cut_nowhere mark [] h = refl
cut_nowhere mark (b ∷ text) h = elim (b == mark) as (λ t. b == mark ≡ t → pieces mark (b ∷ text) ≡ (b ∷ text) ∷ []) [
  | true ↦ λ e. let none : suc (length text) ≤ 0 = rw e at h in absurd (omega (arith, none))
  | false ↦ λ e.
      let more : suc (length text) ≤ 1 + position_or_len (λ b. b == mark) text = rw e at h in
      in_piece mark b text text [] e (cut_nowhere mark text (omega (arith, more)))
] refl

pub no_mark : (mark : ℕ) (text : List ℕ) → position (λ b. b == mark) text ≡ None → pieces mark text ≡ text ∷ []
no_mark mark text h = elim (nat_lt (position_or_len (λ b. b == mark) text) (length text)) as (λ t. nat_lt (position_or_len (λ b. b == mark) text) (length text) ≡ t → pieces mark text ≡ text ∷ []) [
  | true ↦ λ e. let broken : Some (position_or_len (λ b. b == mark) text) ≡ None = rw e at h in cc
  | false ↦ λ e. cut_nowhere mark text (ltb-false _ _ e)
] refl

pub first_mark : (mark : ℕ) (text : List ℕ) (at : ℕ) → position (λ b. b == mark) text ≡ Some at
    → pieces mark text ≡ take at text ∷ pieces mark (take (length text - (at + 1)) (drop (at + 1) text))
first_mark mark text at h = elim (nat_lt (position_or_len (λ b. b == mark) text) (length text)) as (λ t. nat_lt (position_or_len (λ b. b == mark) text) (length text) ≡ t
    → pieces mark text ≡ take at text ∷ pieces mark (take (length text - (at + 1)) (drop (at + 1) text))) [
      | false ↦ λ e. let broken : None ≡ Some at = rw e at h in cc
      | true ↦ λ e.
          let found : Some (position_or_len (λ b. b == mark) text) ≡ Some at = rw e at h in
          let is : at ≡ position_or_len (λ b. b == mark) text = cc in
          rw (is, take_rest text (position_or_len (λ b. b == mark) text + 1)) (cut_within mark text (ltb-true _ _ e))
    ] refl

-- a name, a mode and more are no item
pub too_many : (name mode text : List ℕ) → item_with (name ∷ mode ∷ pieces 58 text) ≡ None
too_many name mode text = let more = some_piece 58 text in rw more.2 refl

-- how much is left of a text behind a mark, where there is one
abbrev pub bytes_left : Option (List ℕ) → ℕ
bytes_left None = 0
bytes_left (Some text) = length text + 1
