-- One event more, one record more, and the first of the records that are left.
use Rattle.std.proofs.Common.{◌≡◌, ◌==◌, ◌∙◌, false, ℕ, zero, suc, ◌+◌, ◌-◌, ◌<◌, ◌≤◌, List, [], ◌∷◌, ◌++◌, length, map, refl, sym, ap, append_assoc, append-nil, length-append, arith}
use Rattle.std.specs.List.{join_with_byte, range_with_len}
use Rattle.std.proofs.lemmas.Bool.{ne_eqb}
use Rattle.std.proofs.lemmas.List.FromFn.{map-range_with_len_more}
use Rattle.pads_selftest.specs.Records.{bar_before, event, events, made_record, records_from}

-- what parts a piece from those before it
parted : ℕ → List (List ℕ) → List ℕ
parted c [] = []
parted c (x ∷ xs) = c ∷ []

join-more : (c : ℕ) (xs : List (List ℕ)) (y : List ℕ) → join_with_byte c (xs ++ y ∷ []) ≡ join_with_byte c xs ++ parted c xs ++ y
unfolding parted
join-more c [] y = refl
join-more c (x ∷ []) y = sym (append_assoc x (c ∷ []) y)
join-more c (x ∷ z ∷ xs) y =
    let behind : x ++ c ∷ (join_with_byte c (z ∷ xs) ++ c ∷ [] ++ y) ≡ (x ++ c ∷ join_with_byte c (z ∷ xs)) ++ c ∷ [] ++ y = simp append_assoc in
    ap (λ l. x ++ c ∷ l) (join-more c (z ∷ xs) y) ∙ behind

parted-bar : (i j : ℕ) → parted 124 (map (event i) (range_with_len 0 j)) ≡ bar_before j
unfolding parted
parted-bar i zero = refl
parted-bar i (suc j) = let some : (suc j == 0) ≡ false = ne_eqb (suc j) 0 (λ e. cc) in rw some refl

-- an event more, behind those so far
pub events-more : (i j : ℕ) → events i (j + 1) ≡ events i j ++ bar_before j ++ event i j
events-more i j =
    let all : map (event i) (range_with_len 0 (j + 1)) ≡ map (event i) (range_with_len 0 j) ++ event i j ∷ [] = map-range_with_len_more (event i) 0 j j (omega arith) in
    ap (join_with_byte 124) all ∙ join-more 124 (map (event i) (range_with_len 0 j)) (event i j)
    ∙ ap (λ bar. events i j ++ bar ++ event i j) (parted-bar i j)

-- a record more, behind those so far
pub records-more : (first count : ℕ) → records_from first (suc count) ≡ records_from first count ++ made_record (first + count)
records-more first zero =
    let same : first + 0 ≡ first = omega arith in
    append-nil (made_record first) ∙ ap made_record (sym same)
records-more first (suc count) =
    let same : first + 1 + count ≡ first + suc count = omega arith in
    ap (λ l. made_record first ++ l) (records-more (first + 1) count ∙ ap (λ n. records_from (first + 1) count ++ made_record n) same)
    ∙ sym (append_assoc (made_record first) (records_from (first + 1) count) (made_record (first + suc count)))

pub bytes-more : (count : ℕ) → length (records_from 0 (count + 1)) ≡ length (records_from 0 count) + length (made_record count)
bytes-more count =
    let next : count + 1 ≡ suc count = omega arith in
    let here : 0 + count ≡ count = omega arith in
    ap (λ n. length (records_from 0 n)) next ∙ ap length (records-more 0 count ∙ ap (λ n. records_from 0 count ++ made_record n) here)
    ∙ length-append (records_from 0 count) (made_record count)

-- the first of the records that are left
pub records-first : (first end : ℕ) → first < end → records_from first (end - first) ≡ made_record first ++ records_from (first + 1) (end - (first + 1))
records-first first end some =
    let one : end - first ≡ suc (end - (first + 1)) = omega arith in
    ap (records_from first) one

pub none-left : (first end : ℕ) → end ≤ first → records_from first (end - first) ≡ []
none-left first end none =
    let zero_left : end - first ≡ 0 = omega arith in
    ap (records_from first) zero_left

pub some-bytes : (i : ℕ) → 0 < length (made_record i)
some-bytes i = simp length-append (omega arith)
