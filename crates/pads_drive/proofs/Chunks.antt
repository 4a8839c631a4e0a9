-- The chunks of a list, all of one size but the last, are pieces of it.
use Rattle.std.proofs.Common.{◌≡◌, ℕ, zero, suc, ◌+◌, ◌-◌, ◌*◌, ◌/◌, ◌%◌, ◌<◌, ◌≤◌, min, List, [], ◌∷◌, ◌++◌, length, get_or, take, drop, refl, sym, subst, ap, ◌∙◌, append_assoc, append-nil, length-take, length-drop, arith}
use Rattle.std.proofs.lemmas.List.{drop-drop, length-take-le, take-append-drop}
use Rattle.std.proofs.lemmas.List.Elements.{All-cons, All-nil}
use Rattle.std.proofs.lemmas.Nat.{div-add-mod'}
use Rattle.std.proofs.Math.Nat.{mod-lt, mul-le-mul_right, lt_of_mul-lt-mul_right}
use Rattle.std.specs.Prelude.{All, IfOk, Result, Ok, Err, flat_map}
use Rattle.std.specs.Int.{div_ceil}
use denote.Ref.{Bor}
use denote.Param.Members.{Shared}
use Rattle.pads_drive.specs.Handing.{AreInOrder}
use Rattle.pads_drive.specs.Pieces.{Gives, GivesEach, GivesPieces}

-- what stands before a chunk, the chunk and what stands behind it
pub three-parts : {A : Type 0} (size start : ℕ) (items piece : List A) → piece ≡ take size (drop start items) → take start items ++ piece ++ drop size (drop start items) ≡ items
three-parts size start items piece is =
    append_assoc (take start items) piece (drop size (drop start items))
    ∙ ap (λ part. take start items ++ (part ++ drop size (drop start items))) is
    ∙ ap (λ part. take start items ++ part) (take-append-drop size (drop start items))
    ∙ take-append-drop start items

-- so many chunks of a size are as many as a list of so many items has
pub record Counted (size items count : ℕ) : Type 0 where
  pub enough : items ≤ count * size
  pub least : count * size < items + size

next-counted : (size items count : ℕ) → Counted size items (suc count) → Counted size (items - size) count
next-counted size items count c =
    let product : suc count * size ≡ count * size + size = grind arith in
    let enough = c.enough in
    let least = c.least in
    record {
      enough = omega arith;
      least = omega arith;
    }

counted-some : (size items count : ℕ) → Counted size items (suc count) → 0 < items
counted-some size items count c =
    let product : suc count * size ≡ count * size + size = grind arith in
    let least = c.least in
    omega arith

counted-two : (size items count : ℕ) → Counted size items (suc (suc count)) → size < items
counted-two size items count c =
    let product : suc (suc count) * size ≡ count * size + size + size = grind arith in
    let least = c.least in
    omega arith

dropped : {A : Type 0} (size : ℕ) (items : List A) (count : ℕ) → Counted size (length items) (suc count) → Counted size (length (drop size items)) count
dropped size items count c = rw (length-drop size items) (next-counted size (length items) count c)

counted-parts : (size items whole rest : ℕ) → whole * size + rest ≡ items → rest < size → Counted size items (whole + min 1 rest)
counted-parts size items whole zero parts less =
    let count : whole + min 1 0 ≡ whole = omega arith in
    rw count (record { enough = omega arith; least = omega arith })
counted-parts size items whole (suc rest) parts less =
    let count : whole + min 1 (suc rest) ≡ suc whole = omega arith in
    let product : suc whole * size ≡ whole * size + size = grind arith in
    rw count (record { enough = omega arith; least = omega arith })

pub counted-division : (size items : ℕ) → 0 < size → Counted size items (items / size + min 1 (items % size))
counted-division size items some = counted-parts size items (items / size) (items % size) (div-add-mod' items size) (mod-lt items some)

pub some-size : (size items most : ℕ) → 0 < items → items ≤ size * most → 0 < size
some-size zero items most some enough = let none : 0 * most ≡ 0 = grind arith in absurd (omega arith)
some-size (suc size) items most some enough = omega arith

-- a chunk of a number has an item
pub counted-inside : (size items count number : ℕ) → Counted size items count → number < count → number * size < items
counted-inside size items count number c within =
    let least = c.least in
    let below = mul-le-mul_right {m = suc number} {n = count} size (omega (arith, within)) in
    let product : suc number * size ≡ number * size + size = grind arith in
    omega arith

-- chunks that are so large that so many are enough are at most so many
few-chunks : (size items count most : ℕ) → items ≤ size * most → Counted size items count → count ≤ most
few-chunks size items count most enough counted =
    let least = counted.least in
    let product : (most + 1) * size ≡ size * most + size = grind arith in
    let fewer : count * size < (most + 1) * size = omega arith in
    let fewer' = lt_of_mul-lt-mul_right size fewer in
    omega arith

module _ {F A R : Type 0} (calls : Shared F (ℕ × (Bor (List A) × Unit {0})) R) (f : F) where
  -- as many chunks as there are results
  abbrev chunks : ℕ → List A → List R → List (List A)
  chunks size items [] = []
  chunks size items (r ∷ results) = take size items ∷ chunks size (drop size items) results

  each-given : (size number : ℕ) (items rest : List A) (results : List R) → rest ≡ drop (number * size) items → Counted size (length rest) (length results)
      → AreInOrder calls f size items number results → GivesEach calls f (number * size) (chunks size rest results) results
  each-given size number items rest [] is counted order = tt
  each-given size number items rest (r ∷ []) is counted order = (rw is order.0, tt)
  each-given size number items rest (r ∷ next ∷ results) is counted order =
      let more = counted-two size (length rest) (length results) counted in
      let long : length (take size rest) ≡ size = length-take-le size rest (omega arith) in
      let product : suc number * size ≡ number * size + size = grind arith in
      let behind : drop size rest ≡ drop (suc number * size) items = ap (λ l. drop size l) is ∙ drop-drop size (number * size) items ∙ ap (λ m. drop m items) (sym product) in
      let after = each-given size (suc number) items (drop size rest) (next ∷ results) behind (dropped size rest (suc (length results)) counted) order.1 in
      (rw is order.0, rw (long, sym product) after)

  together : (size : ℕ) (items : List A) (results : List R) → Counted size (length items) (length results) → flat_map (λ piece. piece) (chunks size items results) ≡ items
  together size [] [] counted = refl
  together size (item ∷ items) [] counted = let e = counted.enough in absurd (omega arith)
  together size items (r ∷ results) counted =
      ap (λ rest. take size items ++ rest) (together size (drop size items) results (dropped size items (length results) counted))
      ∙ take-append-drop size items

  some : (size : ℕ) (items : List A) (results : List R) → 0 < size → Counted size (length items) (length results) → All (λ piece. 0 < length piece) (chunks size items results)
  some size items [] size_some counted = All-nil _
  some size items (r ∷ results) size_some counted =
      let item = counted-some size (length items) (length results) counted in
      let long : 0 < length (take size items) = rw (length-take size items) (omega arith) in
      All-cons (λ piece. 0 < length piece) (take size items) (chunks size (drop size items) results) long
      (some size (drop size items) results size_some (dropped size items (length results) counted))

  length-chunks : (size : ℕ) (items : List A) (results : List R) → length (chunks size items results) ≡ length results
  length-chunks size items [] = refl
  length-chunks size items (r ∷ results) = ap (λ n. suc n) (length-chunks size (drop size items) results)

  -- a list in chunks that are large enough for at most so many, and what is given of them in their order
  pub gives-in-order : (most size : ℕ) (items : List A) (results : List R) → 0 < length items → 0 < most → size ≡ div_ceil (length items) most
      → length results ≡ div_ceil (length items) size → AreInOrder calls f size items 0 results → GivesPieces calls f most items results
  gives-in-order most size items results item job is count order =
      let enough : length items ≤ size * most = rw is (counted-division most (length items) job).enough in
      let size_some = some-size size (length items) most item enough in
      let counted : Counted size (length items) (length results) = rw count (counted-division size (length items) size_some) in
      let none : 0 * size ≡ 0 = grind arith in
      record {
        pieces = chunks size items results;
        whole = record {
          together = together size items results counted;
          some = some size items results size_some counted;
          few = rw (length-chunks size items results) (few-chunks size (length items) (length results) most enough counted);
        };
        each = subst (λ place. GivesEach calls f place (chunks size items results) results) none
            (each-given size 0 items items results (ap (λ place. drop place items) (sym none)) counted order);
      }

  pub gives-if-in-order : {E : Type 0} (most size : ℕ) (items : List A) (outcome : Result (List R) E) → 0 < length items → 0 < most → size ≡ div_ceil (length items) most
      → IfOk outcome (λ results. length results ≡ div_ceil (length items) size) → IfOk outcome (AreInOrder calls f size items 0)
      → IfOk outcome (λ results. GivesPieces calls f most items results)
  gives-if-in-order most size items (Ok results) item job is count order = gives-in-order most size items results item job is count order
  gives-if-in-order most size items (Err e) item job is count order = tt

  -- a list that is one piece
  pub gives-one : (most : ℕ) (items : List A) (results : List R) → 0 < length items → 0 < most → (x : R) × (results ≡ x ∷ []) × Gives calls f 0 items x → GivesPieces calls f most items results
  gives-one most items results item job (r, is, gives) =
      rw is (record {
        pieces = items ∷ [];
        whole = record {
          together = append-nil items;
          some = All-cons (λ piece. 0 < length piece) items [] item (All-nil _);
          few = job;
        };
        each = (gives, tt);
      })

  pub gives-if-one : {E : Type 0} (most : ℕ) (items : List A) (outcome : Result (List R) E) → 0 < length items → 0 < most
      → IfOk outcome (λ results. (x : R) × (results ≡ x ∷ []) × Gives calls f 0 items x) → IfOk outcome (λ results. GivesPieces calls f most items results)
  gives-if-one most items (Ok results) item job one = gives-one most items results item job one
  gives-if-one most items (Err e) item job one = tt

  -- a list without items has no piece
  pub gives-none : (most : ℕ) (items : List A) → length items ≡ 0 → GivesPieces calls f most items []
  gives-none most [] none = record { pieces = []; whole = record { together = refl; some = All-nil _; few = omega arith }; each = tt }
  gives-none most (item ∷ items) none = absurd (omega arith)
