-- The rows of records that follow one another: of two stretches, of one record more, and of the pieces of a batch.
use Rattle.std.proofs.Common.{◌≡◌, ℕ, ◌+◌, ◌<◌, List, [], ◌∷◌, ◌++◌, length, take, get_or, map, refl, sym, ap, ◌∙◌, length-take, arith}
use Rattle.std.proofs.lemmas.List.{take_more, map-append, length-map}
use Rattle.pads_value.specs.Cuts.{Cut, cut_of_kept}
use Rattle.pads_value.specs.declared.frame.Kept.{Kept}
use Rattle.pads_value.specs.declared.row.Row.{Row}
use Rattle.pads_calc.specs.declared.decl.Decl.{Decl}
use Rattle.pads_calc.specs.Rows.{row_of}
use Rattle.pads_image.specs.declared.image.Image.{Image}
use denote.Ref.{Bor}
use denote.Param.Members.{Shared}
use Rattle.std.specs.Prelude.{IfOk, Result, Ok, Err, flat_map}
use Rattle.pads_drive.specs.Pieces.{GivesEach, GivesPieces}
use Rattle.pads_batch.specs.Reading.{AreRows, IsAnswer, IsRead, IsWhole, StandsForThem, rows_of}

module _ (IsRow : ℕ → Cut → Row → Type 0) where
  pub rows-append : (number : ℕ) (cuts more : List Cut) (rows others : List Row) → AreRows IsRow number cuts rows → AreRows IsRow (number + length cuts) more others
      → AreRows IsRow number (cuts ++ more) (rows ++ others)
  rows-append number [] more [] others are they = let here : number + 0 ≡ number = omega arith in rw here at they
  rows-append number [] more (row ∷ rows) others are they = absurd are
  rows-append number (cut ∷ cuts) more [] others are they = absurd are
  rows-append number (cut ∷ cuts) more (row ∷ rows) others are they =
      let there : number + length (cut ∷ cuts) ≡ number + 1 + length cuts = omega arith in
      (are.0, rows-append (number + 1) cuts more rows others are.1 (rw there at they))

  -- one frame more
  pub rows-more : (number next i : ℕ) (frames : List Kept) (kept : Kept) (cut : Cut) (old new : List Row) (row : Row) → i < length frames → kept ≡ get_or frames i kept
      → next ≡ number + i → cut ≡ cut_of_kept kept → AreRows IsRow number (map cut_of_kept (take i frames)) old → IsRow next cut row → new ≡ old ++ row ∷ []
      → AreRows IsRow number (map cut_of_kept (take (i + 1) frames)) new
  rows-more number next i frames kept cut old new row within is counted same before one made =
      let taken : take (i + 1) frames ≡ take i frames ++ kept ∷ [] = take_more frames i kept within ∙ ap (λ k. take i frames ++ k ∷ []) (sym is) in
      let cuts : map cut_of_kept (take (i + 1) frames) ≡ map cut_of_kept (take i frames) ++ cut ∷ [] = rw (taken, map-append, same) refl in
      let count : length (map cut_of_kept (take i frames)) ≡ i = rw (length-map, length-take) (omega arith) in
      rw (made, cuts) (rows-append number (map cut_of_kept (take i frames)) (cut ∷ []) old (row ∷ []) before (rw (count, sym counted) (one, tt)))

  -- what a function gives of each piece are rows; those of all pieces, put together, are the rows of the frames
  module _ {F E : Type 0} (calls : Shared F (ℕ × (Bor (List Kept) × Unit {0})) (Result (List Row) E)) (f : F) (first : ℕ) where
    abbrev pub GivesRows : Type 0
    GivesRows =
        (place : ℕ) (piece : Bor (List Kept)) (r : Result (List Row) E) → calls.post f (place, (piece, tt)) r
        → IfOk r (λ rows. AreRows IsRow (first + place) (map cut_of_kept piece.now) rows)

    rows-each : GivesRows → (place : ℕ) (pieces : List (List Kept)) (made : List (List Row)) → GivesEach calls f place pieces (map Ok made)
        → AreRows IsRow (first + place) (map cut_of_kept (flat_map (λ piece. piece) pieces)) (flat_map (λ piece. piece) made)
    rows-each gives place [] [] each = tt
    rows-each gives place [] (rows ∷ made) each = absurd each
    rows-each gives place (piece ∷ pieces) [] each = absurd each
    rows-each gives place (piece ∷ pieces) (rows ∷ made) each =
        let own : AreRows IsRow (first + place) (map cut_of_kept piece) rows = rw each.0.piece_is at (gives place each.0.piece (Ok rows) each.0.call) in
        let there : first + place + length (map cut_of_kept piece) ≡ first + (place + length piece) = rw length-map (omega arith) in
        let others = rows-each gives (place + length piece) pieces made each.1 in
        rw map-append (rows-append (first + place) (map cut_of_kept piece) (map cut_of_kept (flat_map (λ p. p) pieces)) rows (flat_map (λ p. p) made) own (rw there others))

    rows-pieces : (jobs : ℕ) (frames : List Kept) (parts : List (Result (List Row) E)) (whole : List Row) → GivesRows → GivesPieces calls f jobs frames parts → IsWhole parts whole
        → AreRows IsRow first (map cut_of_kept frames) whole
    rows-pieces jobs frames parts whole gives given is_whole =
        let here : first + 0 ≡ first = omega arith in
        let rows = rows-each gives 0 given.pieces is_whole.pieces (rw is_whole.made at given.each) in
        rw is_whole.together (rw (here, given.whole.together) at rows)

    pub if-rows : {E' : Type 0} (jobs : ℕ) (frames : List Kept) (parts : List (Result (List Row) E)) (outcome : Result (List Row) E') → GivesPieces calls f jobs frames parts → GivesRows
        → IfOk outcome (λ whole. IsWhole parts whole) → IfOk outcome (λ whole. AreRows IsRow first (map cut_of_kept frames) whole)
    if-rows jobs frames parts (Ok whole) given gives is_whole = rows-pieces jobs frames parts whole gives given is_whole
    if-rows jobs frames parts (Err e) given gives is_whole = tt

module _ (image : Image) where
  pub rows-answer : (number : ℕ) (cuts : List Cut) (rows : List Row) → AreRows (IsRead image) number cuts rows → AreRows (IsAnswer image) number cuts rows
  rows-answer number [] [] are = tt
  rows-answer number [] (row ∷ rows) are = absurd are
  rows-answer number (cut ∷ cuts) [] are = absurd are
  rows-answer number (cut ∷ cuts) (row ∷ rows) are = (are.0.answer, rows-answer (number + 1) cuts rows are.1)

  pub rows-calculus : (number : ℕ) (cuts : List Cut) (rows : List Row) → AreRows (IsRead image) number cuts rows → (decls : List Decl) → StandsForThem image decls
      → rows ≡ rows_of decls image.shape image.scan number cuts
  rows-calculus number [] [] are decls stands = refl
  rows-calculus number [] (row ∷ rows) are decls stands = absurd are
  rows-calculus number (cut ∷ cuts) [] are decls stands = absurd are
  rows-calculus number (cut ∷ cuts) (row ∷ rows) are decls stands =
      ap (λ first. first ∷ rows) (are.0.row_is decls stands)
      ∙ ap (λ more. row_of decls image.shape image.scan number cut ∷ more) (rows-calculus (number + 1) cuts rows are.1 decls stands)

  pub if-answer : {E : Type 0} (number : ℕ) (cuts : List Cut) (outcome : Result (List Row) E) → IfOk outcome (AreRows (IsRead image) number cuts)
      → IfOk outcome (AreRows (IsAnswer image) number cuts)
  if-answer number cuts (Ok rows) are = rows-answer number cuts rows are
  if-answer number cuts (Err e) are = tt

  pub if-calculus : {E : Type 0} (number : ℕ) (cuts : List Cut) (outcome : Result (List Row) E) → IfOk outcome (AreRows (IsRead image) number cuts)
      → IfOk outcome (λ rows. (decls : List Decl) → StandsForThem image decls → rows ≡ rows_of decls image.shape image.scan number cuts)
  if-calculus number cuts (Ok rows) are = rows-calculus number cuts rows are
  if-calculus number cuts (Err e) are = tt
