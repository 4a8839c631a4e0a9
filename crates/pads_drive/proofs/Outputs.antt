-- The rows of frames that follow each other, what is written for them, and for one more.
use Rattle.std.proofs.Common.{◌≡◌, ℕ, ◌+◌, ◌<◌, List, [], ◌∷◌, ◌++◌, length, take, drop, get_or, map, refl, sym, ap, ◌∙◌, append_assoc, append-nil, take-append-drop, length-take, arith}
use Rattle.std.proofs.lemmas.List.{take_more, map-append, length-map}
use Rattle.pads_value.specs.Cuts.{Cut, cut_of_kept}
use Rattle.pads_value.specs.declared.frame.Kept.{Kept}
use Rattle.pads_drive.specs.Outputs.{Work, Tallies, rows_of}

module _ {Row Tally : Type 0} (work : Work Row Tally) where
  pub rows_of-append : (number : ℕ) (xs ys : List Cut) → rows_of work number (xs ++ ys) ≡ rows_of work number xs ++ rows_of work (number + length xs) ys
  unfolding rows_of
  rows_of-append number [] ys = ap (λ n. rows_of work n ys) (omega arith)
  rows_of-append number (x ∷ xs) ys =
      let rest = rows_of-append (number + 1) xs ys in
      let count : number + 1 + length xs ≡ number + length (x ∷ xs) = omega arith in
      ap (λ l. work.row number x ∷ l) rest ∙ ap (λ n. work.row number x ∷ rows_of work (number + 1) xs ++ rows_of work n ys) count

  pub rows_of-none : (number : ℕ) → rows_of work number [] ≡ []
  unfolding rows_of
  rows_of-none number = refl

  -- the rows of two stretches
  pub both-rows : (number next : ℕ) (xs ys : List Cut) → next ≡ number + length xs → rows_of work number (xs ++ ys) ≡ rows_of work number xs ++ rows_of work next ys
  both-rows number next xs ys e = rows_of-append number xs ys ∙ ap (λ n. rows_of work number xs ++ rows_of work n ys) (sym e)

  -- the rows of two stretches, behind those before them
  pub behind : (before : List Row) (number next : ℕ) (xs ys : List Cut) → next ≡ number + length xs
      → (before ++ rows_of work number xs) ++ rows_of work next ys ≡ before ++ rows_of work number (xs ++ ys)
  behind before number next xs ys e = append_assoc before (rows_of work number xs) (rows_of work next ys) ∙ ap (λ l. before ++ l) (sym (both-rows number next xs ys e))

  rows_of-one : (number : ℕ) (cut : Cut) → rows_of work number (cut ∷ []) ≡ work.row number cut ∷ []
  unfolding rows_of
  rows_of-one number cut = refl

  -- the rows of a frame more
  pub front-rows : (number next i : ℕ) (frames : List Kept) (kept : Kept) → i < length frames → kept ≡ get_or frames i kept → next ≡ number + i
      → rows_of work number (map cut_of_kept (take (i + 1) frames)) ≡ rows_of work number (map cut_of_kept (take i frames)) ++ work.row next (cut_of_kept kept) ∷ []
  front-rows number next i frames kept within is counted =
      let taken : take (i + 1) frames ≡ take i frames ++ kept ∷ [] = take_more frames i kept within ∙ ap (λ k. take i frames ++ k ∷ []) (sym is) in
      let cuts : map cut_of_kept (take (i + 1) frames) ≡ map cut_of_kept (take i frames) ++ cut_of_kept kept ∷ [] = rw (taken, map-append) refl in
      let count : length (map cut_of_kept (take i frames)) ≡ i = rw (length-map, length-take) (omega arith) in
      rw (cuts, rows_of-append number (map cut_of_kept (take i frames)) (cut_of_kept kept ∷ []), count, rows_of-one, counted) refl

  -- the rows of all frames are those of the first and of the others
  pub rows-apart : (number i : ℕ) (frames : List Kept)
      → rows_of work number (map cut_of_kept frames)
      ≡ rows_of work number (map cut_of_kept (take i frames)) ++ rows_of work (number + length (map cut_of_kept (take i frames))) (map cut_of_kept (drop i frames))
  rows-apart number i frames =
      ap (λ l. rows_of work number (map cut_of_kept l)) (sym (take-append-drop i frames)) ∙ ap (rows_of work number) (map-append cut_of_kept (take i frames) (drop i frames))
      ∙ rows_of-append number (map cut_of_kept (take i frames)) (map cut_of_kept (drop i frames))

  -- no frame is like no frame behind the rows before
  pub tallies-none : (before : List Row) (number : ℕ) (old new : Tally) → new ≡ old → Tallies work before old → Tallies work (before ++ rows_of work number []) new
  tallies-none before number old new same t = rw (same, rows_of-none number, append-nil before) t
