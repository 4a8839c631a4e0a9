-- What one worker gives of one record more, and what is put together of the parts that workers give.
use Rattle.std.proofs.Common.{◌≡◌, ℕ, ◌+◌, ◌<◌, true, List, [], ◌∷◌, ◌++◌, length, take, drop, get_or, map, refl, sym, ap, subst, ◌∙◌, append_assoc, append-nil, arith}
use Rattle.std.proofs.lemmas.Grind.{flat_map-append}
use Rattle.std.proofs.lemmas.List.{length-map, map-append}
use Rattle.std.specs.Prelude.{Result}
use Rattle.std.specs.List.{flat_map}
use denote.Ref.{Bor}
use denote.Param.Members.{Shared}
use Rattle.pads_drive.specs.Pieces.{GivesEach, GivesPieces}
use Rattle.pads_value.specs.Cuts.{cut_of_kept}
use Rattle.pads_value.specs.declared.frame.Kept.{Kept}
use Rattle.pads_value.specs.declared.memory.Refusal.{Refusal}
use Rattle.pads_value.specs.declared.memory.Refusal.TheVariants as refusal
use Rattle.pads_drive.specs.Counting.{Refuses}
use Rattle.pads_drive.specs.Outputs.{Work, Tallies, added, joined, output_of, rows_of}
use Rattle.pads_drive.specs.Sharing.{AreGiven, IsGiven, IsShare}
use Rattle.pads_drive.specs.declared.given.Given.{Given}
use Rattle.pads_drive.specs.declared.limit.Limit.{Limit}
use Rattle.pads_drive.specs.declared.output.Output.{Output}
use Rattle.pads_drive.proofs.Outputs.{front-rows, rows-apart, rows_of-append, rows_of-none}

module _ {Row Tally Share : Type 0} (work : Work Row Tally) (share_of : List Row → Share) where
  -- Rows that can't be counted aren't counted among others either.
  abbrev pub StaysOver : Type 0
  StaysOver = (before rows more : List Row) → work.is_over rows ≡ true → work.is_over (before ++ rows ++ more) ≡ true

  -- what is refused of some rows is refused of all rows among which they are
  pub refuses-among : StaysOver → (before rows more all : List Row) → all ≡ before ++ rows ++ more → (r : Refusal Limit) → Refuses work [] rows r → Refuses work [] all r
  refuses-among stays before rows more all whole (refusal.Fault limit) over = subst (λ l. work.is_over l ≡ true) (sym whole) (stays before rows more over)
  refuses-among stays before rows more all whole refusal.Memory over = tt

  -- of a worker's rows, and so of these behind others
  pub refuses-behind : StaysOver → (before rows : List Row) (r : Refusal Limit) → Refuses work [] rows r → Refuses work before rows r
  refuses-behind stays before rows (refusal.Fault limit) over = subst (λ l. work.is_over l ≡ true) (append-nil (before ++ rows)) (stays before rows [] over)
  refuses-behind stays before rows refusal.Memory over = tt

  -- of a frame's row and those before it, and so of the rows of all frames
  pub refuses-frames : StaysOver → (number next i : ℕ) (frames : List Kept) (kept : Kept) → i < length frames → kept ≡ get_or frames i kept → next ≡ number + i → (r : Refusal Limit)
      → Refuses work [] (rows_of work number (map cut_of_kept (take i frames)) ++ work.row next (cut_of_kept kept) ∷ []) r
      → Refuses work [] (rows_of work number (map cut_of_kept frames)) r
  refuses-frames stays number next i frames kept within is counted r refused =
      let more = rows_of work (number + length (map cut_of_kept (take (i + 1) frames))) (map cut_of_kept (drop (i + 1) frames)) in
      refuses-among stays [] (rows_of work number (map cut_of_kept (take (i + 1) frames))) more (rows_of work number (map cut_of_kept frames))
      (rows-apart work number (i + 1) frames) r (rw (front-rows work number next i frames kept within is counted) refused)

  -- what a worker has before a record: these rows are given
  pub record HasGiven (rows : List Row) (output : Output) (share : Share) : Type 0 where
    pub written : output ≡ output_of work rows
    pub shared : IsShare work share_of rows share

  -- a row more
  pub gives-more : (rows : List Row) (row : Row) (old new : Output) (share new_share : Share) → HasGiven rows old share → new ≡ added work row old
      → IsShare work share_of (rows ++ row ∷ []) new_share → HasGiven (rows ++ row ∷ []) new new_share
  gives-more rows row old new share new_share has is shared = record {
    written = rw (is, has.written, flat_map-append work.out rows (row ∷ []), flat_map-append work.notes rows (row ∷ []), append-nil (work.out row), append-nil (work.notes row)) refl;
    shared = shared;
  }

  -- what is put together of the parts so far, of rows behind others, and which parts are left
  pub record Gathered (before rows : List Row) (left : List (Result (Given Share) (Refusal Limit))) (output : Output) (tally : Tally) : Type 0 where
    pub done : List Row
    pub more : List Row
    pub whole : rows ≡ done ++ more
    pub given : AreGiven work share_of more left
    pub written : output ≡ output_of work done
    pub tallied : Tallies work (before ++ done) tally

  abbrev pub GatheredSoFar : (parts left : List (Result (Given Share) (Refusal Limit))) → Output → (old new : Tally) → Type 0
  GatheredSoFar parts left output old new =
      (before rows : List Row) → Tallies work before old → AreGiven work share_of rows parts → Gathered before rows left output new

  pub gathered-none : (parts left : List (Result (Given Share) (Refusal Limit))) (output : Output) (tally : Tally) → left ≡ parts → output ≡ output_of work []
      → GatheredSoFar parts left output tally tally
  gathered-none parts left output tally is empty before rows t given = record {
    done = [];
    more = rows;
    whole = refl;
    given = rw is given;
    written = empty;
    tallied = rw (append-nil before) t;
  }

  module _ (before rows : List Row) (part : Result (Given Share) (Refusal Limit)) (left : List (Result (Given Share) (Refusal Limit))) (output : Output) (tally : Tally) where
    -- the part that is next is given of some rows
    pub next-given : Gathered before rows (part ∷ left) output tally → (front : List Row) × IsGiven work share_of front part
    next-given so_far = (so_far.given.0, so_far.given.3)

    pub next-counted : Gathered before rows (part ∷ left) output tally → (front : List Row) × Tallies work front tally
    next-counted so_far = (before ++ so_far.done, so_far.tallied)

    -- it is put behind the others
    pub gathered-more : (new : Output) (new_tally : Tally) → Gathered before rows (part ∷ left) output tally
        → ((front next : List Row) → output ≡ output_of work front → IsGiven work share_of next part → new ≡ output_of work (front ++ next))
        → ((front next : List Row) → Tallies work front tally → IsGiven work share_of next part → Tallies work (front ++ next) new_tally)
        → Gathered before rows left new new_tally
    gathered-more new new_tally so_far put counts =
        let (next, more, apart, is, others) = so_far.given in
        record {
          done = so_far.done ++ next;
          more = more;
          whole = so_far.whole ∙ ap (λ l. so_far.done ++ l) apart ∙ sym (append_assoc so_far.done next more);
          given = others;
          written = put so_far.done next so_far.written is;
          tallied = subst (λ l. Tallies work l new_tally) (append_assoc before so_far.done next) (counts (before ++ so_far.done) next so_far.tallied is);
        }

    -- it is refused, and so are all
    pub gathered-refused : StaysOver → (r : Refusal Limit) → Gathered before rows (part ∷ left) output tally
        → ((front next : List Row) → Tallies work front tally → IsGiven work share_of next part → Refuses work front next r) → Refuses work before rows r
    gathered-refused stays (refusal.Fault limit) so_far refuses =
        let (next, more, apart, is, others) = so_far.given in
        let over = stays [] ((before ++ so_far.done) ++ next) more (refuses (before ++ so_far.done) next so_far.tallied is) in
        let all : ((before ++ so_far.done) ++ next) ++ more ≡ before ++ rows =
        append_assoc (before ++ so_far.done) next more ∙ append_assoc before so_far.done (next ++ more)
        ∙ ap (λ l. before ++ l) (ap (λ l. so_far.done ++ l) (sym apart) ∙ sym so_far.whole) in
        subst (λ l. work.is_over l ≡ true) all over
    gathered-refused stays refusal.Memory so_far refuses = tt

  -- no part is left
  pub gathered-all : (before rows : List Row) (left : List (Result (Given Share) (Refusal Limit))) (output : Output) (tally : Tally) → length left ≡ 0
      → Gathered before rows left output tally → (output ≡ output_of work rows) × Tallies work (before ++ rows) tally
  gathered-all before rows [] output tally none so_far =
      let all : so_far.done ≡ rows = sym (so_far.whole ∙ ap (λ l. so_far.done ++ l) so_far.given ∙ append-nil so_far.done) in
      (subst (λ l. output ≡ output_of work l) all so_far.written, subst (λ l. Tallies work (before ++ l) tally) all so_far.tallied)
  gathered-all before rows (part ∷ left) output tally none so_far = absurd (omega arith)

  -- output with that of later rows behind it
  pub joined-output : (before rows : List Row) (old later new : Output) → old ≡ output_of work before → later ≡ output_of work rows → new ≡ joined old later
      → new ≡ output_of work (before ++ rows)
  joined-output before rows old later new first second is = rw (is, first, second, flat_map-append work.out before rows, flat_map-append work.notes before rows) refl

  -- what a function gives of pieces of frames is given of the rows of all of them
  module _ {F : Type 0} (calls : Shared F (ℕ × (Bor (List Kept) × Unit {0})) (Result (Given Share) (Refusal Limit))) (f : F) (number : ℕ)
      (gives : (place : ℕ) (piece : Bor (List Kept)) (r : Result (Given Share) (Refusal Limit)) → calls.post f (place, (piece, tt)) r
      → IsGiven work share_of (rows_of work (number + place) (map cut_of_kept piece.now)) r) where
    pieces-given : (place : ℕ) (pieces : List (List Kept)) (results : List (Result (Given Share) (Refusal Limit))) → GivesEach calls f place pieces results
        → AreGiven work share_of (rows_of work (number + place) (map cut_of_kept (flat_map (λ piece. piece) pieces))) results
    pieces-given place [] [] given = rows_of-none work (number + place)
    pieces-given place (piece ∷ pieces) (r ∷ results) given =
        let more = flat_map (λ p. p) pieces in
        let count : number + place + length (map cut_of_kept piece) ≡ number + (place + length piece) = omega (arith, length-map piece cut_of_kept) in
        let apart = ap (rows_of work (number + place)) (map-append cut_of_kept piece more) ∙ rows_of-append work (number + place) (map cut_of_kept piece) (map cut_of_kept more)
        ∙ ap (λ n. rows_of work (number + place) (map cut_of_kept piece) ++ rows_of work n (map cut_of_kept more)) count in (
          rows_of work (number + place) (map cut_of_kept piece),
          rows_of work (number + (place + length piece)) (map cut_of_kept more),
          apart,
          subst (λ l. IsGiven work share_of (rows_of work (number + place) (map cut_of_kept l)) r) given.0.piece_is (gives place given.0.piece r given.0.call),
          pieces-given (place + length piece) pieces results given.1,
        )
    pieces-given place [] (r ∷ results) given = absurd given
    pieces-given place (piece ∷ pieces) [] given = absurd given

  -- and where these pieces are the frames, of the rows of all frames
  pub batch-given : {F : Type 0} (calls : Shared F (ℕ × (Bor (List Kept) × Unit {0})) (Result (Given Share) (Refusal Limit))) (f : F) (number most : ℕ) (frames : List Kept)
      (results : List (Result (Given Share) (Refusal Limit))) → GivesPieces calls f most frames results
      → ((place : ℕ) (piece : Bor (List Kept)) (r : Result (Given Share) (Refusal Limit)) → calls.post f (place, (piece, tt)) r
      → IsGiven work share_of (rows_of work (number + place) (map cut_of_kept piece.now)) r)
      → AreGiven work share_of (rows_of work number (map cut_of_kept frames)) results
  batch-given calls f number most frames results given gives =
      let here : number + 0 ≡ number = omega arith in
      subst (λ l. AreGiven work share_of (rows_of work number (map cut_of_kept l)) results) given.whole.together
      (subst (λ n. AreGiven work share_of (rows_of work n (map cut_of_kept (flat_map (λ piece. piece) given.pieces))) results) here
      (pieces-given calls f number gives 0 given.pieces results given.each))
