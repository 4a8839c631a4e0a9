-- What workers made of their pieces, merged in the order of the pieces, is what is answered for all rows.
use Rattle.std.proofs.Common.{◌≡◌, ◌∙◌, sym, ap, refl, subst, ℕ, ◌+◌, List, [], ◌∷◌, ◌++◌, length, map, append_assoc, append-nil, arith}
use Rattle.std.proofs.lemmas.List.{length-map, map-append}
use Rattle.std.specs.Prelude.{Result, Ok, Err, flat_map}
use denote.Ref.{Bor}
use denote.Param.Members.{Shared}
use Rattle.pads_drive.specs.Pieces.{GivesEach, GivesPieces}
use Rattle.pads_value.specs.Cuts.{Cut, cut_of_kept}
use Rattle.pads_value.specs.declared.frame.Kept.{Kept}
use Rattle.pads_value.specs.declared.memory.Refusal.{Refusal}
use Rattle.pads_value.specs.declared.memory.Refusal.TheVariants as refusal
use Rattle.pads_value.specs.declared.row.Row.{Row}
use Rattle.pads_calc.specs.declared.decl.Decl.{Decl}
use Rattle.pads_image.specs.declared.image.Image.{Image}
use Rattle.pads_plan.specs.declared.part.PlanList.{PlanList}
use Rattle.pads_accum.specs.States.{State}
use Rattle.pads_accum.specs.declared.limit.Limit.{Limit}
use Rattle.pads_batch.specs.Reading.{AreRows, IsAnswer, IsRead, StandsForThem, rows_of}
use Rattle.pads_batch.specs.Summing.{AreSums, IsOver, IsSum, IsSummed, Refuses, Sums, SumsRows}
use Rattle.pads_batch.proofs.Counted.{over-among}
use Rattle.pads_batch.proofs.Rows.{rows-answer, rows-append, rows-calculus}

abbrev Outcome : Type 0
Outcome = Result State (Refusal Limit)

-- What is refused of rows is refused of these behind others.
pub refused-behind : (plan : List PlanList) (before rows : List Row) (r : Refusal Limit) → Refuses plan rows r → Refuses plan (before ++ rows) r
refused-behind plan before rows (refusal.Fault limit) over =
    subst (λ l. IsOver plan l limit) (append-nil (before ++ rows)) (over-among plan before rows [] limit over)
refused-behind plan before rows refusal.Memory over = tt

-- what is merged so far of parts, and which are left
pub record Merged (plan : List PlanList) (rows : List Row) (left : List Outcome) (whole : State) : Type 0 where
  pub done : List Row
  pub more : List Row
  pub apart : rows ≡ done ++ more
  pub given : AreSums plan more left
  pub is : IsSum plan done whole

abbrev pub MergedSoFar : (parts left : List Outcome) → (blank whole : State) → Type 0
MergedSoFar parts left blank whole = (plan : List PlanList) (rows : List Row) → IsSum plan [] blank → AreSums plan rows parts → Merged plan rows left whole

pub merged-none : (parts left : List Outcome) (blank : State) → left ≡ parts → MergedSoFar parts left blank blank
merged-none parts left blank same plan rows empty given = record {
  done = [];
  more = rows;
  apart = refl;
  given = subst (λ l. AreSums plan rows l) (sym same) given;
  is = empty;
}

module _ (plan : List PlanList) (rows : List Row) (part : Outcome) (left : List Outcome) (whole : State) where
  pub next-fits : Merged plan rows (part ∷ left) whole
      → (plan : List PlanList) × (before : List Row) × (rows : List Row) × IsSum plan before whole × Sums plan rows part
  next-fits so_far = (plan, so_far.done, so_far.given.0, so_far.is, so_far.given.3)

  pub merged-more : (new : State) → Merged plan rows (part ∷ left) whole
      → ((plan : List PlanList) (before rows : List Row) → IsSum plan before whole → Sums plan rows part → IsSum plan (before ++ rows) new) → Merged plan rows left new
  merged-more new so_far takes =
      let (next, more, apart, is, others) = so_far.given in
      record {
        done = so_far.done ++ next;
        more = more;
        apart = so_far.apart ∙ ap (λ l. so_far.done ++ l) apart ∙ sym (append_assoc so_far.done next more);
        given = others;
        is = takes plan so_far.done next so_far.is is;
      }

  -- what is refused of some rows is refused of all
  pub merged-refused : (r : Refusal Limit) → Merged plan rows (part ∷ left) whole
      → ((plan : List PlanList) (before rows : List Row) → IsSum plan before whole → Sums plan rows part → Refuses plan (before ++ rows) r) → Refuses plan rows r
  merged-refused (refusal.Fault limit) so_far refuses =
      let (next, more, apart, is, others) = so_far.given in
      let all : ([] ++ (so_far.done ++ next)) ++ more ≡ rows =
      append_assoc so_far.done next more ∙ ap (λ l. so_far.done ++ l) (sym apart) ∙ sym so_far.apart in
      subst (λ l. IsOver plan l limit) all (over-among plan [] (so_far.done ++ next) more limit (refuses plan so_far.done next so_far.is is))
  merged-refused refusal.Memory so_far refuses = tt

-- no part is left
pub merged-all : (plan : List PlanList) (rows : List Row) (left : List Outcome) (whole : State) → length left ≡ 0 → Merged plan rows left whole → IsSum plan rows whole
merged-all plan rows [] whole none so_far =
    let all : so_far.done ≡ rows = sym (so_far.apart ∙ ap (λ l. so_far.done ++ l) so_far.given ∙ append-nil so_far.done) in
    subst (λ l. IsSum plan l whole) all so_far.is
merged-all plan rows (part ∷ left) whole none so_far = absurd (omega arith)

module _ (IsRow : ℕ → Cut → Row → Type 0) (plan : List PlanList) where
  summed-rows : (number : ℕ) (cuts : List Cut) (outcome : Outcome) (rows : List Row) → AreRows IsRow number cuts rows → Sums plan rows outcome → SumsRows IsRow plan number cuts outcome
  summed-rows number cuts (Ok chunk) rows are sums = (rows, are, sums)
  summed-rows number cuts (Err (refusal.Fault limit)) rows are sums = (rows, are, sums)
  summed-rows number cuts (Err refusal.Memory) rows are sums = tt

  -- what a function gives of each piece is what is answered for its rows
  module _ {F : Type 0} (calls : Shared F (ℕ × (Bor (List Kept) × Unit {0})) Outcome) (f : F) (first : ℕ) where
    abbrev pub GivesSums : Type 0
    GivesSums =
        (place : ℕ) (piece : Bor (List Kept)) (r : Outcome) → calls.post f (place, (piece, tt)) r → IsSummed IsRow plan (first + place) (map cut_of_kept piece.now) r

    sums-each : GivesSums → (place : ℕ) (pieces : List (List Kept)) (parts : List Outcome) → GivesEach calls f place pieces parts
        → (rows : List Row) × AreRows IsRow (first + place) (map cut_of_kept (flat_map (λ piece. piece) pieces)) rows × AreSums plan rows parts
    sums-each gives place [] [] each = ([], tt, refl)
    sums-each gives place [] (part ∷ parts) each = absurd each
    sums-each gives place (piece ∷ pieces) [] each = absurd each
    sums-each gives place (piece ∷ pieces) (part ∷ parts) each =
        let own : IsSummed IsRow plan (first + place) (map cut_of_kept piece) part =
        subst (λ l. IsSummed IsRow plan (first + place) (map cut_of_kept l) part) each.0.piece_is (gives place each.0.piece part each.0.call) in
        let others = sums-each gives (place + length piece) pieces parts each.1 in
        let behind = flat_map (λ p. p) pieces in
        let there : first + (place + length piece) ≡ first + place + length (map cut_of_kept piece) = omega (arith, length-map piece cut_of_kept) in
        let more : AreRows IsRow (first + place + length (map cut_of_kept piece)) (map cut_of_kept behind) others.0 =
        subst (λ n. AreRows IsRow n (map cut_of_kept behind) others.0) there others.1 in
        let all : AreRows IsRow (first + place) (map cut_of_kept (piece ++ behind)) (own.rows ++ others.0) =
        subst (λ cuts. AreRows IsRow (first + place) cuts (own.rows ++ others.0)) (sym (map-append cut_of_kept piece behind))
        (rows-append IsRow (first + place) (map cut_of_kept piece) (map cut_of_kept behind) own.rows others.0 own.are more) in
        (own.rows ++ others.0, all, (own.rows, others.0, refl, own.sums, others.2))

    -- of all frames
    pub sums-pieces : (jobs : ℕ) (frames : List Kept) (parts : List Outcome) → GivesPieces calls f jobs frames parts → GivesSums
        → (rows : List Row) × AreRows IsRow first (map cut_of_kept frames) rows × AreSums plan rows parts
    sums-pieces jobs frames parts given gives =
        let h = sums-each gives 0 given.pieces parts given.each in
        let here : first + 0 ≡ first = omega arith in
        (h.0, subst (λ l. AreRows IsRow first (map cut_of_kept l) h.0) given.whole.together (subst (λ n. AreRows IsRow n (map cut_of_kept (flat_map (λ p. p) given.pieces)) h.0) here h.1), h.2)

    pub parts-fit : (jobs : ℕ) (frames : List Kept) (parts : List Outcome) (blank : State) → GivesPieces calls f jobs frames parts → GivesSums → IsSum plan [] blank
        → (plan : List PlanList) × (rows : List Row) × IsSum plan [] blank × AreSums plan rows parts
    parts-fit jobs frames parts blank given gives empty = let h = sums-pieces jobs frames parts given gives in (plan, h.0, empty, h.2)

    pub sums-merged : (jobs : ℕ) (frames : List Kept) (parts : List Outcome) (blank : State) (outcome : Outcome) → GivesPieces calls f jobs frames parts → GivesSums
        → IsSum plan [] blank → ((plan : List PlanList) (rows : List Row) → IsSum plan [] blank → AreSums plan rows parts → Sums plan rows outcome)
        → SumsRows IsRow plan first (map cut_of_kept frames) outcome
    sums-merged jobs frames parts blank outcome given gives empty sums =
        let h = sums-pieces jobs frames parts given gives in
        summed-rows first (map cut_of_kept frames) outcome h.0 h.1 (sums plan h.0 empty h.2)

-- The rows are the image's answers, and the calculus' rows of declarations that it stands for.
module _ (image : Image) (plan : List PlanList) (number : ℕ) (cuts : List Cut) where
  pub summed-answers : (outcome : Outcome) → SumsRows (IsRead image) plan number cuts outcome → SumsRows (IsAnswer image) plan number cuts outcome
  summed-answers (Ok chunk) h = (h.0, rows-answer image number cuts h.0 h.1, h.2)
  summed-answers (Err (refusal.Fault limit)) h = (h.0, rows-answer image number cuts h.0 h.1, h.2)
  summed-answers (Err refusal.Memory) h = tt

  pub summed-calculus : (outcome : Outcome) → SumsRows (IsRead image) plan number cuts outcome → (decls : List Decl) → StandsForThem image decls
      → Sums plan (rows_of decls image.shape image.scan number cuts) outcome
  summed-calculus (Ok chunk) h decls stands = subst (λ rows. IsSum plan rows chunk) (rows-calculus image number cuts h.0 h.1 decls stands) h.2
  summed-calculus (Err (refusal.Fault limit)) h decls stands = subst (λ rows. IsOver plan rows limit) (rows-calculus image number cuts h.0 h.1 decls stands) h.2
  summed-calculus (Err refusal.Memory) h decls stands = tt
