-- Every record has a row by an image, whatever it is, and so have records that follow one another.
use Rattle.std.proofs.Common.{◌≡◌, ◌∙◌, sym, ap, refl, subst, ℕ, zero, suc, ◌+◌, List, [], ◌∷◌, ◌++◌, length, take, drop, map, take-append-drop}
use Rattle.std.proofs.lemmas.List.{map-append}
use Rattle.std.specs.Prelude.{Result, Ok, Err}
use Rattle.pads_value.specs.Cuts.{Cut, cut_of_kept}
use Rattle.pads_value.specs.declared.frame.Kept.{Kept}
use Rattle.pads_value.specs.declared.memory.Refusal.{Refusal}
use Rattle.pads_value.specs.declared.memory.Refusal.TheVariants as refusal
use Rattle.pads_value.specs.declared.row.Row.{Row}
use Rattle.pads_calc.specs.declared.reading.Reading.{Reading}
use Rattle.pads_calc.specs.Readings.{Subject}
use Rattle.pads_calc.specs.Rows.{kept_by, row_by, subject_of_cut, type_of}
use Rattle.pads_image.specs.declared.entry.Entry.{Entry}
use Rattle.pads_image.specs.declared.image.Image.{Image}
use Rattle.pads_image.specs.declared.op.Op.{Op}
use Rattle.pads_image.specs.Answers.{HaltsWith, Runs, start}
use Rattle.pads_image.specs.Skeletons.{kept_in}
use Rattle.pads_image.specs.States.{State}
use Rattle.pads_image.specs.Steps.{Halts, step}
use Rattle.pads_machine.proofs.Answered.{answers-so, found, halts, row-so}
use Rattle.pads_machine.proofs.Halts.{halted, moved}
use Rattle.pads_plan.specs.declared.part.PlanList.{PlanList}
use Rattle.pads_accum.specs.States.{State as ChunkState}
use Rattle.pads_accum.specs.declared.limit.Limit.{Limit}
use Rattle.pads_batch.specs.Reading.{AreRows, IsRead}
use Rattle.pads_batch.specs.Summing.{IsSummed, Refuses, SumsRows}
use Rattle.pads_batch.proofs.Counted.{over-among}
use Rattle.pads_batch.proofs.Rows.{rows-append}

-- a run halts with one reading
module _ (code : List Op) (of_entries : List Entry) (subject : Subject) (most : ℕ) where
  one-end : (n : ℕ) (s end : State) (r other : Reading) → Runs code of_entries subject most n s end → step of_entries subject code end ≡ Halts → end.last ≡ r
      → HaltsWith code of_entries subject most s other → r ≡ other
  one-end zero s end r other run stops last h =
      let here : step of_entries subject code s ≡ Halts = subst (λ (x : State). step of_entries subject code x ≡ Halts) (sym run) stops in
      sym last ∙ ap (λ (x : State). x.last) (sym run) ∙ halted code of_entries subject most s other here h
  one-end (suc n) s end r other run stops last h = one-end n run.1 end r other run.3 stops last (moved code of_entries subject most s run.1 other run.2 h)

module _ (image : Image) where
  row-there : (number : ℕ) (cut : Cut) → (row : Row) × IsRead image number cut row
  row-there number cut =
      let body = found image number cut in
      let left = kept_by (kept_in image.entries) (type_of image.shape number) body in
      let row = row_by cut.mark number cut left in
      let h = halts image number cut in
      let begun = start image.entries (subject_of_cut image.scan cut) (type_of image.shape number) in
      let only : (r : Reading) → HaltsWith image.code image.entries (subject_of_cut image.scan cut) image.need begun r → body ≡ r =
      λ r other. one-end image.code image.entries (subject_of_cut image.scan cut) image.need h.reached.steps begun h.end body r h.reached.run h.halts h.last other in (
        row,
        record {
          answer = answers-so image number cut body left row only refl refl;
          row_is = row-so image number cut body left row only refl refl;
        },
      )

  rows-there : (number : ℕ) (cuts : List Cut) → (rows : List Row) × AreRows (IsRead image) number cuts rows
  rows-there number [] = ([], tt)
  rows-there number (cut ∷ cuts) =
      let first = row-there number cut in
      let more = rows-there (number + 1) cuts in
      (first.0 ∷ more.0, (first.1, more.1))

  -- rows of the first frames, with those of the others behind them
  rows-rest : (number n : ℕ) (frames : List Kept) (rows : List Row) → AreRows (IsRead image) number (map cut_of_kept (take n frames)) rows
      → (more : List Row) × AreRows (IsRead image) number (map cut_of_kept frames) (rows ++ more)
  rows-rest number n frames rows are =
      let front = map cut_of_kept (take n frames) in
      let behind = map cut_of_kept (drop n frames) in
      let more = rows-there (number + length front) behind in
      let whole : front ++ behind ≡ map cut_of_kept frames = sym (map-append cut_of_kept (take n frames) (drop n frames)) ∙ ap (map cut_of_kept) (take-append-drop n frames) in
      (more.0, subst (λ cuts. AreRows (IsRead image) number cuts (rows ++ more.0)) whole (rows-append (IsRead image) number front behind rows more.0 are more.1))

  module _ (plan : List PlanList) where
    -- what is refused of the rows of the first frames is refused of those of all
    pub refused-rows : (number n : ℕ) (frames : List Kept) (rows : List Row) → AreRows (IsRead image) number (map cut_of_kept (take n frames)) rows
        → (r : Refusal Limit) → Refuses plan rows r → SumsRows (IsRead image) plan number (map cut_of_kept frames) (Err r)
    refused-rows number n frames rows are (refusal.Fault limit) over =
        let more = rows-rest number n frames rows are in
        (rows ++ more.0, more.1, over-among plan [] rows more.0 limit over)
    refused-rows number n frames rows are refusal.Memory over = tt

    -- without memory too the frames have rows
    pub whole-summed : (number : ℕ) (cuts : List Cut) (outcome : Result ChunkState (Refusal Limit)) → SumsRows (IsRead image) plan number cuts outcome
        → IsSummed (IsRead image) plan number cuts outcome
    whole-summed number cuts (Ok chunk) h = record { rows = h.0; are = h.1; sums = h.2 }
    whole-summed number cuts (Err (refusal.Fault limit)) h = record { rows = h.0; are = h.1; sums = h.2 }
    whole-summed number cuts (Err refusal.Memory) h = let all = rows-there number cuts in record { rows = all.0; are = all.1; sums = tt }
