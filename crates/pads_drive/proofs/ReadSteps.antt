-- What was read, over one more step.
use Rattle.std.proofs.Common.{◌≡◌, ℕ, Bool, false, Option, List, [], ◌++◌, sym, ap, subst, ◌∙◌, append_assoc, append-nil, arith}
use Rattle.std.proofs.lemmas.Bool.{true≢false}
use Rattle.std.specs.Io.KnownBytes.{Consumes, Keeps}
use Rattle.std.proofs.KnownBytes.{Consumes-nil, Consumes-trans, Consumes-kept}
use Rattle.pads_frame.specs.State.{reach, rest}
use Rattle.pads_drive.specs.Driving.{Refills}
use Rattle.pads_drive.specs.Outputs.{Work}
use Rattle.pads_drive.specs.declared.stop.Stop.{Stop}
use Rattle.pads_drive.specs.Progress.{Moment, Progresses, Stops}
use Rattle.pads_drive.specs.Ends.{Anything, Reads, StopsAt}
use Rattle.pads_drive.proofs.Progress.{progresses-same, progresses-trans, progresses-framer, stops-after, stops-when}

module _ {Row Tally : Type 0} (work : Work Row Tally) where
  pub reads-none : (left o n : Option (List ℕ)) (m : Moment Tally) → Reads work left left o o n n m m []
  reads-none left o n m = record { bytes = []; consumed = Consumes-nil left; progress = progresses-same work o n m }

  -- some batches were read and written
  pub reads-pumped : (left left' o o' o'' n n' n'' : Option (List ℕ)) (old mid new : Moment Tally) → Reads work left left' o o' n n' old mid []
      → Progresses work o' o'' n' n'' mid new [] → Reads work left left' o o'' n n'' old new []
  reads-pumped left left' o o' o'' n n' n'' old mid new r p = record {
    bytes = r.bytes;
    consumed = r.consumed;
    progress = subst (Progresses work o o'' n n'' old new) (append-nil r.bytes) (progresses-trans work o o' o'' n n' n'' old mid new r.bytes [] r.progress p);
  }

  -- the framer took bytes
  pub reads-more : (left left' left'' o o' n n' : Option (List ℕ)) (old mid new : Moment Tally) (bytes beyond : List ℕ) → Reads work left left' o o' n n' old mid []
      → new.number ≡ mid.number → new.tally ≡ mid.tally → new.waiting ≡ mid.waiting → mid.framer.ended ≡ false → Refills left' left'' mid.framer new.framer bytes beyond
      → Reads work left left'' o o' n n' old new beyond
  reads-more left left' left'' o o' n n' old mid new bytes beyond r number tally_same waiting still p =
      let step = progresses-framer work o' n' mid new bytes number tally_same waiting still p.owed p.reaches p.first in
      let all : (r.bytes ++ []) ++ (bytes ++ beyond) ≡ (r.bytes ++ bytes) ++ beyond = ap (λ l. l ++ (bytes ++ beyond)) (append-nil r.bytes) ∙ sym (append_assoc r.bytes bytes beyond) in
      record {
        bytes = r.bytes ++ bytes;
        consumed = subst (Consumes left left'') all (Consumes-trans left left' left'' _ _ r.consumed p.consumed);
        progress = progresses-trans work o o' o' n n' n' old mid new r.bytes bytes r.progress step;
      }

  -- the framer took no byte, and at most learned of the end
  pub reads-kept : (left left' left'' o o' n n' : Option (List ℕ)) (old mid new : Moment Tally) → Reads work left left' o o' n n' old mid [] → Keeps left' left''
      → new.number ≡ mid.number → new.tally ≡ mid.tally → new.waiting ≡ mid.waiting → mid.framer.ended ≡ false
      → ((ended : Bool) (more : List ℕ) → rest ended new.framer more ≡ rest ended mid.framer more) → reach new.framer ≡ reach mid.framer → new.framer.first ≡ mid.framer.first
      → Reads work left left'' o o' n n' old new []
  reads-kept left left' left'' o o' n n' old mid new r kept number tally_same waiting still owed reaches first =
      let step = progresses-framer work o' n' mid new [] number tally_same waiting still owed (omega (arith, reaches)) first in
      record {
        bytes = r.bytes;
        consumed = Consumes-kept left left' left'' _ r.consumed kept;
        progress = subst (Progresses work o o' n n' old new) (append-nil r.bytes) (progresses-trans work o o' o' n n' n' old mid new r.bytes [] r.progress step);
      }

  -- the reading stopped while the input was open
  pub reads-stopped : (left left' o o' o'' n n' n'' : Option (List ℕ)) (old mid : Moment Tally) (F : Bool → List ℕ → Type 0) (s : Stop) → ((ended : Bool) (more : List ℕ) → F ended more)
      → mid.framer.ended ≡ false → Reads work left left' o o' n n' old mid [] → Stops work o' o'' n' n'' mid [] F s → StopsAt work left left' o o'' n n'' old s
  reads-stopped left left' o o' o'' n n' n'' old mid F s any still r p = record {
    bytes = r.bytes;
    consumed = subst (Consumes left left') (append-nil r.bytes) r.consumed;
    stops = subst (λ l. Stops work o o'' n n'' old l Anything s) (append-nil r.bytes)
        (stops-after work o o' o'' n n' n'' old mid r.bytes [] Anything s (λ ended more follows e. absurd (true≢false (sym e ∙ still))) r.progress
        (stops-when work o' o'' n' n'' mid [] F Anything s (λ ended more follows. any ended more) p));
  }
