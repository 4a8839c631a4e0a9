-- How far the reading was when it stopped, as where a write on a sink failed: which frames were done, which were at hand,
-- and what came before the last piece that was read.
use Rattle.std.specs.Prelude.{◌≡◌, ℕ, ◌+◌, ◌-◌, ◌^◌, ◌≤◌, min, Bool, false, Option, List, ◌++◌, length, map}
use Rattle.std.specs.Io.KnownBytes.{Consumes}
use Rattle.pads_drive.specs.Ahead.{IsBatch, weight}
use Rattle.pads_frame.specs.State.{rest}
use Rattle.pads_value.specs.Cuts.{Cut, cut_of_kept}
use Rattle.pads_drive.specs.Outputs.{Work, output_of, rows_of}
use Rattle.pads_drive.specs.Progress.{Moment}
use Rattle.pads_drive.specs.Writing.{GrowsPast}
use Rattle.pads_drive.specs.declared.driving.Batch.{Batch}

-- how many frames came by a moment: those that were read, and those that wait
abbrev pub met : {Tally : Type 0} → Moment Tally → ℕ
met m = m.number + length m.waiting

-- Frames that wait are a batch, and its size counts their bytes.
pub record IsSized (frames : List Cut) (size : ℕ) : Type 0 where
  pub batch : IsBatch frames
  pub counted : min (weight frames) (2 ^ 64 - 1) ≤ size

abbrev pub IsFilled : Batch → Type 0
IsFilled b = IsSized (map cut_of_kept b.frames) b.size

module _ {Row Tally : Type 0} (work : Work Row Tally) where
  -- These bytes came, and then it stopped: some frames were done, and their output was written, others were at hand. The
  -- frames that waited before are among them.
  pub record Halts (o o' n n' : Option (List ℕ)) (old : Moment Tally) (bytes : List ℕ) (MayFollow : Bool → List ℕ → Type 0) : Type 0 where
    pub done : List Cut
    pub hand : List Cut
    pub first : (ended : Bool) (more : List ℕ) → MayFollow ended more
        → (others : List Cut) × (old.waiting ++ rest ended old.framer (bytes ++ more) ≡ done ++ hand ++ others)
    pub wrote : GrowsPast o o' n n' (output_of work (rows_of work old.number done))
    pub batch : IsBatch hand
    pub met_still : length old.waiting ≤ length done + length hand

  -- The same where the bytes came from a source, of which those beyond weren't taken. All frames that the bytes before the
  -- last piece complete are done or at hand.
  pub record HaltsAt (left left' o o' n n' : Option (List ℕ)) (old : Moment Tally) (MayFollow : Bool → List ℕ → Type 0) : Type 0 where
    pub bytes : List ℕ
    pub beyond : List ℕ
    pub consumed : Consumes left left' (bytes ++ beyond)
    pub halts : Halts o o' n n' old bytes MayFollow
    pub seen : List ℕ
    pub piece : List ℕ
    pub read : Consumes left left' (seen ++ piece)
    pub small : length piece ≤ 4096
    pub all_met : length (old.waiting ++ rest false old.framer seen) ≤ length halts.done + length halts.hand

-- Bytes came in pieces, and all frames that those before the last piece complete were met by the later moment.
pub record Caught {Tally : Type 0} (left left' : Option (List ℕ)) (old new : Moment Tally) : Type 0 where
  pub seen : List ℕ
  pub piece : List ℕ
  pub read : Consumes left left' (seen ++ piece)
  pub small : length piece ≤ 4096
  pub all_met : old.number + length (old.waiting ++ rest false old.framer seen) ≤ met new
