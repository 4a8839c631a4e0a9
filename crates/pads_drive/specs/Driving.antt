-- Reading an input to its end, frame by frame: what a step does to the framer and to the frames that wait.
use Rattle.std.specs.Prelude.{◌≡◌, ℕ, ◌+◌, ◌^◌, ◌<◌, ◌≤◌, nat_lt, nat_le, Bool, true, ◌&&◌, ◌||◌, if◌then◌else◌, Option, None, Some, List, [], ◌++◌, length}
use Rattle.std.specs.Io.KnownBytes.{Consumes, IsAtEnd, Keeps}
use Rattle.pads_io.specs.Faults.{Rose}
use Rattle.pads_value.specs.Cuts.{Cut, cut_of_kept}
use Rattle.pads_value.specs.declared.frame.Kept.{Kept}
use Rattle.pads_frame.specs.Next.{HandsOut, SameInput, Waits}
use Rattle.pads_frame.specs.State.{State, MayCome, reach, rest, room}
use Rattle.pads_drive.specs.declared.driving.Batch.{Batch}
use Rattle.pads_drive.specs.declared.refill.Refill.{Refill}
use Rattle.pads_drive.specs.declared.refill.Refill.TheVariants as refill

-- a framer that is asked for a frame to keep
abbrev pub KeepsNext : State → State → Option Kept → Type 0
KeepsNext old new None = Waits old new
KeepsNext old new (Some kept) = HandsOut old (cut_of_kept kept) new

-- the most frames of a batch that so many workers read: several share a larger one
abbrev pub most_frames : ℕ → ℕ
most_frames jobs = if nat_le jobs 1 then 256 else 8192

-- A batch takes no more frames: it has the most, or some whose bytes are 4,194,304 or more.
abbrev pub is_full : ℕ → Batch → Bool
is_full most b = nat_le most (length b.frames) || (nat_le 4194304 b.size && nat_lt 0 (length b.frames))

-- Frames were moved from a framer to those that wait, and none was lost.
pub record Collects (old new : State) (before after : List Cut) : Type 0 where
  pub owed : (ended : Bool) (more : List ℕ) → MayCome old ended more → before ++ rest ended old more ≡ after ++ rest ended new more
  pub input : SameInput old new
  pub reaches : reach new ≡ reach old
  pub later : old.first + length after ≤ new.first + length before
  pub kept : length before ≤ length after

-- A framer owes no frame for the bytes so far, and has room for more.
pub record IsWaiting (s : State) : Type 0 where
  pub none : rest s.ended s [] ≡ []
  pub free : length s.held + 4096 ≤ room s

-- These bytes were read and are taken by the framer.
pub record Refills (left left' : Option (List ℕ)) (old new : State) (bytes beyond : List ℕ) : Type 0 where
  pub consumed : Consumes left left' (bytes ++ beyond)
  pub owed : (ended : Bool) (more : List ℕ) → rest ended new more ≡ rest ended old (bytes ++ more)
  pub reaches : reach new ≡ reach old + length bytes
  pub within : reach new ≤ 2 ^ 62
  pub first : new.first ≡ old.first
  pub input : SameInput old new
  pub few : length bytes + length beyond ≤ 4096

-- One read, by what came of it.
abbrev pub RefillGives : Option (List ℕ) → Option (List ℕ) → ℕ → ℕ → State → State → Refill → Type 0
-- some bytes
RefillGives left left' faults faults' old new refill.More = (bytes : List ℕ) × Refills left left' old new bytes [] × (0 < length bytes)
-- the end of the source
RefillGives left left' faults faults' old new refill.End = Keeps left left' × IsAtEnd left' × (new ≡ record old { ended = true })
-- the source failed, and nothing changed
RefillGives left left' faults faults' old new refill.ReadFault = Keeps left left' × Rose faults faults' × (new ≡ old)
-- bytes of which some have no offset below 2^62
RefillGives left left' faults faults' old new refill.TooLong =
    (bytes : List ℕ) × (beyond : List ℕ) × Refills left left' old new bytes beyond × (0 < length beyond) × (reach new ≡ 2 ^ 62)
