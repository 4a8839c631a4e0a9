-- How the reading of a source ended, and what was read and written by then.
use Rattle.std.specs.Prelude.{◌≡◌, ℕ, ◌^◌, ◌<◌, Bool, true, false, Option, List, [], ◌++◌, length}
use Rattle.std.specs.Io.KnownBytes.{Consumes, IsAtEnd}
use Rattle.pads_io.specs.Faults.{Rose}
use Rattle.pads_frame.specs.State.{reach}
use Rattle.pads_drive.specs.Outputs.{Work}
use Rattle.pads_drive.specs.Progress.{Moment, Progresses, Stops}
use Rattle.pads_drive.specs.declared.stop.Stop.{Stop}
use Rattle.pads_drive.specs.declared.refill.Refill.{Refill}
use Rattle.pads_drive.specs.declared.refill.Refill.TheVariants as refill

-- anything may follow
abbrev pub Anything : Bool → List ℕ → Type 0
Anything ended more = Unit {0}

module _ {Row Tally : Type 0} (work : Work Row Tally) where
  -- These bytes came, of which those beyond weren't taken.
  pub record Reads (left left' o o' n n' : Option (List ℕ)) (old new : Moment Tally) (beyond : List ℕ) : Type 0 where
    pub bytes : List ℕ
    pub consumed : Consumes left left' (bytes ++ beyond)
    pub progress : Progresses work o o' n n' old new bytes

  abbrev pub ReadsToEnd : (left left' o o' n n' : Option (List ℕ)) (faults faults' : ℕ) (old new : Moment Tally) → Refill → Type 0
  ReadsToEnd left left' o o' n n' faults faults' old new refill.More = ⊥
  ReadsToEnd left left' o o' n n' faults faults' old new refill.End =
      Reads left left' o o' n n' old new [] × IsAtEnd left' × (new.framer.ended ≡ true)
  ReadsToEnd left left' o o' n n' faults faults' old new refill.ReadFault =
      Reads left left' o o' n n' old new [] × Rose faults faults' × (new.framer.ended ≡ false)
  ReadsToEnd left left' o o' n n' faults faults' old new refill.TooLong =
      (beyond : List ℕ) × Reads left left' o o' n n' old new beyond × (0 < length beyond) × (reach new.framer ≡ 2 ^ 62) × (new.framer.ended ≡ false)

  -- These bytes came, and then the reading stopped.
  pub record StopsAt (left left' o o' n n' : Option (List ℕ)) (old : Moment Tally) (stop : Stop) : Type 0 where
    pub bytes : List ℕ
    pub consumed : Consumes left left' bytes
    pub stops : Stops work o o' n n' old bytes Anything stop
