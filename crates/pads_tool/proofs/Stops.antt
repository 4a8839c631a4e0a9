-- A run that ends for one reason, where the reasons of another call are known.
use Rattle.std.proofs.Common.{◌≢◌, ℕ, Result, Ok, Err, IfErr, OnOk}
use Rattle.pads_tool.specs.Texts.{StopsBefore, StopsFor}
use Rattle.pads_tool.specs.declared.ending.Ending.{Ending}
use Rattle.pads_tool.specs.declared.ending.Ending.TheVariants as ending
use Rattle.pads_tool.specs.declared.reason.Reason.{Reason}

module _ (Refuses Wider : Reason → Type 0) (wider : (why : Reason) → Refuses why → Wider why) where
  -- What holds of each reason of the one, holds at each ending of the other.
  pub stop-before : (before now : ℕ) (e : Ending) → StopsBefore Refuses before now e → StopsBefore Wider before now e
  stop-before before now (ending.Refused why) h = wider why h
  stop-before before now ending.FileFault h = h
  stop-before before now ending.Memory h = tt
  stop-before before now ending.Done h = absurd h
  stop-before before now ending.Dirty h = absurd h
  stop-before before now ending.Usage h = absurd h
  stop-before before now ending.ReadFault h = absurd h
  stop-before before now ending.WriteFault h = absurd h
  stop-before before now ending.TooLong h = absurd h
  stop-before before now ending.Limit h = absurd h

  pub stop-behind : (before now : ℕ) (e : Ending) → StopsFor Refuses e → StopsBefore Wider before now e
  stop-behind before now (ending.Refused why) h = wider why h
  stop-behind before now ending.Memory h = tt
  stop-behind before now ending.FileFault h = absurd h
  stop-behind before now ending.Done h = absurd h
  stop-behind before now ending.Dirty h = absurd h
  stop-behind before now ending.Usage h = absurd h
  stop-behind before now ending.ReadFault h = absurd h
  stop-behind before now ending.WriteFault h = absurd h
  stop-behind before now ending.TooLong h = absurd h
  stop-behind before now ending.Limit h = absurd h

  pub stop-for : (e : Ending) → StopsFor Refuses e → StopsFor Wider e
  stop-for (ending.Refused why) h = wider why h
  stop-for ending.Memory h = tt
  stop-for ending.FileFault h = absurd h
  stop-for ending.Done h = absurd h
  stop-for ending.Dirty h = absurd h
  stop-for ending.Usage h = absurd h
  stop-for ending.ReadFault h = absurd h
  stop-for ending.WriteFault h = absurd h
  stop-for ending.TooLong h = absurd h
  stop-for ending.Limit h = absurd h

  -- The same of an answer, of a call that comes behind the reading of the file,
  pub stops-behind : {T : Type 0} (before now : ℕ) (r : Result T Ending) → IfErr r (StopsFor Refuses) → IfErr r (StopsBefore Wider before now)
  stops-behind before now (Ok made) h = tt
  stops-behind before now (Err e) h = stop-behind before now e h

  -- and of one that reads no file.
  pub stops-for : {T : Type 0} (r : Result T Ending) → IfErr r (StopsFor Refuses) → IfErr r (StopsFor Wider)
  stops-for (Ok made) h = tt
  stops-for (Err e) h = stop-for e h

-- What stays at each answer, stays at one.
pub stays-ok : (T Stays : Type 0) (r : Result T Ending) → Stays → OnOk r Stays
stays-ok T Stays (Ok made) h = h
stays-ok T Stays (Err e) h = tt

pub stays-err : (T Stays : Type 0) (r : Result T Ending) → Stays → IfErr r (λ stop. stop ≢ ending.FileFault → Stays)
stays-err T Stays (Ok made) h = tt
stays-err T Stays (Err e) h = λ other. h
