-- When the reading of an input may stop, and for what.
use Rattle.std.specs.Prelude.{◌≡◌, ◌≢◌, ℕ, ◌≤◌, Result, Err, ⊤}
use Rattle.pads_io.specs.Faults.{Rose}
use Rattle.pads_drive.specs.declared.stop.Stop.{Stop}
use Rattle.pads_drive.specs.declared.stop.Stop.TheVariants as stop

-- this, where a limit was met
abbrev pub AtLimit : Type 0 → Stop → Type 0
AtLimit P stop.Limit = P
AtLimit P stop.Out = ⊤
AtLimit P stop.Notes = ⊤
AtLimit P stop.Memory = ⊤

-- No count fell. A sink is blamed only where its count rose, the notes only where there was something to write on them,
-- and a sink that isn't blamed has counted no failure.
pub record HasSinkCause {T : Type 0} (out out' notes notes' : ℕ) (Nothing : Type 0) (result : Result T Stop) : Type 0 where
  pub out_later : out ≤ out'
  pub notes_later : notes ≤ notes'
  pub out_kept : result ≢ Err stop.Out → out' ≡ out
  pub notes_kept : result ≢ Err stop.Notes → notes' ≡ notes
  pub out_failed : result ≡ Err stop.Out → Rose out out'
  pub notes_failed : result ≡ Err stop.Notes → Rose notes notes'
  pub notes_wanted : Nothing → result ≡ Err stop.Notes → ⊥
