-- Sources and sinks in memory, as contracts see them.
use Rattle.std.specs.Prelude.{ℕ, Bool, ◌==◌, if◌then◌else◌, min, List}
use Rattle.pads_io.specs.Faults.{raised}
use Rattle.pads_io.specs.declared.schedule.Schedule.{Schedule}

-- how many bytes one call moves: as many as there are, as fit, and as the piece allows, where 0 allows any number
abbrev pub portion : ℕ → ℕ → ℕ → ℕ
portion piece room there = min (if piece == 0 then room else min piece room) there

-- a source that never fails: the bytes left, and the most that one call gives (0: as many as fit)
pub record Supply : Type 0 where
  pub left : List ℕ
  pub piece : ℕ

-- a sink with a fixed room: what was written, the most that one call takes (0: any number), how many bytes it holds in
-- all, and how often it failed
pub record Tank : Type 0 where
  pub written : List ℕ
  pub piece : ℕ
  pub room : ℕ
  pub faults : ℕ

-- a source that fails at listed calls
pub record FailingSupply : Type 0 where
  pub left : List ℕ
  pub piece : ℕ
  pub schedule : Schedule

-- a sink that fails at listed calls
pub record FailingTank : Type 0 where
  pub written : List ℕ
  pub piece : ℕ
  pub schedule : Schedule

-- the count of failures after one call more, which failed or didn't
abbrev pub counted_faults : ℕ → Bool → ℕ
counted_faults faults failed = if failed then raised faults else faults

-- after one call more, which failed or didn't
abbrev pub counted : Schedule → Bool → Schedule
counted schedule failed = record schedule { calls = raised schedule.calls; faults = counted_faults schedule.faults failed }
