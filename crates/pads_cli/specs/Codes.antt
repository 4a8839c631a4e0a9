-- The exit status of the process: that of the run, or 7 where there was no memory to begin one.
use Rattle.std.specs.Prelude.{ℕ, Result, Ok, Err}
use Rattle.pads_value.specs.declared.memory.Memory.{Memory}
use Rattle.pads_tool.specs.declared.status.Status.{Status}
use Rattle.pads_tool.specs.Endings.{exit_status}

abbrev pub code_of : Result Status Memory → ℕ
code_of (Ok status) = exit_status status
code_of (Err memory) = 7
