use Rattle.std.proofs.Common.{◌+◌, length}
use Rattle.std.specs.Bool.{◌==◌}
use Rattle.std.specs.Option.{ForSome}
use Rattle.pads_calc.specs.declared.reading.Reading.{Reading}
use Rattle.pads_image.specs.Answers.{HaltsWith}
use Rattle.pads_steps.specs.Records.{subject_of}
use Rattle.pads_machine.specs.Held.{Held, Placed, Roomy}
use Rattle.pads_machine.specs.Known.{IsSpare, Knows}
use Rattle.pads_machine.specs.Ran.{Halting}
use Rattle.pads_machine.specs.Searched.{Remembered}
use Rattle.pads_machine.specs.Shown.{shown}
use Rattle.pads_machine.proofs.Halts.{may_ask, steps_left}
use Rattle.pads_machine.proofs.state.State.run.Given as goal

abbrev pub invariant-run : goal.invariant-run
invariant-run g l = record {
  placed : Placed (length l.program.record.bytes.now) l.self;
  counted : Halting l.program.code.now l.program.entries.now (subject_of l.program.record) l.initial.self.room g.steps (shown l.self);
  halts : (r : Reading) → HaltsWith l.program.code.now l.program.entries.now (subject_of l.program.record) l.initial.self.room (shown l.initial.self) r
      → HaltsWith l.program.code.now l.program.entries.now (subject_of l.program.record) l.initial.self.room (shown l.self) r;
  held : Held l.self;
  roomy : Roomy l.initial.self.room l.self;
  remembered : Remembered l.program.code.now l.program.record.bytes.now l.past;
  knows : Knows l.program.code.now l.program.entries.now (subject_of l.program.record) l.known;
  spare : ForSome l.spare (IsSpare l.program.code.now l.program.entries.now);
}

abbrev pub decreases-run : goal.decreases-run
decreases-run g l =
    let left = steps_left l.program.code.now l.program.entries.now (subject_of l.program.record) l.initial.self.room g.steps (shown l.self) in
    left + left + may_ask (l.quiet == 0)
