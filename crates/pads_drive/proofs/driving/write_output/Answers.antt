use Rattle.std.proofs.Common.{true, false, refl}
use Rattle.pads_io.specs.Calls.{never}
use Rattle.pads_io.proofs.Calls.{many-trans, out-writes, notes-writes}
use Rattle.pads_drive.proofs.Growing.{Appends-prefix}
use Rattle.pads_drive.proofs.driving.write_output.Goals as goal

pub returns-in_default-write_all-clause-err : goal.returns-in_default-write_all-clause-err
returns-in_default-write_all-clause-err g c = record {
  out_grows = Appends-prefix _ _ _ (rw c.as_slice.ensures.items at c.in-Ok.ensures.ok);
  notes_grow = rw c.as_slice-2.ensures.items at c.in_default-write_all.ensures.err;
}

pub returns-in_default-clause-calls : goal.returns-in_default-clause-calls
returns-in_default-clause-calls g c = (false, out-writes never g.K.Sink.writes g.E.Sink.writes false (tt {0}) c.args.notes.now c.in_default.ensures.calls, tt)

pub returns-then-is_empty-clause-calls : goal.returns-then-is_empty-clause-calls
returns-then-is_empty-clause-calls g c = (true, out-writes never g.K.Sink.writes g.E.Sink.writes false (tt {0}) c.args.notes.now c.in-Ok.ensures.calls, refl)

pub returns-in_default-write_all-clause-calls : goal.returns-in_default-write_all-clause-calls
returns-in_default-write_all-clause-calls g c = (
  false,
  many-trans (out-writes never g.K.Sink.writes g.E.Sink.writes false (tt {0}) c.args.notes.now c.in-Ok.ensures.calls)
      (notes-writes never g.K.Sink.writes g.E.Sink.writes false (tt {0}) c.write_all.new.sink c.in_default-write_all.ensures.calls),
  tt,
)

pub returns-clause-calls : goal.returns-clause-calls
returns-clause-calls g c = (
  true,
  many-trans (out-writes never g.K.Sink.writes g.E.Sink.writes false (tt {0}) c.args.notes.now c.in-Ok.ensures.calls)
      (notes-writes never g.K.Sink.writes g.E.Sink.writes false (tt {0}) c.write_all.new.sink c.in-Ok-write_all.ensures.calls),
  refl,
)
