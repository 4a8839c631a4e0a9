use denote.Param.Send.{sendable}
use Rattle.pads_module.specs.Modules.{contents}
use Rattle.pads_tool.specs.Describing.{described}
use Rattle.pads_tool.specs.Printing.{prints}
use Rattle.pads_tool.proofs.Records.{records-give, notes-kept, out-kept, source-kept}
use Rattle.pads_tool.proofs.Crossing.{machine_send, prints_sync}
use Rattle.pads_tool.proofs.print.print_records.Goals as goal

pub returns : goal.returns
returns g c = record {
  gives = rw c.ending_of.ensures.ending
      (records-give prints (described (contents c.args.command.now.reader.module) c.args.command.now.cutting) (g.S.Source.left c.args.source.now) (g.S.Source.left c.drive.new.source)
      (g.K.Sink.written c.args.out.now) (g.K.Sink.written c.drive.new.out) (g.E.Sink.written c.args.notes.now) (g.E.Sink.written c.drive.new.notes)
      (g.S.Source.faults c.args.source.now) (g.S.Source.faults c.drive.new.source) (g.K.Sink.faults c.args.out.now) (g.K.Sink.faults c.drive.new.out)
      (g.E.Sink.faults c.args.notes.now) (g.E.Sink.faults c.drive.new.notes)
      c.drive.result c.drive.ensures.gives c.drive.ensures.ahead c.drive.ensures.read_fault c.drive.ensures.cause);
  calls = let d = c.drive.ensures.calls in (d.0, d.1, d.2);
  out_kept = rw c.ending_of.ensures.ending
      (out-kept (g.K.Sink.faults c.args.out.now) (g.K.Sink.faults c.drive.new.out) _ _ _ c.drive.result c.drive.ensures.cause);
  notes_kept = rw c.ending_of.ensures.ending
      (notes-kept _ _ (g.E.Sink.faults c.args.notes.now) (g.E.Sink.faults c.drive.new.notes) _ c.drive.result c.drive.ensures.cause);
  source_kept = rw c.ending_of.ensures.ending
      (source-kept (g.S.Source.faults c.args.source.now) (g.S.Source.faults c.drive.new.source) c.drive.result c.drive.ensures.kept);
}

pub drive-requires-send-C-Reader : goal.drive-requires-send-C-Reader
drive-requires-send-C-Reader g c κs within = search (machine_send, sendable) depth 60 fits 20000

pub drive-requires-sync-C : goal.drive-requires-sync-C
drive-requires-sync-C g c κs within = search (prints_sync, sendable) depth 60 fits 20000
