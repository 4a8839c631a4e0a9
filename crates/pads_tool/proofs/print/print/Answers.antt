use Rattle.std.proofs.Common.{refl, true}
use Rattle.pads_io.specs.Calls.{stays}
use Rattle.pads_module.specs.Modules.{contents}
use Rattle.pads_tool.specs.Describing.{described}
use Rattle.pads_tool.specs.Masking.{describing}
use Rattle.pads_tool.specs.Printing.{prints}
use Rattle.pads_tool.specs.Promises.{counts, seen}
use Rattle.pads_tool.proofs.Promises.{each-kept, printed, printing-stopped, reading-read}
use Rattle.pads_tool.proofs.Unread.{reading-reaches}
use Rattle.pads_tool.proofs.print.print.Goals as goal

pub returns-in-Ok : goal.returns-in-Ok
returns-in-Ok g c = record {
  gives = printed c.args.name.now c.args.settings.now
      (seen (g.F.Files.content c.args.files.now) (g.S.Source.left c.args.source.now) (g.S.Source.left c.print_records.new.source)
      (g.K.Sink.written c.args.out.now) (g.K.Sink.written c.print_records.new.out) (g.E.Sink.written c.args.notes.now) (g.E.Sink.written c.print_records.new.notes))
      (counts (g.F.Files.faults c.args.files.now) (g.F.Files.faults c.read_in.new.files) (g.S.Source.faults c.args.source.now) (g.S.Source.faults c.print_records.new.source)
      (g.K.Sink.faults c.args.out.now) (g.K.Sink.faults c.print_records.new.out) (g.E.Sink.faults c.args.notes.now) (g.E.Sink.faults c.print_records.new.notes))
      c.print_records.result
      (contents c.in-Ok.reader.module, (c.in-Ok.ensures.read.0, c.in-Ok.ensures.read.1.0, c.in-Ok.ensures.read.2), each-kept c.args.settings.now (contents c.in-Ok.reader.module) c.in-Ok.ensures.plain c.in-Ok.ensures.keeps_all c.requires.limits.cutting (g.S.Source.left c.args.source.now))
      (reading-read prints (g.S.Source.left c.args.source.now) (g.S.Source.left c.print_records.new.source)
      (g.K.Sink.written c.args.out.now) (g.K.Sink.written c.print_records.new.out) (g.E.Sink.written c.args.notes.now) (g.E.Sink.written c.print_records.new.notes)
      (describing c.args.settings.now.coding c.args.settings.now.scan) true c.args.name.now c.args.settings.now.cutting (g.F.Files.content c.args.files.now)
      (g.F.Files.faults c.args.files.now) (g.F.Files.faults c.read_in.new.files) (g.S.Source.faults c.args.source.now) (g.S.Source.faults c.print_records.new.source)
      (g.K.Sink.faults c.args.out.now) (g.K.Sink.faults c.print_records.new.out) (g.E.Sink.faults c.args.notes.now) (g.E.Sink.faults c.print_records.new.notes)
      (contents c.in-Ok.reader.module) c.print_records.result c.in-Ok.ensures.read c.print_records.ensures.gives);
  untouched = λ before. absurd (reading-reaches prints true (described (contents c.in-Ok.reader.module) c.args.settings.now.cutting)
      (g.S.Source.left c.args.source.now) (g.S.Source.left c.print_records.new.source)
      (g.K.Sink.written c.args.out.now) (g.K.Sink.written c.print_records.new.out) (g.E.Sink.written c.args.notes.now) (g.E.Sink.written c.print_records.new.notes)
      (g.S.Source.faults c.args.source.now) (g.S.Source.faults c.print_records.new.source) (g.K.Sink.faults c.args.out.now) (g.K.Sink.faults c.print_records.new.out)
      (g.E.Sink.faults c.args.notes.now) (g.E.Sink.faults c.print_records.new.notes)
      c.print_records.result c.print_records.ensures.gives before);
  quiet = λ before. absurd (reading-reaches prints true (described (contents c.in-Ok.reader.module) c.args.settings.now.cutting)
      (g.S.Source.left c.args.source.now) (g.S.Source.left c.print_records.new.source)
      (g.K.Sink.written c.args.out.now) (g.K.Sink.written c.print_records.new.out) (g.E.Sink.written c.args.notes.now) (g.E.Sink.written c.print_records.new.notes)
      (g.S.Source.faults c.args.source.now) (g.S.Source.faults c.print_records.new.source) (g.K.Sink.faults c.args.out.now) (g.K.Sink.faults c.print_records.new.out)
      (g.E.Sink.faults c.args.notes.now) (g.E.Sink.faults c.print_records.new.notes)
      c.print_records.result c.print_records.ensures.gives before);
  reads = c.in-Ok.ensures.reads;
  calls = c.print_records.ensures.calls;
  files_kept = λ other. c.in-Ok.ensures.kept;
  out_kept = c.print_records.ensures.out_kept;
  notes_kept = c.print_records.ensures.notes_kept;
  source_kept = c.print_records.ensures.source_kept;
}

pub returns-in-Err : goal.returns-in-Err
returns-in-Err g c = record {
  gives = printing-stopped c.args.name.now c.args.settings.now (g.F.Files.content c.args.files.now)
      (g.S.Source.left c.args.source.now) (g.K.Sink.written c.args.out.now) (g.E.Sink.written c.args.notes.now)
      (counts (g.F.Files.faults c.args.files.now) (g.F.Files.faults c.read_in.new.files) (g.S.Source.faults c.args.source.now) (g.S.Source.faults c.args.source.now)
      (g.K.Sink.faults c.args.out.now) (g.K.Sink.faults c.args.out.now) (g.E.Sink.faults c.args.notes.now) (g.E.Sink.faults c.args.notes.now)) c.in-Err.ending c.in-Err.ensures.stops;
  untouched = λ before. refl;
  quiet = λ before. refl;
  reads = c.in-Err.ensures.reads;
  calls = (true, true, stays);
  files_kept = c.in-Err.ensures.untold;
  out_kept = λ other. refl;
  notes_kept = λ other. refl;
  source_kept = λ reads writes wants. refl;
}
