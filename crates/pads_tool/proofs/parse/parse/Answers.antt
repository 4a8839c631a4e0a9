use Rattle.std.proofs.Common.{refl, true, false, None}
use Rattle.pads_io.specs.Calls.{stays}
use Rattle.pads_module.specs.Modules.{contents}
use Rattle.pads_tool.specs.Describing.{described, lines}
use Rattle.pads_tool.specs.Masking.{masking}
use Rattle.pads_tool.specs.Promises.{counts}
use Rattle.pads_tool.proofs.Masked.{masking-excludes}
use Rattle.pads_tool.proofs.Promises.{reading-read, reading-stopped}
use Rattle.pads_tool.proofs.Unread.{reading-reaches}
use Rattle.pads_tool.proofs.parse.parse.Goals as goal

pub returns-in-Ok-new : goal.returns-in-Ok-new
returns-in-Ok-new g c = record {
  gives = λ noted notes. reading-read (λ d. lines d.made) (g.S.Source.left c.args.source.now) (g.S.Source.left c.write_lines.new.source)
      (g.K.Sink.written c.args.out.now) (g.K.Sink.written c.write_lines.new.out) noted noted (masking c.args.settings.now.coding c.args.mask.now c.args.settings.now.scan) false c.args.name.now c.args.settings.now.cutting (g.F.Files.content c.args.files.now)
      (g.F.Files.faults c.args.files.now) (g.F.Files.faults c.read_under.new.files) (g.S.Source.faults c.args.source.now)
      (g.S.Source.faults c.write_lines.new.source) (g.K.Sink.faults c.args.out.now) (g.K.Sink.faults c.write_lines.new.out) notes notes
      (contents c.in-Ok.reader.module) c.write_lines.result c.in-Ok.ensures.read (c.write_lines.ensures.gives noted notes);
  untouched = λ before. absurd (reading-reaches (λ d. lines d.made) false (described (contents c.in-Ok.reader.module) c.args.settings.now.cutting)
      (g.S.Source.left c.args.source.now) (g.S.Source.left c.write_lines.new.source)
      (g.K.Sink.written c.args.out.now) (g.K.Sink.written c.write_lines.new.out) None None
      (g.S.Source.faults c.args.source.now) (g.S.Source.faults c.write_lines.new.source)
      (g.K.Sink.faults c.args.out.now) (g.K.Sink.faults c.write_lines.new.out) 0 0
      c.write_lines.result (c.write_lines.ensures.gives None 0) before);
  reads = c.in-Ok.ensures.reads;
  calls = c.write_lines.ensures.calls;
  files_kept = λ other. c.in-Ok.ensures.kept;
  out_kept = c.write_lines.ensures.out_kept;
  source_kept = c.write_lines.ensures.source_kept;
}

pub returns-in-Err-new-clause-calls : goal.returns-in-Err-new-clause-calls
returns-in-Err-new-clause-calls g c = (true, true, stays)

pub returns-in-Err : goal.returns-in-Err
returns-in-Err g c = record {
  gives = λ noted notes. reading-stopped (masking c.args.settings.now.coding c.args.mask.now c.args.settings.now.scan) (λ d. lines d.made) false c.args.name.now c.args.settings.now.cutting (g.F.Files.content c.args.files.now)
      (g.S.Source.left c.args.source.now) (g.K.Sink.written c.args.out.now) noted
      (counts (g.F.Files.faults c.args.files.now) (g.F.Files.faults c.read_under.new.files) (g.S.Source.faults c.args.source.now) (g.S.Source.faults c.args.source.now)
      (g.K.Sink.faults c.args.out.now) (g.K.Sink.faults c.args.out.now) notes notes) c.in-Err.ending (masking-excludes c.args.settings.now.coding c.args.mask.now c.args.settings.now.scan) c.in-Err.ensures.stops;
  untouched = λ before. refl;
  reads = c.in-Err.ensures.reads;
  calls = (true, true, stays);
  files_kept = c.in-Err.ensures.untold;
  out_kept = λ other. refl;
  source_kept = λ reads writes wants. refl;
}
