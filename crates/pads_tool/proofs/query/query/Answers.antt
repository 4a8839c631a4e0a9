use Rattle.std.proofs.Common.{refl, true, false, None}
use Rattle.pads_io.specs.Calls.{stays}
use Rattle.pads_module.specs.Modules.{contents}
use Rattle.pads_tool.specs.Describing.{described}
use Rattle.pads_tool.specs.Promises.{counts, seen}
use Rattle.pads_tool.specs.Querying.{answers, asking}
use Rattle.pads_tool.proofs.Promises.{reading-read}
use Rattle.pads_tool.proofs.Queries.{query-read, query-stopped}
use Rattle.pads_tool.proofs.Unread.{reading-reaches}
use Rattle.pads_tool.proofs.query.query.Goals as goal

pub returns-in-Ok : goal.returns-in-Ok
returns-in-Ok g c =
    let asked = c.in-Ok.answers.asked in
    record {
      gives = λ noted notes. query-read c.args.question.now c.args.settings.now c.args.mask.now
          (seen (g.F.Files.content c.args.files.now) (g.S.Source.left c.args.source.now) (g.S.Source.left c.write_answers.new.source)
          (g.K.Sink.written c.args.out.now) (g.K.Sink.written c.write_answers.new.out) noted noted)
          (counts (g.F.Files.faults c.args.files.now) (g.F.Files.faults c.asked_in.new.files) (g.S.Source.faults c.args.source.now) (g.S.Source.faults c.write_answers.new.source)
          (g.K.Sink.faults c.args.out.now) (g.K.Sink.faults c.write_answers.new.out) notes notes)
          asked c.write_answers.result
          (reading-read (λ d. answers d.made asked) (g.S.Source.left c.args.source.now) (g.S.Source.left c.write_answers.new.source)
          (g.K.Sink.written c.args.out.now) (g.K.Sink.written c.write_answers.new.out) noted noted
          (asking c.args.settings.now.coding c.args.mask.now c.args.settings.now.scan c.args.question.now asked) false c.args.question.now.description c.args.settings.now.cutting (g.F.Files.content c.args.files.now)
          (g.F.Files.faults c.args.files.now) (g.F.Files.faults c.asked_in.new.files) (g.S.Source.faults c.args.source.now)
          (g.S.Source.faults c.write_answers.new.source) (g.K.Sink.faults c.args.out.now) (g.K.Sink.faults c.write_answers.new.out) notes notes
          (contents c.in-Ok.answers.reader.module) c.write_answers.result c.in-Ok.ensures.asked (c.write_answers.ensures.gives noted notes));
      untouched = λ before. absurd (reading-reaches (λ d. answers d.made asked) false (described (contents c.in-Ok.answers.reader.module) c.args.settings.now.cutting)
          (g.S.Source.left c.args.source.now) (g.S.Source.left c.write_answers.new.source)
          (g.K.Sink.written c.args.out.now) (g.K.Sink.written c.write_answers.new.out) None None
          (g.S.Source.faults c.args.source.now) (g.S.Source.faults c.write_answers.new.source)
          (g.K.Sink.faults c.args.out.now) (g.K.Sink.faults c.write_answers.new.out) 0 0
          c.write_answers.result (c.write_answers.ensures.gives None 0) before);
      reads = c.in-Ok.ensures.reads;
      calls = c.write_answers.ensures.calls;
      files_kept = λ other. c.in-Ok.ensures.kept;
      out_kept = c.write_answers.ensures.out_kept;
      source_kept = c.write_answers.ensures.source_kept;
    }

pub returns-in-Err : goal.returns-in-Err
returns-in-Err g c = record {
  gives = λ noted notes. query-stopped c.args.question.now c.args.settings.now c.args.mask.now
      (seen (g.F.Files.content c.args.files.now) (g.S.Source.left c.args.source.now) (g.S.Source.left c.args.source.now)
      (g.K.Sink.written c.args.out.now) (g.K.Sink.written c.args.out.now) noted noted)
      (counts (g.F.Files.faults c.args.files.now) (g.F.Files.faults c.asked_in.new.files) (g.S.Source.faults c.args.source.now) (g.S.Source.faults c.args.source.now)
      (g.K.Sink.faults c.args.out.now) (g.K.Sink.faults c.args.out.now) notes notes)
      c.in-Err.ending refl refl refl c.in-Err.ensures.stops;
  untouched = λ before. refl;
  reads = c.in-Err.ensures.reads;
  calls = (true, true, stays);
  files_kept = c.in-Err.ensures.untold;
  out_kept = λ other. refl;
  source_kept = λ reads writes wants. refl;
}
