use Rattle.std.proofs.Common.{refl, true}
use Rattle.pads_io.specs.Calls.{never, stays}
use Rattle.pads_io.proofs.Calls.{many-trans, out-writes, with-sink}
use Rattle.pads_module.specs.Modules.{contents}
use Rattle.pads_tool.proofs.Summaries.{summary-ended, summary-none, summary-stopped, summary-told}
use Rattle.pads_tool.proofs.Unread.{telling-reaches}
use Rattle.pads_tool.specs.Promises.{counts, seen}
use Rattle.pads_tool.proofs.summary.summary.Goals as goal

pub returns-in-Err-clause-gives : goal.returns-in-Err-clause-gives
returns-in-Err-clause-gives g c = λ noted noted' notes notes'.
    summary-stopped c.args.name.now c.args.settings.now c.args.mask.now
    (seen (g.F.Files.content c.args.files.now) (g.S.Source.left c.args.source.now) (g.S.Source.left c.args.source.now) (g.K.Sink.written c.args.out.now) (g.K.Sink.written c.args.out.now) noted noted')
    (counts (g.F.Files.faults c.args.files.now) (g.F.Files.faults c.read_under.new.files) (g.S.Source.faults c.args.source.now) (g.S.Source.faults c.args.source.now)
    (g.K.Sink.faults c.args.out.now) (g.K.Sink.faults c.args.out.now) notes notes') c.in-Err.ending refl c.in-Err.ensures.stops

pub returns-in-Err-empty_summary-clause-gives : goal.returns-in-Err-empty_summary-clause-gives
returns-in-Err-empty_summary-clause-gives g c = λ noted noted' notes notes'.
    summary-none c.args.name.now c.args.settings.now c.args.mask.now
    (seen (g.F.Files.content c.args.files.now) (g.S.Source.left c.args.source.now) (g.S.Source.left c.args.source.now) (g.K.Sink.written c.args.out.now) (g.K.Sink.written c.args.out.now) noted noted')
    (counts (g.F.Files.faults c.args.files.now) (g.F.Files.faults c.read_under.new.files) (g.S.Source.faults c.args.source.now) (g.S.Source.faults c.args.source.now)
    (g.K.Sink.faults c.args.out.now) (g.K.Sink.faults c.args.out.now) notes notes') (contents c.in-Ok.reader.module) c.in-Ok.ensures.read c.in-Err-empty_summary.ending refl c.in-Err-empty_summary.ensures.stops

pub returns-in-Err-empty_summary-2-clause-gives : goal.returns-in-Err-empty_summary-2-clause-gives
returns-in-Err-empty_summary-2-clause-gives g c = λ noted noted' notes notes'.
    summary-none c.args.name.now c.args.settings.now c.args.mask.now
    (seen (g.F.Files.content c.args.files.now) (g.S.Source.left c.args.source.now) (g.S.Source.left c.args.source.now) (g.K.Sink.written c.args.out.now) (g.K.Sink.written c.args.out.now) noted noted')
    (counts (g.F.Files.faults c.args.files.now) (g.F.Files.faults c.read_under.new.files) (g.S.Source.faults c.args.source.now) (g.S.Source.faults c.args.source.now)
    (g.K.Sink.faults c.args.out.now) (g.K.Sink.faults c.args.out.now) notes notes') (contents c.in-Ok.reader.module) c.in-Ok.ensures.read c.in-Err-empty_summary-2.ending refl c.in-Err-empty_summary-2.ensures.stops

pub returns-clause-gives : goal.returns-clause-gives
returns-clause-gives g c = λ noted noted' notes notes'.
    summary-ended c.args.name.now c.args.settings.now c.args.mask.now
    (seen (g.F.Files.content c.args.files.now) (g.S.Source.left c.args.source.now) (g.S.Source.left c.summed.new.source) (g.K.Sink.written c.args.out.now) (g.K.Sink.written c.args.out.now) noted noted')
    (counts (g.F.Files.faults c.args.files.now) (g.F.Files.faults c.read_under.new.files) (g.S.Source.faults c.args.source.now) (g.S.Source.faults c.summed.new.source)
    (g.K.Sink.faults c.args.out.now) (g.K.Sink.faults c.args.out.now) notes notes') (contents c.in-Ok.reader.module) c.in-Ok.ensures.read c.in-Ok-empty_summary.ensures.few c.in-Err-summed.ending refl c.in-Err-summed.ensures.gives

pub returns-in-Ok-summed-clause-gives : goal.returns-in-Ok-summed-clause-gives
returns-in-Ok-summed-clause-gives g c = λ noted noted' notes notes'.
    summary-told c.args.name.now c.args.settings.now c.args.mask.now
    (seen (g.F.Files.content c.args.files.now) (g.S.Source.left c.args.source.now) (g.S.Source.left c.summed.new.source) (g.K.Sink.written c.args.out.now) (g.K.Sink.written c.tell_report.new.out) noted noted')
    (counts (g.F.Files.faults c.args.files.now) (g.F.Files.faults c.read_under.new.files) (g.S.Source.faults c.args.source.now) (g.S.Source.faults c.summed.new.source)
    (g.K.Sink.faults c.args.out.now) (g.K.Sink.faults c.tell_report.new.out) notes notes') (contents c.in-Ok.reader.module) c.in-Ok.ensures.read c.in-Ok-empty_summary.ensures.few c.in-Ok-summed.summed c.tell_report.result
    c.in-Ok-summed.ensures.gives c.tell_report.ensures.tells

pub returns-in-Ok-summed-clause-untouched : goal.returns-in-Ok-summed-clause-untouched
returns-in-Ok-summed-clause-untouched g c = λ before. absurd (telling-reaches _ _ _ _ _ _ c.tell_report.result c.tell_report.ensures.tells before)

pub returns-in-Err-clause-calls : goal.returns-in-Err-clause-calls
returns-in-Err-clause-calls g c = (true, true, stays)

pub returns-in-Err-empty_summary-clause-calls : goal.returns-in-Err-empty_summary-clause-calls
returns-in-Err-empty_summary-clause-calls g c = (true, true, stays)

pub returns-in-Err-empty_summary-2-clause-calls : goal.returns-in-Err-empty_summary-2-clause-calls
returns-in-Err-empty_summary-2-clause-calls g c = (true, true, stays)

pub returns-clause-calls : goal.returns-clause-calls
returns-clause-calls g c =
    let read = c.in-Err-summed.ensures.calls in (read.0, true, with-sink g.S.Source.reads g.K.Sink.writes c.args.out.now read.1)

pub returns-in-Ok-summed-clause-calls : goal.returns-in-Ok-summed-clause-calls
returns-in-Ok-summed-clause-calls g c =
    let read = c.in-Ok-summed.ensures.calls in
    let wrote = c.tell_report.ensures.calls in
    (read.0, wrote.0, many-trans (with-sink g.S.Source.reads g.K.Sink.writes c.args.out.now read.1) (out-writes g.S.Source.reads g.K.Sink.writes never read.0 c.summed.new.source (tt {0}) wrote.1))
