use denote.Param.Send.{sendable}
use Rattle.std.proofs.Common.{refl}
use Rattle.pads_io.proofs.Calls.{without-notes}
use Rattle.pads_module.specs.Modules.{contents}
use Rattle.pads_tool.specs.Describing.{described}
use Rattle.pads_tool.specs.Querying.{answers}
use Rattle.pads_tool.proofs.Records.{records-give, quiet-give, out-kept, source-kept}
use Rattle.pads_tool.proofs.Crossing.{machine_send, answers_sync}
use Rattle.pads_tool.proofs.query.write_answers.Goals as goal

pub returns : goal.returns
returns g c = record {
  gives = λ noted notes. rw c.ending_of.ensures.ending
      (quiet-give (λ d. answers d.made c.args.command.now.asked) (described (contents c.args.command.now.reader.module) c.args.settings.now.cutting) (λ row. refl) (g.S.Source.left c.args.source.now) (g.S.Source.left c.drive.new.source)
      (g.K.Sink.written c.args.out.now) (g.K.Sink.written c.drive.new.out) _ _ noted (g.S.Source.faults c.args.source.now)
      (g.S.Source.faults c.drive.new.source) (g.K.Sink.faults c.args.out.now) (g.K.Sink.faults c.drive.new.out) _ _ c.drive.result c.drive.ensures.cause
      (records-give (λ d. answers d.made c.args.command.now.asked) (described (contents c.args.command.now.reader.module) c.args.settings.now.cutting) (g.S.Source.left c.args.source.now) (g.S.Source.left c.drive.new.source)
      (g.K.Sink.written c.args.out.now) (g.K.Sink.written c.drive.new.out) _ _ (g.S.Source.faults c.args.source.now)
      (g.S.Source.faults c.drive.new.source) (g.K.Sink.faults c.args.out.now) (g.K.Sink.faults c.drive.new.out) _ _
      c.drive.result c.drive.ensures.gives c.drive.ensures.ahead c.drive.ensures.read_fault c.drive.ensures.cause) notes);
  calls = let d = c.drive.ensures.calls in without-notes g.S.Source.reads g.K.Sink.writes _ _ _ _ _ _ _ d.0 d.1 d.2;
  out_kept = rw c.ending_of.ensures.ending
      (out-kept (g.K.Sink.faults c.args.out.now) (g.K.Sink.faults c.drive.new.out) _ _ _ c.drive.result c.drive.ensures.cause);
  source_kept = rw c.ending_of.ensures.ending
      (source-kept (g.S.Source.faults c.args.source.now) (g.S.Source.faults c.drive.new.source) c.drive.result c.drive.ensures.kept);
}

pub drive-requires-send-C-Reader : goal.drive-requires-send-C-Reader
drive-requires-send-C-Reader g c κs within = search (machine_send, sendable) depth 60 fits 20000

pub drive-requires-sync-C : goal.drive-requires-sync-C
drive-requires-sync-C g c κs within = search (answers_sync, sendable) depth 60 fits 20000
