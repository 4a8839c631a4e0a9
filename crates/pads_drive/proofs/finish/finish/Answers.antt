use Rattle.std.proofs.Common.{[], true, refl}
use Rattle.pads_io.proofs.Calls.{many-trans, wrote-all}
use Rattle.pads_frame.specs.State.{MayCome}
use Rattle.pads_drive.proofs.Progress.{progresses-trans, stops-after, stops-when}
use Rattle.pads_drive.proofs.Halting.{halts-after, halts-when}
use Rattle.pads_drive.proofs.Waiting.{same_end}
use Rattle.pads_drive.proofs.finish.finish.Goals as goal

pub returns-clause-ok : goal.returns-clause-ok
returns-clause-ok g c = progresses-trans _ _ _ _ _ _ _ _ _ _ [] [] c.in_default.ensures.ok c.in_default-flush.ensures.ok

pub returns-in-Err-flush-clause-halts : goal.returns-in-Err-flush-clause-halts
returns-in-Err-flush-clause-halts g c =
    let start = c.args.reading.now.framer in
    let last = c.pump.new.reading.framer in
    halts-after _ _ _ _ _ _ _ _ _ [] [] (MayCome start) (same_end start last c.in_default.ensures.ended) c.in_default.ensures.ok c.in_default.ensures.met
    (halts-when _ _ _ _ _ _ [] (MayCome last) (MayCome start) (same_end start last c.in_default.ensures.ended) c.in-Err-flush.ensures.halts)

pub returns-in-Err-flush-clause-err : goal.returns-in-Err-flush-clause-err
returns-in-Err-flush-clause-err g c =
    let start = c.args.reading.now.framer in
    let last = c.pump.new.reading.framer in
    stops-after _ _ _ _ _ _ _ _ _ [] [] (MayCome start) _ (same_end start last c.in_default.ensures.ended) c.in_default.ensures.ok
    (stops-when _ _ _ _ _ _ [] (MayCome last) (MayCome start) _ (same_end start last c.in_default.ensures.ended) c.in-Err-flush.ensures.err)

pub returns-clause-calls : goal.returns-clause-calls
returns-clause-calls g c = (true, many-trans (wrote-all g.K.Sink.writes g.E.Sink.writes c.in_default.ensures.calls) (wrote-all g.K.Sink.writes g.E.Sink.writes c.in_default-flush.ensures.calls), refl)

pub returns-in-Err-flush-clause-calls : goal.returns-in-Err-flush-clause-calls
returns-in-Err-flush-clause-calls g c =
    let wrote = c.in-Err-flush.ensures.calls in (wrote.0, many-trans (wrote-all g.K.Sink.writes g.E.Sink.writes c.in_default.ensures.calls) wrote.1, tt)
