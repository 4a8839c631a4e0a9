use Rattle.std.proofs.Common.{◌∙◌, [], true, refl, ap, arith}
use Rattle.pads_io.specs.Calls.{stays}
use Rattle.pads_io.proofs.Calls.{many-trans, wrote-all}
use Rattle.pads_frame.specs.State.{State, MayCome}
use Rattle.pads_drive.proofs.Progress.{progresses-same, progresses-collected, progresses-trans, stops-unwritten, stops-after, stops-when}
use Rattle.pads_drive.proofs.Blame.{none-counted}
use Rattle.pads_drive.proofs.Halting.{halts-after, halts-idle, halts-when}
use Rattle.pads_drive.proofs.Waiting.{same_end}
use Rattle.pads_drive.proofs.pump.pump.Goals as goal

pub batches-init : goal.batches-init
batches-init g c = record { progress = progresses-same _ _ _ _; calls = stays; ended = refl; out_kept = refl; notes_kept = refl; kept = omega arith; filled = c.requires.filled }

pub returns-in-Err-clause-err : goal.returns-in-Err-clause-err
returns-in-Err-clause-err g c =
    let ended = c.batches.invariant.ended in
    let start = c.args.reading.now.framer in
    let last = c.batches.reading.framer in
    stops-after _ _ _ _ _ _ _ _ _ [] [] (MayCome start) _ (same_end start last ended) c.batches.invariant.progress
    (stops-when _ _ _ _ _ _ [] (MayCome last) (MayCome start) _ (same_end start last ended) (stops-unwritten _ _ _ _))

pub returns-in-Err-flush-clause-err : goal.returns-in-Err-flush-clause-err
returns-in-Err-flush-clause-err g c =
    let collected = progresses-collected _ _ _ _ _ refl refl c.in-Ok-true.ensures.collects in
    let ended = c.in-Ok-true.ensures.collects.input.ended ∙ c.batches.invariant.ended in
    let start = c.args.reading.now.framer in
    let last = c.collect.new.framer in
    stops-after _ _ _ _ _ _ _ _ _ [] [] (MayCome start) _ (same_end start last ended)
    (progresses-trans _ _ _ _ _ _ _ _ _ _ [] [] c.batches.invariant.progress collected)
    (stops-when _ _ _ _ _ _ [] (MayCome last) (MayCome start) _ (same_end start last ended) c.in-Err-flush.ensures.err)

pub returns-in-Err-flush-clause-halts : goal.returns-in-Err-flush-clause-halts
returns-in-Err-flush-clause-halts g c =
    let collected = progresses-collected _ _ _ _ _ refl refl c.in-Ok-true.ensures.collects in
    let ended = c.in-Ok-true.ensures.collects.input.ended ∙ c.batches.invariant.ended in
    let start = c.args.reading.now.framer in
    let last = c.collect.new.framer in
    halts-after _ _ _ _ _ _ _ _ _ [] [] (MayCome start) (same_end start last ended)
    (progresses-trans _ _ _ _ _ _ _ _ _ _ [] [] c.batches.invariant.progress collected)
    (omega (arith, c.batches.invariant.kept, c.in-Ok-true.ensures.collects.kept))
    (halts-when _ _ _ _ _ _ [] (MayCome last) (MayCome start) (same_end start last ended) c.in-Err-flush.ensures.halts)

pub returns-in-Err-clause-halts : goal.returns-in-Err-clause-halts
returns-in-Err-clause-halts g c =
    let ended = c.batches.invariant.ended in
    let start = c.args.reading.now.framer in
    let last = c.batches.reading.framer in
    halts-after _ _ _ _ _ _ _ _ _ [] [] (MayCome start) (same_end start last ended) c.batches.invariant.progress c.batches.invariant.kept
    (halts-when _ _ _ _ _ _ [] (MayCome last) (MayCome start) (same_end start last ended) (halts-idle _ _ _ _ c.batches.invariant.filled.batch))

pub batches-preserved : goal.batches-preserved
batches-preserved g c =
    let collected = progresses-collected _ _ _ _ _ refl refl c.in-Ok-true.ensures.collects in
    record {
      progress = progresses-trans _ _ _ _ _ _ _ _ _ _ [] [] (progresses-trans _ _ _ _ _ _ _ _ _ _ [] [] c.batches.invariant.progress collected) c.in_default.ensures.ok;
      calls = many-trans c.batches.invariant.calls (wrote-all g.K.Sink.writes g.E.Sink.writes c.in_default.ensures.calls);
      ended = ap (λ (s : State). s.ended) c.in_default.ensures.framer ∙ c.in-Ok-true.ensures.collects.input.ended ∙ c.batches.invariant.ended;
      out_kept = (none-counted _ _ _ _ _ _ c.in_default.ensures.cause).0 ∙ c.batches.invariant.out_kept;
      notes_kept = (none-counted _ _ _ _ _ _ c.in_default.ensures.cause).1 ∙ c.batches.invariant.notes_kept;
      kept = omega (arith, c.batches.invariant.kept, c.in-Ok-true.ensures.collects.kept, c.in_default.ensures.met);
      filled = c.in_default.ensures.filled;
    }

pub returns-in-Err-clause-calls : goal.returns-in-Err-clause-calls
returns-in-Err-clause-calls g c = (true, c.batches.invariant.calls, tt)

pub returns-in-Ok-false-clause-calls : goal.returns-in-Ok-false-clause-calls
returns-in-Ok-false-clause-calls g c = (true, c.batches.invariant.calls, refl)

pub returns-in-Err-flush-clause-calls : goal.returns-in-Err-flush-clause-calls
returns-in-Err-flush-clause-calls g c =
    let wrote = c.in-Err-flush.ensures.calls in (wrote.0, many-trans c.batches.invariant.calls wrote.1, tt)
