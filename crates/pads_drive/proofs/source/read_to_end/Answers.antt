use Rattle.std.proofs.Common.{◌≡◌, ℕ, Bool, true, List, [], ◌∙◌, sym, refl, ap, arith}
use Rattle.std.proofs.lemmas.Bool.{true≢false}
use Rattle.pads_io.specs.Calls.{gave_some, stays}
use Rattle.pads_io.proofs.Calls.{one-read, some-read, then-writes, wrote-all}
use Rattle.pads_frame.specs.State.{MayCome, State, reach, rest}
use Rattle.pads_drive.specs.Ends.{Anything}
use Rattle.pads_drive.proofs.Blame.{none-counted}
use Rattle.pads_drive.proofs.Halting.{caught-none, caught-took, caught-kept, halts-read, halts-when}
use Rattle.pads_drive.proofs.ReadSteps.{reads-none, reads-pumped, reads-more, reads-kept, reads-stopped}
use Rattle.pads_drive.proofs.source.read_to_end.Goals as goal

pub reads-init : goal.reads-init
reads-init g c = record {
  reads = reads-none _ _ _ _ _;
  calls = stays;
  within = c.requires.within;
  open_still = c.requires.open;
  source_kept = refl;
  out_kept = refl;
  notes_kept = refl;
  filled = c.requires.filled;
  caught = caught-none _ _ c.requires.fresh;
}

pub returns-in-Err-clause-err : goal.returns-in-Err-clause-err
returns-in-Err-clause-err g c =
    reads-stopped _ _ _ _ _ _ _ _ _ _ _ _ _ (λ ended more e. absurd (true≢false (sym e ∙ c.reads.invariant.open_still))) c.reads.invariant.open_still c.reads.invariant.reads c.in-Err.ensures.err

pub returns-in-Err-clause-halts : goal.returns-in-Err-clause-halts
returns-in-Err-clause-halts g c =
    let never = λ (ended : Bool) (more : List ℕ) (any : Unit {0}) (over : c.reads.reading.framer.ended ≡ true). absurd (true≢false (sym over ∙ c.reads.invariant.open_still)) in
    halts-read _ _ _ _ _ _ _ _ _ _ _ [] Anything never c.reads.invariant.reads c.reads.invariant.caught
    (halts-when _ _ _ _ _ _ [] (MayCome c.reads.reading.framer) Anything never c.in-Err.ensures.halts)

pub returns-in-End-clause-caught : goal.returns-in-End-clause-caught
returns-in-End-clause-caught g c =
    let pumped = reads-pumped _ _ _ _ _ _ _ _ _ _ _ _ c.reads.invariant.reads c.in_default.ensures.ok in
    caught-kept _ _ _ _ _ _ _ _ _ _ _ pumped (c.in_default.ensures.ended ∙ c.reads.invariant.open_still) c.in_default.ensures.waiting c.in-End.ensures.gives.0 refl

pub returns-in-ReadFault-clause-caught : goal.returns-in-ReadFault-clause-caught
returns-in-ReadFault-clause-caught g c =
    let pumped = reads-pumped _ _ _ _ _ _ _ _ _ _ _ _ c.reads.invariant.reads c.in_default.ensures.ok in
    caught-kept _ _ _ _ _ _ _ _ _ _ _ pumped (c.in_default.ensures.ended ∙ c.reads.invariant.open_still) c.in_default.ensures.waiting c.in-ReadFault.ensures.gives.0 refl

pub returns-in-TooLong-clause-caught : goal.returns-in-TooLong-clause-caught
returns-in-TooLong-clause-caught g c =
    let pumped = reads-pumped _ _ _ _ _ _ _ _ _ _ _ _ c.reads.invariant.reads c.in_default.ensures.ok in
    caught-took _ _ _ _ _ _ _ _ _ _ _ _ _ pumped (c.in_default.ensures.ended ∙ c.reads.invariant.open_still) c.in_default.ensures.waiting c.in-TooLong.ensures.gives.2 refl

pub reads-preserved : goal.reads-preserved
reads-preserved g c =
    let pumped = reads-pumped _ _ _ _ _ _ _ _ _ _ _ _ c.reads.invariant.reads c.in_default.ensures.ok in
    let still = c.in_default.ensures.ended ∙ c.reads.invariant.open_still in
    let took = c.in-More.ensures.gives.1 in
    record {
      reads = reads-more _ _ _ _ _ _ _ _ _ _ _ _ [] pumped refl refl refl still took;
      calls = some-read g.S.Source.reads g.K.Sink.writes g.E.Sink.writes c.reads.source c.refill.new.source c.pump.new.out c.pump.new.notes c.in-More.ensures.call.0
          (then-writes g.S.Source.reads g.K.Sink.writes g.E.Sink.writes true true c.reads.source c.reads.out c.pump.new.out c.reads.notes c.pump.new.notes c.reads.invariant.calls refl (wrote-all g.K.Sink.writes g.E.Sink.writes c.in_default.ensures.calls))
          c.in-More.ensures.call.1 (c.in-More.ensures.call.2 refl);
      within = took.within;
      open_still = took.input.ended ∙ still;
      source_kept = c.in-More.ensures.kept (λ e. cc) ∙ c.reads.invariant.source_kept;
      out_kept = (none-counted _ _ _ _ _ _ c.in_default.ensures.cause).0 ∙ c.reads.invariant.out_kept;
      notes_kept = (none-counted _ _ _ _ _ _ c.in_default.ensures.cause).1 ∙ c.reads.invariant.notes_kept;
      filled = c.in_default.ensures.filled;
      caught = caught-took _ _ _ _ _ _ _ _ _ _ _ _ [] pumped still c.in_default.ensures.waiting took refl;
    }

pub returns-in-End-clause-ok : goal.returns-in-End-clause-ok
returns-in-End-clause-ok g c =
    let pumped = reads-pumped _ _ _ _ _ _ _ _ _ _ _ _ c.reads.invariant.reads c.in_default.ensures.ok in
    let still = c.in_default.ensures.ended ∙ c.reads.invariant.open_still in
    let gives = c.in-End.ensures.gives in (
      reads-kept _ _ _ _ _ _ _ _ _ _ _ pumped gives.0 refl refl refl still (λ ended more. ap (λ (s : State). rest ended s more) gives.2) (ap reach gives.2) (ap (λ (s : State). s.first) gives.2),
      gives.1,
      ap (λ (s : State). s.ended) gives.2,
    )

pub returns-in-ReadFault-clause-ok : goal.returns-in-ReadFault-clause-ok
returns-in-ReadFault-clause-ok g c =
    let pumped = reads-pumped _ _ _ _ _ _ _ _ _ _ _ _ c.reads.invariant.reads c.in_default.ensures.ok in
    let still = c.in_default.ensures.ended ∙ c.reads.invariant.open_still in
    let gives = c.in-ReadFault.ensures.gives in
    let rose = gives.1 in (
      reads-kept _ _ _ _ _ _ _ _ _ _ _ pumped gives.0 refl refl refl still (λ ended more. ap (λ (s : State). rest ended s more) gives.2) (ap reach gives.2) (ap (λ (s : State). s.first) gives.2),
      omega (arith, c.reads.invariant.source_kept, rose),
      ap (λ (s : State). s.ended) gives.2 ∙ still,
    )

pub returns-in-TooLong-clause-ok : goal.returns-in-TooLong-clause-ok
returns-in-TooLong-clause-ok g c =
    let pumped = reads-pumped _ _ _ _ _ _ _ _ _ _ _ _ c.reads.invariant.reads c.in_default.ensures.ok in
    let still = c.in_default.ensures.ended ∙ c.reads.invariant.open_still in
    let gives = c.in-TooLong.ensures.gives in
    (gives.1, reads-more _ _ _ _ _ _ _ _ _ _ _ _ _ pumped refl refl refl still gives.2, gives.3, gives.4, gives.2.input.ended ∙ still)

pub returns-in-Err-clause-calls : goal.returns-in-Err-clause-calls
returns-in-Err-clause-calls g c =
    let wrote = c.in-Err.ensures.calls in
    (true, wrote.0, then-writes g.S.Source.reads g.K.Sink.writes g.E.Sink.writes true true c.reads.source c.reads.out c.pump.new.out c.reads.notes c.pump.new.notes c.reads.invariant.calls refl wrote.1, tt)

pub returns-in-End-clause-calls : goal.returns-in-End-clause-calls
returns-in-End-clause-calls g c =
    let read = c.in-End.ensures.call in (
      gave_some read.0,
      true,
      one-read g.S.Source.reads g.K.Sink.writes g.E.Sink.writes c.reads.source c.refill.new.source c.pump.new.out c.pump.new.notes read.0
          (then-writes g.S.Source.reads g.K.Sink.writes g.E.Sink.writes true true c.reads.source c.reads.out c.pump.new.out c.reads.notes c.pump.new.notes c.reads.invariant.calls refl (wrote-all g.K.Sink.writes g.E.Sink.writes c.in_default.ensures.calls))
          read.1,
      refl,
    )

pub returns-in-ReadFault-clause-calls : goal.returns-in-ReadFault-clause-calls
returns-in-ReadFault-clause-calls g c =
    let read = c.in-ReadFault.ensures.call in (
      gave_some read.0,
      true,
      one-read g.S.Source.reads g.K.Sink.writes g.E.Sink.writes c.reads.source c.refill.new.source c.pump.new.out c.pump.new.notes read.0
          (then-writes g.S.Source.reads g.K.Sink.writes g.E.Sink.writes true true c.reads.source c.reads.out c.pump.new.out c.reads.notes c.pump.new.notes c.reads.invariant.calls refl (wrote-all g.K.Sink.writes g.E.Sink.writes c.in_default.ensures.calls))
          read.1,
      refl,
    )

pub returns-in-TooLong-clause-calls : goal.returns-in-TooLong-clause-calls
returns-in-TooLong-clause-calls g c =
    let read = c.in-TooLong.ensures.call in (
      gave_some read.0,
      true,
      one-read g.S.Source.reads g.K.Sink.writes g.E.Sink.writes c.reads.source c.refill.new.source c.pump.new.out c.pump.new.notes read.0
          (then-writes g.S.Source.reads g.K.Sink.writes g.E.Sink.writes true true c.reads.source c.reads.out c.pump.new.out c.reads.notes c.pump.new.notes c.reads.invariant.calls refl (wrote-all g.K.Sink.writes g.E.Sink.writes c.in_default.ensures.calls))
          read.1,
      refl,
    )
