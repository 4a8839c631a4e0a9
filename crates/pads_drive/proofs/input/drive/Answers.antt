use Rattle.std.proofs.Common.{[], true, refl, ap, map}
use Rattle.pads_io.specs.Calls.{stays}
use Rattle.pads_io.proofs.Calls.{then-writes, wrote-all}
use Rattle.pads_value.specs.Cuts.{cut_of_kept}
use Rattle.pads_frame.specs.State.{reach}
use Rattle.pads_drive.proofs.Driven.{starts, driven-finished, driven-fault, driven-too-long, driven-nothing, driven-stopped, driven-finish-stopped, over-reading, over-finishing}
use Rattle.pads_drive.proofs.Halting.{ahead-finishing, ahead-nothing, ahead-reading, fresh}
use Rattle.pads_drive.proofs.input.drive.Goals as goal

pub returns-in_default-clause-gives : goal.returns-in_default-clause-gives
returns-in_default-clause-gives g c = driven-nothing _ _ _ _ _ _

pub returns-in-Err-clause-gives : goal.returns-in-Err-clause-gives
returns-in-Err-clause-gives g c =
    let laws = g.met.C.Command g.world.𝓛 g.world.𝓜 g.world.𝓡 ((λ s x. x), (λ x. x), (λ x. x), λ x. x) in
    let start = starts _ _ _ _ c.in-Ok.ensures.owes (ap (map cut_of_kept) c.new-2.ensures.frames) refl c.requires.none_counted (ap reach c.in-Ok.ensures.state) in
    driven-stopped _ _ _ _ _ _ _ _ _ _ c.in-Err.stop (laws.stays_over c.args.command.now []) start c.in-Err.ensures.err

pub read_to_end-requires-clause-fresh : goal.read_to_end-requires-clause-fresh
read_to_end-requires-clause-fresh g c κs within = fresh _ _ c.in-Ok.framer c.in-Ok.ensures.owes

pub returns-in-Err-clause-ahead : goal.returns-in-Err-clause-ahead
returns-in-Err-clause-ahead g c =
    let start = starts _ _ _ _ c.in-Ok.ensures.owes (ap (map cut_of_kept) c.new-2.ensures.frames) refl c.requires.none_counted (ap reach c.in-Ok.ensures.state) in
    ahead-reading _ _ _ c.requires.fits_limit _ _ _ _ _ _ _ start c.in-Err.ensures.halts

pub returns-in_default-clause-ahead : goal.returns-in_default-clause-ahead
returns-in_default-clause-ahead g c = ahead-nothing _ _ _ c.requires.fits_limit _ _ _

pub returns-in-Err-finish-clause-ahead : goal.returns-in-Err-finish-clause-ahead
returns-in-Err-finish-clause-ahead g c =
    let start = starts _ _ _ _ c.in-Ok.ensures.owes (ap (map cut_of_kept) c.new-2.ensures.frames) refl c.requires.none_counted (ap reach c.in-Ok.ensures.state) in
    ahead-finishing _ _ _ c.requires.fits_limit _ _ _ _ _ _ _ _ _ _ _ _ _ start c.in-Ok-read_to_end.ensures.ok c.in-Ok-read_to_end.ensures.caught c.in-Err-finish.ensures.halts

pub returns-in-Err-finish-clause-gives : goal.returns-in-Err-finish-clause-gives
returns-in-Err-finish-clause-gives g c =
    let laws = g.met.C.Command g.world.𝓛 g.world.𝓜 g.world.𝓡 ((λ s x. x), (λ x. x), (λ x. x), λ x. x) in
    let start = starts _ _ _ _ c.in-Ok.ensures.owes (ap (map cut_of_kept) c.new-2.ensures.frames) refl c.requires.none_counted (ap reach c.in-Ok.ensures.state) in
    driven-finish-stopped _ _ _ _ _ _ _ _ _ _ _ _ _ _ _ c.in-Ok-read_to_end.refill c.in-Err-finish.stop (laws.stays_over c.args.command.now []) start c.in-Ok-read_to_end.ensures.ok c.in-Err-finish.ensures.err

pub returns-in-End-clause-gives : goal.returns-in-End-clause-gives
returns-in-End-clause-gives g c =
    let start = starts _ _ _ _ c.in-Ok.ensures.owes (ap (map cut_of_kept) c.new-2.ensures.frames) refl c.requires.none_counted (ap reach c.in-Ok.ensures.state) in
    let read = rw c.in-End.is at c.in-Ok-read_to_end.ensures.ok in
    let done = c.in_default-finish.ensures in
    driven-finished _ _ _ _ _ _ _ _ _ _ _ _ _ _ start read.0 read.1 read.2 c.in-Ok-read_to_end.ensures.within done.ok (ap (map cut_of_kept) done.emptied) done.waiting done.ended

pub returns-in-ReadFault-clause-gives : goal.returns-in-ReadFault-clause-gives
returns-in-ReadFault-clause-gives g c =
    let start = starts _ _ _ _ c.in-Ok.ensures.owes (ap (map cut_of_kept) c.new-2.ensures.frames) refl c.requires.none_counted (ap reach c.in-Ok.ensures.state) in
    let read = rw c.in-ReadFault.is at c.in-Ok-read_to_end.ensures.ok in
    let done = c.in_default-finish.ensures in
    driven-fault _ _ _ _ _ _ _ _ _ _ _ _ _ _ start read.0 read.2 done.ok (ap (map cut_of_kept) done.emptied) done.waiting done.ended

pub returns-in-TooLong-clause-gives : goal.returns-in-TooLong-clause-gives
returns-in-TooLong-clause-gives g c =
    let start = starts _ _ _ _ c.in-Ok.ensures.owes (ap (map cut_of_kept) c.new-2.ensures.frames) refl c.requires.none_counted (ap reach c.in-Ok.ensures.state) in
    let read = rw c.in-TooLong.is at c.in-Ok-read_to_end.ensures.ok in
    let done = c.in_default-finish.ensures in
    driven-too-long _ _ _ _ _ _ _ _ _ _ _ _ _ _ read.0 start read.1 read.2 read.3 read.4 done.ok (ap (map cut_of_kept) done.emptied) done.waiting done.ended

pub returns-in-Err-clause-limit : goal.returns-in-Err-clause-limit
returns-in-Err-clause-limit g c =
    let start = starts _ _ _ _ c.in-Ok.ensures.owes (ap (map cut_of_kept) c.new-2.ensures.frames) refl c.requires.none_counted (ap reach c.in-Ok.ensures.state) in
    over-reading _ _ _ _ _ _ _ _ _ _ c.in-Err.stop start c.in-Err.ensures.err

pub returns-in-Err-finish-clause-limit : goal.returns-in-Err-finish-clause-limit
returns-in-Err-finish-clause-limit g c =
    let start = starts _ _ _ _ c.in-Ok.ensures.owes (ap (map cut_of_kept) c.new-2.ensures.frames) refl c.requires.none_counted (ap reach c.in-Ok.ensures.state) in
    over-finishing _ _ _ _ _ _ _ _ _ _ _ _ _ _ _ c.in-Ok-read_to_end.refill c.in-Err-finish.stop start c.in-Ok-read_to_end.ensures.ok c.in-Err-finish.ensures.err

pub returns-in_default-clause-calls : goal.returns-in_default-clause-calls
returns-in_default-clause-calls g c = (true, true, stays, tt)

pub returns-in-Err-finish-clause-calls : goal.returns-in-Err-finish-clause-calls
returns-in-Err-finish-clause-calls g c =
    let read = c.in-Ok-read_to_end.ensures.calls in
    let wrote = c.in-Err-finish.ensures.calls in (
      read.0,
      wrote.0,
      then-writes g.S.Source.reads g.K.Sink.writes g.E.Sink.writes read.0 read.1 c.read_to_end.new.source c.read_to_end.new.out c.finish.new.out c.read_to_end.new.notes c.finish.new.notes read.2 read.3 wrote.1,
      tt,
    )

pub returns-in-End-clause-calls : goal.returns-in-End-clause-calls
returns-in-End-clause-calls g c =
    let read = c.in-Ok-read_to_end.ensures.calls in (
      read.0,
      true,
      then-writes g.S.Source.reads g.K.Sink.writes g.E.Sink.writes read.0 read.1 c.read_to_end.new.source c.read_to_end.new.out c.finish.new.out c.read_to_end.new.notes c.finish.new.notes read.2 read.3
          (wrote-all g.K.Sink.writes g.E.Sink.writes c.in_default-finish.ensures.calls),
      refl,
    )

pub returns-in-ReadFault-clause-calls : goal.returns-in-ReadFault-clause-calls
returns-in-ReadFault-clause-calls g c =
    let read = c.in-Ok-read_to_end.ensures.calls in (
      read.0,
      true,
      then-writes g.S.Source.reads g.K.Sink.writes g.E.Sink.writes read.0 read.1 c.read_to_end.new.source c.read_to_end.new.out c.finish.new.out c.read_to_end.new.notes c.finish.new.notes read.2 read.3
          (wrote-all g.K.Sink.writes g.E.Sink.writes c.in_default-finish.ensures.calls),
      refl,
    )

pub returns-in-TooLong-clause-calls : goal.returns-in-TooLong-clause-calls
returns-in-TooLong-clause-calls g c =
    let read = c.in-Ok-read_to_end.ensures.calls in (
      read.0,
      true,
      then-writes g.S.Source.reads g.K.Sink.writes g.E.Sink.writes read.0 read.1 c.read_to_end.new.source c.read_to_end.new.out c.finish.new.out c.read_to_end.new.notes c.finish.new.notes read.2 read.3
          (wrote-all g.K.Sink.writes g.E.Sink.writes c.in_default-finish.ensures.calls),
      refl,
    )
