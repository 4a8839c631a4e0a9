use Rattle.std.proofs.Common.{◌≡◌, ℕ, true, List, Option, length}
use Rattle.pads_io.specs.Calls.{Writes}
use Rattle.pads_io.proofs.Partly.{Partly}
use Rattle.pads_io.proofs.whole.write_all.Given as goal

-- a prefix was written, the rest is left, no write failed, and the sink has counted no failure
pub record Written {K : Type 0} (writes : K → Option ℕ → K → Type 0) (sink sink' : K) (old new : Option (List ℕ)) (all rest : List ℕ) (before now : ℕ) : Type 0 where
  pub partly : Partly old new all rest
  pub calls : Writes writes sink sink' true
  pub stays : now ≡ before

abbrev pub invariant-loop-rest : goal.invariant-loop-rest
invariant-loop-rest g l =
    let written = g.K.Sink.written in
    let faults = g.K.Sink.faults in
    Written g.K.Sink.writes l.initial.sink l.sink (written l.initial.sink) (written l.sink) l.bytes l.rest (faults l.initial.sink) (faults l.sink)

abbrev pub decreases-loop-rest : goal.decreases-loop-rest
decreases-loop-rest g l = length l.rest
