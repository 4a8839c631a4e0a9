use Rattle.std.proofs.Common.{◌≡◌, ◌≤◌, List, length, vec_len}
use Rattle.pads_expr.specs.Value.{Pairs}
use Rattle.pads_walk.specs.Fields.{Done, values_of, AreDone}
use Rattle.pads_walk.proofs.TakenBack.{Stage}
use Rattle.pads_walk.proofs.fields.take_back.Given as goal

abbrev pub invariant-back : goal.invariant-back
invariant-back l = record {
  count : vec_len l.values ≡ length l.parts;
  within : l.at ≤ length l.parts;
  stage : (done : List Done) (outer : Pairs) → AreDone done outer l.parts l.initial.values.items l.initial.env.pairs
      → Stage (values_of done) outer l.at l.parts l.values.items l.env.pairs;
}

abbrev pub decreases-back : goal.decreases-back
decreases-back l = l.at
