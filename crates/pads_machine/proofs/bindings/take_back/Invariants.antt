use Rattle.std.proofs.Common.{◌≡◌, vec_len, vec_capacity}
use Rattle.pads_machine.proofs.Taking.{Taking}
use Rattle.pads_machine.proofs.bindings.take_back.Given as goal

abbrev pub invariant-back : goal.invariant-back
invariant-back l = record {
  taking : Taking l.base l.initial.bindings.items l.initial.homes.items l.initial.values.items l.bindings.items l.homes.items l.values.items;
  bindings_kept : vec_capacity l.bindings ≡ vec_capacity l.initial.bindings;
  homes_kept : vec_capacity l.homes ≡ vec_capacity l.initial.homes;
}

abbrev pub decreases-back : goal.decreases-back
decreases-back l = vec_len l.bindings
