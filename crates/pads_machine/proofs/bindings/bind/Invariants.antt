use Rattle.std.proofs.Common.{◌≡◌, ◌+◌, length, drop, reverse, vec_len, vec_capacity}
use Rattle.pads_calc.specs.Arguments.{bound_to}
use Rattle.pads_machine.specs.Shown.{homeless}
use Rattle.pads_machine.proofs.bindings.bind.Given as goal

abbrev pub invariant-each : goal.invariant-each
invariant-each l = record {
  args_count : vec_len l.args ≡ length l.fn.args;
  args_left : drop l.at l.args.items ≡ drop l.at l.fn.args;
  bindings_count : vec_len l.bindings ≡ vec_len l.initial.bindings + l.at;
  homes_count : vec_len l.homes ≡ vec_len l.initial.homes + l.at;
  bindings_kept : vec_capacity l.bindings ≡ vec_capacity l.initial.bindings;
  homes_kept : vec_capacity l.homes ≡ vec_capacity l.initial.homes;
  bound : bound_to (drop l.at l.params) (drop l.at l.fn.args) (reverse l.bindings.items) ≡ bound_to l.params l.fn.args (reverse l.initial.bindings.items);
  homes_bound : homeless (drop l.at l.params) (drop l.at l.fn.args) (reverse l.homes.items) ≡ homeless l.params l.fn.args (reverse l.initial.homes.items);
}
