use Rattle.std.proofs.Common.{◌≡◌, ℕ, None, vec_len}
use Rattle.pads_accum.specs.Routes.{in_table}
use Rattle.pads_accum.proofs.below.empty_rows.Given as goal

abbrev pub invariant-rows : goal.invariant-rows
invariant-rows l = record {
  rows : vec_len l.table ≡ l.counter;
  empty : (up k : ℕ) → in_table l.table.items up k ≡ None;
}
