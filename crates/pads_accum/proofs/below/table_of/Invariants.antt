use Rattle.std.proofs.Common.{◌≡◌, ℕ, length, vec_len}
use Rattle.pads_accum.specs.Routes.{below_upto, in_table}
use Rattle.pads_accum.proofs.below.table_of.Given as goal

abbrev pub invariant-parts : goal.invariant-parts
invariant-parts l = record {
  rows : vec_len l.table ≡ length l.parts;
  noted : (up k : ℕ) → in_table l.table.items up k ≡ below_upto l.parts l.i up k;
}
