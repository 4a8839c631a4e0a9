use Rattle.law_calculus.proofs.Pair.{clean, first_is_missing, out_of_range, nothing_is_there, bytes_are_skipped}
use Rattle.law_calculus.proofs.computed_rows.a_pair_reads_by_the_rules.Goals as goal

pub returns : goal.returns
returns c = record { there = clean; missing = first_is_missing; range = out_of_range; empty = nothing_is_there; skipped = bytes_are_skipped }
