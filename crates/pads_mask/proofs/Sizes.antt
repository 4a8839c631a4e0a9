-- The size of an optional term.
use Rattle.std.proofs.Common.{ℕ, Option, None, Some}
use Rattle.pads_calc.specs.declared.term.Term.{Term, size-Term}

abbrev pub option_size : Option Term → ℕ
option_size None = 0
option_size (Some t) = size-Term t
