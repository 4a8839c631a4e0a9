-- What falls from a term to the terms in it, for the terms of an array that may not be there.
use Rattle.std.proofs.Common.{◌≡◌, arith, ℕ, ◌+◌, ◌*◌, ◌<◌, Option, Some, None, refl}
use Rattle.pads_calc.proofs.Sizes.{size-elem, size-sep, size-stop}
use Rattle.pads_calc.specs.declared.term.Seq.{Seq, size-Seq}
use Rattle.pads_calc.specs.declared.term.Term.{Term, size-Term}

abbrev pub option_weight : Option Term → ℕ
option_weight None = 0
option_weight (Some t) = 4 * size-Term t + 1

module _ (s : Seq) where
  pub falls : (o : Option Term) → ((t : Term) → o ≡ Some t → size-Term t < size-Seq s) → option_weight o + 1 < 4 * size-Seq s
  falls None h = omega (arith, size-elem s)
  falls (Some t) h = omega (arith, h t refl)

  pub stop-falls : option_weight s.stop + 1 < 4 * size-Seq s
  stop-falls = falls s.stop (size-stop s)

  pub sep-falls : option_weight s.sep + 1 < 4 * size-Seq s
  sep-falls = falls s.sep (size-sep s)
