use Rattle.std.proofs.Common.{arith}
use Rattle.std.proofs.Math.Nat.{one-le-pow}
use Rattle.pads_decimal.proofs.SpellingLemmas.{power_small}
use Rattle.pads_decimal.proofs.digits.power.Goals as goal

pub returns-clause-some : goal.returns-clause-some
returns-clause-some c = omega (arith, c.pow.ensures, one-le-pow c.args.place 10 (omega arith))

pub returns-clause-small : goal.returns-clause-small
returns-clause-small c = omega (arith, c.pow.ensures, power_small c.args.place c.requires)
