use Rattle.std.proofs.Common.{◌≡◌, ◌≤◌, take}
use Rattle.std.specs.Prelude.{fold}
use Rattle.pads_lex.specs.Numbers.{with_digit, number_limit}
use Rattle.pads_lex.proofs.number.value.Given as goal

abbrev pub invariant-digits : goal.invariant-digits
invariant-digits l = (l.number ≡ fold (with_digit l.base) 0 (take l.digit-index l.digits)) × (l.number ≤ number_limit)
