use Rattle.std.proofs.Common.{ap}
use Rattle.pads_expr.specs.Seen.{seen}
use Rattle.pads_dispatch.specs.declared.base.Arg.TheVariants as arg
use Rattle.pads_calc.specs.Arguments.{arg_of_worth}
use Rattle.pads_machine.proofs.stalls.is_argument.Goals as goal

pub returns-in-Num : goal.returns-in-Num
returns-in-Num c = record { argument = λ is. (arg.Num c.in-Num.field-0, ap (λ found. arg_of_worth (seen found)) c.in-Num.is) }

pub returns-in-Text : goal.returns-in-Text
returns-in-Text c = record { argument = λ is. (arg.Text c.in-Text.field-0.now, ap (λ found. arg_of_worth (seen found)) c.in-Text.is) }
