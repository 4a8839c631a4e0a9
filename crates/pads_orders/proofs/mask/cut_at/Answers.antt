use Rattle.std.proofs.Common.{rules, arith, length}
use Rattle.pads_orders.proofs.Pieces.{no_mark, first_mark}
use Rattle.pads_orders.proofs.mask.cut_at.Goals as goal

pub returns-in-None : goal.returns-in-None
returns-in-None c = record { cut = no_mark c.args.mark c.args.text.now (search rules); shorter = tt }

pub returns-in-Some : goal.returns-in-Some
returns-in-Some c = record { cut = first_mark c.args.mark c.args.text.now c.in-Some.at (search rules); shorter = grind arith }
