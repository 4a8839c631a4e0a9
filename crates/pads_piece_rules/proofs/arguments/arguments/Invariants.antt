use Rattle.std.proofs.Common.{◌≡◌, length, drop}
use Rattle.std.specs.List.{enumerate_from}
use Rattle.pads_rules.specs.Faults.{each, lesser, least}
use Rattle.pads_declared.specs.Meanings.{meant}
use Rattle.pads_judge.specs.Scopes.{names_in_scope}
use Rattle.pads_piece_rules.specs.Told.{stands, at_argument}
use Rattle.pads_piece_rules.proofs.arguments.arguments.Given as goal

abbrev pub invariant-loop-number : goal.invariant-loop-number
invariant-loop-number l =
    lesser l.best (least (each (at_argument (stands l.site) (names_in_scope l.scope) (meant l.meaning) (length l.args)) (enumerate_from l.number (drop l.number l.args))))
    ≡ least (each (at_argument (stands l.site) (names_in_scope l.scope) (meant l.meaning) (length l.args)) (enumerate_from 0 l.args))
