use Rattle.std.proofs.Common.{◌≡◌, take}
use Rattle.pads_rules.specs.Faults.{each, least}
use Rattle.pads_piece_rules.specs.Told.{at_key}
use Rattle.pads_piece_rules.proofs.constants.keys.Given as goal

abbrev pub invariant-loop-case : goal.invariant-loop-case
invariant-loop-case l = l.best ≡ least (each (λ case. at_key l.sort case.key) (take l.case-index l.cases))
