use Rattle.std.proofs.Common.{◌≡◌, drop}
use Rattle.pads_code.specs.CodePage.{points_of}
use Rattle.pads_bases.specs.Enums.{choice, merged}
use Rattle.pads_bases.proofs.choice.choose.Given as goal

abbrev pub invariant-loop-number : goal.invariant-loop-number
invariant-loop-number l = choice 0 l.labels (points_of l.coding l.bytes) ≡ merged l.best (choice l.number (drop l.number l.labels) (points_of l.coding l.bytes))
