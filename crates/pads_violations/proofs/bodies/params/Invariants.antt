use Rattle.std.proofs.Common.{◌≡◌, take, map}
use Rattle.pads_rules.specs.Pieces.{OfParam}
use Rattle.pads_piece_rules.specs.Told.{stands}
use Rattle.pads_violations.specs.InBodies.{pieces_told}
use Rattle.pads_violations.proofs.bodies.params.Given as goal

abbrev pub invariant-loop-param : goal.invariant-loop-param
invariant-loop-param l = l.best ≡ pieces_told (stands l.site) (map (λ param. OfParam param.of) (take l.param-index l.params))
