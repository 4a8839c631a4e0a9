use Rattle.std.proofs.Common.{◌≡◌, take, flat_map}
use Rattle.pads_rules.specs.Pieces.{option_pieces}
use Rattle.pads_judge.specs.Scopes.{names_in_scope}
use Rattle.pads_piece_rules.specs.Told.{stands}
use Rattle.pads_violations.specs.InBodies.{pieces_told}
use Rattle.pads_violations.proofs.bodies.array_options.Given as goal

abbrev pub invariant-loop-option : goal.invariant-loop-option
invariant-loop-option l = l.best ≡ pieces_told (stands l.site) (flat_map (option_pieces (names_in_scope l.scope)) (take l.option-index l.options))
