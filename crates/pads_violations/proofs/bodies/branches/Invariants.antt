use Rattle.std.proofs.Common.{◌≡◌, take, flat_map}
use Rattle.pads_rules.specs.Pieces.{sight, branch_pieces}
use Rattle.pads_piece_rules.specs.Told.{stands}
use Rattle.pads_violations.specs.InBodies.{pieces_told}
use Rattle.pads_violations.proofs.bodies.branches.Given as goal

abbrev pub invariant-loop-one : goal.invariant-loop-one
invariant-loop-one l = record {
  told : l.best ≡ pieces_told (stands l.site) (flat_map (λ branch. branch_pieces (sight (stands l.site)) l.fn.names branch.now) (take l.one-index l.branches));
  names : l.names ≡ l.fn.names;
}
