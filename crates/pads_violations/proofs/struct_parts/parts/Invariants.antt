use Rattle.std.proofs.Common.{◌≡◌, drop}
use Rattle.pads_rules.specs.Faults.{lesser}
use Rattle.pads_rules.specs.Pieces.{sight, parts_pieces, names_after_all}
use Rattle.pads_piece_rules.specs.Told.{stands}
use Rattle.pads_violations.specs.InBodies.{pieces_told}
use Rattle.pads_violations.proofs.struct_parts.parts.Given as goal

abbrev pub invariant-loop-number : goal.invariant-loop-number
invariant-loop-number l = record {
  told : lesser l.best (pieces_told (stands l.site) (parts_pieces (sight (stands l.site)) l.names (drop l.number l.parts))) ≡ pieces_told (stands l.site) (parts_pieces (sight (stands l.site)) l.fn.names l.parts);
  names : names_after_all (sight (stands l.site)) l.names (drop l.number l.parts) ≡ names_after_all (sight (stands l.site)) l.fn.names l.parts;
}
