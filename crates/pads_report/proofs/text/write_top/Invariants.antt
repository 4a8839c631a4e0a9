use Rattle.std.proofs.Common.{◌≡◌, ◌++◌, flat_map, map, take}
use Rattle.pads_sums.specs.Seen.{pair_seen}
use Rattle.pads_report.specs.Reports.{value_line}
use Rattle.pads_report.proofs.text.write_top.Given as goal

-- the lines so far
abbrev pub invariant-ranks : goal.invariant-ranks
invariant-ranks l = l.out ≡ l.initial.out ++ flat_map value_line (map pair_seen (take l.value-index l.ranks))
