use Rattle.std.proofs.Common.{◌≡◌, flat_map, take}
use Rattle.pads_report.specs.Reports.{list_text}
use Rattle.pads_report.proofs.text.report.Given as goal

-- the lists so far
abbrev pub invariant-lists : goal.invariant-lists
invariant-lists l = l.out ≡ flat_map (list_text l.top) (take l.list-index l.list-items)
