use Rattle.std.proofs.Common.{◌≡◌, ◌++◌, flat_map, take}
use Rattle.pads_report.specs.Reports.{part_text}
use Rattle.pads_report.proofs.text.write_parts.Given as goal

-- the parts so far
abbrev pub invariant-parts : goal.invariant-parts
invariant-parts l = l.out ≡ l.initial.out ++ flat_map (part_text l.top) (take l.part-index l.parts)
