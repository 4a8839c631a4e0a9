use Rattle.pads_bases.proofs.ChoiceLaws.{enum_within, enum_spelled, enum_canonical, enum_reads_back, enum_canonical_reads_back}
use Rattle.pads_bases.proofs.laws.enums_read_what_they_spell.Goals as goal

pub returns : goal.returns
returns c = record {
  within = enum_within;
  spelled = enum_spelled;
  canonical = enum_canonical;
  reads_back = enum_reads_back;
  canonical_reads_back = enum_canonical_reads_back;
}
