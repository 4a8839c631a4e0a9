use Rattle.pads_decimal.proofs.PackedLaws.{packed_within, packed_spelled, packed_canonical, packed_reads_back, packed_canonical_reads_back}
use Rattle.pads_decimal.proofs.laws.packed_decimals_read_what_they_spell.Goals as goal

pub returns : goal.returns
returns c = record {
  within = packed_within;
  spelled = packed_spelled;
  canonical = packed_canonical;
  reads_back = packed_reads_back;
  canonical_reads_back = packed_canonical_reads_back;
}
