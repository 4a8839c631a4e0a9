use Rattle.pads_decimal.proofs.ZonedLaws.{zoned_within, zoned_spelled, zoned_canonical, zoned_reads_back, zoned_canonical_reads_back}
use Rattle.pads_decimal.proofs.laws.zoned_decimals_read_what_they_spell.Goals as goal

pub returns : goal.returns
returns c = record {
  within = zoned_within;
  spelled = zoned_spelled;
  canonical = zoned_canonical;
  reads_back = zoned_reads_back;
  canonical_reads_back = zoned_canonical_reads_back;
}
