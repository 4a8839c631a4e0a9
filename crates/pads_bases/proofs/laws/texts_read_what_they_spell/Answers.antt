use Rattle.pads_bases.proofs.StringLaws.{until_within, until_spelled, until_canonical, until_reads_back, until_canonical_reads_back}
use Rattle.pads_bases.proofs.laws.texts_read_what_they_spell.Goals as goal

pub returns : goal.returns
returns c = record {
  within = until_within;
  spelled = until_spelled;
  canonical = until_canonical;
  reads_back = until_reads_back;
  canonical_reads_back = until_canonical_reads_back;
}
