use Rattle.pads_bases.proofs.BinaryLaws.{bin_within, bin_spelled, bin_canonical, bin_reads_back, bin_canonical_reads_back}
use Rattle.pads_bases.proofs.laws.binary_integers_read_what_they_spell.Goals as goal

pub returns : goal.returns
returns c = record {
  within = bin_within;
  spelled = bin_spelled;
  canonical = bin_canonical;
  reads_back = bin_reads_back;
  canonical_reads_back = bin_canonical_reads_back;
}
