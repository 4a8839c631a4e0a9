use Rattle.pads_int.proofs.LawLemmas.{int_within, int_spelled, int_canonical, int_reads_back, int_canonical_reads_back}
use Rattle.pads_int.proofs.laws.integers_read_what_they_spell.Goals as goal

pub returns : goal.returns
returns c = record {
  within = int_within;
  spelled = int_spelled;
  canonical = int_canonical;
  reads_back = int_reads_back;
  canonical_reads_back = int_canonical_reads_back;
}
