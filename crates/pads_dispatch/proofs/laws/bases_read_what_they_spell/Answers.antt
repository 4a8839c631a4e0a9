use Rattle.pads_dispatch.proofs.BaseLaws.{base_within, base_spelled, base_canonical, base_reads_back, base_canonical_reads_back}
use Rattle.pads_dispatch.proofs.laws.bases_read_what_they_spell.Goals as goal

pub returns : goal.returns
returns c = record {
  within = base_within;
  spelled = base_spelled;
  canonical = base_canonical;
  reads_back = base_reads_back;
  canonical_reads_back = base_canonical_reads_back;
}
