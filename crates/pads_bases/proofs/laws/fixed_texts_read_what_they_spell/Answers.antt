use Rattle.pads_bases.proofs.FieldLaws.{fixed_within, fixed_spelled, fixed_canonical, fixed_reads_back, fixed_canonical_reads_back}
use Rattle.pads_bases.proofs.laws.fixed_texts_read_what_they_spell.Goals as goal

pub returns : goal.returns
returns c = record {
  within = fixed_within;
  spelled = fixed_spelled;
  canonical = fixed_canonical;
  reads_back = fixed_reads_back;
  canonical_reads_back = fixed_canonical_reads_back;
}
