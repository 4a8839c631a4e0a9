use Rattle.pads_bases.proofs.FieldLaws.{class_within, class_spelled, class_canonical, class_reads_back, class_canonical_reads_back}
use Rattle.pads_bases.proofs.laws.class_texts_read_what_they_spell.Goals as goal

pub returns : goal.returns
returns c = record {
  within = class_within;
  spelled = class_spelled;
  canonical = class_canonical;
  reads_back = class_reads_back;
  canonical_reads_back = class_canonical_reads_back;
}
