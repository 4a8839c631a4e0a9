use Rattle.pads_bases.proofs.FieldLaws.{char_within, char_spelled, char_canonical, char_reads_back, char_canonical_reads_back}
use Rattle.pads_bases.proofs.laws.characters_read_what_they_spell.Goals as goal

pub returns : goal.returns
returns c = record {
  within = char_within;
  spelled = char_spelled;
  canonical = char_canonical;
  reads_back = char_reads_back;
  canonical_reads_back = char_canonical_reads_back;
}
