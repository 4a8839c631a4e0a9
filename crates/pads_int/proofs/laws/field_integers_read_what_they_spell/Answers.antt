use Rattle.pads_int.proofs.LawLemmas.{int_fw_spelled, int_fw_canonical, int_fw_reads_back, int_fw_canonical_reads_back, int_fw_within}
use Rattle.pads_int.proofs.laws.field_integers_read_what_they_spell.Goals as goal

pub returns : goal.returns
returns c = record {
  within = λ kind coding width bytes n v e. (int_fw_within kind coding width bytes n v e).1;
  spelled = int_fw_spelled;
  canonical = int_fw_canonical;
  reads_back = int_fw_reads_back;
  canonical_reads_back = int_fw_canonical_reads_back;
}
