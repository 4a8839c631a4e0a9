use Rattle.pads_bases.proofs.AddressLaws.{ip_within, ip_spelled, ip_canonical, ip_reads_back, ip_canonical_reads_back}
use Rattle.pads_bases.proofs.laws.addresses_read_what_they_spell.Goals as goal

pub returns : goal.returns
returns c = record {
  within = ip_within;
  spelled = ip_spelled;
  canonical = ip_canonical;
  reads_back = ip_reads_back;
  canonical_reads_back = ip_canonical_reads_back;
}
