use Rattle.pads_declared.proofs.LeadLemmas.{optional-known}
use Rattle.pads_declared.proofs.leads.optional_by.Goals as goal

pub returns-in-Known : goal.returns-in-Known
returns-in-Known c = record {
  sort = rw (c.in-Known.is, c.saturating_add.ensures) (optional-known c.args.count c.in-Known.sort.optional c.in-Known.sort.form c.if-count-eq0.false);
}
