use Rattle.pads_declared.specs.Leads.{leads_among, lead_by}
use Rattle.pads_declared.proofs.Lists.{by-number-end}
use Rattle.pads_declared.proofs.environment.leads.Goals as goal

pub returns : goal.returns
unfolding leads_among
returns c = record {
  leads = by-number-end (lead_by c.args.types.now) c.loop-decl.leads _ c.args.decls.now c.loop-decl.decl-index c.loop-decl-test.false c.loop-decl.invariant;
}
