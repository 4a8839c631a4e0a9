use Rattle.pads_declared.specs.Leads.{declared_by, declare_by}
use Rattle.pads_declared.proofs.Lists.{by-number-end}
use Rattle.pads_declared.proofs.environment.declared_by.Goals as goal

pub returns : goal.returns
unfolding declared_by
returns c = record {
  declared = by-number-end (declare_by c.args.outlines.now) c.loop-decl.types _ c.args.decls.now c.loop-decl.decl-index c.loop-decl-test.false c.loop-decl.invariant;
}
