use Rattle.pads_declared.specs.Leads.{sorted_by, far_outline}
use Rattle.pads_declared.proofs.Lists.{by-number-end}
use Rattle.pads_declared.proofs.environment.sorted.Goals as goal

pub returns : goal.returns
unfolding sorted_by
returns c = record {
  types = by-number-end (far_outline c.args.unsorted.now c.args.far.now) c.loop-decl.types _ c.args.decls.now c.loop-decl.decl-index c.loop-decl-test.false c.loop-decl.invariant;
}
