use Rattle.pads_plan.proofs.Whole.{type_listed}
use Rattle.pads_plan.proofs.plan.list_type.Goals as goal

pub returns : goal.returns
returns c = record {
  listed = type_listed c.args.description.now.decls c.args.description.now.names c.args.number c.args.room c.body_of-body.result c.list_body.result
      c.body_of-body.ensures.body c.list_body.ensures.listed;
}
