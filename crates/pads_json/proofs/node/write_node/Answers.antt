use Rattle.std.proofs.Common.{◌∙◌}
use Rattle.std.proofs.lemmas.Result.{on_ok_weaker}
use Rattle.pads_json.specs.NodeLines.{node_shown}
use Rattle.pads_json.proofs.Written.{node_written}
use Rattle.pads_json.proofs.node.write_node.Goals as goal

pub returns : goal.returns
returns c =
    record {
      node = on_ok_weaker c.push.result (λ e. e ∙ node_written c.args.record_number c.args.pd.now
          (node_shown c.args.terms.now.bare.decls.now c.args.terms.now.bare.names.now c.args.steps.now c.args.body.now c.args.value.now) c.args.out.now _ _ _
          c.in_ok-write_node_head.ensures.head c.in_ok-extend_from_slice.ensures.ok c.in_ok-write_node_value.ensures.written) c.push.ensures.ok;
    }
