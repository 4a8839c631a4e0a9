use Rattle.std.proofs.Common.{◌∙◌, sym, ap, arith}
use Rattle.std.proofs.lemmas.List.{drop_more}
use Rattle.pads_forms.specs.Forms.{form_seen}
use Rattle.pads_json.specs.NodeLines.{reached}
use Rattle.pads_json.proofs.NodeSteps.{stuck}
use Rattle.pads_json.proofs.node.reached.Goals as goal

pub returns-in-None : goal.returns-in-None
returns-in-None c =
    record {
      reached = sym (sym c.steps.invariant
          ∙ ap (λ rest. reached c.args.terms.now.decls.now rest (form_seen c.steps.here)) (drop_more c.args.steps.now c.steps.step-index _ (omega (arith, c.steps-test.true)))
          ∙ stuck c.args.terms.now.decls.now _ _ (form_seen c.steps.here) c.in-None.ensures.below);
    }
