use Rattle.std.proofs.Common.{◌∙◌, ap, refl}
use Rattle.pads_resolution.specs.Expressions.{expression}
use Rattle.pads_question.proofs.Scopes.{resolved_it}
use Rattle.pads_question.proofs.filtering.resolved.Goals as goal

pub returns : goal.returns
returns c =
    record {
      resolved = c.in_ok-made.ensures.resolved ∙ ap (expression c.args.types.now.decls.now c.args.types.now.env.now c.args.e.now) (resolved_it _ _ _ _ refl refl refl);
    }
