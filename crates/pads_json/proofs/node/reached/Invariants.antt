use Rattle.std.proofs.Common.{◌≡◌, drop}
use Rattle.pads_calc.specs.Rows.{deepest}
use Rattle.pads_forms.specs.Forms.{form_seen}
use Rattle.pads_json.specs.NodeLines.{at_depth, reached}
use Rattle.pads_json.proofs.node.reached.Given as goal

abbrev pub invariant-steps : goal.invariant-steps
invariant-steps l = reached l.terms.decls.now (drop l.step-index l.steps) (form_seen l.here) ≡ reached l.terms.decls.now l.steps (at_depth deepest l.body)
