-- The term to which steps lead, one step after another.
use Rattle.std.proofs.Common.{◌≡◌, sym, ap, List, ◌∷◌, None}
use Rattle.std.specs.Prelude.{option_and_then}
use Rattle.pads_calc.specs.declared.decl.Decl.{Decl}
use Rattle.pads_forms.specs.Forms.{Form}
use Rattle.pads_nodes.specs.declared.step.Step.{Step}
use Rattle.pads_json.specs.NodeLines.{form_below, reached}

pub stuck : (decls : List Decl) (next : Step) (steps : List Step) (here : Form) → None ≡ form_below decls next here → reached decls (next ∷ steps) here ≡ None
stuck decls next steps here none = ap (λ found. option_and_then (reached decls steps) found) (sym none)
