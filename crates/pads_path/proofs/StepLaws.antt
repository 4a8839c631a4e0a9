-- The steps of a path, one after another.
use Rattle.std.proofs.Common.{◌≡◌, refl, sym, ap, ℕ, ◌+◌, List, [], ◌∷◌, ◌++◌, Option, Result, Ok, Err}
use Rattle.std.proofs.lemmas.List.{append-nil, append_assoc}
use Rattle.pads_calc.specs.declared.decl.Decl.{Decl}
use Rattle.pads_calc.specs.declared.term.Term.{Term}
use Rattle.pads_nodes.specs.declared.step.Step.{Step}
use Rattle.pads_syntax_path.specs.declared.path.PathStep.{PathStep}
use Rattle.pads_path.specs.declared.fault.PathFault.{PathFault}
use Rattle.pads_path.specs.Resolving.{resolved_from, or_fault, with_step, way, reason_of, form_of}
use Rattle.pads_path.specs.Ways.{behind}

pub no-step : (decls : List Decl) (names : List (List ℕ)) (found : List Step) (number : ℕ) (here : Option Term) →
    behind found (resolved_from decls names number here []) ≡ Ok found
unfolding resolved_from
no-step decls names found number here = ap Ok (append-nil found)

pub one-step : (decls : List Decl) (names : List (List ℕ)) (number : ℕ) (here : Option Term) (next : PathStep) (steps : List PathStep) →
    resolved_from decls names number here (next ∷ steps)
    ≡ or_fault (record { step = number; reason = reason_of next here }) (way names next here) (λ found. resolved_from decls names (number + 1) (form_of decls found.term) steps)
unfolding resolved_from
one-step decls names number here next steps = refl

pub one-more : (found : List Step) (next : Step) (rest : Result (List Step) PathFault) → behind found (with_step next rest) ≡ behind (found ++ next ∷ []) rest
one-more found next (Ok steps) = ap Ok (sym (append_assoc found (next ∷ []) steps))
one-more found next (Err fault) = refl

pub ruleset step_laws = (no-step, one-step, one-more)
