-- Rows of paths, computed on their definition.
use Rattle.std.proofs.Common.{◌≡◌, ◌∙◌, refl, ap, ℕ, true, false, List, [], ◌∷◌, codes, Some, None, unwrap_or, option_map, Result, Ok, Err}
use Rattle.pads_calc.specs.declared.decl.Decl.{Decl}
use Rattle.pads_calc.specs.declared.term.Arm.{Arm}
use Rattle.pads_calc.specs.declared.term.Case.{Case}
use Rattle.pads_calc.specs.declared.term.Part.{Part}
use Rattle.pads_calc.specs.declared.term.Seq.{Seq}
use Rattle.pads_calc.specs.declared.term.Term.{Term, Term-F, roll-Term, out-roll-Term}
use Rattle.pads_forms.specs.Forms.{through, form_from}
use Rattle.pads_forms.proofs.Passing.{next, through_next}
use Rattle.pads_nodes.specs.declared.step.Step.{Step}
use Rattle.pads_nodes.specs.declared.step.Step.TheVariants as step
use Rattle.pads_syntax_path.specs.declared.path.PathStep.{PathStep}
use Rattle.pads_syntax_path.specs.declared.path.PathStep.TheVariants as path
use Rattle.pads_path.specs.declared.fault.PathFault.{PathFault}
use Rattle.pads_path.specs.declared.fault.PathReason.{PathReason}
use Rattle.pads_path.specs.declared.fault.PathReason.TheVariants as reason
use Rattle.pads_path.specs.Resolving.{body_form, resolved_from}

through_roll : (x : Term-F Term Arm Case Part Seq) → through false (roll-Term x) ≡ unwrap_or (option_map (through false) (next false x)) (roll-Term x)
through_roll x = through_next false (roll-Term x) ∙ ap (λ layer. unwrap_or (option_map (through false) (next false layer)) (roll-Term x)) (out-roll-Term x)

-- a term without parts
abbrev leaf : Term
leaf = roll-Term (Term-F.Lit (44 ∷ []))

abbrev call : ℕ → Term
call declaration = roll-Term (Term-F.Call declaration [])

abbrev nothing : Term
nothing = roll-Term Term-F.Unit

abbrev names : List (List ℕ)
names = codes "r" ∷ codes "x" ∷ codes "y" ∷ codes "some" ∷ codes "none" ∷ codes "opt" ∷ codes "list" ∷ []

abbrev declared : ℕ → Term → Decl
declared name body = record { name = name; params = []; body = body; set = true }

abbrev steps_of : List Decl → List PathStep → Result (List Step) PathFault
steps_of decls steps = resolved_from decls names 1 (body_form decls 0) steps

abbrev fault : ℕ → PathReason → Result (List Step) PathFault
fault number why = Err (record { step = number; reason = why })

-- a struct of a leaf, one more without a name and an optional leaf
abbrev pair : List Decl
pair =
    declared 0 (roll-Term (Term-F.Struct (record { name = Some 1; term = leaf } ∷ record { name = None; term = roll-Term (Term-F.Absorb leaf) } ∷ record { name = Some 2; term = call 1 } ∷ [])))
    ∷ declared 5 (roll-Term (Term-F.Alt (record { name = 3; term = leaf } ∷ record { name = 4; term = nothing } ∷ []))) ∷ []

-- the part without a name is counted
there : steps_of pair (path.Name (codes "y") ∷ path.Name (codes "some") ∷ []) ≡ Ok (step.Part 2 ∷ step.Arm 0 ∷ [])
unfolding resolved_from form_from
there = simp (through_roll, out-roll-Term) refl

not-there : steps_of pair (path.Name (codes "y") ∷ path.Name (codes "none") ∷ []) ≡ Ok (step.Part 2 ∷ step.Arm 1 ∷ [])
unfolding resolved_from form_from
not-there = simp (through_roll, out-roll-Term) refl

no-field : steps_of pair (path.Name (codes "z") ∷ path.Each ∷ []) ≡ fault 1 reason.NoField
unfolding resolved_from form_from
no-field = simp (through_roll, out-roll-Term) refl

no-branch : steps_of pair (path.Name (codes "y") ∷ path.Name (codes "x") ∷ []) ≡ fault 2 reason.NoBranch
unfolding resolved_from form_from
no-branch = simp (through_roll, out-roll-Term) refl

not-named : steps_of pair (path.Name (codes "x") ∷ path.Name (codes "y") ∷ []) ≡ fault 2 reason.NotNamed
unfolding resolved_from form_from
not-named = simp (through_roll, out-roll-Term) refl

not-array : steps_of pair (path.Index 0 ∷ []) ≡ fault 1 reason.NotArray
unfolding resolved_from form_from
not-array = simp (through_roll, out-roll-Term) refl

-- an array of itself
abbrev nested : List Decl
nested =
    declared 6 (roll-Term (Term-F.Seq (record { elem = call 0; sep = None; size = None; last = None; stop = None; elts = 1 }))) ∷ []

elements : steps_of nested (path.Index 3 ∷ path.Each ∷ []) ≡ Ok (step.Elem 3 ∷ step.Each ∷ [])
unfolding resolved_from form_from
elements = simp (through_roll, out-roll-Term) refl

-- a declaration that is a call of itself
abbrev looped : List Decl
looped = declared 0 (call 0) ∷ []

no-name-in-a-loop : steps_of looped (path.Name (codes "x") ∷ []) ≡ fault 1 reason.NotNamed
unfolding resolved_from form_from
no-name-in-a-loop = simp (through_roll, out-roll-Term) refl

no-array-in-a-loop : steps_of looped (path.Each ∷ []) ≡ fault 1 reason.NotArray
unfolding resolved_from form_from
no-array-in-a-loop = simp (through_roll, out-roll-Term) refl
