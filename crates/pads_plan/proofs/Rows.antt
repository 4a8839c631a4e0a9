-- Rows of plans, computed on their definition.
use Rattle.std.proofs.Common.{◌≡◌, refl, ℕ, true, List, [], ◌∷◌, codes, Some, None}
use Rattle.pads_code.specs.declared.Coding.TheVariants as coding
use Rattle.pads_int.specs.declared.Kind.TheVariants.{U8}
use Rattle.pads_dispatch.specs.declared.base.Base.TheVariants as base
use Rattle.pads_calc.specs.declared.decl.Decl.{Decl}
use Rattle.pads_calc.specs.declared.term.Term.{Term, Term-F, roll-Term}
use Rattle.pads_sums.specs.declared.form.PartForm.{PartForm}
use Rattle.pads_sums.specs.declared.form.PartForm.TheVariants as form
use Rattle.pads_plan.specs.declared.part.PlanPart.{PlanPart}
use Rattle.pads_plan.specs.declared.part.Step.{Step}
use Rattle.pads_plan.specs.declared.part.Step.TheVariants as step
use Rattle.pads_plan.specs.Expansion.{caller}
use Rattle.pads_plan.specs.Plans.{parts_of}
use Rattle.pads_plan.proofs.Rolls.{expand_roll}

abbrev number : Term
number = roll-Term (Term-F.Base (base.Int U8 coding.Ascii) [])

abbrev comma : Term
comma = roll-Term (Term-F.Lit (44 ∷ []))

abbrev call : ℕ → Term
call declaration = roll-Term (Term-F.Call declaration [])

abbrev nothing : Term
nothing = roll-Term Term-F.Unit

abbrev names : List (List ℕ)
names = codes "r" ∷ codes "x" ∷ codes "y" ∷ codes "some" ∷ codes "none" ∷ codes "opt" ∷ codes "list" ∷ []

abbrev declared : ℕ → Term → Decl
declared name body = record { name = name; params = []; body = body; set = true }

-- a struct of a number, a comma and an optional number
abbrev pair : List Decl
pair =
    declared 0 (roll-Term (Term-F.Struct (record { name = Some 1; term = number } ∷ record { name = None; term = roll-Term (Term-F.Absorb comma) } ∷ record { name = Some 2; term = call 1 } ∷ [])))
    ∷ declared 5 (roll-Term (Term-F.Alt (record { name = 3; term = number } ∷ record { name = 4; term = nothing } ∷ []))) ∷ []

abbrev part : ℕ → Step → List ℕ → PartForm → PlanPart
part up step place form = record { up = up; step = step; place = place; form = form }

-- the parts in document order; the comma has no name, and the branch that is nothing is no part
pair-parts : parts_of pair names 0
    ≡ part 0 step.Record (codes ".") form.Record
    ∷ part 0 step.Body (codes "$") form.Fields
    ∷ part 1 (step.Part 0) (codes "x") form.Number
    ∷ part 1 (step.Part 2) (codes "y") (form.Branch (codes "some" ∷ codes "none" ∷ []))
    ∷ part 3 (step.Branch 0) (codes "y.some") form.Number
    ∷ []
unfolding caller
pair-parts = simp (expand_roll) refl

-- an array of itself: the call that is repeated has nothing below it
abbrev nested : List Decl
nested =
    declared 6 (roll-Term (Term-F.Seq (record { elem = call 0; sep = None; size = None; last = None; stop = None; elts = 1 }))) ∷ []

nested-parts : parts_of nested names 0
    ≡ part 0 step.Record (codes ".") form.Record
    ∷ part 0 step.Body (codes "$") form.Elements
    ∷ part 1 step.Each (codes "$[*]") form.Bare
    ∷ []
unfolding caller
nested-parts = simp (expand_roll) refl
