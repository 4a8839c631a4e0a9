-- Which part stands below another, by the number of the step to it: how code finds the part of a kid. For
-- private clauses.
use Rattle.std.specs.Prelude.{◌≡◌, ℕ, zero, suc, nat_eq, ◌&&◌, Bool, false, List, position, take, Option, Some, None, option_and_then, slice_get}
use Rattle.std.specs.declared.alloc.Global.{Global}
use Rattle.std.specs.declared.vec.Vec.{Vec}
use Rattle.pads_sums.specs.declared.form.PartForm.{PartForm}
use Rattle.pads_sums.specs.declared.form.PartForm.TheVariants as form
use Rattle.pads_plan.specs.declared.part.PlanPart.{PlanPart}
use Rattle.pads_plan.specs.declared.part.Step.{Step}
use Rattle.pads_plan.specs.declared.part.Step.TheVariants as step
use Rattle.pads_accum.specs.Placed.{below, form_at, same_step}

-- step number k from a part of this form
abbrev pub step_at : Option PartForm → ℕ → Option Step
step_at None k = None
step_at (Some form.Record) zero = Some step.Body
step_at (Some form.Record) (suc k) = None
step_at (Some form.Bare) k = None
step_at (Some form.Number) k = None
step_at (Some form.Text) k = None
step_at (Some form.Address) k = None
step_at (Some (form.Label names)) k = None
step_at (Some form.Fields) k = Some (step.Part k)
step_at (Some (form.Branch names)) k = Some (step.Branch k)
step_at (Some form.Elements) zero = Some step.Each
step_at (Some form.Elements) (suc k) = None

-- the number of a step from there, where it is one
abbrev pub number_of : Option PartForm → Step → Option ℕ
number_of None step.Record = None
number_of None step.Body = None
number_of None (step.Part k) = None
number_of None (step.Branch k) = None
number_of None step.Each = None
number_of (Some form.Record) step.Record = None
number_of (Some form.Record) step.Body = Some 0
number_of (Some form.Record) (step.Part k) = None
number_of (Some form.Record) (step.Branch k) = None
number_of (Some form.Record) step.Each = None
number_of (Some form.Bare) s = None
number_of (Some form.Number) s = None
number_of (Some form.Text) s = None
number_of (Some form.Address) s = None
number_of (Some (form.Label names)) s = None
number_of (Some form.Fields) step.Record = None
number_of (Some form.Fields) step.Body = None
number_of (Some form.Fields) (step.Part k) = Some k
number_of (Some form.Fields) (step.Branch k) = None
number_of (Some form.Fields) step.Each = None
number_of (Some (form.Branch names)) step.Record = None
number_of (Some (form.Branch names)) step.Body = None
number_of (Some (form.Branch names)) (step.Part k) = None
number_of (Some (form.Branch names)) (step.Branch k) = Some k
number_of (Some (form.Branch names)) step.Each = None
number_of (Some form.Elements) step.Record = None
number_of (Some form.Elements) step.Body = None
number_of (Some form.Elements) (step.Part k) = None
number_of (Some form.Elements) (step.Branch k) = None
number_of (Some form.Elements) step.Each = Some 0

-- the part that stands below part `up` by step number k
abbrev pub below_at : List PlanPart → ℕ → ℕ → Option ℕ
below_at parts up k = option_and_then (below parts up) (step_at (form_at parts up) k)

abbrev pub Row : Type 0
Row = Vec (Option ℕ) Global

abbrev pub entry : Option (Option ℕ) → Option ℕ
entry None = None
entry (Some found) = found

abbrev pub in_row : Row → ℕ → Option ℕ
in_row row k = entry (slice_get row.items k)

-- what a table has for part `up` and step number k
abbrev pub in_table : List Row → ℕ → ℕ → Option ℕ
in_table table up k = option_and_then (λ row. in_row row k) (slice_get table up)

-- the table has what stands below each part
abbrev pub IsTableOf : List Row → List PlanPart → Type 0
IsTableOf table parts = (up k : ℕ) → in_table table up k ≡ below_at parts up k

abbrev pub is_number : Option ℕ → ℕ → Bool
is_number None k = false
is_number (Some number) k = nat_eq k number

-- the same among the first n parts
abbrev pub below_upto : List PlanPart → ℕ → ℕ → ℕ → Option ℕ
below_upto parts n up k =
    option_and_then (λ step. position (λ part. nat_eq part.up up && same_step part.step step) (take n parts)) (step_at (form_at parts up) k)
