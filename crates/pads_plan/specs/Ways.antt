-- How a part is reached: from which part, by which step, and what place it has.
use Rattle.std.specs.Prelude.{ℕ, List, ◌++◌, codes, Bool, true, false, if◌then◌else◌}
use Rattle.pads_sums.specs.declared.form.PartForm.{PartForm}
use Rattle.pads_plan.specs.declared.part.PlanPart.{PlanPart}
use Rattle.pads_plan.specs.declared.part.Step.{Step}
use Rattle.pads_plan.specs.declared.part.Step.TheVariants as step

-- the number of the part above, the step from there, and the place
pub record Origin : Type 0 where
  pub up : ℕ
  pub step : Step
  pub place : List ℕ

abbrev pub from : ℕ → Step → List ℕ → Origin
from up step place = record { up = up; step = step; place = place }

abbrev pub own : PartForm → Origin → PlanPart
own form origin = record { up = origin.up; step = origin.step; place = origin.place; form = form }

abbrev pub is_body : Step → Bool
is_body step.Record = false
is_body step.Body = true
is_body (step.Part number) = false
is_body (step.Branch number) = false
is_body step.Each = false

-- a name directly below the body stands alone, and any other behind the place above and a dot
abbrev pub named_below : Step → List ℕ → List ℕ → List ℕ
named_below above place name = if is_body above then name else place ++ (codes "." ++ name)

-- the place of all elements of an array
abbrev pub each_below : List ℕ → List ℕ
each_below place = place ++ codes "[*]"

-- the record node, and its body
abbrev pub record_origin : Origin
record_origin = from 0 step.Record (codes ".")

abbrev pub body_origin : Origin
body_origin = from 0 step.Body (codes "$")
