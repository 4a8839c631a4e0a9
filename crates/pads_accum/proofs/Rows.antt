-- Rows of summaries, computed on their definitions.
use Rattle.std.proofs.Common.{◌≡◌, refl, ℕ, pos, ◌+◌, ◌-◌, ◌^◌, true, List, [], ◌∷◌, codes, Option, Some, None}
use Rattle.pads_value.specs.declared.cause.Cause.{Cause}
use Rattle.pads_value.specs.declared.cause.Cause.TheVariants as cause
use Rattle.pads_value.specs.declared.descriptor.Class.{Class}
use Rattle.pads_value.specs.declared.descriptor.Class.TheVariants as class
use Rattle.pads_value.specs.declared.descriptor.Pd.{Pd, roll-Pd}
use Rattle.pads_value.specs.declared.row.Row.{Row}
use Rattle.pads_value.specs.declared.value.Val.{Val, Val-F, roll-Val, out-roll-Val}
use Rattle.pads_sums.specs.Samples.{num}
use Rattle.pads_sums.specs.declared.form.PartForm.{PartForm}
use Rattle.pads_sums.specs.declared.form.PartForm.TheVariants as form
use Rattle.pads_plan.specs.declared.part.PlanList.{PlanList}
use Rattle.pads_plan.specs.declared.part.PlanPart.{PlanPart}
use Rattle.pads_plan.specs.declared.part.Step.{Step}
use Rattle.pads_plan.specs.declared.part.Step.TheVariants as step
use Rattle.pads_sums.specs.declared.part_sum.PartSum.{PartSum}
use Rattle.pads_accum.specs.Limits.{over}
use Rattle.pads_accum.specs.Placed.{Placed, row_nodes}
use Rattle.pads_accum.specs.Summaries.{fed, summary_of}
use Rattle.pads_accum.proofs.Layers.{placed_roll}

abbrev part : ℕ → Step → List ℕ → PartForm → PlanPart
part up step place form = record { up = up; step = step; place = place; form = form }

-- two numbers with a comma between them, which has no name
abbrev parts : List PlanPart
parts =
    part 0 step.Record (codes ".") form.Record ∷ part 0 step.Body (codes "$") form.Fields
    ∷ part 1 (step.Part 0) (codes "x") form.Number ∷ part 1 (step.Part 2) (codes "y") form.Number ∷ []

abbrev node : Class → Option Cause → List Pd → Pd
node class cause kids = roll-Pd (record { nerr = 0; class = class; cause = cause; span = record { begin = 0; end = 0 }; kids = kids })

abbrev leaf : Pd
leaf = node class.Ok None []

abbrev number : ℕ → Val
number n = roll-Val (Val-F.Num (pos n))

abbrev unit : Val
unit = roll-Val Val-F.Unit

abbrev tuple : ℕ → ℕ → Val
tuple x y = roll-Val (Val-F.Tuple (number x ∷ unit ∷ number y ∷ []))

-- a clean row, and one whose second number has a cause
abbrev clean : Row
clean = record { number = 0; value = tuple 3 7; pd = node class.Ok None (node class.Ok None (leaf ∷ leaf ∷ leaf ∷ []) ∷ []); next = 3 }

abbrev wrong : Row
wrong = record {
  number = 1;
  value = tuple 9 2;
  pd = node class.Err None (node class.Err None (leaf ∷ leaf ∷ node class.Err (Some cause.Constraint) [] ∷ []) ∷ []);
  next = 7;
}

abbrev placed : ℕ → Val → Placed
placed part v = record { part = part; node = record { value = Some v; clean = true } }

-- the comma's node belongs to no part
nodes : row_nodes parts clean ≡ placed 0 (tuple 3 7) ∷ placed 1 (tuple 3 7) ∷ placed 2 (number 3) ∷ placed 3 (number 7) ∷ []
nodes = simp (placed_roll, out-roll-Val) refl

abbrev plan : List PlanList
plan = record { name = codes "pt"; parts = parts } ∷ []

abbrev plain : List ℕ → ℕ → ℕ → PartSum
plain place good bad = record { place = place; good = good; bad = bad; nums = 0; least = pos 0; greatest = pos 0; sum = pos 0; tracked = []; others = 0 }

-- a node that isn't clean gives no sample
two-rows : summary_of plan (clean ∷ wrong ∷ []) ≡ record {
  name = codes "pt";
  parts = plain (codes ".") 1 1 ∷ plain (codes "$") 1 1
      ∷ record { place = codes "x"; good = 2; bad = 0; nums = 2; least = pos 3; greatest = pos 9; sum = pos 12; tracked = (num (pos 3), 1) ∷ (num (pos 9), 1) ∷ []; others = 0 }
      ∷ record { place = codes "y"; good = 1; bad = 1; nums = 1; least = pos 7; greatest = pos 7; sum = pos 7; tracked = (num (pos 7), 1) ∷ []; others = 0 }
      ∷ [];
} ∷ []
two-rows = simp (placed_roll, out-roll-Val) refl

-- the header's list is fed by row 0 alone
header-fed : fed 2 0 ≡ 0
header-fed = refl

others-fed : fed 2 7 ≡ 1
others-fed = refl

all-fed : fed 1 0 ≡ 0
all-fed = refl

-- a count of 2^62 is none too many, and one more is
at-the-limit : over 3 (2 ^ 62 - 1) 1 ≡ None
at-the-limit = refl

past-the-limit : over 3 (2 ^ 62) 1 ≡ Some (record { part = 3; count = 2 ^ 62 + 1 })
past-the-limit = refl
