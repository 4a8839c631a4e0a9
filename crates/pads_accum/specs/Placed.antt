-- Which part of a plan each node of a row belongs to. The record's node is one of part 0. Below a node of
-- a part, the kids lead on by the part's form: the record's first kid is its body; a struct's kids are its
-- parts; the one kid of a union is the branch that its value names; an array's kids are its elements. A kid
-- is a node of the part that stands below by that step, if there is one; else neither it nor what is below
-- it belongs to any.
use Rattle.std.specs.Prelude.{ℕ, zero, suc, ◌+◌, ◌&&◌, Bool, true, false, nat_eq, List, [], ◌∷◌, ◌++◌, position, Option, Some, None, option_map, slice_get}
use Rattle.pads_value.specs.Header.{is_ok_class}
use Rattle.pads_value.specs.declared.descriptor.Pd.{Pd, Pd-F, fold-Pd}
use Rattle.pads_value.specs.declared.row.Row.{Row}
use Rattle.pads_value.specs.declared.value.Val.{Val}
use Rattle.pads_forms.specs.Slots.{tuple_of, array_of, branch_of}
use Rattle.pads_sums.specs.declared.form.PartForm.{PartForm}
use Rattle.pads_sums.specs.declared.form.PartForm.TheVariants as form
use Rattle.pads_plan.specs.declared.part.PlanPart.{PlanPart}
use Rattle.pads_plan.specs.declared.part.Step.{Step}
use Rattle.pads_plan.specs.declared.part.Step.TheVariants as step
use Rattle.pads_sums.specs.Nodes.{Node}

-- a node and the number of its part
pub record Placed : Type 0 where
  pub part : ℕ
  pub node : Node

abbrev pub same_step : Step → Step → Bool
same_step step.Record step.Record = true
same_step step.Record step.Body = false
same_step step.Record (step.Part k) = false
same_step step.Record (step.Branch k) = false
same_step step.Record step.Each = false
same_step step.Body step.Record = false
same_step step.Body step.Body = true
same_step step.Body (step.Part k) = false
same_step step.Body (step.Branch k) = false
same_step step.Body step.Each = false
same_step (step.Part i) step.Record = false
same_step (step.Part i) step.Body = false
same_step (step.Part i) (step.Part k) = nat_eq i k
same_step (step.Part i) (step.Branch k) = false
same_step (step.Part i) step.Each = false
same_step (step.Branch i) step.Record = false
same_step (step.Branch i) step.Body = false
same_step (step.Branch i) (step.Part k) = false
same_step (step.Branch i) (step.Branch k) = nat_eq i k
same_step (step.Branch i) step.Each = false
same_step step.Each step.Record = false
same_step step.Each step.Body = false
same_step step.Each (step.Part k) = false
same_step step.Each (step.Branch k) = false
same_step step.Each step.Each = true

-- the step to a kid, and the kid's value where that is known
abbrev pub Kid : Type 0
Kid = Option (Step × Option Val)

abbrev pub body_kid : Option Val → ℕ → Kid
body_kid v zero = Some (step.Body, v)
body_kid v (suc k) = None

abbrev pub branch_kid : Option (ℕ × Val) → ℕ → Kid
branch_kid None k = None
branch_kid (Some branch) zero = Some (step.Branch branch.0, Some branch.1)
branch_kid (Some branch) (suc k) = None

-- kid number k of a node with this value
abbrev pub kid_of : Option PartForm → Option Val → ℕ → Kid
kid_of None v k = None
kid_of (Some form.Record) v k = body_kid v k
kid_of (Some form.Bare) v k = None
kid_of (Some form.Number) v k = None
kid_of (Some form.Text) v k = None
kid_of (Some form.Address) v k = None
kid_of (Some (form.Label names)) v k = None
kid_of (Some form.Fields) v k = Some (step.Part k, slice_get (tuple_of v) k)
kid_of (Some (form.Branch names)) v k = branch_kid (branch_of v) k
kid_of (Some form.Elements) v k = Some (step.Each, slice_get (array_of v) k)

-- the nodes at a part's number, by the value there
abbrev pub Placing : Type 0
Placing = ℕ → Option Val → List Placed

abbrev pub if_below : Option ℕ → Option Val → Placing → List Placed
if_below None v kid = []
if_below (Some part) v kid = kid part v

module _ (parts : List PlanPart) where
  abbrev pub form_at : ℕ → Option PartForm
  form_at part = option_map (λ part. part.form) (slice_get parts part)

  -- the number of the part that stands below another by a step
  abbrev pub below : ℕ → Step → Option ℕ
  below up step = position (λ part. nat_eq part.up up && same_step part.step step) parts

  abbrev pub kid_placed : ℕ → Kid → Placing → List Placed
  kid_placed up None kid = []
  kid_placed up (Some given) kid = if_below (below up given.0) given.1 kid

  abbrev pub kids_placed : ℕ → Option Val → ℕ → List Placing → List Placed
  kids_placed part v k [] = []
  kids_placed part v k (kid ∷ kids) = kid_placed part (kid_of (form_at part) v k) kid ++ kids_placed part v (k + 1) kids

  abbrev pub placing_step : Pd-F Placing → Placing
  placing_step node part v =
      record { part = part; node = record { value = v; clean = is_ok_class node.class } } ∷ kids_placed part v 0 node.kids

  -- a node of a part, and all nodes below it
  unfoldable pub placed : Pd → Placing
  placed = fold-Pd Placing placing_step

  -- the nodes of a row
  abbrev pub row_nodes : Row → List Placed
  row_nodes row = placed row.pd 0 (Some row.value)
