-- The kids that a term gives to a node: for kid number p the step to it, its value and its term. A struct
-- has a kid for each part, a union one for the branch chosen, an array one for each element. All other
-- kids aren't the term's. Where the node's value has another form, a kid's value isn't known.
use Rattle.std.specs.Prelude.{ℕ, zero, suc, List, [], Option, Some, None, slice_get, unwrap_or}
use Rattle.pads_value.specs.declared.value.Val.{Val, out-Val}
use Rattle.pads_calc.specs.declared.term.Arm.{Arm}
use Rattle.pads_calc.specs.declared.term.Case.{Case}
use Rattle.pads_calc.specs.declared.term.Part.{Part}
use Rattle.pads_calc.specs.declared.term.Seq.{Seq}
use Rattle.pads_calc.specs.declared.term.Term.{Term, Term-F, out-Term}
use Rattle.pads_forms.specs.Shapes.{tuple_in, branch_in, array_in}
use Rattle.pads_forms.specs.Steps.{Step, named, unnamed, element, step_seen}
use Rattle.pads_forms.specs.Terms.{name_at, arm_in}
use Rattle.pads_forms.specs.declared.slot.Slot.{Slot as CodeSlot}
use Rattle.std.specs.Option.{option_copied}

pub record Slot : Type 0 where
  pub step : Step
  pub value : Option Val
  pub term : Term

-- the values of a struct's parts and of an array's elements, and a union's branch with its value
abbrev pub tuple_of : Option Val → List Val
tuple_of None = []
tuple_of (Some v) = unwrap_or (tuple_in (out-Val v)) []

abbrev pub array_of : Option Val → List Val
array_of None = []
array_of (Some v) = unwrap_or (array_in (out-Val v)) []

abbrev pub branch_of : Option Val → Option (ℕ × Val)
branch_of None = None
branch_of (Some v) = branch_in (out-Val v)

module _ (names : List (List ℕ)) where
  abbrev pub part_step : ℕ → Option ℕ → Step
  part_step number None = unnamed number
  part_step number (Some name) = named (name_at names name)

  abbrev pub part_slot : ℕ → Option Val → Option Part → Option Slot
  part_slot number value None = None
  part_slot number value (Some part) = Some (record { step = part_step number part.name; value = value; term = part.term })

  abbrev pub arm_slot : Option Arm → Val → Option Slot
  arm_slot None value = None
  arm_slot (Some arm) value = Some (record { step = named (name_at names arm.name); value = Some value; term = arm.term })

  abbrev pub branch_slot : Term-F Term Arm Case Part Seq → Option (ℕ × Val) → ℕ → Option Slot
  branch_slot t None number = None
  branch_slot t (Some branch) zero = arm_slot (arm_in t branch.0) branch.1
  branch_slot t (Some branch) (suc number) = None

  abbrev pub slot_in : Term-F Term Arm Case Part Seq → Option Val → ℕ → Option Slot
  slot_in Term-F.Unit v number = None
  slot_in (Term-F.Base base args) v number = None
  slot_in (Term-F.Lit literal) v number = None
  slot_in Term-F.Eor v number = None
  slot_in (Term-F.Struct parts) v number = part_slot number (slice_get (tuple_of v) number) (slice_get parts number)
  slot_in (Term-F.Alt arms) v number = branch_slot (Term-F.Alt arms) (branch_of v) number
  slot_in (Term-F.Switch e cases) v number = branch_slot (Term-F.Switch e cases) (branch_of v) number
  slot_in (Term-F.Guard inner binder condition) v number = None
  slot_in (Term-F.Seq s) v number = Some (record { step = element number; value = slice_get (array_of v) number; term = s.elem })
  slot_in (Term-F.Call name args) v number = None
  slot_in (Term-F.Compute e form) v number = None
  slot_in (Term-F.Absorb inner) v number = None
  slot_in (Term-F.Scan inner) v number = None

  abbrev pub slot : Term → Option Val → ℕ → Option Slot
  slot t v number = slot_in (out-Term t) v number

-- the kid that the code has found
abbrev pub slot_seen : CodeSlot → Slot
slot_seen found = record { step = step_seen found.step; value = option_copied found.value; term = found.term.now }
