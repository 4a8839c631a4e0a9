-- Structs that can't be clean, in a call that is a branch.
use Rattle.std.specs.Prelude.{◌≡◌, ℕ, zero, suc, ◌+◌, ◌-◌, ◌<◌, ◌≤◌, false, List, ◌++◌, drop, length, reverse, Option, Some, slice_get}
use Rattle.pads_value.specs.Header.{all_clean}
use Rattle.pads_calc.specs.declared.term.Term.{Term}
use Rattle.pads_image.specs.declared.op.Op.{Op}
use Rattle.pads_image.specs.declared.op.Op.TheVariants as op
use Rattle.pads_image.specs.Blocks.{layout, single}
use Rattle.pads_machine.specs.declared.doomed.Doomed.{Doomed}
use Rattle.pads_machine.specs.declared.node.Caller.{Caller}
use Rattle.pads_machine.specs.declared.node.Node.{Node}
use Rattle.pads_machine.specs.declared.state.State.{State}
use Rattle.pads_idle.specs.Idle.{Ends}
use Rattle.pads_machine.specs.Missing.{EndsBranch}

-- the code of a term stands from an address on to another one
abbrev pub IsTerm : List Op → ℕ → ℕ → Type 0
IsTerm code first next = (t : Term) × (rest : List Op) × (drop first code ≡ (layout t).code first ++ rest) × (next ≡ first + (layout t).size)

-- one instruction at an address is all of a term
abbrev pub IsOne : List Op → ℕ → Type 0
IsOne code address = (t : Term) × (instruction : Op) × (layout t ≡ single instruction) × (slice_get code address ≡ Some instruction)

-- from an address on to another one a part of a struct is read and kept
abbrev pub IsPart : List Op → ℕ → ℕ → Type 0
IsPart code first next = (kept : ℕ) × (name : Option ℕ) × IsTerm code first kept × (slice_get code kept ≡ Some (op.Part name)) × (next ≡ kept + 1)

-- and so many of them
abbrev pub AreParts : List Op → ℕ → ℕ → ℕ → Type 0
AreParts code first zero next = next ≡ first
AreParts code first (suc count) next = (last : ℕ) × AreParts code first count last × IsPart code last next

-- from an address on a declaration's struct has such parts, and then both end
pub record EndsStruct (code : List Op) (address : ℕ) : Type 0 where
  pub count : ℕ
  pub closes_at : ℕ
  pub parts : AreParts code address count closes_at
  pub close : (names : ℕ) × (slice_get code closes_at ≡ Some (op.Close names))
  pub ends : Ends code (closes_at + 1)

-- the latest struct has a part that isn't clean, its declaration ends with it, and the latest call is a branch of which no
-- more is left but its constraint, if it has one
pub record IsDoomed (code : List Op) (doomed : Doomed) (m : State) : Type 0 where
  pub rest : EndsStruct code m.address
  pub node : Node
  pub latest : slice_get (reverse m.nodes.items) 0 ≡ Some node
  pub unclean : all_clean node.pds.items ≡ false
  pub names_are : doomed.names ≡ length m.bindings.items - node.base
  pub caller : Caller
  pub called : slice_get (reverse m.callers.items) 0 ≡ Some caller
  pub ends : EndsBranch code caller.back doomed.end
  pub marked : 0 < length m.marks.items
  pub sane : caller.base ≤ length m.bindings.items
