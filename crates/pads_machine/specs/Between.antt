-- Between two elements of an array, by the code and the bytes: its terminator is missing, the record goes on, and its
-- separator stands.
use Rattle.std.specs.Prelude.{◌≡◌, ℕ, ◌+◌, ◌<◌, ◌⊎◌, true, false, nat_eq, List, drop, length, reverse, Some, slice_get}
use Rattle.std.specs.List.{starts_with}
use Rattle.pads_calc.specs.declared.reading.Reading.{Reading}
use Rattle.pads_calc.specs.Arrays.{is_full}
use Rattle.pads_calc.specs.Leaves.{at_end, lit_of}
use Rattle.pads_calc.specs.Readings.{Subject, is_ok}
use Rattle.pads_image.specs.declared.op.Op.{Op}
use Rattle.pads_image.specs.declared.op.Op.TheVariants as op
use Rattle.pads_machine.specs.declared.node.Node.{Node}
use Rattle.pads_machine.specs.declared.state.State.{State}

-- what an instruction looks for isn't at a place: the end of the record, or a literal
abbrev pub IsUnmet : Subject → Op → ℕ → Type 0
IsUnmet subject instruction i =
    ((instruction ≡ op.Eor) × (at_end subject.bytes i ≡ false))
    ⊎ ((literal : List ℕ) × (instruction ≡ op.Lit literal) × (starts_with nat_eq (drop i subject.bytes) literal ≡ false))

-- from an address on a terminator is looked for, which isn't at a place
pub record IsMissed (code : List Op) (subject : Subject) (address i : ℕ) : Type 0 where
  pub mark : slice_get code address ≡ Some op.Mark
  pub instruction : Op
  pub there : slice_get code (address + 1) ≡ Some instruction
  pub unmet : IsUnmet subject instruction i
  pub stop : (to : ℕ) × (slice_get code (address + 2) ≡ Some (op.Stop to))

-- an array that isn't full comes to an address, and goes on at another one: at the same, or behind a terminator that is missing
abbrev pub IsEdge : List Op → Subject → ℕ → ℕ → ℕ → Type 0
IsEdge code subject address i edge = (edge ≡ address) ⊎ (IsMissed code subject address i × (edge ≡ address + 3))

-- from an address on an array looks whether the record ends, begins a turn, and reads a literal as its separator
pub record IsSeparator (code : List Op) (edge : ℕ) (literal : List ℕ) : Type 0 where
  pub edges : (to : ℕ) × (slice_get code edge ≡ Some (op.Edge to))
  pub turns : (to : ℕ) × (slice_get code (edge + 1) ≡ Some (op.Turn to))
  pub reads : slice_get code (edge + 2) ≡ Some (op.Lit literal)
  pub drops : slice_get code (edge + 3) ≡ Some op.Absorb
  pub separates : (to : ℕ) × (slice_get code (edge + 4) ≡ Some (op.Sep to))

-- the latest array has elements and isn't full, the record goes on, and so does the array, at an address
pub record HasMore (code : List Op) (subject : Subject) (edge : ℕ) (m : State) : Type 0 where
  pub node : Node
  pub latest : slice_get (reverse m.nodes.items) 0 ≡ Some node
  pub later : 0 < length node.values.items
  pub unfilled : is_full node.size (length node.values.items) ≡ false
  pub on : at_end subject.bytes m.last.place ≡ false
  pub goes_on : IsEdge code subject (m.address + 1) m.last.place edge

-- its separator is read from an address on, at a place, and is there
abbrev pub IsSeparated : List Op → Subject → ℕ → ℕ → Reading → Type 0
IsSeparated code subject edge i r = (literal : List ℕ) × IsSeparator code edge literal × (r ≡ lit_of subject literal i) × (is_ok r ≡ true)
