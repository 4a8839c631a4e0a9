-- What comes of an instruction, as the code tells it.
use Rattle.std.specs.Prelude.{◌≡◌, ℕ, ◌+◌, ◌≤◌, ◌⊎◌, Bool, true, false, not, ◌&&◌, nat_eq, List, ◌∷◌, length, Option, Some, None, slice_get, if◌then◌else◌}
use Rattle.pads_value.specs.declared.cause.Cause.{Cause}
use Rattle.pads_value.specs.declared.cause.Cause.TheVariants as cause
use Rattle.pads_value.specs.declared.descriptor.Pd.{out-Pd}
use Rattle.pads_calc.specs.Arrays.{is_fail_class}
use Rattle.pads_dispatch.specs.Labels.{labels_fit}
use Rattle.pads_calc.specs.declared.reading.Reading.{Reading}
use Rattle.pads_calc.specs.Leaves.{lit_of}
use Rattle.pads_calc.specs.Readings.{Subject, is_ok}
use Rattle.pads_image.specs.declared.entry.Entry.{Entry}
use Rattle.pads_image.specs.declared.op.Op.{Op}
use Rattle.pads_image.specs.declared.op.Op.TheVariants as op
use Rattle.pads_image.specs.Answers.{HaltsWith, Reaches}
use Rattle.pads_image.specs.States.{State, entries}
use Rattle.pads_image.specs.Steps.{Step, Goes, Halts, Stuck, began, new_node, step}
use Rattle.pads_machine.specs.declared.step.Next.{Next}
use Rattle.pads_machine.specs.declared.step.Next.TheVariants as next
use Rattle.pads_machine.specs.declared.state.State.{State as Machine}
use Rattle.pads_machine.specs.Held.{Placed}

-- there is a step, and the next state has at most so many stack entries
abbrev pub GoesWithin : ℕ → Step → Type 0
GoesWithin room (Goes t) = entries t ≤ room
GoesWithin room Halts = Unit {0}
GoesWithin room Stuck = ⊥

-- what is told of a step from a state, and the state behind it. Where the run halts, what was read last
-- is as it was
abbrev pub Tells : Next → Step → State → State → Type 0
Tells next.Goes made s t = made ≡ Goes t
Tells next.Searches made s t = made ≡ Goes t
Tells next.Halts made s t = (made ≡ Halts) × (t.last ≡ s.last)
Tells next.Asks made s t = ⊥

-- a step, and then any number of them
pub record Leads (code : List Op) (of_entries : List Entry) (subject : Subject) (most : ℕ) (s u : State) : Type 0 where
  pub next_ : State
  pub goes : step of_entries subject code s ≡ Goes next_
  pub more : Reaches code of_entries subject most next_ u

-- what is told of steps from a state, one at least, and the state behind them
abbrev pub Advances : List Op → List Entry → Subject → ℕ → Next → State → State → Type 0
Advances code of_entries subject most next.Goes s t = Leads code of_entries subject most s t
Advances code of_entries subject most next.Searches s t = Leads code of_entries subject most s t
Advances code of_entries subject most next.Halts s t = (step of_entries subject code s ≡ Halts) × (t.last ≡ s.last)
Advances code of_entries subject most next.Asks s t = t ≡ s

-- something was done
abbrev pub AsksNothing : Next → Type 0
AsksNothing next.Asks = ⊥
AsksNothing _ = Unit {0}

-- the instructions of terms without a term in them, or around one
abbrev pub is_leaf : Op → Bool
is_leaf op.Unit = true
is_leaf (op.Lit literal) = true
is_leaf op.Eor = true
is_leaf (op.Base base args) = true
is_leaf (op.Compute e form) = true
is_leaf op.Absorb = true
is_leaf (op.Guard binder condition) = true
is_leaf _ = false

-- and those of arrays
abbrev pub is_of_array : Op → Bool
is_of_array (op.Size size to) = true
is_of_array (op.Full last elts to) = true
is_of_array (op.Stop to) = true
is_of_array (op.Edge to) = true
is_of_array (op.Turn to) = true
is_of_array (op.Sep to) = true
is_of_array (op.Elem to again) = true
is_of_array op.Shut = true
is_of_array _ = false

-- 16 bits count the labels of an enum
abbrev pub labels_stand : Op → Bool
labels_stand (op.Base base args) = labels_fit base
labels_stand _ = true

-- a run from a state halts after so many steps at most, over stacks that never have more entries than `most`
abbrev pub Halting : List Op → List Entry → Subject → ℕ → ℕ → State → Type 0
Halting code of_entries subject most steps s = (r : Reading) × (h : HaltsWith code of_entries subject most s r) × (h.reached.steps ≤ steps)

-- a struct, or an array of a size, begins
abbrev pub opens : Option ℕ → State → Step
opens size s = Goes (record s { at_ = s.at_ + 1; nodes = new_node s.last.place (length s.bindings) size ∷ s.nodes })

-- places stay places of the record
abbrev pub StaysPlaced : Machine → Machine → Type 0
StaysPlaced old new = (most : ℕ) → Placed most old → Placed most new

-- why a turn is undone that began at a place and has read so
abbrev pub undone_by : ℕ → Reading → Bool → ℕ → Option Cause
undone_by origin r is_first place =
    if is_fail_class (out-Pd r.pd).class && nat_eq r.place (began origin r) then Some cause.ArrayElem
    else if not is_first && nat_eq r.place place then Some cause.ArrayStall
    else None

-- a literal that is a part of a struct from an address on, without a name: where its search begins, it, what
-- drops its value, where the search ends, and what keeps it
abbrev pub IsLiteralPart : List Op → ℕ → List ℕ → Type 0
IsLiteralPart code address literal =
    (slice_get code address ≡ Some op.ScanFrom)
    × (slice_get code (address + 1) ≡ Some (op.Lit literal))
    × (slice_get code (address + 2) ≡ Some op.Absorb)
    × (slice_get code (address + 3) ≡ Some (op.ScanOn (address + 1)))
    × (slice_get code (address + 4) ≡ Some (op.Part None))

-- such a literal stands at the place, and reads so
abbrev pub StandsAsPart : List Op → Subject → State → Reading → Type 0
StandsAsPart code subject s r = (literal : List ℕ) × IsLiteralPart code s.at_ literal × (r ≡ lit_of subject literal s.last.place) × (is_ok r ≡ true)

-- a search of a literal from an address on, its value kept or not
abbrev pub IsSearch : List Op → ℕ → List ℕ → Type 0
IsSearch code address literal =
    (slice_get code address ≡ Some (op.Lit literal))
    × ((slice_get code (address + 1) ≡ Some (op.ScanOn address))
    ⊎ ((slice_get code (address + 1) ≡ Some op.Absorb) × (slice_get code (address + 2) ≡ Some (op.ScanOn address))))
