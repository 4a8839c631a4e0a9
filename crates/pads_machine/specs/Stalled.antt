-- Turns that are sure to be undone: an array has an element, and goes on with one that takes no byte.
use Rattle.std.specs.Prelude.{◌≡◌, ℕ, ◌+◌, ◌<◌, ◌⊎◌, false, List, length, reverse, Some, slice_get}
use Rattle.pads_calc.specs.Readings.{Subject}
use Rattle.pads_image.specs.declared.entry.Entry.{Entry}
use Rattle.pads_image.specs.declared.op.Op.{Op}
use Rattle.pads_image.specs.declared.op.Op.TheVariants as op
use Rattle.pads_image.specs.States.{seen}
use Rattle.pads_idle.specs.Idle.{IdlesTo}
use Rattle.pads_machine.specs.declared.known.Call.{Call}
use Rattle.pads_machine.specs.declared.known.Outcome.{Outcome}
use Rattle.pads_machine.specs.declared.node.Node.{Node}
use Rattle.pads_machine.specs.declared.state.State.{State}
use Rattle.pads_machine.specs.Known.{HasOutcome, IsCall}
use Rattle.pads_machine.specs.Shown.{shown}

-- the latest array has an element, and no binding of its own
pub record IsStanding (m : State) : Type 0 where
  pub node : Node
  pub latest : slice_get (reverse m.nodes.items) 0 ≡ Some node
  pub later : 0 < length node.values.items
  pub alone : node.base ≡ length m.bindings.items

-- the call at the next address is known to take no byte and not to fail
abbrev pub IsKnownIdle : List Op → List Entry → Subject → State → Type 0
IsKnownIdle code of_entries subject m =
    (call : Call)
    × (outcome : Outcome)
    × IsCall code (m.address + 1) call m
    × HasOutcome code of_entries subject call outcome
    × (outcome.failed ≡ false)
    × (outcome.place ≡ call.place)

-- from the next address on to another one an element is read that takes no byte at this place, and doesn't fail: so the
-- code shows, or so it is known
abbrev pub TakesNone : List Op → List Entry → Subject → ℕ → State → Type 0
TakesNone code of_entries subject behind m =
    IdlesTo code of_entries subject m.last.place (seen (shown m)) m.depth (m.address + 1) behind
    ⊎ (IsKnownIdle code of_entries subject m × (behind ≡ m.address + 2))

-- such an array goes on with an element that takes no byte at this place, and where it is undone it ends at an address
pub record IsStalled (code : List Op) (of_entries : List Entry) (subject : Subject) (to : ℕ) (m : State) : Type 0 where
  pub standing : IsStanding m
  pub behind : ℕ
  pub element : TakesNone code of_entries subject behind m
  pub elem : (again : ℕ) × (slice_get code behind ≡ Some (op.Elem to again))
  pub shut : slice_get code to ≡ Some op.Shut
