-- Branches that can't be clean.
use Rattle.std.specs.Prelude.{◌≡◌, ℕ, ◌≤◌, false, List, drop, length, Some, slice_get}
use Rattle.pads_calc.specs.Leaves.{lit_of}
use Rattle.pads_calc.specs.Readings.{Subject, is_ok}
use Rattle.pads_image.specs.declared.entry.Entry.{Entry}
use Rattle.pads_image.specs.declared.op.Op.{Op}
use Rattle.pads_image.specs.declared.op.Op.TheVariants as op
use Rattle.pads_image.specs.Beginnings.{begins_with}
use Rattle.pads_image.specs.States.{base_of}
use Rattle.pads_idle.specs.Idle.{IsGuarded}
use Rattle.pads_machine.specs.declared.state.State.{State}
use Rattle.pads_machine.specs.Shown.{shown}

-- a declaration's code begins with a literal
abbrev pub BeginsWith : List Op → List Entry → ℕ → List ℕ → Type 0
BeginsWith code of_entries number literal = (entry : Entry) × (slice_get of_entries number ≡ Some entry) × (begins_with (drop entry.first code) ≡ Some literal)

-- and that is missing at a place
abbrev pub IsMissing : List Op → List Entry → Subject → ℕ → ℕ → Type 0
IsMissing code of_entries subject number place = (literal : List ℕ) × BeginsWith code of_entries number literal × (is_ok (lit_of subject literal place) ≡ false)

-- a branch ends at an address
abbrev pub IsTry : List Op → ℕ → Type 0
IsTry code address = (number : ℕ) × (to : ℕ) × (slice_get code address ≡ Some (op.Try number to))

-- a branch of which no more is left from an address on but its constraint, if it has one, ends at another one
pub record EndsBranch (code : List Op) (address end : ℕ) : Type 0 where
  pub guarded : IsGuarded code address end
  pub tries : IsTry code end

-- a call of the declaration here begins with a literal that is missing
pub record IsHopeless (code : List Op) (of_entries : List Entry) (subject : Subject) (number : ℕ) (m : State) : Type 0 where
  pub sane : base_of (shown m).callers ≤ length m.bindings.items
  pub missing : IsMissing code of_entries subject number m.last.place
