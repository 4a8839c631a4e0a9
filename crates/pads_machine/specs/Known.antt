-- What is known of calls in a record: what the calculus reads them as, in short.
use Rattle.std.specs.Prelude.{◌≡◌, ℕ, suc, ◌+◌, ◌≤◌, true, All, List, [], length, get_or, nat_le, Option, None, Some, reverse, slice_get}
use Rattle.std.specs.List.{list_all}
use Rattle.pads_value.specs.declared.descriptor.Pd.{out-Pd}
use Rattle.pads_expr.specs.declared.expr.Expr.{Expr}
use Rattle.pads_expr.specs.Value.{Pairs}
use Rattle.pads_calc.specs.declared.decl.Decl.{Decl}
use Rattle.pads_calc.specs.declared.reading.Reading.{Reading}
use Rattle.pads_calc.specs.Arrays.{is_fail_class}
use Rattle.pads_calc.specs.Arguments.{arguments, bound_to}
use Rattle.pads_calc.specs.Calculus.{body_of, caller, read}
use Rattle.pads_calc.specs.Leaves.{unit_of}
use Rattle.pads_calc.specs.Readings.{Subject, is_ok}
use Rattle.pads_calc.specs.Wrappers.{guard_of}
use Rattle.pads_module.specs.Counts.{few}
use Rattle.pads_image.specs.declared.entry.Entry.{Entry}
use Rattle.pads_image.specs.declared.op.Op.{Op}
use Rattle.pads_image.specs.Code.{IsCodeOf}
use Rattle.pads_image.specs.declared.op.Op.TheVariants as op
use Rattle.pads_image.specs.States.{State as Stacks, base_of, seen}
use Rattle.pads_image.specs.Heights.{inside, needs}
use Rattle.pads_image.specs.Validity.{arities_of, longest}
use Rattle.pads_machine.specs.declared.constraint.Constraint.{Constraint}
use Rattle.pads_machine.specs.declared.known.Call.{Call}
use Rattle.pads_machine.specs.declared.known.Fact.{Fact}
use Rattle.pads_machine.specs.declared.known.Known.{Known}
use Rattle.pads_machine.specs.declared.known.Outcome.{Outcome}
use Rattle.pads_machine.specs.declared.state.State.{State}
use Rattle.pads_machine.specs.Held.{Roomy}
use Rattle.pads_machine.specs.Shown.{shown}

-- a reading behind the constraint that stands at an address
abbrev pub guarded_by : Option Op → Pairs → Reading → Reading
guarded_by (Some (op.Guard binder condition)) env r = guard_of binder condition env r
guarded_by _ env r = r

-- and behind that of a branch, if it has one
abbrev pub behind_constraint : List Op → Option Constraint → Reading → Reading
behind_constraint code None r = r
behind_constraint code (Some constraint) r = guarded_by (slice_get code constraint.address) (reverse constraint.seen) r

-- the outcome of a reading: whether it is clean with a constraint, whether it failed, and where it ends
abbrev pub outcome_with : List Op → Option Constraint → Reading → Outcome
outcome_with code constraint r = record {
  clean = is_ok (behind_constraint code constraint r);
  failed = is_fail_class (out-Pd r.pd).class;
  place = r.place;
}

-- what a call reads as: the body of its declaration, with what its arguments stand for
abbrev pub reading_of : List Decl → Subject → Call → Reading
reading_of decls subject call =
    body_of subject.origin (read subject (caller subject decls call.depth)) (slice_get decls call.number) (Some call.args) call.place

-- a call of declarations of which this is the code has such an outcome
abbrev pub HasOutcome : List Op → List Entry → Subject → Call → Outcome → Type 0
HasOutcome code of_entries subject call outcome =
    (decls : List Decl) → IsCodeOf decls code of_entries → outcome ≡ outcome_with code call.constraint (reading_of decls subject call)

-- what was read last is what such a call reads as
abbrev pub HasRead : List Op → List Entry → Subject → Call → State → Type 0
HasRead code of_entries subject call m = (decls : List Decl) → IsCodeOf decls code of_entries → m.last ≡ reading_of decls subject call

-- such an outcome has what is kept of a call, if anything is
abbrev pub Holds : List Op → List Entry → Subject → Option Fact → Type 0
Holds code of_entries subject None = Unit {0}
Holds code of_entries subject (Some fact) = HasOutcome code of_entries subject fact.call fact.outcome

-- and of all that is known
abbrev pub Knows : List Op → List Entry → Subject → Known → Type 0
Knows code of_entries subject known = All (Holds code of_entries subject) known.slots.items

-- code and entries that an image may have: not too many instructions, and not too many parameters
abbrev pub AreCounted : List Op → List Entry → Type 0
AreCounted code of_entries = (nat_le (length code) longest ≡ true) × (list_all (λ (entry : Entry). few entry.params) of_entries ≡ true)

-- where the run of a call begins, over stacks of its own
abbrev pub begun_at : Subject → Entry → Call → Stacks
begun_at subject entry call = record {
  at_ = entry.first;
  last = unit_of subject.origin call.place;
  depth = call.depth;
  bindings = bound_to entry.params call.args [];
  nodes = [];
  marks = [];
  callers = [];
}

-- at an address such a call is made, if the machine comes there as it is
pub record IsCall (code : List Op) (address : ℕ) (call : Call) (m : State) : Type 0 where
  pub args : List Expr
  pub there : slice_get code address ≡ Some (op.Call call.number args)
  pub worth : arguments args (seen (shown m)) ≡ Some call.args
  pub depth : m.depth ≡ suc call.depth
  pub place : call.place ≡ m.last.place
  pub sane : base_of (shown m).callers ≤ length m.bindings.items

-- behind an address nothing is left of a branch up to another one but its constraint, if it has one
abbrev pub IsRest : List Op → ℕ → ℕ → Option Constraint → State → Type 0
IsRest code address end None m = end ≡ address
IsRest code address end (Some constraint) m =
    (binder : ℕ)
    × (condition : Expr)
    × (slice_get code address ≡ Some (op.Guard binder condition))
    × (constraint.address ≡ address)
    × (reverse constraint.seen ≡ seen (shown m))
    × (end ≡ address + 1)

-- here such a call is made, and it is a branch that ends at an address
pub record IsBranch (code : List Op) (end : ℕ) (call : Call) (m : State) : Type 0 where
  pub call_is : IsCall code m.address call m
  pub rest : IsRest code (m.address + 1) end call.constraint m

-- other stacks, on which each call has room
pub record IsSpare (code : List Op) (of_entries : List Entry) (m : State) : Type 0 where
  pub roomy : Roomy m.room m
  pub room : (number : ℕ) → get_or (needs code (arities_of of_entries) inside) number 0 ≤ m.room
