-- What a machine answers for a record: the row of the reading with which its run halts.
use Rattle.std.specs.Prelude.{◌≡◌, ℕ, zero, suc, ◌≤◌, List, [], Option, Some, None, slice_get}
use Rattle.pads_value.specs.Cuts.{Cut}
use Rattle.pads_value.specs.declared.row.Row.{Row}
use Rattle.pads_calc.specs.declared.decl.Decl.{Decl}
use Rattle.pads_calc.specs.declared.decl.Shape.{Shape}
use Rattle.pads_calc.specs.declared.reading.Reading.{Reading}
use Rattle.pads_calc.specs.Leaves.{unit_of}
use Rattle.pads_calc.specs.Readings.{Subject}
use Rattle.pads_calc.specs.Rows.{kept_by, row_by, row_of, subject_of_cut, type_of}
use Rattle.pads_image.specs.declared.entry.Entry.{Entry}
use Rattle.pads_image.specs.declared.op.Op.{Op}
use Rattle.pads_image.specs.Heights.{inside}
use Rattle.pads_image.specs.Skeletons.{kept_in}
use Rattle.pads_image.specs.States.{State, entries}
use Rattle.pads_image.specs.Steps.{Goes, Halts, step}

-- the first address of a declaration
abbrev pub first_of : Option Entry → ℕ
first_of None = 0
first_of (Some entry) = entry.first

-- the state in which a declaration's run starts, at the record's first byte
abbrev pub start : List Entry → Subject → ℕ → State
start entries subject number = record {
  at_ = first_of (slice_get entries number);
  last = unit_of subject.origin 0;
  depth = inside;
  bindings = [];
  nodes = [];
  marks = [];
  callers = [];
}

-- of some code: so many steps lead from a state to a state, before none of which the stacks have more
-- entries than `most`
module _ (code : List Op) (of_entries : List Entry) (subject : Subject) (most : ℕ) where
  abbrev pub Runs : ℕ → State → State → Type 0
  Runs zero s u = s ≡ u
  Runs (suc n) s u = (entries s ≤ most) × (t : State) × (step of_entries subject code s ≡ Goes t) × Runs n t u

  pub record Reaches (s u : State) : Type 0 where
    pub steps : ℕ
    pub run : Runs steps s u

  -- a run that halts with a reading
  pub record HaltsWith (s : State) (r : Reading) : Type 0 where
    pub end : State
    pub reached : Reaches s end
    pub within : entries end ≤ most
    pub halts : step of_entries subject code end ≡ Halts
    pub last : end.last ≡ r

-- the row of a record by its number: that of what is kept of the reading with which the run of its type halts, over stacks
-- that never have more entries than `most`, where a search passes over so many bytes at most
abbrev pub Answers : List Op → List Entry → Shape → ℕ → ℕ → ℕ → Cut → Row → Type 0
Answers code of_entries shape scan most number cut row =
    (r : Reading)
    × HaltsWith code of_entries (subject_of_cut scan cut) most (start of_entries (subject_of_cut scan cut) (type_of shape number)) r
    × (row ≡ row_by cut.mark number cut (kept_by (kept_in of_entries) (type_of shape number) r))

-- code stands for declarations: it answers the calculus' row for each record, however far a search goes
abbrev pub StandsFor : List Op → List Entry → Shape → ℕ → List Decl → Type 0
StandsFor code of_entries shape most decls =
    (scan number : ℕ) (cut : Cut) → Answers code of_entries shape scan most number cut (row_of decls shape scan number cut)
