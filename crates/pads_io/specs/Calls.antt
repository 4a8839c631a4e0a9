-- What was done to objects of the outside world, call by call. Each object says what a call that moved so many bytes may have
-- made of it. From that these say that one state came from another by calls in a certain order, and by nothing else.
use Rattle.std.specs.Prelude.{◌≡◌, ℕ, ◌⊎◌, nat_lt, Bool, true, false, List, Option, None, Some, is_some, Result, Ok, Err, OnOk}

-- how many bytes a call moved, or none where it failed
abbrev pub moved : {E : Type 0} → Result ℕ E → Option ℕ
moved (Ok count) = Some count
moved (Err failed) = None

-- a read of a file: its name, the offset, and how many bytes it gave, or none where it failed
pub record ReadAt : Type 0 where
  pub name : List ℕ
  pub at : ℕ
  pub count : Option ℕ

abbrev pub read_of : {E : Type 0} → List ℕ → ℕ → Result ℕ E → ReadAt
read_of name at result = record { name = name; at = at; count = moved result }

-- steps of a kind, one after the other, lead from one state to another
pub data Many {State : Type 0} (Step : State → State → Type 0) : State → State → Type 0 where
  stays : {s : State} → Many Step s s
  goes : {s t u : State} → Many Step s t → Step t u → Many Step s u

-- A write on a sink of which no write has failed before, and whether it failed.
abbrev pub Write : {K : Type 0} → (K → Option ℕ → K → Type 0) → Bool × K → Bool × K → Type 0
Write gives before after = (count : Option ℕ) × (before.0 ≡ true) × gives before.1 count after.1 × (after.0 ≡ is_some count)

-- Writes led from one state of a sink to another, and none comes behind one that failed. `well` says that none failed.
abbrev pub Writes : {K : Type 0} → (K → Option ℕ → K → Type 0) → K → K → Bool → Type 0
Writes gives before after well = Many (Write gives) (true, before) (well, after)

-- A source and two sinks, as a run has them: whether each read so far gave some bytes, and whether no write has failed.
pub record World (S K E : Type 0) : Type 0 where
  pub gave : Bool
  pub well : Bool
  pub source : S
  pub out : K
  pub notes : E

abbrev pub world : {S K E : Type 0} → Bool → Bool → S → K → E → World S K E
world gave well source out notes = record { gave = gave; well = well; source = source; out = out; notes = notes }

-- A read gave some bytes: neither the end was seen nor did it fail.
abbrev pub gave_some : Option ℕ → Bool
gave_some None = false
gave_some (Some count) = nat_lt 0 count

module _ {S K E : Type 0} (reads : S → Option ℕ → S → Type 0) (writes : K → Option ℕ → K → Type 0) (writes_notes : E → Option ℕ → E → Type 0) where
  -- One call: a read comes only where each before it gave some bytes and no write has failed, and a write only where none has failed.
  abbrev pub Call : World S K E → World S K E → Type 0
  Call before after =
      ((count : Option ℕ) × (source : S) × (before.gave ≡ true) × (before.well ≡ true) × reads before.source count source
      × (after ≡ record before { gave = gave_some count; source = source }))
      ⊎ (((count : Option ℕ) × (out : K) × (before.well ≡ true) × writes before.out count out
      × (after ≡ record before { well = is_some count; out = out }))
      ⊎ ((count : Option ℕ) × (notes : E) × (before.well ≡ true) × writes_notes before.notes count notes
      × (after ≡ record before { well = is_some count; notes = notes })))

  -- Such calls led from these states to those, and nothing else was done.
  abbrev pub Calls : S → K → E → S → K → E → Type 0
  Calls source out notes source' out' notes' =
      (gave : Bool) × (well : Bool) × Many Call (world true true source out notes) (world gave well source' out' notes')

  -- The same by a function that succeeds only where no write failed.
  abbrev pub CallsBy : {T F : Type 0} → S → K → E → S → K → E → Result T F → Type 0
  CallsBy source out notes source' out' notes' result =
      (gave : Bool) × (well : Bool) × Many Call (world true true source out notes) (world gave well source' out' notes') × OnOk result (well ≡ true)

-- no call is ever made
abbrev pub never : {State : Type 0} → State → Option ℕ → State → Type 0
never before count after = ⊥

-- The same where only a source and one sink are there.
abbrev pub CallsOfTwo : {S K : Type 0} → (S → Option ℕ → S → Type 0) → (K → Option ℕ → K → Type 0) → S → K → S → K → Type 0
CallsOfTwo reads writes source out source' out' = Calls reads writes never source out (tt {0}) source' out' (tt {0})

-- Reads of a source alone: nothing is read behind one that gave nothing.
abbrev pub Reads : {S : Type 0} → (S → Option ℕ → S → Type 0) → S → S → Type 0
Reads reads source source' = (gave : Bool) × Many (Call reads never never) (world true true source (tt {0}) (tt {0})) (world gave true source' (tt {0}) (tt {0}))

-- Writes on two sinks, none behind one that failed. `well` says that none failed.
abbrev pub WritesOnBoth : {K E : Type 0} → (K → Option ℕ → K → Type 0) → (E → Option ℕ → E → Type 0) → K → E → K → E → Bool → Type 0
WritesOnBoth writes writes_notes out notes out' notes' well =
    Many (Call never writes writes_notes) (world false true (tt {0}) out notes) (world false well (tt {0}) out' notes')

-- The same by a function that succeeds only where no write failed.
abbrev pub WritesBy : {K E T F : Type 0} → (K → Option ℕ → K → Type 0) → (E → Option ℕ → E → Type 0) → K → E → K → E → Result T F → Type 0
WritesBy writes writes_notes out notes out' notes' result =
    (well : Bool) × WritesOnBoth writes writes_notes out notes out' notes' well × OnOk result (well ≡ true)
