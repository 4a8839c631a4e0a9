-- What a run does, by its status: what it read and wrote, and when each answer may come.
use Rattle.std.specs.Prelude.{◌≡◌, ℕ, ◌⊎◌, true, false, List, Option, Some, None}
use Rattle.pads_io.specs.Faults.{Rose}
use Rattle.pads_orders.specs.Orders.{order_of}
use Rattle.pads_orders.specs.declared.order.Order.{Order}
use Rattle.pads_tool.specs.Closing.{Leaves}
use Rattle.pads_tool.specs.Endings.{last_line, status_of}
use Rattle.pads_tool.specs.Promises.{Promise, promise_of, Seen, Counts, Keeps}
use Rattle.pads_tool.specs.declared.ending.Ending.{Ending}
use Rattle.pads_tool.specs.declared.ending.Ending.TheVariants as ending
use Rattle.pads_tool.specs.declared.status.Status.{Status}
use Rattle.pads_tool.specs.declared.status.Status.TheVariants as status

-- The words are an order, and this holds of what its command promises.
abbrev pub Ordered : List (List ℕ) → (Promise → Type 0) → Type 0
Ordered words Holds = (asked : Order) × (order_of words ≡ Some asked) × Holds (promise_of asked)

-- A refusal has its reason.
abbrev pub HasReason : List (List ℕ) → (List ℕ → Option (List ℕ)) → Ending → Type 0
HasReason words content (ending.Refused reason) = Ordered words (λ promise. promise.refused_for content reason)
HasReason words content ending.Done = Unit {0}
HasReason words content ending.Dirty = Unit {0}
HasReason words content ending.Usage = Unit {0}
HasReason words content ending.FileFault = Unit {0}
HasReason words content ending.ReadFault = Unit {0}
HasReason words content ending.WriteFault = Unit {0}
HasReason words content ending.Memory = Unit {0}
HasReason words content ending.TooLong = Unit {0}
HasReason words content ending.Limit = Unit {0}

-- a run, by its ending
abbrev pub RunGives : List (List ℕ) → Seen → Counts → Ending → Type 0
RunGives words s n ending.Usage = (order_of words ≡ None) × (s.out' ≡ s.out)
RunGives words s n e = Ordered words (λ promise. Keeps promise s n e)

-- The words are an order that can be done, and no call failed that matters to it.
pub record IsFair (words : List (List ℕ)) (content : List ℕ → Option (List ℕ)) (left : Option (List ℕ)) (n : Counts) : Type 0 where
  pub ordered : Ordered words (λ promise. promise.can_finish content left)
  pub files_well : Rose n.files n.files' → ⊥
  pub source_well : Rose n.source n.source' → ⊥
  pub out_well : Rose n.out n.out' → ⊥
  pub notes_well : Ordered words (λ promise. promise.writes_notes ≡ true) → Rose n.notes n.notes' → ⊥

-- the run came to its end, or there was no memory
abbrev pub EndsOrWantsMemory : Status → Type 0
EndsOrWantsMemory status.Done = Unit {0}
EndsOrWantsMemory status.Dirty = Unit {0}
EndsOrWantsMemory status.Memory = Unit {0}
EndsOrWantsMemory status.Usage = ⊥
EndsOrWantsMemory status.Refused = ⊥
EndsOrWantsMemory status.FileFault = ⊥
EndsOrWantsMemory status.ReadFault = ⊥
EndsOrWantsMemory status.WriteFault = ⊥
EndsOrWantsMemory status.TooLong = ⊥
EndsOrWantsMemory status.Limit = ⊥

-- the input wasn't reached
abbrev pub IsBeforeInput : Status → Type 0
IsBeforeInput s = (s ≡ status.Usage) ⊎ ((s ≡ status.Refused) ⊎ (s ≡ status.FileFault))

-- Nothing is written on the notes but the last words: the input wasn't reached, or the command writes nothing else there.
abbrev pub IsQuiet : List (List ℕ) → Status → Type 0
IsQuiet words s = IsBeforeInput s ⊎ Ordered words (λ promise. promise.writes_notes ≡ false)

-- This holds of what stood on the notes, and of their count of failures, before the last words came behind. These are
-- those of an ending with this status, and give the reason of a refusal.
pub record BeforeLastWords (words : List (List ℕ)) (content : List ℕ → Option (List ℕ)) (ended : Status) (notes' : Option (List ℕ)) (now : ℕ)
    (Holds : Option (List ℕ) → ℕ → Type 0) : Type 0 where
  pub ending : Ending
  pub is : ended ≡ status_of ending
  pub reason : HasReason words content ending
  pub noted : Option (List ℕ)
  pub count : ℕ
  pub holds : Holds noted count
  pub leaves : Leaves noted notes' count now (last_line ending)
