-- Which file a run reads, from where, and how often.
use Rattle.std.specs.Prelude.{◌≡◌, ℕ, ◌+◌, nat_le, nat_lt, if◌then◌else◌, List, Option, None, Some}
use Rattle.pads_io.specs.Calls.{Many, ReadAt}
use Rattle.pads_orders.specs.Orders.{order_of}
use Rattle.pads_orders.specs.declared.order.Order.{Order}
use Rattle.pads_orders.specs.declared.order.Order.TheVariants as order

-- The offset of the next read, behind so many bytes: none where they are more than a description may have.
abbrev pub due_at : ℕ → Option ℕ
due_at at = if nat_le at 1048576 then Some at else None

-- The same behind a read at this offset: none where it failed or found the end.
abbrev pub due_behind : ℕ → Option ℕ → Option ℕ
due_behind at None = None
due_behind at (Some count) = if nat_lt 0 count then due_at (at + count) else None

-- a read of the file of this name, at the offset where it is due
abbrev pub DueRead : {F : Type 0} → (F → ReadAt → F → Type 0) → List ℕ → Option ℕ × F → Option ℕ × F → Type 0
DueRead reads name before after =
    (at : ℕ) × (count : Option ℕ) × (before.0 ≡ Some at) × reads before.1 (record { name = name; at = at; count = count }) after.1
    × (after.0 ≡ due_behind at count)

-- The file of this name was read once, in order: from its first byte on, each read from where the one before ended. Nothing was read
-- behind its end, behind a failure, or once the text was known to be too long, and no other file was.
abbrev pub ReadsOnce : {F : Type 0} → (F → ReadAt → F → Type 0) → List ℕ → F → F → Type 0
ReadsOnce reads name files files' = (due : Option ℕ) × Many (DueRead reads name) (Some 0, files) (due, files')

-- the file that an order names, if its command reads one
abbrev pub file_of : Order → Option (List ℕ)
file_of (order.Check name settings) = Some name
file_of (order.Parse name settings mask) = Some name
file_of (order.Print name settings) = Some name
file_of (order.Summary name settings mask) = Some name
file_of (order.Query asks settings mask) = Some asks.description
file_of (order.Selftest records settings) = None

abbrev pub ReadsFor : {F : Type 0} → (F → ReadAt → F → Type 0) → Option (List ℕ) → F → F → Type 0
ReadsFor reads None files files' = files' ≡ files
ReadsFor reads (Some name) files files' = ReadsOnce reads name files files'

-- of all files, only the one that the order of these words names
abbrev pub ReadsItsFile : {F : Type 0} → (F → ReadAt → F → Type 0) → List (List ℕ) → F → F → Type 0
ReadsItsFile reads words files files' = (asked : Order) → order_of words ≡ Some asked → ReadsFor reads (file_of asked) files files'
