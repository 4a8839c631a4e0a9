-- What the machine keeps in each of its states: room on its stacks, and homes that are there.
use Rattle.std.specs.Prelude.{◌≡◌, ℕ, ◌+◌, ◌<◌, ◌≤◌, ◌^◌, List, [], ◌∷◌, length, reverse, Some, None, vec_capacity}
use Rattle.pads_machine.specs.declared.node.Mark.{Mark}
use Rattle.pads_machine.specs.declared.node.Node.{Node}
use Rattle.pads_machine.specs.declared.state.State.{State}
use Rattle.pads_machine.specs.Shown.{Homes, above, below}

-- each home is one of so many parts
abbrev pub AreHomes : Homes → ℕ → Type 0
AreHomes [] parts = Unit {0}
AreHomes (None ∷ homes) parts = AreHomes homes parts
AreHomes (Some part ∷ homes) parts = (part < parts) × AreHomes homes parts

-- a struct's bindings are at home in it
abbrev pub AreSound : List Node → Homes → Type 0
AreSound [] homes = Unit {0}
AreSound (node ∷ nodes) homes =
    (node.base ≤ length homes) × (node.begin ≤ 2 ^ 62) × AreHomes (above node.base homes) (length node.values.items)
    × AreSound nodes (below node.base homes)

-- each stack takes so many entries
pub record Roomy (room : ℕ) (m : State) : Type 0 where
  pub room_is : m.room ≡ room
  pub bindings : room ≤ vec_capacity m.bindings
  pub homes : room ≤ vec_capacity m.homes
  pub nodes : room ≤ vec_capacity m.nodes
  pub marks : room ≤ vec_capacity m.marks
  pub callers : room ≤ vec_capacity m.callers

pub record Held (m : State) : Type 0 where
  pub each_home : length m.homes.items ≡ length m.bindings.items
  pub sound : AreSound (reverse m.nodes.items) (reverse m.homes.items)
  -- calls come back to where they were made
  pub deep : m.depth + length m.callers.items ≤ 255

-- each mark is at one of so many places
abbrev pub AreWithin : ℕ → List Mark → Type 0
AreWithin most [] = Unit {0}
AreWithin most (mark ∷ marks) = (mark.place ≤ most) × AreWithin most marks

-- in a record of so many bytes: each place where reading goes on is one of its places
pub record Placed (most : ℕ) (m : State) : Type 0 where
  pub last : m.last.place ≤ most
  pub marks : AreWithin most (reverse m.marks.items)
