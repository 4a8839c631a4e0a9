-- What code has of a row's nodes, and how they are found; for private clauses.
use Rattle.std.specs.Prelude.{ℕ, zero, suc, List, [], map, Option, Some, None}
use Rattle.std.specs.Borrow.{Bor}
use Rattle.std.specs.Option.{option_copied, option_map}
use Rattle.pads_value.specs.declared.descriptor.Pd.{Pd}
use Rattle.pads_value.specs.declared.value.Val.{Val}
use Rattle.pads_plan.specs.declared.part.PlanPart.{PlanPart}
use Rattle.pads_accum.specs.Placed.{Kid, Placed, Placing, below, kids_placed, placed}
use Rattle.pads_accum.specs.declared.place.Found.{Found}
use Rattle.pads_accum.specs.declared.place.Spot.{Spot}

abbrev pub found_seen : Found → Placed
found_seen found = record { part = found.part; node = record { value = option_copied found.value; clean = found.clean } }

-- the part at which a kid is a node, with the kid's value
abbrev pub spot_seen : Spot → ℕ × Option Val
spot_seen spot = (spot.part, option_copied spot.value)

abbrev pub spot_of : List PlanPart → ℕ → Kid → Option (ℕ × Option Val)
spot_of parts up None = None
spot_of parts up (Some given) = option_map (λ part. (part, given.1)) (below parts up given.0)

-- the branch that a value names, as kid number 0
abbrev pub chosen_of : Option (ℕ × Val) → ℕ → Option (ℕ × Val)
chosen_of None k = None
chosen_of (Some branch) zero = Some branch
chosen_of (Some branch) (suc k) = None

abbrev pub chosen_seen : ℕ × Bor Val → ℕ × Val
chosen_seen branch = (branch.0, branch.1.now)

-- the nodes at a kid and below it
abbrev pub spot_placed : Option (ℕ × Option Val) → Placing → List Placed
spot_placed None kid = []
spot_placed (Some spot) kid = kid spot.0 spot.1

-- the nodes at these kids and below them, from kid number k on
abbrev pub kids_below : List PlanPart → ℕ → Option Val → ℕ → List Pd → List Placed
kids_below parts part v k kids = kids_placed parts part v k (map (placed parts) kids)
