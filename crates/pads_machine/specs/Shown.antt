-- What the machine shows: the state that it is in. The value of a named part is moved to the bindings, so
-- that it stands once, and each binding keeps at which part of the latest struct it is at home; what a
-- struct shows has each value at its home.
use Rattle.std.specs.Prelude.{◌≡◌, ℕ, ◌-◌, List, [], ◌∷◌, ◌++◌, length, take, drop, map, reverse, Option, Some, None, slice_set}
use Rattle.pads_value.specs.declared.cause.Cause.{Cause}
use Rattle.pads_value.specs.declared.value.Val.{Val}
use Rattle.pads_value.specs.declared.value.Val.TheVariants as val
use Rattle.pads_dispatch.specs.declared.base.Arg.{Arg}
use Rattle.pads_calc.specs.declared.reading.Reading.{Reading}
use Rattle.pads_expr.specs.Value.{Pairs}
use Rattle.pads_image.specs.States as states
use Rattle.pads_image.specs.Steps.{with_own}
use Rattle.pads_machine.specs.declared.node.Caller.{Caller}
use Rattle.pads_machine.specs.declared.node.Mark.{Mark}
use Rattle.pads_machine.specs.declared.node.Node.{Node}
use Rattle.pads_machine.specs.declared.state.State.{State}

-- where values are at home, the latest binding first
abbrev pub Homes : Type 0
Homes = List (Option ℕ)

abbrev pub put_home : Option ℕ → Val → List Val → List Val
put_home None value values = values
put_home (Some part) value values = slice_set values part value

-- the values of a struct or an array once each of these bindings has given its value back
abbrev pub put_back : Homes → Pairs → List Val → List Val
put_back [] bindings values = values
put_back (home ∷ homes) [] values = values
put_back (home ∷ homes) (binding ∷ bindings) values = put_back homes bindings (put_home home binding.1 values)

-- what stands in a struct for a part's value, and where a value that is bound is at home
abbrev pub stand_in : Option ℕ → Val → Val
stand_in None value = value
stand_in (Some name) value = val.Missing

abbrev pub home_of : Option ℕ → ℕ → Homes → Homes
home_of None part homes = homes
home_of (Some name) part homes = Some part ∷ homes

-- arguments have no home
abbrev pub homeless : List ℕ → List Arg → Homes → Homes
homeless [] args homes = homes
homeless (name ∷ names) [] homes = homes
homeless (name ∷ names) (first ∷ args) homes = homeless names args (None ∷ homes)

-- the latest items, above the first so many, and those
abbrev pub above : {A : Type 0} → ℕ → List A → List A
above base xs = take (length xs - base) xs

abbrev pub below : {A : Type 0} → ℕ → List A → List A
below base xs = drop (length xs - base) xs

abbrev pub node_shown : Node → Homes → Pairs → states.Node
node_shown node homes bindings = record {
  begin = node.begin;
  base = node.base;
  size = node.size;
  values = put_back (above node.base homes) (above node.base bindings) node.values.items;
  pds = node.pds.items;
  own = node.own;
}

-- the structs and arrays that are open, the latest first
abbrev pub nodes_shown : List Node → Homes → Pairs → List states.Node
nodes_shown [] homes bindings = []
nodes_shown (node ∷ nodes) homes bindings =
    node_shown node homes bindings ∷ nodes_shown nodes (below node.base homes) (below node.base bindings)

abbrev pub caller_shown : Caller → states.Caller
caller_shown caller = record { back = caller.back; base = caller.base }

abbrev pub mark_shown : Mark → states.Mark
mark_shown mark = record { place = mark.place; cause = mark.cause }

-- the latest node, with what is wrong with it, and its values
abbrev pub has_own : Option Cause → List states.Node → List states.Node
has_own own [] = []
has_own own (node ∷ nodes) = with_own own node ∷ nodes

abbrev pub latest_values : List states.Node → List Val
latest_values [] = []
latest_values (node ∷ nodes) = node.values

-- the latest mark has a cause for which a search gives up
abbrev pub IsSearching : List states.Mark → Type 0
IsSearching marks = (place : ℕ) × (cause : Cause) × (rest : List states.Mark) × (marks ≡ (record { place = place; cause = Some cause }) ∷ rest)

-- of stacks, the latest entry first
abbrev pub shows : List Mark → ℕ → Reading → ℕ → Pairs → Homes → List Node → List Caller → states.State
shows marks address last depth bindings homes nodes callers = record {
  at_ = address;
  last = last;
  depth = depth;
  bindings = bindings;
  nodes = nodes_shown nodes homes bindings;
  marks = map mark_shown marks;
  callers = map caller_shown callers;
}

abbrev pub shown : State → states.State
shown m = shows (reverse m.marks.items) m.address m.last m.depth (reverse m.bindings.items) (reverse m.homes.items) (reverse m.nodes.items) (reverse m.callers.items)

-- the latest binding is taken back, and its value is put at its home; stacks as they are stored, the
-- latest entry last
pub record TakenOne (bindings : Pairs) (homes : Homes) (values : List Val) (bindings_left : Pairs) (homes_left : Homes) (values_left : List Val) : Type 0 where
  pub binding : ℕ × Val
  pub home : Option ℕ
  pub bindings_are : bindings ≡ bindings_left ++ binding ∷ []
  pub homes_are : homes ≡ homes_left ++ home ∷ []
  pub values_are : values_left ≡ put_home home binding.1 values
