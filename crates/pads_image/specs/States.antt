-- States of the machine: an address, what was read last, how deep calls may still be nested, and four
-- stacks, the latest entry first.
use Rattle.std.specs.Prelude.{ℕ, ◌+◌, ◌-◌, List, [], ◌∷◌, length, take, Option}
use Rattle.pads_value.specs.declared.cause.Cause.{Cause}
use Rattle.pads_value.specs.declared.descriptor.Pd.{Pd}
use Rattle.pads_value.specs.declared.value.Val.{Val}
use Rattle.pads_expr.specs.Value.{Pairs}
use Rattle.pads_calc.specs.declared.reading.Reading.{Reading}

-- a struct or an array that is open: where it begins, how many bindings are below its own, its size, and
-- what was read of it
pub record Node : Type 0 where
  pub begin : ℕ
  pub base : ℕ
  pub size : Option ℕ
  pub values : List Val
  pub pds : List Pd
  pub own : Option Cause

-- a place to come back to, and the cause for which a search gives up
pub record Mark : Type 0 where
  pub place : ℕ
  pub cause : Option Cause

-- a call that is open: where it goes on, and how many bindings are below its own
pub record Caller : Type 0 where
  pub back : ℕ
  pub base : ℕ

pub record State : Type 0 where
  pub at_ : ℕ
  -- what was read last; its place is where reading goes on
  pub last : Reading
  pub depth : ℕ
  pub bindings : Pairs
  pub nodes : List Node
  pub marks : List Mark
  pub callers : List Caller

-- how many bindings are below those of the latest call
abbrev pub base_of : List Caller → ℕ
base_of [] = 0
base_of (caller ∷ callers) = caller.base

-- and below those of the latest node
abbrev pub floor_of : List Node → ℕ
floor_of [] = 0
floor_of (node ∷ nodes) = node.base

-- the bindings that an expression sees: those above the latest call's base
unfoldable pub seen : State → Pairs
seen s = take (length s.bindings - base_of s.callers) s.bindings

-- how many entries the stacks have together
abbrev pub entries : State → ℕ
entries s = length s.bindings + length s.nodes + length s.marks + length s.callers
