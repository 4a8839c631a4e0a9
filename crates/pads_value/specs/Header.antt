-- The header rule: class, cause and count of a node, from its own cause and its kids.
-- Source: the PADS manual's parse descriptors, whose error counts are here totals over all nodes.
use Rattle.std.specs.Prelude.{ℕ, ◌+◌, ◌-◌, ◌^◌, min, Bool, true, false, if◌then◌else◌, List, sum_by, Option, None, Some}
use Rattle.std.specs.List.{list_all}
use Rattle.pads_value.specs.declared.cause.Cause.{Cause}
use Rattle.pads_value.specs.declared.descriptor.Class.{Class}
use Rattle.pads_value.specs.declared.descriptor.Class.TheVariants as class
use Rattle.pads_value.specs.declared.descriptor.Own.{Own}
use Rattle.pads_value.specs.declared.descriptor.Span.{Span}
use Rattle.pads_value.specs.declared.descriptor.Pd.{Pd, out-Pd, roll-Pd}

abbrev pub is_ok_class : Class → Bool
is_ok_class class.Ok = true
is_ok_class class.Err = false
is_ok_class class.Fail = false

abbrev pub is_clean : Pd → Bool
is_clean pd = is_ok_class (out-Pd pd).class

abbrev pub all_clean : List Pd → Bool
all_clean kids = list_all is_clean kids

-- a count that rises stands still once it is 2^64 - 1
abbrev pub capped : ℕ → ℕ
capped n = min n (2 ^ 64 - 1)

abbrev pub counted : List Pd → ℕ
counted kids = sum_by (λ kid. (out-Pd kid).nerr) kids

-- Fail where the node fails; else Ok where it has no own cause and all kids are Ok; else Err
abbrev pub class_of : Option Own → List Pd → Class
class_of None kids = if all_clean kids then class.Ok else class.Err
class_of (Some own) kids = if own.fails then class.Fail else class.Err

-- the kids' counts, and one for the node's own cause
abbrev pub count_of : Option Own → List Pd → ℕ
count_of None kids = capped (counted kids)
count_of (Some own) kids = capped (counted kids + 1)

abbrev pub cause_of : Option Own → Option Cause
cause_of None = None
cause_of (Some own) = Some own.cause

abbrev pub head : Option Own → Span → List Pd → Pd
head own span kids = roll-Pd (record { nerr = count_of own kids; class = class_of own kids; cause = cause_of own; span = span; kids = kids })

-- a clean node that gets a cause of its own, and a span that begins elsewhere
abbrev pub with_cause : Cause → ℕ → Pd → Pd
with_cause cause begin pd = let node = out-Pd pd in
    roll-Pd (record { nerr = 1; class = class.Err; cause = Some cause; span = record { begin = begin; end = node.span.end }; kids = node.kids })
