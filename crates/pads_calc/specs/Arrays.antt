-- Arrays: elements by turns, until one of four endings holds or a turn is undone.
use Rattle.std.specs.Prelude.{ℕ, zero, suc, ◌+◌, ◌-◌, nat_le, nat_eq, pos, negsuc, not, ◌&&◌, Bool, true, false, List, [], ◌∷◌, ◌++◌, length, Option, Some, None, option_map, if◌then◌else◌}
use Rattle.pads_value.specs.declared.cause.Cause.{Cause}
use Rattle.pads_value.specs.declared.cause.Cause.TheVariants as cause
use Rattle.pads_value.specs.declared.descriptor.Class.{Class}
use Rattle.pads_value.specs.declared.descriptor.Class.TheVariants as class
use Rattle.pads_value.specs.declared.descriptor.Own.{Own}
use Rattle.pads_value.specs.declared.descriptor.Pd.{out-Pd}
use Rattle.pads_value.specs.declared.value.Val.{Val}
use Rattle.pads_value.specs.declared.value.Val.TheVariants as val
use Rattle.pads_expr.specs.Value.{Pairs}
use Rattle.pads_expr.specs.declared.expr.Expr.{Expr}
use Rattle.pads_dispatch.specs.declared.base.Arg.{Arg}
use Rattle.pads_dispatch.specs.declared.base.Arg.TheVariants as arg
use Rattle.pads_calc.specs.declared.reading.Reading.{Reading}
use Rattle.pads_calc.specs.declared.turn.Ending.{Ending}
use Rattle.pads_calc.specs.declared.turn.Ending.TheVariants as ending
use Rattle.pads_calc.specs.declared.turn.Turn.{Turn}
use Rattle.pads_calc.specs.declared.turn.Turn.TheVariants as turn
use Rattle.pads_calc.specs.Arguments.{argument, is_true}
use Rattle.pads_calc.specs.Leaves.{at_end}
use Rattle.pads_calc.specs.Readings.{Subject, Reader, node, fails, is_ok, values, pds, end_of}

-- what the parts of an array read as
pub record SeqReader : Type 0 where
  pub elem : Reader
  pub sep : Option Reader
  pub size : Option Expr
  pub last : Option Expr
  pub stop : Option Reader
  pub elts : ℕ

-- a size is a number that isn't below 0
abbrev pub size_of_arg : Option Arg → Option ℕ
size_of_arg None = None
size_of_arg (Some (arg.Num (pos size))) = Some size
size_of_arg (Some (arg.Num (negsuc below))) = None
size_of_arg (Some (arg.Text text)) = None

-- the size, or that none is asked for; none where it is no size
abbrev pub size_at : Option Expr → Pairs → Option (Option ℕ)
size_at None env = Some None
size_at (Some e) env = option_map Some (size_of_arg (argument e env))

-- the size is reached
abbrev pub is_full : Option ℕ → ℕ → Bool
is_full None count = false
is_full (Some size) count = nat_le size count

abbrev pub is_empty : List Val → Bool
is_empty [] = true
is_empty (value ∷ elements) = false

-- the latest element is the last one, by a condition over the elements so far
abbrev pub is_last : Option Expr → ℕ → List Val → Pairs → Bool
is_last None elts elements env = false
is_last (Some condition) elts elements env = not (is_empty elements) && is_true condition ((elts, val.Array elements) ∷ env)

-- the terminator stands here. It isn't consumed
abbrev pub is_stopped : Option Reader → Pairs → ℕ → Bool
is_stopped None env j = false
is_stopped (Some stop) env j = is_ok (stop env j)

-- to end before the size is reached is a fault, where there is a size
abbrev pub below_size : Option ℕ → Option Cause
below_size None = None
below_size (Some size) = Some cause.ArraySize

-- before each element, in this order: the size, the last element, the terminator, the record's end
abbrev pub ending_by : (full last stopped over : Bool) → Option ℕ → Ending
ending_by full last stopped over size =
    if full then ending.Ends None
    else if last then ending.Ends None
    else if stopped then ending.Ends (below_size size)
    else if over then ending.Ends (below_size size)
    else ending.GoesOn

unfoldable pub ending_at : List ℕ → SeqReader → Option ℕ → List Val → Pairs → ℕ → Ending
ending_at bytes s size elements env j =
    ending_by (is_full size (length elements)) (is_last s.last s.elts elements env) (is_stopped s.stop env j) (at_end bytes j) size

-- where the element begins: from the second on behind the separator, if that reads without a fault
abbrev pub element_at : Option Reader → Bool → Pairs → ℕ → Option ℕ
element_at None is_first env j = Some j
element_at (Some sep) is_first env j =
    if is_first then Some j
    else if is_ok (sep env j) then Some (sep env j).place
    else None

abbrev pub is_fail_class : Class → Bool
is_fail_class class.Ok = false
is_fail_class class.Err = false
is_fail_class class.Fail = true

-- the element of a turn that began at `j`: one that fails over no byte doesn't count, and from the second
-- on a turn takes a byte
abbrev pub turn_of : Bool → ℕ → ℕ → Reading → Turn
turn_of is_first j begin r =
    if is_fail_class (out-Pd r.pd).class && nat_eq r.place begin then turn.Undone cause.ArrayElem
    else if not is_first && nat_eq r.place j then turn.Undone cause.ArrayStall
    else turn.Kept r

abbrev pub turn_at : Reader → Bool → Pairs → ℕ → Option ℕ → Turn
turn_at elem is_first env j None = turn.Undone cause.ArraySep
turn_at elem is_first env j (Some begin) = turn_of is_first j begin (elem env begin)

unfoldable pub turn_from : SeqReader → Bool → Pairs → ℕ → Turn
turn_from s is_first env j = turn_at s.elem is_first env j (element_at s.sep is_first env j)

-- the elements from some place on, and the array's own cause
pub record Elements : Type 0 where
  pub own : Option Cause
  pub rest : List Reading

abbrev pub no_more : Option Cause → Elements
no_more own = record { own = own; rest = [] }

abbrev pub unless_ended : Ending → Elements → Elements
unless_ended (ending.Ends own) more = no_more own
unless_ended ending.GoesOn more = more

abbrev pub and_then : Turn → (Reading → Elements) → Elements
and_then (turn.Undone cause) more = no_more (Some cause)
and_then (turn.Kept r) more = let later = more r in record { own = later.own; rest = r ∷ later.rest }

-- the elements from `j` on, behind those that there are, in at most so many turns
unfoldable pub elements : List ℕ → SeqReader → Option ℕ → Pairs → ℕ → List Val → ℕ → Elements
elements bytes s size env zero before j = no_more None
elements bytes s size env (suc turns) before j =
    unless_ended (ending_at bytes s size before env j)
    (and_then (turn_from s (is_empty before) env j)
    (λ r. elements bytes s size env turns (before ++ r.value ∷ []) r.place))

-- an array's own cause doesn't make it fail
abbrev pub soft : Option Cause → Option Own
soft None = None
soft (Some cause) = Some (record { cause = cause; fails = false })

abbrev pub array_of : ℕ → Elements → ℕ → Reading
array_of origin e i = node origin (soft e.own) (val.Array (values e.rest)) i (end_of i e.rest) (pds e.rest)

-- from the second on each turn takes a byte, so there are two more turns than bytes at most
abbrev pub turns_from : List ℕ → ℕ → ℕ
turns_from bytes i = length bytes + 2 - i

abbrev pub sized : Subject → SeqReader → Option (Option ℕ) → Pairs → ℕ → Reading
sized subject s None env i = fails subject.origin cause.ArrayBound i
sized subject s (Some size) env i = array_of subject.origin (elements subject.bytes s size env (turns_from subject.bytes i) [] i) i

abbrev pub seq_of : Subject → SeqReader → Reader
seq_of subject s env i = sized subject s (size_at s.size env) env i
