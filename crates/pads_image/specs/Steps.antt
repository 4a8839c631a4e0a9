-- Steps of the machine. Each is made of the calculus' own functions of readings.
use Rattle.std.specs.Prelude.{ℕ, zero, suc, ◌+◌, ◌-◌, Bool, not, ◌&&◌, nat_eq, nat_le, nat_lt, List, [], ◌∷◌, ◌++◌, drop, length, map, Option, Some, None, slice_get, if◌then◌else◌}
use Rattle.pads_value.specs.declared.cause.Cause.{Cause}
use Rattle.pads_value.specs.declared.cause.Cause.TheVariants as cause
use Rattle.pads_value.specs.declared.descriptor.Pd.{out-Pd}
use Rattle.pads_value.specs.declared.value.Val.TheVariants as val
use Rattle.pads_value.specs.Header.{with_cause}
use Rattle.pads_expr.specs.declared.expr.Expr.{Expr}
use Rattle.pads_expr.specs.Value.{value}
use Rattle.pads_expr.specs.Worth.{worth_or_none}
use Rattle.pads_dispatch.specs.declared.base.Arg.{Arg}
use Rattle.pads_calc.specs.declared.reading.Reading.{Reading}
use Rattle.pads_calc.specs.Arguments.{argument, arguments, bound_to}
use Rattle.pads_calc.specs.Arrays.{size_at, is_full, is_last, is_fail_class, below_size, soft}
use Rattle.pads_calc.specs.Choices.{branch_of, chosen}
use Rattle.pads_calc.specs.Leaves.{unit_of, lit_of, eor_of, base_of as base_read, compute_of, at_end}
use Rattle.pads_calc.specs.Readings.{Subject, node, fails, is_ok, blame}
use Rattle.pads_calc.specs.Structs.{bind}
use Rattle.pads_calc.specs.Wrappers.{guard_of, absorb_of, last_place}
use Rattle.pads_image.specs.declared.entry.Entry.{Entry}
use Rattle.pads_image.specs.declared.op.Op.{Op}
use Rattle.pads_image.specs.declared.op.Op.TheVariants as op
use Rattle.pads_image.specs.declared.op.Target.{Target}
use Rattle.pads_image.specs.States.{Node, Mark, Caller, State, floor_of, seen}

-- what comes of a state: the next one, the end, or nothing where an instruction finds a stack without
-- the entry that it takes, or bindings that aren't its own above those that it leaves
pub data Step : Type 0 where
  Goes : (next : State) → Step
  Halts : Step
  Stuck : Step

-- at the next address, or at another one
abbrev pub reads : Reading → State → Step
reads r s = Goes (record s { at_ = s.at_ + 1; last = r })

abbrev pub reads_to : ℕ → Reading → State → Step
reads_to to r s = Goes (record s { at_ = to; last = r })

abbrev pub back_to : ℕ → Reading → Reading
back_to place r = record r { place = place }

-- structs
abbrev pub new_node : ℕ → ℕ → Option ℕ → Node
new_node begin base size = record { begin = begin; base = base; size = size; values = []; pds = []; own = None }

abbrev pub with_reading : Node → Reading → Node
with_reading n r = record n { values = n.values ++ r.value ∷ []; pds = n.pds ++ r.pd ∷ [] }

abbrev pub open_step : State → Step
open_step s = Goes (record s { at_ = s.at_ + 1; nodes = new_node s.last.place (length s.bindings) None ∷ s.nodes })

-- what was read last goes into the node, and nothing stands in its place
abbrev pub part_step : ℕ → Option ℕ → State → List Node → Step
part_step origin name s [] = Stuck
part_step origin name s (n ∷ nodes) = Goes (record s {
  at_ = s.at_ + 1;
  last = unit_of origin s.last.place;
  bindings = bind name s.last.value s.bindings;
  nodes = with_reading n s.last ∷ nodes;
})

-- the struct's own bindings are the newest ones, and there are so many
abbrev pub close_step : ℕ → ℕ → State → List Node → Step
close_step origin m s [] = Stuck
close_step origin m s (n ∷ nodes) =
    if nat_eq (length s.bindings) (n.base + m)
    then Goes (record s {
      at_ = s.at_ + 1;
      last = node origin None (val.Tuple n.values) n.begin s.last.place n.pds;
      bindings = drop m s.bindings;
      nodes = nodes;
    })
    else Stuck

-- unions
abbrev pub mark_at : ℕ → Mark
mark_at place = record { place = place; cause = None }

abbrev pub marked : State → Step
marked s = Goes (record s { at_ = s.at_ + 1; marks = mark_at s.last.place ∷ s.marks })

-- of a branch that isn't clean nothing is kept: the next one is tried at the mark's place
abbrev pub try_step : ℕ → ℕ → ℕ → State → List Mark → Step
try_step origin number to s [] = Stuck
try_step origin number to s (m ∷ marks) =
    if is_ok s.last then Goes (record s { at_ = to; last = branch_of origin number s.last m.place; marks = marks })
    else reads (unit_of origin m.place) s

abbrev pub none_step : ℕ → State → List Mark → Step
none_step origin s [] = Stuck
none_step origin s (m ∷ marks) = Goes (record s { at_ = s.at_ + 1; last = fails origin cause.UnionMatch s.last.place; marks = marks })

-- the case of a number, with its address
abbrev pub goes_to : ℕ → ℕ → State → Option Target → Step
goes_to origin otherwise s None = reads_to otherwise (fails origin cause.Switch s.last.place) s
goes_to origin otherwise s (Some target) = reads_to target.to s.last s

abbrev pub switch_step : ℕ → Option ℕ → List Target → ℕ → State → Step
switch_step origin None targets otherwise s = goes_to origin otherwise s None
switch_step origin (Some number) targets otherwise s = goes_to origin otherwise s (slice_get targets number)

-- where a reading began, counted from the record's first byte
abbrev pub began : ℕ → Reading → ℕ
began origin r = (out-Pd r.pd).span.begin - origin

-- arrays
abbrev pub size_step : ℕ → Option (Option ℕ) → ℕ → State → Step
size_step origin None otherwise s = reads_to otherwise (fails origin cause.ArrayBound s.last.place) s
size_step origin (Some size) otherwise s = Goes (record s { at_ = s.at_ + 1; nodes = new_node s.last.place (length s.bindings) size ∷ s.nodes })

abbrev pub with_own : Option Cause → Node → Node
with_own own n = record n { own = own }

-- between its elements an array has no binding above those that there were when it began
abbrev pub has_its_own : State → Node → Bool
has_its_own s n = nat_eq (length s.bindings) n.base

abbrev pub full_step : Option Expr → ℕ → ℕ → State → List Node → Step
full_step last elts to s [] = Stuck
full_step last elts to s (n ∷ nodes) =
    if has_its_own s n
    then (if is_full n.size (length n.values) then reads_to to s.last s
    else if is_last last elts n.values (seen s) then reads_to to s.last s
    else reads s.last s)
    else Stuck

abbrev pub stop_step : ℕ → State → List Node → List Mark → Step
stop_step to s (n ∷ nodes) (m ∷ marks) =
    if is_ok s.last
    then Goes (record s { at_ = to; last = back_to m.place s.last; nodes = with_own (below_size n.size) n ∷ nodes; marks = marks })
    else Goes (record s { at_ = s.at_ + 1; last = back_to m.place s.last; marks = marks })
stop_step to s _ _ = Stuck

abbrev pub edge_step : List ℕ → ℕ → State → List Node → Step
edge_step bytes to s [] = Stuck
edge_step bytes to s (n ∷ nodes) =
    if at_end bytes s.last.place then Goes (record s { at_ = to; nodes = with_own (below_size n.size) n ∷ nodes })
    else reads s.last s

abbrev pub is_first : Node → Bool
is_first n = nat_eq (length n.values) 0

abbrev pub turn_step : ℕ → State → List Node → Step
turn_step to s [] = Stuck
turn_step to s (n ∷ nodes) =
    Goes (record s { at_ = if is_first n then to else s.at_ + 1; marks = mark_at s.last.place ∷ s.marks })

-- the array ends, and the turn that was begun is undone
abbrev pub undone : Cause → ℕ → State → Node → List Node → Mark → List Mark → Step
undone own to s n nodes m marks =
    Goes (record s { at_ = to; last = back_to m.place s.last; nodes = with_own (Some own) n ∷ nodes; marks = marks })

abbrev pub sep_step : ℕ → State → List Node → List Mark → Step
sep_step to s (n ∷ nodes) (m ∷ marks) = if is_ok s.last then reads s.last s else undone cause.ArraySep to s n nodes m marks
sep_step to s _ _ = Stuck

-- an element that fails over no byte doesn't count, and from the second on a turn takes a byte
abbrev pub elem_step : ℕ → ℕ → ℕ → State → List Node → List Mark → Step
elem_step origin to again s (n ∷ nodes) (m ∷ marks) =
    if is_fail_class (out-Pd s.last.pd).class && nat_eq s.last.place (began origin s.last) then undone cause.ArrayElem to s n nodes m marks
    else if not (is_first n) && nat_eq s.last.place m.place then undone cause.ArrayStall to s n nodes m marks
    else Goes (record s { at_ = again; last = unit_of origin s.last.place; nodes = with_reading n s.last ∷ nodes; marks = marks })
elem_step origin to again s _ _ = Stuck

abbrev pub shut_step : ℕ → State → List Node → Step
shut_step origin s [] = Stuck
shut_step origin s (n ∷ nodes) =
    if has_its_own s n
    then Goes (record s {
      at_ = s.at_ + 1;
      last = node origin (soft n.own) (val.Array n.values) n.begin s.last.place n.pds;
      nodes = nodes;
    })
    else Stuck

-- searches
abbrev pub cause_or : Option Cause → Cause → Cause
cause_or None given = given
cause_or (Some kept) given = kept

-- whether nothing that is looked for from `i` on may stand behind `j`
abbrev pub is_last_place : Subject → ℕ → ℕ → Bool
is_last_place subject i j = not (nat_lt j (last_place subject i))

abbrev pub scan_step : Subject → ℕ → State → List Mark → Step
scan_step subject to s [] = Stuck
scan_step subject to s (m ∷ marks) =
    let at_ = began subject.origin s.last in
    let kept = cause_or m.cause (blame s.last) in
    if is_ok s.last
    then Goes (record s {
      at_ = s.at_ + 1;
      last = if nat_lt m.place at_ then record s.last { pd = with_cause cause.Skipped (subject.origin + m.place) s.last.pd } else s.last;
      marks = marks;
    })
    else if is_last_place subject m.place at_ then Goes (record s { at_ = s.at_ + 1; last = fails subject.origin kept m.place; marks = marks })
    else Goes (record s { at_ = to; last = back_to (at_ + 1) s.last; marks = (record m { cause = Some kept }) ∷ marks })

-- a call that begins: its parameters are bound, and it goes on at its declaration's first instruction
abbrev pub entered : Entry → List Arg → ℕ → State → State
entered entry args depth s = record s {
  at_ = entry.first;
  depth = depth;
  bindings = bound_to entry.params args s.bindings;
  callers = (record { back = s.at_ + 1; base = length s.bindings }) ∷ s.callers;
}

-- a valid image has each declaration that a call names
abbrev pub call_in : ℕ → Option Entry → Option (List Arg) → ℕ → State → Step
call_in origin entry None depth s = reads (fails origin cause.BadParam s.last.place) s
call_in origin None (Some args) depth s = reads (fails origin cause.BadParam s.last.place) s
call_in origin (Some entry) (Some args) depth s = Goes (entered entry args depth s)

abbrev pub call_step : ℕ → List Entry → ℕ → List Expr → ℕ → State → Step
call_step origin entries number args zero s = reads (fails origin cause.Depth s.last.place) s
call_step origin entries number args (suc depth) s = call_in origin (slice_get entries number) (arguments args (seen s)) depth s

-- a call that ended: its own bindings go, and it goes on behind the instruction that made it
abbrev pub returned : Caller → List Caller → State → State
returned c callers s = record s {
  at_ = c.back;
  depth = s.depth + 1;
  bindings = drop (length s.bindings - c.base) s.bindings;
  callers = callers;
}

-- none of the call's own bindings is below those of a node that is open
abbrev pub return_step : State → List Caller → Step
return_step s [] = Halts
return_step s (c ∷ callers) = if nat_le (floor_of s.nodes) c.base then Goes (returned c callers s) else Stuck

module _ (entries : List Entry) (subject : Subject) where
  -- one instruction
  abbrev pub does : Op → State → Step
  does op.Unit s = reads (unit_of subject.origin s.last.place) s
  does (op.Lit literal) s = reads (lit_of subject literal s.last.place) s
  does op.Eor s = reads (eor_of subject s.last.place) s
  does (op.Base base args) s = reads (base_read subject base (arguments args (seen s)) s.last.place) s
  does (op.Compute e form) s = reads (compute_of subject.origin form (worth_or_none (value e (seen s))) s.last.place) s
  does op.Absorb s = reads (absorb_of s.last) s
  does (op.Guard binder condition) s = reads (guard_of binder condition (seen s) s.last) s
  does op.Open s = open_step s
  does (op.Part name) s = part_step subject.origin name s s.nodes
  does (op.Close m) s = close_step subject.origin m s s.nodes
  does op.Mark s = marked s
  does op.ScanFrom s = marked s
  does (op.Try number to) s = try_step subject.origin number to s s.marks
  does op.NoArm s = none_step subject.origin s s.marks
  does (op.Switch e targets to) s = switch_step subject.origin (chosen (argument e (seen s)) (map (λ target. target.key) targets)) targets to s
  does (op.Arm number to) s = reads_to to (branch_of subject.origin number s.last (began subject.origin s.last)) s
  does (op.Size size to) s = size_step subject.origin (size_at size (seen s)) to s
  does (op.Full last elts to) s = full_step last elts to s s.nodes
  does (op.Stop to) s = stop_step to s s.nodes s.marks
  does (op.Edge to) s = edge_step subject.bytes to s s.nodes
  does (op.Turn to) s = turn_step to s s.nodes
  does (op.Sep to) s = sep_step to s s.nodes s.marks
  does (op.Elem to again) s = elem_step subject.origin to again s s.nodes s.marks
  does op.Shut s = shut_step subject.origin s s.nodes
  does (op.ScanOn to) s = scan_step subject to s s.marks
  does (op.Call number args) s = call_step subject.origin entries number args s.depth s
  does op.Return s = return_step s s.callers

  abbrev pub does_there : Option Op → State → Step
  does_there None s = Stuck
  does_there (Some instruction) s = does instruction s

  -- what comes of a state where this is the code
  abbrev pub step : List Op → State → Step
  step code s = does_there (slice_get code s.at_) s
