-- How many entries the stacks need. The height of an address counts the open nodes, the marks and the
-- bindings that a call of its declaration has there, its parameters included. Code is in the order of its
-- layout: what an instruction puts on a stack is there up to the instruction that takes it away, so heights
-- are sums from the left.
use Rattle.std.specs.Prelude.{ℕ, zero, suc, ◌+◌, ◌-◌, max, List, [], ◌∷◌, Option, Some, None, get_or, if◌then◌else◌}
use Rattle.pads_calc.specs.declared.decl.Shape.{Shape}
use Rattle.pads_image.specs.declared.entry.Entry.{Entry}
use Rattle.pads_image.specs.declared.op.Op.{Op}
use Rattle.pads_image.specs.declared.op.Op.TheVariants as op
use Rattle.pads_image.specs.Blocks.{bindings_of}
use Rattle.pads_image.specs.Validity.{arities_of}
use Rattle.pads_image.specs.Variables.{is_return}

-- the height behind an instruction, by that at it
abbrev pub height_after : Op → ℕ → ℕ
height_after op.Open h = h + 1
height_after (op.Part name) h = h + bindings_of name
height_after (op.Close m) h = h - (m + 1)
height_after op.Mark h = h + 1
height_after op.ScanFrom h = h + 1
height_after op.NoArm h = h - 1
height_after (op.Size size end) h = h + 1
height_after (op.Stop to) h = h - 1
height_after (op.Turn to) h = h + 1
height_after (op.Elem to again) h = h - 1
height_after op.Shut h = h - 1
height_after (op.ScanOn to) h = h - 1
height_after _ h = h

-- the needs of the declarations one call deeper; none where no call goes deeper
abbrev pub Deeper : Type 0
Deeper = Option (List ℕ)

abbrev pub call_needs : Deeper → ℕ → ℕ → ℕ
call_needs None number h = h
call_needs (Some needs) number h = h + 1 + get_or needs number 0

-- how many entries there are at an instruction, and where it calls, inside the call: one for the call
-- itself, and what the declaration needs. A condition over a value looks at one entry more
abbrev pub entries_at : Deeper → Op → ℕ → ℕ
entries_at deeper (op.Guard binder condition) h = h + 1
entries_at deeper (op.Full last elts to) h = h + 1
entries_at deeper (op.Call number args) h = call_needs deeper number h
entries_at deeper _ h = h

abbrev pub next_arity : List ℕ → ℕ
next_arity [] = 0
next_arity (arity ∷ later) = arity

abbrev pub later_arities : List ℕ → List ℕ
later_arities [] = []
later_arities (arity ∷ later) = later

-- the greatest numbers of the declarations from some instruction on, in their order, by the height there
-- and the greatest number of its declaration so far; `later`: how many parameters the declarations have
-- that are still to come
unfoldable pub needs_from : Deeper → List ℕ → ℕ → ℕ → List Op → List ℕ
needs_from deeper later h most [] = []
needs_from deeper later h most (instruction ∷ code) =
    if is_return instruction
    then max most h ∷ needs_from deeper (later_arities later) (next_arity later) 0 code
    else needs_from deeper later (height_after instruction h) (max most (entries_at deeper instruction h)) code

abbrev pub needs_over : Deeper → List Op → List ℕ → List ℕ
needs_over deeper code arities = needs_from deeper (later_arities arities) (next_arity arities) 0 code

-- what each declaration needs where calls may be nested so deep in it
unfoldable pub needs : List Op → List ℕ → ℕ → List ℕ
needs code arities zero = needs_over None code arities
needs code arities (suc depth) = needs_over (Some (needs code arities depth)) code arities

-- the declarations of records are called at depth 128
abbrev pub inside : ℕ
inside = 127

abbrev pub need_of_head : List ℕ → Option ℕ → ℕ
need_of_head found None = 0
need_of_head found (Some head) = get_or found head 0

abbrev pub need_of : List ℕ → Shape → ℕ
need_of found shape = max (need_of_head found shape.head) (get_or found shape.each 0)

abbrev pub stack_need : List Op → List Entry → Shape → ℕ
stack_need code entries shape = need_of (needs code (arities_of entries) inside) shape
