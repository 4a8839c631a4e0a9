-- Code read from the left, without choice: each instruction tells what it begins, goes on with or ends.
-- An Absorb or a Guard behind a whole term belongs to it. Branches, whose names no code has, read as
-- branches of the name 0.
use Rattle.std.specs.Prelude.{ℕ, ◌+◌, Bool, true, false, ◌&&◌, nat_eq, List, [], ◌∷◌, ◌++◌, length, Option, Some, None, if◌then◌else◌}
use Rattle.std.specs.List.{list_all}
use Rattle.pads_expr.specs.declared.expr.Expr.{Expr}
use Rattle.pads_calc.specs.declared.term.Arm.{Arm}
use Rattle.pads_calc.specs.declared.term.Case.{Case}
use Rattle.pads_calc.specs.declared.term.Part.{Part}
use Rattle.pads_calc.specs.declared.term.Seq.{Seq}
use Rattle.pads_calc.specs.declared.term.Term.{Term}
use Rattle.pads_calc.specs.declared.term.Term.TheVariants as term
use Rattle.pads_module.specs.Counts.{few}
use Rattle.pads_image.specs.declared.op.Op.{Op}
use Rattle.pads_image.specs.declared.op.Op.TheVariants as op
use Rattle.pads_image.specs.declared.op.Target.{Target}
use Rattle.pads_image.specs.Blocks.{bindings_of}
use Rattle.pads_image.specs.Opened.{Body, Tried, Head, Opened, Decls, Struct, Alt, Switch, Scan, Sized, Filled, Stopping, Edged, Separating, Taking, Shutting, State, Due, Whole}

abbrev pub only_if : Bool → State → Option State
only_if holds next = if holds then Some next else None

-- whether a term may begin where these are open
abbrev pub takes_term : List Opened → Bool
takes_term [] = false
takes_term (Decls done first ∷ more) = true
takes_term (Struct parts ∷ more) = true
takes_term (Alt arms ∷ more) = true
takes_term (Switch e left end next cases ∷ more) = true
takes_term (Scan inner ∷ more) = true
takes_term (Sized full size end ∷ more) = false
takes_term (Filled head stop ∷ more) = false
takes_term (Stopping head ∷ more) = true
takes_term (Edged head stop ∷ more) = false
takes_term (Separating head stop elem ∷ more) = true
takes_term (Taking head stop sep ∷ more) = true
takes_term (Shutting head stop sep elem ∷ more) = false

-- an instruction that is a whole term, one that begins a construct, and one that a whole term goes into
abbrev pub leaf : Term → State → Option State
leaf t (Due open_) = only_if (takes_term open_) (Whole t open_)
leaf t (Whole before open_) = None

abbrev pub begin : Opened → State → Option State
begin construct (Due open_) = only_if (takes_term open_) (Due (construct ∷ open_))
begin construct (Whole before open_) = None

abbrev pub wrap : (Term → Term) → State → Option State
wrap around (Due open_) = None
wrap around (Whole t open_) = Some (Whole (around t) open_)

-- structs
abbrev pub part_read : Option ℕ → State → Option State
part_read name (Due open_) = None
part_read name (Whole t []) = None
part_read name (Whole t (Struct parts ∷ more)) = Some (Due (Struct (parts ++ (record { name = name; term = t }) ∷ []) ∷ more))
part_read name (Whole t (_ ∷ more)) = None

abbrev pub named_parts : List Part → ℕ
named_parts [] = 0
named_parts (part ∷ parts) = bindings_of part.name + named_parts parts

abbrev pub close_read : ℕ → State → Option State
close_read m (Whole t open_) = None
close_read m (Due []) = None
close_read m (Due (Struct parts ∷ more)) = only_if (few parts && nat_eq m (named_parts parts)) (Whole (term.Struct parts) more)
close_read m (Due (_ ∷ more)) = None

-- unions
abbrev pub nameless : Term → Arm
nameless t = record { name = 0; term = t }

abbrev pub try_read : ℕ → ℕ → State → Option State
try_read number to (Due open_) = None
try_read number to (Whole t []) = None
try_read number to (Whole t (Alt arms ∷ more)) =
    only_if (nat_eq number (length arms)) (Due (Alt (arms ++ (record { arm = nameless t; to = to }) ∷ []) ∷ more))
try_read number to (Whole t (_ ∷ more)) = None

abbrev pub arms_of : List Tried → List Arm
arms_of [] = []
arms_of (tried ∷ arms) = tried.arm ∷ arms_of arms

abbrev pub none_read : ℕ → State → Option State
none_read p (Whole t open_) = None
none_read p (Due []) = None
none_read p (Due (Alt arms ∷ more)) =
    only_if (few arms && list_all (λ tried. nat_eq tried.to (p + 1)) arms) (Whole (term.Alt (arms_of arms)) more)
none_read p (Due (_ ∷ more)) = None

-- switched unions, which end behind their last case
abbrev pub cases_on : ℕ → Expr → List Target → ℕ → ℕ → List Case → List Opened → Option State
cases_on p e [] end next cases more = only_if (nat_eq end p) (Whole (term.Switch e cases) more)
cases_on p e (target ∷ left) end next cases more = Some (Due (Switch e (target ∷ left) end next cases ∷ more))

abbrev pub switch_read : ℕ → Expr → List Target → ℕ → State → Option State
switch_read p e left end (Whole t open_) = None
switch_read p e left end (Due open_) =
    if takes_term open_ && few left then cases_on (p + 1) e left end (p + 1) [] open_ else None

abbrev pub arm_read : ℕ → ℕ → ℕ → State → Option State
arm_read p number to (Due open_) = None
arm_read p number to (Whole t []) = None
arm_read p number to (Whole t (Switch e [] end next cases ∷ more)) = None
arm_read p number to (Whole t (Switch e (target ∷ left) end next cases ∷ more)) =
    if nat_eq number (length cases) && nat_eq to end && nat_eq target.to next
    then cases_on (p + 1) e left end (p + 1) (cases ++ (record { key = target.key; arm = nameless t }) ∷ []) more
    else None
arm_read p number to (Whole t (_ ∷ more)) = None

-- searches
abbrev pub scan_read : ℕ → State → Option State
scan_read to (Due open_) = None
scan_read to (Whole t []) = None
scan_read to (Whole t (Scan inner ∷ more)) = only_if (nat_eq to inner) (Whole (term.Scan t) more)
scan_read to (Whole t (_ ∷ more)) = None

-- arrays
abbrev pub full_read : Option Expr → ℕ → ℕ → State → Option State
full_read last elts to (Whole t open_) = None
full_read last elts to (Due []) = None
full_read last elts to (Due (Sized full size end ∷ more)) =
    Some (Due (Filled (record { full = full; size = size; end = end; last = last; elts = elts; shut = to }) None ∷ more))
full_read last elts to (Due (_ ∷ more)) = None

-- a Mark begins a terminator, or else a union
abbrev pub mark_read : State → Option State
mark_read (Whole t open_) = None
mark_read (Due []) = None
mark_read (Due (Filled head None ∷ more)) = Some (Due (Stopping head ∷ more))
mark_read (Due (construct ∷ more)) = begin (Alt []) (Due (construct ∷ more))

abbrev pub stop_read : ℕ → State → Option State
stop_read to (Due open_) = None
stop_read to (Whole t []) = None
stop_read to (Whole t (Stopping head ∷ more)) = only_if (nat_eq to head.shut) (Due (Filled head (Some t) ∷ more))
stop_read to (Whole t (_ ∷ more)) = None

abbrev pub edge_read : ℕ → State → Option State
edge_read to (Whole t open_) = None
edge_read to (Due []) = None
edge_read to (Due (Filled head stop ∷ more)) = only_if (nat_eq to head.shut) (Due (Edged head stop ∷ more))
edge_read to (Due (_ ∷ more)) = None

-- an element that doesn't begin right behind its turn has a separator before it
abbrev pub turn_read : ℕ → ℕ → State → Option State
turn_read p to (Whole t open_) = None
turn_read p to (Due []) = None
turn_read p to (Due (Edged head stop ∷ more)) =
    Some (Due ((if nat_eq to (p + 1) then Taking head stop None else Separating head stop to) ∷ more))
turn_read p to (Due (_ ∷ more)) = None

abbrev pub sep_read : ℕ → ℕ → State → Option State
sep_read p to (Due open_) = None
sep_read p to (Whole t []) = None
sep_read p to (Whole t (Separating head stop elem ∷ more)) =
    only_if (nat_eq to head.shut && nat_eq elem (p + 1)) (Due (Taking head stop (Some t) ∷ more))
sep_read p to (Whole t (_ ∷ more)) = None

abbrev pub elem_read : ℕ → ℕ → State → Option State
elem_read to again (Due open_) = None
elem_read to again (Whole t []) = None
elem_read to again (Whole t (Taking head stop sep ∷ more)) =
    only_if (nat_eq to head.shut && nat_eq again head.full) (Due (Shutting head stop sep t ∷ more))
elem_read to again (Whole t (_ ∷ more)) = None

abbrev pub array_read : Head → Option Term → Option Term → Term → Seq
array_read head stop sep elem = record { elem = elem; sep = sep; size = head.size; last = head.last; stop = stop; elts = head.elts }

abbrev pub shut_read : ℕ → State → Option State
shut_read p (Whole t open_) = None
shut_read p (Due []) = None
shut_read p (Due (Shutting head stop sep elem ∷ more)) =
    only_if (nat_eq head.shut p && nat_eq head.end (p + 1)) (Whole (term.Seq (array_read head stop sep elem)) more)
shut_read p (Due (_ ∷ more)) = None

-- declarations
abbrev pub return_read : ℕ → State → Option State
return_read p (Due open_) = None
return_read p (Whole t []) = None
return_read p (Whole t (Decls done first ∷ more)) = Some (Due (Decls (done ++ (record { first = first; term = t }) ∷ []) (p + 1) ∷ more))
return_read p (Whole t (_ ∷ more)) = None

-- one instruction, which stands at an address
abbrev pub instruction_read : ℕ → Op → State → Option State
instruction_read p op.Unit = leaf term.Unit
instruction_read p (op.Lit literal) = leaf (term.Lit literal)
instruction_read p op.Eor = leaf term.Eor
instruction_read p (op.Base base args) = leaf (term.Base base args)
instruction_read p (op.Compute e form) = leaf (term.Compute e form)
instruction_read p op.Absorb = wrap (λ inner. term.Absorb inner)
instruction_read p (op.Guard binder condition) = wrap (λ inner. term.Guard inner binder condition)
instruction_read p op.Open = begin (Struct [])
instruction_read p (op.Part name) = part_read name
instruction_read p (op.Close m) = close_read m
instruction_read p op.Mark = mark_read
instruction_read p op.ScanFrom = begin (Scan (p + 1))
instruction_read p (op.Try number to) = try_read number to
instruction_read p op.NoArm = none_read p
instruction_read p (op.Switch e left end) = switch_read p e left end
instruction_read p (op.Arm number to) = arm_read p number to
instruction_read p (op.Size size end) = begin (Sized (p + 1) size end)
instruction_read p (op.Full last elts to) = full_read last elts to
instruction_read p (op.Stop to) = stop_read to
instruction_read p (op.Edge to) = edge_read to
instruction_read p (op.Turn to) = turn_read p to
instruction_read p (op.Sep to) = sep_read p to
instruction_read p (op.Elem to again) = elem_read to again
instruction_read p op.Shut = shut_read p
instruction_read p (op.ScanOn to) = scan_read to
instruction_read p (op.Call number args) = leaf (term.Call number args)
instruction_read p op.Return = return_read p

abbrev pub go_on : Option State → (State → Option State) → Option State
go_on None more = None
go_on (Some state) more = more state

-- instructions that stand from an address on
unfoldable pub code_read : ℕ → List Op → State → Option State
code_read p [] state = Some state
code_read p (instruction ∷ code) state = go_on (instruction_read p instruction state) (λ next. code_read (p + 1) code next)

abbrev pub bodies_in : List Opened → Option (List Body)
bodies_in [] = None
bodies_in (Decls done first ∷ []) = Some done
bodies_in (construct ∷ more) = None

abbrev pub bodies_when : State → Option (List Body)
bodies_when (Due open_) = bodies_in open_
bodies_when (Whole t open_) = None

abbrev pub bodies_told : Option State → Option (List Body)
bodies_told None = None
bodies_told (Some state) = bodies_when state

-- the bodies of the declarations whose code this is, if it is that of some
abbrev pub bodies_of : List Op → Option (List Body)
bodies_of code = bodies_told (code_read 0 code (Due (Decls [] 0 ∷ [])))
