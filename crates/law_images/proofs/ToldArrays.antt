-- Each instruction of arrays adds itself to what was read.
use Rattle.std.proofs.Common.{◌≡◌, ◌∙◌, sym, ap, refl, arith, ℕ, ◌+◌, Bool, true, false, ◌&&◌, nat_eq, List, [], ◌∷◌, ◌++◌, length, length-append, append_assoc, Option, None, Some, option_map, if◌then◌else◌}
use Rattle.std.proofs.lemmas.Bool.{and_parts, eqb-true}
use Rattle.pads_expr.specs.declared.expr.Expr.{Expr}
use Rattle.pads_calc.specs.declared.term.Term.{Term}
use Rattle.pads_calc.specs.declared.term.Term.TheVariants as term
use Rattle.pads_image.specs.declared.op.Op.{Op}
use Rattle.pads_image.specs.declared.op.Op.TheVariants as op
use Rattle.pads_image.specs.Blocks.{Block, stop_code, sep_code, layout}
use Rattle.pads_image.specs.Opened.{Head, Opened, Alt, Sized, Filled, Stopping, Edged, Separating, Taking, Shutting, State, Due, Whole}
use Rattle.pads_image.specs.Reads.{full_read, mark_read, stop_read, edge_read, turn_read, sep_read, elem_read, array_read, shut_read}
use Rattle.pads_image.proofs.Layouts.{layout-Seq}
use Rattle.pads_image.proofs.Lengths.{sized, stop-sized, sep-sized}
use Rattle.law_images.proofs.Shown.{filled_code, edge_of, taken_at, turn_code, taking_code, opened_code, shown, Placed, Appends, Tells, untold, told, told-if, due-at, whole-at, grows, takes, closes}
use Rattle.law_images.proofs.ToldForms.{begin-tells}

-- how long an array's code is so far
filled-long : (head : Head) (stop : Option Term) (b : ℕ) → b + length (filled_code head stop b) ≡ edge_of stop b
filled-long head stop b = omega (arith, stop-sized stop (λ t there. sized t) head.shut (b + 2))

taking-long : (head : Head) (stop sep : Option Term) (b : ℕ) → b + length (taking_code head stop sep b) ≡ taken_at stop sep b
taking-long head stop sep b =
    omega (
      arith,
      filled-long head stop b,
      length-append (filled_code head stop b) (turn_code head stop sep b),
      sep-sized sep (λ t there. sized t) head.shut (edge_of stop b + 2),
    )

pub full-tells : (p : ℕ) (last : Option Expr) (elts to : ℕ) → Tells p (op.Full last elts to) (full_read last elts to)
full-tells p last elts to (Whole t open_) next at_ placed read = untold next read
full-tells p last elts to (Due []) next at_ placed read = untold next read
full-tells p last elts to (Due (Sized full size end ∷ more)) next at_ placed read =
    let head : Head = record { full = full; size = size; end = end; last = last; elts = elts; shut = to } in
    told (op.Full last elts to) (Due (Sized full size end ∷ more)) (Due (Filled head None ∷ more)) next read
    (grows (Sized full size end) more (op.Full last elts to) (Filled head None) refl placed.0 placed.1)
full-tells p last elts to (Due (construct ∷ more)) next at_ placed read = untold next read

pub mark-tells : (p : ℕ) → Tells p op.Mark mark_read
mark-tells p (Whole t open_) next at_ placed read = untold next read
mark-tells p (Due []) next at_ placed read = untold next read
mark-tells p (Due (Filled head None ∷ more)) next at_ placed read =
    told op.Mark (Due (Filled head None ∷ more)) (Due (Stopping head ∷ more)) next read (grows (Filled head None) more op.Mark (Stopping head) refl placed.0 placed.1)
mark-tells p (Due (construct ∷ more)) next at_ placed read = begin-tells p op.Mark (Alt []) (λ q. refl) tt (Due (construct ∷ more)) next at_ placed read

stopped-code : (head : Head) (t : Term) (to b : ℕ) → to ≡ head.shut
    → filled_code head (Some t) b ≡ opened_code (Stopping head) b ++ ((layout t).code (b + length (opened_code (Stopping head) b)) ++ op.Stop to ∷ [])
stopped-code head t to b same =
    let code = λ (q to : ℕ). op.Size head.size head.end ∷ op.Full head.last head.elts head.shut ∷ op.Mark ∷ ((layout t).code q ++ op.Stop to ∷ []) in
    let here : b + 2 + 1 ≡ b + 3 = omega arith in
    ap (λ q. code q head.shut) here ∙ ap (λ to. code (b + 3) to) (sym same)

pub stop-tells : (p to : ℕ) → Tells p (op.Stop to) (stop_read to)
stop-tells p to (Due open_) next at_ placed read = untold next read
stop-tells p to (Whole t []) next at_ placed read = untold next read
stop-tells p to (Whole t (Stopping head ∷ more)) next at_ placed read =
    told-if (op.Stop to) (Whole t (Stopping head ∷ more)) (Due (Filled head (Some t) ∷ more)) next (nat_eq to head.shut) read
    (λ may. takes (Stopping head) more t (op.Stop to) (Filled head (Some t)) (stopped-code head t to (length (shown more)) (eqb-true to head.shut may)) placed.0 placed.1)
stop-tells p to (Whole t (construct ∷ more)) next at_ placed read = untold next read

pub edge-tells : (p to : ℕ) → Tells p (op.Edge to) (edge_read to)
edge-tells p to (Whole t open_) next at_ placed read = untold next read
edge-tells p to (Due []) next at_ placed read = untold next read
edge-tells p to (Due (Filled head stop ∷ more)) next at_ placed read =
    let front = filled_code head stop (length (shown more)) in
    told-if (op.Edge to) (Due (Filled head stop ∷ more)) (Due (Edged head stop ∷ more)) next (nat_eq to head.shut) read
    (λ may. grows (Filled head stop) more (op.Edge to) (Edged head stop) (ap (λ to. front ++ op.Edge to ∷ []) (sym (eqb-true to head.shut may))) placed.0 placed.1)
edge-tells p to (Due (construct ∷ more)) next at_ placed read = untold next read

-- a turn, by whether the element begins right behind it
turned-code : (head : Head) (stop : Option Term) (to b : ℕ) → filled_code head stop b ++ op.Edge head.shut ∷ op.Turn to ∷ [] ≡ opened_code (Edged head stop) b ++ op.Turn to ∷ []
turned-code head stop to b = sym (append_assoc (filled_code head stop b) (op.Edge head.shut ∷ []) (op.Turn to ∷ []))

turned-at : (head : Head) (stop : Option Term) (p to b : ℕ) → to ≡ p + 1 → p ≡ b + length (opened_code (Edged head stop) b) → taken_at stop None b ≡ to
turned-at head stop p to b same at_ =
    omega (arith, same, at_, filled-long head stop b, length-append (filled_code head stop b) (op.Edge head.shut ∷ []))

turned : (head : Head) (stop : Option Term) (more : List Opened) (p to : ℕ) (next : State) → p ≡ length (shown more) + length (opened_code (Edged head stop) (length (shown more)))
    → head.full ≡ length (shown more) + 1 → Placed more → (here : Bool) → nat_eq to (p + 1) ≡ here
    → Some (Due ((if here then Taking head stop None else Separating head stop to) ∷ more)) ≡ Some next → Appends (op.Turn to) (Due (Edged head stop ∷ more)) next
turned head stop more p to next at_ full placed true is read =
    let b = length (shown more) in
    let front = filled_code head stop b in
    told (op.Turn to) (Due (Edged head stop ∷ more)) (Due (Taking head stop None ∷ more)) next read
    (grows (Edged head stop) more (op.Turn to) (Taking head stop None)
    (ap (λ to. front ++ op.Edge head.shut ∷ op.Turn to ∷ []) (turned-at head stop p to b (eqb-true to (p + 1) is) at_) ∙ turned-code head stop to b) full placed)
turned head stop more p to next at_ full placed false is read =
    told (op.Turn to) (Due (Edged head stop ∷ more)) (Due (Separating head stop to ∷ more)) next read
    (grows (Edged head stop) more (op.Turn to) (Separating head stop to) (turned-code head stop to (length (shown more))) full placed)

pub turn-tells : (p to : ℕ) → Tells p (op.Turn to) (turn_read p to)
turn-tells p to (Whole t open_) next at_ placed read = untold next read
turn-tells p to (Due []) next at_ placed read = untold next read
turn-tells p to (Due (Edged head stop ∷ more)) next at_ placed read =
    turned head stop more p to next (due-at (Edged head stop) more p at_) placed.0 placed.1 (nat_eq to (p + 1)) refl read
turn-tells p to (Due (construct ∷ more)) next at_ placed read = untold next read

separated-code : (head : Head) (stop : Option Term) (elem p to b : ℕ) (t : Term) → to ≡ head.shut → elem ≡ p + 1
    → p ≡ b + length (opened_code (Separating head stop elem) b) + (layout t).size
    → taking_code head stop (Some t) b
    ≡ opened_code (Separating head stop elem) b ++ ((layout t).code (b + length (opened_code (Separating head stop elem) b)) ++ op.Sep to ∷ [])
separated-code head stop elem p to b t same next at_ =
    let front = filled_code head stop b in
    let turn = op.Edge head.shut ∷ op.Turn elem ∷ [] in
    let inner = λ (q : ℕ). (layout t).code q in
    let code = λ (elem q to : ℕ). front ++ op.Edge head.shut ∷ op.Turn elem ∷ (inner q ++ op.Sep to ∷ []) in
    let long = length-append front turn in
    let q = b + length (front ++ turn) in
    let here : edge_of stop b + 2 ≡ q = omega (arith, filled-long head stop b, long) in
    let there : taken_at stop (Some t) b ≡ elem = omega (arith, here, at_, next) in
    ap (λ elem. code elem (edge_of stop b + 2) head.shut) there ∙ ap (λ q. code elem q head.shut) here ∙ ap (λ to. code elem q to) (sym same)
    ∙ sym (append_assoc front turn (inner q ++ op.Sep to ∷ []))

pub sep-tells : (p to : ℕ) → Tells p (op.Sep to) (sep_read p to)
sep-tells p to (Due open_) next at_ placed read = untold next read
sep-tells p to (Whole t []) next at_ placed read = untold next read
sep-tells p to (Whole t (Separating head stop elem ∷ more)) next at_ placed read =
    told-if (op.Sep to) (Whole t (Separating head stop elem ∷ more)) (Due (Taking head stop (Some t) ∷ more)) next (nat_eq to head.shut && nat_eq elem (p + 1)) read (λ may.
    let two = and_parts (nat_eq to head.shut) (nat_eq elem (p + 1)) may in
    takes (Separating head stop elem) more t (op.Sep to) (Taking head stop (Some t))
    (separated-code head stop elem p to (length (shown more)) t (eqb-true to head.shut two.0) (eqb-true elem (p + 1) two.1)
    (whole-at (Separating head stop elem) more t p at_)) placed.0 placed.1)
sep-tells p to (Whole t (construct ∷ more)) next at_ placed read = untold next read

pub elem-tells : (p to again : ℕ) → Tells p (op.Elem to again) (elem_read to again)
elem-tells p to again (Due open_) next at_ placed read = untold next read
elem-tells p to again (Whole t []) next at_ placed read = untold next read
elem-tells p to again (Whole t (Taking head stop sep ∷ more)) next at_ placed read =
    let b = length (shown more) in
    let front = taking_code head stop sep b in
    let code = λ (to again : ℕ). front ++ ((layout t).code (b + length front) ++ op.Elem to again ∷ []) in
    told-if (op.Elem to again) (Whole t (Taking head stop sep ∷ more)) (Due (Shutting head stop sep t ∷ more)) next (nat_eq to head.shut && nat_eq again head.full) read (λ may.
    let two = and_parts (nat_eq to head.shut) (nat_eq again head.full) may in
    takes (Taking head stop sep) more t (op.Elem to again) (Shutting head stop sep t)
    (ap (λ to. code to head.full) (sym (eqb-true to head.shut two.0)) ∙ ap (λ again. code to again) (sym (eqb-true again head.full two.1))) placed.0 placed.1)
elem-tells p to again (Whole t (construct ∷ more)) next at_ placed read = untold next read

-- the two last instructions of an array
two-last : (front inner : List Op) (x y : Op) → (front ++ inner) ++ (x ∷ y ∷ []) ≡ (front ++ (inner ++ x ∷ [])) ++ y ∷ []
two-last front inner x y =
    append_assoc front inner (x ∷ y ∷ []) ∙ ap (λ rest. front ++ rest) (sym (append_assoc inner (x ∷ []) (y ∷ [])))
    ∙ sym (append_assoc front (inner ++ x ∷ []) (y ∷ []))

array-code : (head : Head) (stop sep : Option Term) (elem : Term) (b : ℕ) → head.full ≡ b + 1 → head.shut ≡ taken_at stop sep b + (layout elem).size + 1 → head.end ≡ head.shut + 1
    → (layout (term.Seq (array_read head stop sep elem))).code b ≡ opened_code (Shutting head stop sep elem) b ++ op.Shut ∷ []
array-code head stop sep elem b full shut end =
    let stops = λ (shut : ℕ). stop_code (option_map layout stop) shut (b + 2) in
    let seps = λ (shut : ℕ). sep_code (option_map layout sep) shut (edge_of stop b + 2) in
    let inner = λ (q : ℕ). (layout elem).code q in
    let turn = λ (shut : ℕ). op.Edge shut ∷ op.Turn (taken_at stop sep b) ∷ seps shut in
    let first = λ (end shut : ℕ). op.Size head.size end ∷ op.Full head.last head.elts shut ∷ stops shut in
    let code = λ (end shut q full : ℕ). ((first end shut ++ turn shut) ++ inner q) ++ (op.Elem shut full ∷ op.Shut ∷ []) in
    let at_ = taken_at stop sep b in
    let q = b + length (taking_code head stop sep b) in
    let s = at_ + (layout elem).size + 1 in
    ap (λ (block : Block). block.code b) (layout-Seq (array_read head stop sep elem))
    ∙ ap (λ shut. code (shut + 1) shut at_ (b + 1)) (sym shut)
    ∙ ap (λ end. code end head.shut at_ (b + 1)) (sym end)
    ∙ ap (λ q. code head.end head.shut q (b + 1)) (sym (taking-long head stop sep b))
    ∙ ap (λ full. code head.end head.shut q full) (sym full)
    ∙ two-last (taking_code head stop sep b) (inner q) (op.Elem head.shut head.full) op.Shut

shut-place : (head : Head) (stop sep : Option Term) (elem : Term) (b p : ℕ) → p ≡ b + length (opened_code (Shutting head stop sep elem) b)
    → p ≡ taken_at stop sep b + (layout elem).size + 1
shut-place head stop sep elem b p at_ =
    let front = taking_code head stop sep b in
    let inner = (layout elem).code (b + length front) in
    let end = op.Elem head.shut head.full ∷ [] in
    omega (arith, at_, taking-long head stop sep b, length-append front (inner ++ end), length-append inner end, sized elem (b + length front))

pub shut-tells : (p : ℕ) → Tells p op.Shut (shut_read p)
shut-tells p (Whole t open_) next at_ placed read = untold next read
shut-tells p (Due []) next at_ placed read = untold next read
shut-tells p (Due (Shutting head stop sep elem ∷ more)) next at_ placed read =
    let b = length (shown more) in
    let whole = term.Seq (array_read head stop sep elem) in
    told-if op.Shut (Due (Shutting head stop sep elem ∷ more)) (Whole whole more) next (nat_eq head.shut p && nat_eq head.end (p + 1)) read (λ may.
    let two = and_parts (nat_eq head.shut p) (nat_eq head.end (p + 1)) may in
    let shut = eqb-true head.shut p two.0 in
    let end = eqb-true head.end (p + 1) two.1 in
    closes (Shutting head stop sep elem) more op.Shut whole
    (array-code head stop sep elem b placed.0 (shut ∙ shut-place head stop sep elem b p (due-at (Shutting head stop sep elem) more p at_))
    (end ∙ ap (λ p. p + 1) (sym shut))) placed.1)
shut-tells p (Due (construct ∷ more)) next at_ placed read = untold next read
