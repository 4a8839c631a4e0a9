-- Needs stay small: no height passes the number of instructions and parameters, and each depth of calls
-- adds no more than that.
use Rattle.std.proofs.Common.{◌≡◌, sym, subst, arith, ℕ, zero, suc, ◌+◌, ◌*◌, ◌<◌, ◌≤◌, ◌^◌, max, true, List, [], ◌∷◌, length, get_or, Option, Some, None}
use Rattle.std.specs.List.{list_all}
use Rattle.std.proofs.lemmas.Bool.{and_parts, leb-true}
use Rattle.pads_module.specs.Counts.{few}
use Rattle.pads_calc.proofs.Cases.{pick}
use Rattle.pads_image.specs.declared.entry.Entry.{Entry}
use Rattle.pads_image.specs.declared.op.Op.{Op}
use Rattle.pads_image.specs.declared.op.Op.TheVariants as op
use Rattle.pads_image.specs.Blocks.{bindings_of}
use Rattle.pads_image.specs.Bounds.{AreBelow}
use Rattle.pads_image.specs.Heights.{Deeper, call_needs, needs_from, needs_over, needs, later_arities, next_arity, height_after, entries_at}
use Rattle.pads_image.specs.Validity.{arities_of, longest}
use Rattle.pads_image.specs.Variables.{is_return}
use Rattle.pads_image.proofs.Needs.{needs-none, needs-cons}

-- numbers of parameters
abbrev pub AreFew : List ℕ → Type 0
AreFew arities = (number : ℕ) → get_or arities number 0 ≤ 65535

later-few : (arities : List ℕ) → AreFew arities → AreFew (later_arities arities)
later-few [] few number = few number
later-few (arity ∷ later) few number = few (suc number)

next-few : (arities : List ℕ) → AreFew arities → next_arity arities ≤ 65535
next-few [] few = omega arith
next-few (arity ∷ later) few = few 0

pub entries-few : (entries : List Entry) → list_all (λ entry. few entry.params) entries ≡ true → AreFew (arities_of entries)
entries-few [] all zero = omega arith
entries-few [] all (suc number) = omega arith
entries-few (entry ∷ entries) all zero =
    let one = (and_parts (few entry.params) (list_all (λ (entry : Entry). few entry.params) entries) all).0 in
    leb-true (length entry.params) 65535 one
entries-few (entry ∷ entries) all (suc number) = entries-few entries (and_parts (few entry.params) (list_all (λ (entry : Entry). few entry.params) entries) all).1 number

binds-one : (name : Option ℕ) → bindings_of name ≤ 1
binds-one None = omega arith
binds-one (Some name) = omega arith

pub height-next : (instruction : Op) (h : ℕ) → height_after instruction h ≤ h + 1
height-next op.Open h = omega arith
height-next (op.Part name) h = omega (arith, binds-one name)
height-next (op.Close m) h = omega arith
height-next op.Mark h = omega arith
height-next op.ScanFrom h = omega arith
height-next op.NoArm h = omega arith
height-next (op.Size size end) h = omega arith
height-next (op.Stop to) h = omega arith
height-next (op.Turn to) h = omega arith
height-next (op.Elem to again) h = omega arith
height-next op.Shut h = omega arith
height-next (op.ScanOn to) h = omega arith
height-next _ h = omega arith

call-few : (deeper : Deeper) (most : ℕ) → AreBelow most deeper → (number h : ℕ) → call_needs deeper number h ≤ h + 1 + most
call-few None most below number h = omega arith
call-few (Some needs) most below number h = omega (arith, below number)

entries-next : (deeper : Deeper) (most : ℕ) → AreBelow most deeper → (instruction : Op) (h : ℕ) → entries_at deeper instruction h ≤ h + 1 + most
entries-next deeper most below (op.Guard binder condition) h = omega arith
entries-next deeper most below (op.Full last elts to) h = omega arith
entries-next deeper most below (op.Call number args) h = call-few deeper most below number h
entries-next deeper most below _ h = omega arith

module _ (deeper : Deeper) (most top : ℕ) (below : AreBelow most deeper) where
  abbrev Below : List ℕ → Type 0
  Below needs = (number : ℕ) → get_or needs number 0 ≤ top + 1 + most

  below-cons : (x : ℕ) (xs : List ℕ) → x ≤ top + 1 + most → Below xs → Below (x ∷ xs)
  below-cons x xs h rest zero = h
  below-cons x xs h rest (suc number) = rest number

  below-none : Below []
  below-none zero = omega arith
  below-none (suc number) = omega arith

  from-below : (code : List Op) (later : List ℕ) (h largest : ℕ) → AreFew later → h + length code ≤ top → 65535 + length code ≤ top → largest ≤ top + 1 + most
      → Below (needs_from deeper later h largest code)
  from-below [] later h largest few fits room small = subst Below (sym (needs-none deeper later h largest)) below-none
  from-below (instruction ∷ code) later h largest few fits room small =
      subst Below (sym (needs-cons deeper later h largest instruction code))
      (pick Below (is_return instruction)
      (max largest h ∷ needs_from deeper (later_arities later) (next_arity later) 0 code)
      (needs_from deeper later (height_after instruction h) (max largest (entries_at deeper instruction h)) code)
      (λ ends. below-cons (max largest h) _ (omega (arith, fits, small))
      (from-below code (later_arities later) (next_arity later) 0 (later-few later few) (omega (arith, next-few later few, room)) (omega (arith, room)) (omega arith)))
      (λ on. from-below code later (height_after instruction h) (max largest (entries_at deeper instruction h)) few
      (omega (arith, height-next instruction h, fits)) (omega (arith, room))
      (omega (arith, entries-next deeper most below instruction h, fits, small))))

-- what one depth more adds
abbrev pub layer : ℕ
layer = 1114112

over-below : (deeper : Deeper) (most : ℕ) → AreBelow most deeper → (code : List Op) (arities : List ℕ) → AreFew arities → length code ≤ longest
    → AreBelow (layer + most) (Some (needs_over deeper code arities))
over-below deeper most below code arities few short number =
    from-below deeper most 1114111 below code (later_arities arities) (next_arity arities) 0 (later-few arities few)
    (omega (arith, next-few arities few, short)) (omega (arith, short)) (omega arith) number

pub needs-below : (code : List Op) (arities : List ℕ) → AreFew arities → length code ≤ longest → (depth : ℕ) → AreBelow ((depth + 1) * layer) (Some (needs code arities depth))
unfolding needs
needs-below code arities few short zero number = over-below None 0 tt code arities few short number
needs-below code arities few short (suc depth) number =
    let less = over-below (Some (needs code arities depth)) ((depth + 1) * layer) (needs-below code arities few short depth) code arities few short number in
    omega (arith, less)

-- below 128 calls
pub needs-small : (code : List Op) (arities : List ℕ) → AreFew arities → length code ≤ longest → (depth : ℕ) → depth < 127 → AreBelow (2 ^ 40) (Some (needs code arities depth))
needs-small code arities few short depth deep number = omega (arith, needs-below code arities few short depth number, deep)
