-- The latest entries of the stacks, and where marks are.
use Rattle.std.proofs.Common.{◌≡◌, ◌∙◌, sym, ap, refl, subst, arith, ℕ, ◌<◌, ◌≤◌, List, [], ◌∷◌, length, drop, map, reverse, take, ◌-◌, Bool, true, is_some, nat_eq, Option, Some, None, slice_get}
use Rattle.std.proofs.lemmas.List.{length-map, length-reverse}
use Rattle.pads_expr.proofs.Reversed.{reverse-take}
use Rattle.pads_value.specs.declared.cause.Cause.{Cause}
use Rattle.std.specs.declared.vec.Vec.{Vec}
use Rattle.std.specs.declared.alloc.Global.{Global}
use Rattle.pads_calc.specs.Arrays.{is_full}
use Rattle.pads_image.specs.States as states
use Rattle.pads_image.specs.States.{seen}
use Rattle.pads_image.specs.Steps.{is_first}
use Rattle.pads_machine.specs.declared.node.Caller.{Caller}
use Rattle.pads_machine.specs.declared.node.Mark.{Mark}
use Rattle.pads_machine.specs.declared.node.Node.{Node}
use Rattle.pads_machine.specs.declared.state.State.{State}
use Rattle.pads_machine.specs.Held.{AreWithin, Placed}
use Rattle.pads_machine.specs.Ran.{StaysPlaced}
use Rattle.pads_machine.specs.Shown.{IsSearching, above, below, caller_shown, mark_shown, node_shown, nodes_shown, shown}
use Rattle.pads_machine.proofs.Halts.{some-below}
use Rattle.pads_machine.proofs.Homes.{back-length}

pub first-there : {A : Type 0} (xs : List A) (x : A) → slice_get xs 0 ≡ Some x → xs ≡ x ∷ drop 1 xs
first-there [] x there = cc
first-there (y ∷ xs) x there = let same : y ≡ x = cc in ap (λ y. y ∷ xs) same

-- what is left where the latest one is taken
pub rest-there : {A : Type 0} (xs ys : List A) (n : ℕ) (x : A) → slice_get (reverse xs) 0 ≡ Some x → n ≡ length xs → ys ≡ take (n - 1) xs → reverse ys ≡ drop 1 (reverse xs)
rest-there xs ys n x there size rest =
    let some = some-below (reverse xs) 0 x there in
    let one : length xs - (n - 1) ≡ 1 = omega (arith, some, size, length-reverse xs) in
    ap reverse rest ∙ reverse-take (n - 1) xs ∙ ap (λ k. drop k (reverse xs)) one

module _ (m : State) where
  pub marks-are : (mark : Mark) → slice_get (reverse m.marks.items) 0 ≡ Some mark → (shown m).marks ≡ mark_shown mark ∷ map mark_shown (drop 1 (reverse m.marks.items))
  marks-are mark there = ap (λ (marks : List Mark). map mark_shown marks) (first-there (reverse m.marks.items) mark there)

  pub callers-are : (caller : Caller) → slice_get (reverse m.callers.items) 0 ≡ Some caller
      → (shown m).callers ≡ caller_shown caller ∷ map caller_shown (drop 1 (reverse m.callers.items))
  callers-are caller there = ap (λ (callers : List Caller). map caller_shown callers) (first-there (reverse m.callers.items) caller there)

  abbrev pub below_top : Node → List states.Node
  below_top n = nodes_shown (drop 1 (reverse m.nodes.items)) (below n.base (reverse m.homes.items)) (below n.base (reverse m.bindings.items))

  abbrev pub top_shown : Node → states.Node
  top_shown n = node_shown n (reverse m.homes.items) (reverse m.bindings.items)

  pub nodes-are : (n : Node) → slice_get (reverse m.nodes.items) 0 ≡ Some n → (shown m).nodes ≡ top_shown n ∷ below_top n
  nodes-are n there = ap (λ (nodes : List Node). nodes_shown nodes (reverse m.homes.items) (reverse m.bindings.items)) (first-there (reverse m.nodes.items) n there)

  pub nodes-first : (n : Node) (first : Bool) → nat_eq (length n.values.items) 0 ≡ first → is_first (top_shown n) ≡ first
  nodes-first n first is =
      ap (λ k. nat_eq k 0) (back-length (above n.base (reverse m.homes.items)) (above n.base (reverse m.bindings.items)) n.values.items) ∙ is

  pub nodes-full : (n : Node) (count : ℕ) → count ≡ length n.values.items → is_full (top_shown n).size (length (top_shown n).values) ≡ is_full n.size count
  nodes-full n count size =
      ap (λ k. is_full n.size k) (back-length (above n.base (reverse m.homes.items)) (above n.base (reverse m.bindings.items)) n.values.items ∙ sym size)

  -- a search goes on
  searching-so : (place : ℕ) (cause : Option Cause) (rest : List states.Mark) → is_some cause ≡ true → IsSearching ((record { place = place; cause = cause }) ∷ rest)
  searching-so place None rest some = cc
  searching-so place (Some cause) rest some = (place, cause, rest, refl)

  pub searching-there : (mark : Mark) → slice_get (reverse m.marks.items) 0 ≡ Some mark → is_some mark.cause ≡ true → IsSearching (shown m).marks
  searching-there mark there some =
      subst (λ (marks : List states.Mark). IsSearching marks) (sym (marks-are mark there)) (searching-so mark.place mark.cause (map mark_shown (drop 1 (reverse m.marks.items))) some)

  -- the latest mark is at a place of the record, and the others
  pub mark-placed : (most : ℕ) (mark : Mark) → Placed most m → slice_get (reverse m.marks.items) 0 ≡ Some mark → (mark.place ≤ most) × AreWithin most (drop 1 (reverse m.marks.items))
  mark-placed most mark placed there = subst (λ (marks : List Mark). AreWithin most marks) (first-there (reverse m.marks.items) mark there) placed.marks

-- where the first of these marks is
abbrev place_in : List states.Mark → ℕ
place_in [] = 0
place_in (mark ∷ marks) = mark.place

module _ (m : State) (found : IsSearching (shown m).marks) where
  -- a search that goes on has a mark, which is where it began
  pub searching-some : 0 < length m.marks.items
  searching-some =
      let size = ap length found.3 in
      omega (arith, size, length-map (reverse m.marks.items) mark_shown, length-reverse m.marks.items)

  pub searched-from : (mark : Mark) → slice_get (reverse m.marks.items) 0 ≡ Some mark → mark.place ≡ found.0
  searched-from mark there = ap place_in (sym (marks-are m mark there) ∙ found.3)

-- what an expression sees doesn't hang on the nodes
pub seen-beside : (s : states.State) (nodes : List states.Node) → seen (record s { nodes = nodes }) ≡ seen s
unfolding seen
seen-beside s nodes = refl

-- where neither what was read last nor a mark moves
pub placed-same : (m k : State) → k.last.place ≡ m.last.place → k.marks ≡ m.marks → StaysPlaced m k
placed-same m k place marks most placed = record {
  last = subst (λ p. p ≤ most) (sym place) placed.last;
  marks = subst (λ (marks : Vec Mark Global). AreWithin most (reverse marks.items)) (sym marks) placed.marks;
}

pub places-same : (most : ℕ) (m k : State) → k.last.place ≤ most → k.marks ≡ m.marks → Placed most m → Placed most k
places-same most m k place marks placed = record {
  last = place;
  marks = subst (λ (marks : Vec Mark Global). AreWithin most (reverse marks.items)) (sym marks) placed.marks;
}
