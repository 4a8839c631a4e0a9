-- What a table of names keeps, from what the set of names below it says.
use Rattle.std.proofs.Common.{◌≡◌, ℕ, ◌+◌, Bool, false, not, cond, if◌then◌else◌, List, [], ◌∷◌, ◌++◌, length, map, position, nat_eq, Some, None, refl, sym, ap, ◌∙◌, vec_len}
use Rattle.std.specs.List.{prefix_len, list_any, AllZip}
use Rattle.std.proofs.lemmas.List.{length-map, map-append}
use Rattle.std.specs.declared.vec.Vec.{Vec}
use Rattle.std.specs.declared.alloc.Global.{Global}
use lib.Pointwise.{pointwise}
use Rattle.pads_value.specs.Names.{texts, NumbersName}

module _ {X Y : Type 0} (f : X → Y) where
  prefix_len-map : (p : Y → Bool) (xs : List X) → prefix_len p (map f xs) ≡ prefix_len (λ x. p (f x)) xs
  prefix_len-map p [] = refl
  prefix_len-map p (x ∷ xs) = ap (λ n. cond (p (f x)) (1 + n) 0) (prefix_len-map p xs)

  -- the first place of a list that is made item by item
  pub position-map : (p : Y → Bool) (xs : List X) → position p (map f xs) ≡ position (λ x. p (f x)) xs
  position-map p xs = rw (prefix_len-map (λ y. not (p y)) xs, length-map xs f) refl

-- the test of a name's own text
abbrev is_named : List ℕ → List ℕ → Bool
is_named name other = pointwise nat_eq name other

abbrev Held : Type 0
Held = Vec ℕ Global

-- a name that the set has keeps its number
pub numbered-there : (keys : List Held) (name : List ℕ) (number : ℕ)
    → Some number ≡ position (λ key. is_named name key.items) keys → NumbersName (texts keys) name number (texts keys)
numbered-there keys name number at = rw (position-map (λ (key : Held). key.items) (is_named name) keys, ← at) (refl, refl)

-- a name that the set doesn't have goes last
pub numbered-last : (keys : List Held) (name : List ℕ) (added : Held) (new : List Held)
    → None ≡ position (λ key. is_named name key.items) keys
    → false ≡ list_any (λ key. is_named name key.items) keys
    → added.items ≡ name
    → new ≡ (if list_any (λ key. is_named added.items key.items) keys then keys else keys ++ added ∷ [])
    → NumbersName (texts keys) name (length keys) (texts new)
numbered-last keys name added new at absent text inserted =
    let here : false ≡ list_any (λ key. is_named added.items key.items) keys = rw text absent in
    let last : new ≡ keys ++ added ∷ [] = inserted ∙ sym (ap (λ b. if b then keys else keys ++ added ∷ []) here) in
    rw (position-map (λ (key : Held). key.items) (is_named name) keys, ← at) (
      sym (length-map keys (λ (key : Held). key.items)),
      ap texts last ∙ map-append (λ (key : Held). key.items) keys (added ∷ []) ∙ ap (λ t. texts keys ++ t ∷ []) text,
    )

-- texts that are equal place by place are equal
same_items : (xs ys : List ℕ) → AllZip (λ x y. y ≡ x) xs ys → ys ≡ xs
same_items [] [] same = refl
same_items [] (y ∷ ys) same = absurd same
same_items (x ∷ xs) [] same = absurd same
same_items (x ∷ xs) (y ∷ ys) same = rw (same.0, same_items xs ys same.1) refl

-- copies of names have the texts of the names
pub texts-copied : (keys copies : List Held) → AllZip (λ key copy. AllZip (λ x y. y ≡ x) key.items copy.items × (vec_len copy ≡ vec_len key)) keys copies → texts copies ≡ texts keys
texts-copied [] [] same = refl
texts-copied [] (copy ∷ copies) same = absurd same
texts-copied (key ∷ keys) [] same = absurd same
texts-copied (key ∷ keys) (copy ∷ copies) same = rw (same_items key.items copy.items same.0.0, texts-copied keys copies same.1) refl
