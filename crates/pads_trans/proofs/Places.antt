-- The names of a set that keeps their order, and a table of them.
use Rattle.std.proofs.Common.{◌≡◌, ◌∙◌, sym, ap, refl, ℕ, ◌+◌, ◌<◌, ◌≤◌, false, if◌then◌else◌, List, [], ◌∷◌, ◌++◌, length, length-append, take, get_or, position, nat_eq, Option, None, Some, MatchOption, arith}
use Rattle.std.specs.List.{list_any}
use Rattle.std.specs.declared.vec.Vec.{Vec}
use Rattle.std.specs.declared.alloc.Global.{Global}
use Rattle.std.proofs.lemmas.List.{map-append, length-map, length-take-le, take_more}
use Rattle.std.proofs.lemmas.List.Sums.{fold-append}
use lib.Pointwise.{pointwise}
use Rattle.pads_value.specs.Names.{texts, NumbersName}
use Rattle.pads_value.proofs.NameLemmas.{position-map}
use Rattle.pads_trans.specs.Names.{Name, place_of, number_of, names_at, with_name, with_names}

abbrev Held : Type 0
Held = Vec ℕ Global

abbrev held_place : List Held → Name → Option ℕ
held_place keys name = position (λ key. pointwise nat_eq name key.items) keys

places : (keys : List Held) (name : Name) → place_of (texts keys) name ≡ held_place keys name
places keys name = position-map (λ (key : Held). key.items) (λ other. pointwise nat_eq name other) keys

-- the number of a name that the set has, and of one that it hasn't
pub number-there : (keys : List Held) (name : Name) (number : ℕ) → Some number ≡ held_place keys name → number ≡ number_of (texts keys) name
unfolding number_of
number-there keys name number at = rw (places keys name, ← at) refl

pub number-past : (keys : List Held) (name : Name) → None ≡ held_place keys name → length keys ≡ number_of (texts keys) name
unfolding number_of
number-past keys name at = rw (places keys name, ← at) (sym (length-map keys (λ (key : Held). key.items)))

-- a name that the set has changes nothing, another one goes last
pub stays-there : (keys : List Held) (name : Name) (number : ℕ) → Some number ≡ held_place keys name → texts keys ≡ with_name (texts keys) name
unfolding with_name
stays-there keys name number at = rw (places keys name, ← at) refl

pub goes-last : (keys : List Held) (name : Name) (added : Held) (new : List Held)
    → None ≡ held_place keys name
    → false ≡ list_any (λ key. pointwise nat_eq name key.items) keys
    → added.items ≡ name
    → new ≡ (if list_any (λ key. pointwise nat_eq added.items key.items) keys then keys else keys ++ added ∷ [])
    → texts new ≡ with_name (texts keys) name
unfolding with_name
goes-last keys name added new at absent text inserted =
    let here : false ≡ list_any (λ key. pointwise nat_eq added.items key.items) keys = rw text absent in
    let last : new ≡ keys ++ added ∷ [] = inserted ∙ sym (ap (λ b. if b then keys else keys ++ added ∷ []) here) in
    rw (places keys name, ← at) (ap texts last ∙ map-append (λ (key : Held). key.items) keys (added ∷ []) ∙ ap (λ t. texts keys ++ t ∷ []) text)

by-place : (old new : List Name) (name : Name) (number : ℕ) (o : Option ℕ)
    → MatchOption o ((number ≡ length old) × (new ≡ old ++ name ∷ [])) (λ place. (number ≡ place) × (new ≡ old))
    → new ≡ names_at old name o
by-place old new name number None h = h.1
by-place old new name number (Some place) h = h.1

-- what a table's names are with one more
pub added-to : (old new : List Name) (name : Name) (number : ℕ) → NumbersName old name number new → new ≡ with_name old name
unfolding with_name
added-to old new name number h = by-place old new name number (place_of old name) h

at-room : (names : List Name) (name : Name) (o : Option ℕ) → length (names_at names name o) ≤ length names + 1
at-room names name None = omega (arith, length-append names (name ∷ []))
at-room names name (Some place) = omega arith

one-room : (names : List Name) (name : Name) → length (with_name names name) ≤ length names + 1
unfolding with_name
one-room names name = at-room names name (place_of names name)

-- there are at most as many different names as names
pub room : (names : List Name) (more : List Name) → length (with_names names more) ≤ length names + length more
room names [] = omega arith
room names (name ∷ more) = omega (arith, one-room names name, room (with_name names name) more)

-- a table of the names so far has room for one more
pub table-room : (keys : List Held) (i : ℕ) (table : List Name) → table ≡ with_names [] (texts (take i keys)) → i < length keys → length (texts keys) < 65535 → length table < 65535
table-room keys i table is below few =
    let held : length table ≤ length (texts (take i keys)) = rw is (omega (arith, room [] (texts (take i keys)))) in
    let taken : length (texts (take i keys)) ≡ length (take i keys) = length-map (take i keys) (λ (key : Held). key.items) in
    let all : length (texts keys) ≡ length keys = length-map keys (λ (key : Held). key.items) in
    omega (arith, held, taken, all, length-take-le i keys (omega (arith, below)), below, few)

pub table-more : (keys : List Held) (i : ℕ) (table new : List Name) (held : Held) (number : ℕ)
    → table ≡ with_names [] (texts (take i keys)) → i < length keys → held ≡ get_or keys i held → NumbersName table held.items number new
    → new ≡ with_names [] (texts (take (i + 1) keys))
table-more keys i table new held number is below here numbered =
    let one : take (i + 1) keys ≡ take i keys ++ held ∷ [] = take_more keys i held below ∙ ap (λ (h : Held). take i keys ++ h ∷ []) (sym here) in
    let split : texts (take (i + 1) keys) ≡ texts (take i keys) ++ held.items ∷ [] = ap texts one ∙ map-append (λ (key : Held). key.items) (take i keys) (held ∷ []) in
    added-to table new held.items number numbered ∙ ap (λ (t : List Name). with_name t held.items) is
    ∙ sym (fold-append with_name [] (texts (take i keys)) (held.items ∷ [])) ∙ sym (ap (with_names []) split)

-- names that are different stay as they are when they are met again
one-again : (names : List Name) (name : Name) (o : Option ℕ) → o ≡ place_of names name → with_names [] names ≡ names → with_names [] (names_at names name o) ≡ names_at names name o
unfolding with_name
one-again names name None at same =
    fold-append with_name [] names (name ∷ []) ∙ ap (λ (t : List Name). with_name t name) same ∙ ap (names_at names name) (sym at)
one-again names name (Some place) at same = same

pub again : (names more : List Name) → with_names [] names ≡ names → with_names [] (with_names names more) ≡ with_names names more
unfolding with_name
again names [] same = same
again names (name ∷ more) same = again (with_name names name) more (one-again names name (place_of names name) refl same)
