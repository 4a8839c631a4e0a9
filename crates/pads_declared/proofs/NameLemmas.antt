-- What a set of names keeps, from what the set of keys below it says.
use Rattle.std.proofs.Common.{◌≡◌, ◌∙◌, sym, ap, refl, ℕ, true, false, ◌||◌, if◌then◌else◌, List, [], ◌∷◌, ◌++◌, nat_eq}
use Rattle.std.specs.List.{list_any}
use Rattle.std.proofs.lemmas.List.{map-append}
use Rattle.std.specs.declared.vec.Vec.{Vec}
use Rattle.std.specs.declared.alloc.Global.{Global}
use lib.Pointwise.{pointwise}
use Rattle.pads_value.specs.Names.{texts}
use Rattle.pads_rules.specs.DifferentNames.{with_name}
use Rattle.pads_rules.specs.Texts.{same_text, is_among}

abbrev Held : Type 0
Held = Vec ℕ Global

pub among-texts : (keys : List Held) (name : List ℕ) → is_among (texts keys) name ≡ list_any (λ key. pointwise nat_eq name key.items) keys
unfolding same_text
among-texts [] name = refl
among-texts (key ∷ keys) name = ap (λ b. pointwise nat_eq name key.items || b) (among-texts keys name)

pub name-there : (names : List (List ℕ)) (name : List ℕ) → true ≡ is_among names name → names ≡ with_name names name
name-there names name there = ap (λ b. if b then names else names ++ name ∷ []) there

pub name-added : (keys : List Held) (name : List ℕ) (added : Held) (new : List Held)
    → false ≡ list_any (λ key. pointwise nat_eq name key.items) keys
    → added.items ≡ name
    → new ≡ (if list_any (λ key. pointwise nat_eq added.items key.items) keys then keys else keys ++ added ∷ [])
    → texts new ≡ with_name (texts keys) name
name-added keys name added new absent text inserted =
    let here : false ≡ list_any (λ key. pointwise nat_eq added.items key.items) keys = rw text absent in
    let last : new ≡ keys ++ added ∷ [] = inserted ∙ sym (ap (λ b. if b then keys else keys ++ added ∷ []) here) in
    let missing : false ≡ is_among (texts keys) name = absent ∙ sym (among-texts keys name) in
    ap texts last ∙ map-append (λ (key : Held). key.items) keys (added ∷ []) ∙ ap (λ t. texts keys ++ t ∷ []) text
    ∙ ap (λ b. if b then texts keys else texts keys ++ name ∷ []) missing
