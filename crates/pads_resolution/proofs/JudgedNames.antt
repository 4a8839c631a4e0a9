-- The sorts of names in scope, for resolving and for the rules.
use Rattle.std.proofs.Common.{◌≡◌, refl, ℕ, Bool, true, false, if◌then◌else◌, List, [], ◌∷◌, map, find, Option, Some, option_map}
use Rattle.pads_rules.specs.Texts.{same_text, sort_of}
use Rattle.pads_resolution.specs.declared.visible.Known.{Known}
use Rattle.pads_resolution.specs.declared.visible.Visible.{Visible}
use Rattle.pads_resolution.specs.Scopes.{NameScope, known_in}
use Rattle.pads_resolution.specs.JudgedNames.{as_named}

pub sort-known : (scope : NameScope) (text : List ℕ) → sort_of (map as_named scope) text ≡ option_map (λ (k : Known). k.sort) (known_in scope text)
sort-known [] text = refl
sort-known (visible ∷ scope) text = by_text (same_text visible.text text) (sort-known scope text)
  where
    by_text : (t : Bool) → sort_of (map as_named scope) text ≡ option_map (λ (k : Known). k.sort) (known_in scope text) →
        option_map (λ named. named.sort) (if t then Some (as_named visible) else find (λ named. same_text named.text text) (map as_named scope))
        ≡ option_map (λ (k : Known). k.sort) (option_map (λ (v : Visible). v.known) (if t then Some visible else find (λ v. same_text v.text text) scope))
    by_text true e = refl
    by_text false e = e
