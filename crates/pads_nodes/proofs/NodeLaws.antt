-- Nodes of many at once: one step from all of them, then the others, is all steps from each.
use Rattle.std.proofs.Common.{◌≡◌, ◌∙◌, refl, sym, ap, List, [], ◌∷◌, ◌++◌, map, reverse}
use Rattle.std.specs.List.{flat_map}
use Rattle.std.proofs.lemmas.Grind.{flat_map-append}
use Rattle.std.proofs.lemmas.List.{map-append, reverse-append, reverse-reverse}
use Rattle.pads_nodes.specs.Nodes.{Node, nodes, below}
use Rattle.pads_nodes.specs.declared.step.Step.{Step}

pub one_step_more : (next : Step) (steps : List Step) (above : List Node) →
    flat_map (nodes (next ∷ steps)) above ≡ flat_map (nodes steps) (flat_map (below next) above)
one_step_more next steps [] = refl
one_step_more next steps (node ∷ above) =
    ap (λ more. flat_map (nodes steps) (below next node) ++ more) (one_step_more next steps above)
    ∙ sym (flat_map-append (nodes steps) (below next node) (flat_map (below next) above))

pub no_steps : (above : List Node) → flat_map (nodes []) above ≡ above
no_steps [] = refl
no_steps (node ∷ above) = ap (λ more. node ∷ more) (no_steps above)

map-turned : {A B : Type 0} (f : A → B) (xs : List A) → map f (reverse xs) ≡ reverse (map f xs)
map-turned f [] = refl
map-turned f (x ∷ xs) =
    ap (map f) (reverse-append (x ∷ []) xs) ∙ map-append f (reverse xs) (x ∷ [])
    ∙ ap (λ front. front ++ f x ∷ []) (map-turned f xs) ∙ sym (reverse-append (f x ∷ []) (map f xs))

-- Nodes that are kept the last first, the other way round.
pub turned : {A B : Type 0} (f : A → B) (xs : List A) → reverse (map f (reverse xs)) ≡ map f xs
turned f xs = ap reverse (map-turned f xs) ∙ reverse-reverse (map f xs)
