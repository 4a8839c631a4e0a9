-- Parameters that are bound, and bindings without a home.
use Rattle.std.proofs.Common.{◌≡◌, ◌∙◌, sym, ap, refl, subst, arith, ℕ, zero, suc, ◌+◌, ◌<◌, ◌≤◌, min, List, [], ◌∷◌, length, drop, Some, None, slice_get, ⊎_elim}
use Rattle.std.proofs.lemmas.Bool.{cases_lt}
use Rattle.std.proofs.lemmas.List.{drop_all, drop-drop}
use Rattle.pads_dispatch.specs.declared.base.Arg.{Arg}
use Rattle.pads_expr.specs.Value.{Pairs}
use Rattle.pads_calc.specs.Arguments.{bound_to, value_of_arg}
use Rattle.pads_calc.proofs.Bindings.{bound-none}
use Rattle.pads_calc.proofs.Lists.{drop-there, drop-next}
use Rattle.pads_machine.specs.declared.node.Node.{Node}
use Rattle.pads_machine.specs.Held.{AreHomes, AreSound}
use Rattle.pads_machine.specs.Shown.{Homes, above, below, homeless, put_back, node_shown, nodes_shown}
use Rattle.pads_machine.proofs.Homes.{above-next, below-next}

-- what is left of a list tells what it has
pub at-drop : {A : Type 0} (xs : List A) (i : ℕ) → slice_get xs i ≡ slice_get (drop i xs) 0
at-drop xs zero = refl
at-drop [] (suc i) = refl
at-drop (x ∷ xs) (suc i) = at-drop xs i

pub left-same : {A : Type 0} (xs ys : List A) (i : ℕ) → drop i xs ≡ drop i ys → slice_get xs i ≡ slice_get ys i
left-same xs ys i same = at-drop xs i ∙ ap (λ zs. slice_get zs 0) same ∙ sym (at-drop ys i)

pub left-next : {A : Type 0} (xs ys : List A) (i : ℕ) → drop i xs ≡ drop i ys → drop (i + 1) xs ≡ drop (i + 1) ys
left-next xs ys i same = sym (drop-drop 1 i xs) ∙ ap (λ zs. drop 1 zs) same ∙ drop-drop 1 i ys

-- one more parameter
pub homeless-next : (names : List ℕ) (args : List Arg) (homes : Homes) (i : ℕ) (found : Arg) → i < length names → slice_get args i ≡ Some found
    → homeless (drop i names) (drop i args) homes ≡ homeless (drop (i + 1) names) (drop (i + 1) args) (None ∷ homes)
homeless-next names args homes i found more there = rw (drop-next names i 0 more, drop-there args i found there) refl

homeless-none : (names : List ℕ) (homes : Homes) → homeless names [] homes ≡ homes
homeless-none [] homes = refl
homeless-none (name ∷ names) homes = refl

-- no parameter, or no argument, is left
pub bound-end : (names : List ℕ) (args : List Arg) (env : Pairs) (i : ℕ) → min (length names) (length args) ≤ i → bound_to (drop i names) (drop i args) env ≡ env
bound-end names args env i over =
    ⊎_elim
    (λ less. let past : length args ≤ i = omega arith in ap (λ args. bound_to (drop i names) args env) (drop_all i args past) ∙ bound-none (drop i names) env)
    (λ past. ap (λ names. bound_to names (drop i args) env) (drop_all i names past))
    (cases_lt i (length names))

pub homeless-end : (names : List ℕ) (args : List Arg) (homes : Homes) (i : ℕ) → min (length names) (length args) ≤ i → homeless (drop i names) (drop i args) homes ≡ homes
homeless-end names args homes i over =
    ⊎_elim
    (λ less. let past : length args ≤ i = omega arith in ap (λ args. homeless (drop i names) args homes) (drop_all i args past) ∙ homeless-none (drop i names) homes)
    (λ past. ap (λ names. homeless names (drop i args) homes) (drop_all i names past))
    (cases_lt i (length names))

-- how many there are
pub bound-count : (names : List ℕ) (args : List Arg) (env : Pairs) → length (bound_to names args env) ≡ min (length names) (length args) + length env
bound-count [] args env = omega arith
bound-count (name ∷ names) [] env = omega arith
bound-count (name ∷ names) (first ∷ args) env = omega (arith, bound-count names args ((name, value_of_arg first) ∷ env))

pub homeless-count : (names : List ℕ) (args : List Arg) (homes : Homes) → length (homeless names args homes) ≡ min (length names) (length args) + length homes
homeless-count [] args homes = omega arith
homeless-count (name ∷ names) [] homes = omega arith
homeless-count (name ∷ names) (first ∷ args) homes = omega (arith, homeless-count names args (None ∷ homes))

-- a binding without a home changes no struct
homeless-shown : (nodes : List Node) (homes : Homes) (bindings : Pairs) (b : ℕ × _) → AreSound nodes homes → length homes ≡ length bindings
    → nodes_shown nodes (None ∷ homes) (b ∷ bindings) ≡ nodes_shown nodes homes bindings
homeless-shown [] homes bindings b sound each = refl
homeless-shown (node ∷ nodes) homes bindings b sound each =
    let within : node.base ≤ length bindings = omega (arith, sound.0, each) in
    let rest = λ (hs : Homes) (bs : Pairs). nodes_shown nodes hs bs in
    let first = λ (hs : Homes) (bs : Pairs). record (node_shown node homes bindings) { values = put_back hs bs node.values.items } in
    ap (λ hs. first hs (above node.base (b ∷ bindings)) ∷ rest (below node.base (None ∷ homes)) (below node.base (b ∷ bindings))) (above-next node.base None homes sound.0)
    ∙ ap (λ bs. first (None ∷ above node.base homes) bs ∷ rest (below node.base (None ∷ homes)) (below node.base (b ∷ bindings))) (above-next node.base b bindings within)
    ∙ ap (λ hs. node_shown node homes bindings ∷ rest hs (below node.base (b ∷ bindings))) (below-next node.base None homes sound.0)
    ∙ ap (λ bs. node_shown node homes bindings ∷ rest (below node.base homes) bs) (below-next node.base b bindings within)

homeless-sound : (nodes : List Node) (homes : Homes) → AreSound nodes homes → AreSound nodes (None ∷ homes)
homeless-sound [] homes sound = tt
homeless-sound (node ∷ nodes) homes sound = (
  omega (arith, sound.0),
  sound.1,
  subst (λ hs. AreHomes hs (length node.values.items)) (sym (above-next node.base None homes sound.0)) sound.2,
  subst (λ hs. AreSound nodes hs) (sym (below-next node.base None homes sound.0)) sound.3,
)

pub bound-shown : (names : List ℕ) (args : List Arg) (nodes : List Node) (homes : Homes) (bindings : Pairs) → AreSound nodes homes → length homes ≡ length bindings
    → nodes_shown nodes (homeless names args homes) (bound_to names args bindings) ≡ nodes_shown nodes homes bindings
bound-shown [] args nodes homes bindings sound each = refl
bound-shown (name ∷ names) [] nodes homes bindings sound each = refl
bound-shown (name ∷ names) (first ∷ args) nodes homes bindings sound each =
    bound-shown names args nodes (None ∷ homes) ((name, value_of_arg first) ∷ bindings) (homeless-sound nodes homes sound) (omega (arith, each))
    ∙ homeless-shown nodes homes bindings (name, value_of_arg first) sound each

pub bound-sound : (names : List ℕ) (args : List Arg) (nodes : List Node) (homes : Homes) → AreSound nodes homes → AreSound nodes (homeless names args homes)
bound-sound [] args nodes homes sound = sound
bound-sound (name ∷ names) [] nodes homes sound = sound
bound-sound (name ∷ names) (first ∷ args) nodes homes sound = bound-sound names args nodes (None ∷ homes) (homeless-sound nodes homes sound)
