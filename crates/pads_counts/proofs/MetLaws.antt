-- Names that are met: some, and then more.
use Rattle.std.proofs.Common.{◌≡◌, ◌∙◌, sym, ap, refl, ℕ, ◌+◌, ◌<◌, ◌≤◌, List, [], ◌∷◌, ◌++◌, length, take, map, flat_map, get_or, append-nil, Result, OnOk}
use Rattle.std.proofs.lemmas.List.{map-append, take_all}
use Rattle.std.proofs.lemmas.Result.{on_ok_weaker}
use Rattle.std.proofs.lemmas.List.Concat.{flat_map-append, flat_map_single}
use Rattle.pads_ast.specs.declared.name.Name.{Name}
use Rattle.pads_rules.specs.DeclRules.{texts}
use Rattle.pads_ast.specs.NameTokens.{Names}
use Rattle.pads_rules.specs.DifferentNames.{with_name, with_names}
use Rattle.pads_counts.specs.Met.{met_name, met}
use Rattle.pads_declared.proofs.Lists.{taken}

with-append : (names xs ys : Names) → with_names names (xs ++ ys) ≡ with_names (with_names names xs) ys
with-append names [] ys = refl
with-append names (x ∷ xs) ys = with-append (with_name names x) xs ys

pub met-append : (names xs ys : Names) → met names (xs ++ ys) ≡ met (met names xs) ys
unfolding met
met-append names xs ys = with-append names xs ys

pub met-cons : (names : Names) (x : List ℕ) (xs : Names) → met names (x ∷ xs) ≡ met (met_name names x) xs
unfolding met met_name
met-cons names x xs = refl

pub met-nil : (names : Names) → met names [] ≡ names
unfolding met
met-nil names = refl

-- some names and then more, each in a spelling of its own
pub both : (names between after xs ys : Names) → between ≡ met names xs → after ≡ met between ys → after ≡ met names (xs ++ ys)
both names between after xs ys had has = has ∙ ap (λ n. met n ys) had ∙ sym (met-append names xs ys)

pub one-alone : (names : Names) (x : List ℕ) → met_name names x ≡ met names (x ∷ [])
one-alone names x = sym (met-cons names x [] ∙ met-nil (met_name names x))

-- where the call that meets the last of them may want memory
pub spelled-as : {E : Type 0} (r : Result (Unit {0}) E) (names after xs ys : Names) → xs ≡ ys →
    OnOk r (after ≡ met names xs) → OnOk r (after ≡ met names ys)
spelled-as r names after xs ys same has = on_ok_weaker r (λ e. e ∙ ap (met names) same) has

pub then : {E : Type 0} (r : Result (Unit {0}) E) (names between after xs ys all last : Names) → all ≡ xs ++ ys → last ≡ ys →
    between ≡ met names xs → OnOk r (after ≡ met between last) → OnOk r (after ≡ met names all)
then r names between after xs ys all last is same had has =
    on_ok_weaker r (λ e. both names between after xs ys had (e ∙ ap (met between) same) ∙ ap (met names) (sym is)) has

pub then-one : {E : Type 0} (r : Result (Unit {0}) E) (names between after xs : Names) (x : List ℕ) (all : Names) → all ≡ xs ++ x ∷ [] →
    between ≡ met names xs → OnOk r (after ≡ met_name between x) → OnOk r (after ≡ met names all)
then-one r names between after xs x all is had has =
    on_ok_weaker r (λ e. both names between after xs (x ∷ []) had (e ∙ one-alone between x) ∙ ap (met names) (sym is)) has

pub one : {E : Type 0} (r : Result (Unit {0}) E) (names after : Names) (x : List ℕ) (all : Names) → all ≡ x ∷ [] →
    OnOk r (after ≡ met_name names x) → OnOk r (after ≡ met names all)
one r names after x all is has = on_ok_weaker r (λ e. e ∙ one-alone names x ∙ ap (met names) (sym is)) has

-- one thing more, with the names that it gives
pub one-more : {X : Type 0} (f : X → Names) (xs : List X) (i : ℕ) (x : X) (names before after : Names) → i < length xs → x ≡ get_or xs i x →
    before ≡ met names (flat_map f (take i xs)) → after ≡ met before (f x) → after ≡ met names (flat_map f (take (i + 1) xs))
one-more f xs i x names before after there is had has =
    let more : flat_map f (take (i + 1) xs) ≡ flat_map f (take i xs) ++ f x =
    ap (flat_map f) (taken xs i x there is) ∙ flat_map-append f (take i xs) (x ∷ []) ∙ ap (λ ys. flat_map f (take i xs) ++ ys) (append-nil (f x)) in
    has ∙ ap (λ n. met n (f x)) had ∙ sym (ap (met names) more ∙ met-append names (flat_map f (take i xs)) (f x))

pub all-met : {X : Type 0} (f : X → Names) (xs : List X) (i : ℕ) (names after : Names) → length xs ≤ i →
    after ≡ met names (flat_map f (take i xs)) → after ≡ met names (flat_map f xs)
all-met f xs i names after over has = has ∙ ap (λ ys. met names (flat_map f ys)) (take_all i xs over)

-- the same where each gives one name
pub one-named : {X : Type 0} (f : X → List ℕ) (xs : List X) (i : ℕ) (x : X) (names before after : Names) → i < length xs → x ≡ get_or xs i x →
    before ≡ met names (map f (take i xs)) → after ≡ met_name before (f x) → after ≡ met names (map f (take (i + 1) xs))
one-named f xs i x names before after there is had has =
    let more : map f (take (i + 1) xs) ≡ map f (take i xs) ++ f x ∷ [] = ap (map f) (taken xs i x there is) ∙ map-append f (take i xs) (x ∷ []) in
    has ∙ ap (λ n. met_name n (f x)) had
    ∙ sym (ap (met names) more ∙ met-append names (map f (take i xs)) (f x ∷ []) ∙ met-cons (met names (map f (take i xs))) (f x) [] ∙ met-nil _)

-- the texts of names, thing by thing
pub texts-named : {X : Type 0} (f : X → Name) (xs : List X) → texts (map f xs) ≡ map (λ x. (f x).text) xs
texts-named f [] = refl
texts-named f (x ∷ xs) = ap (λ ys. (f x).text ∷ ys) (texts-named f xs)

pub texts-gathered : {X : Type 0} (f : X → List Name) (xs : List X) → texts (flat_map f xs) ≡ flat_map (λ x. texts (f x)) xs
texts-gathered f [] = refl
texts-gathered f (x ∷ xs) = map-append (λ (name : Name). name.text) (f x) (flat_map f xs) ∙ ap (λ ys. texts (f x) ++ ys) (texts-gathered f xs)

pub ruleset met_laws = (met-append, met-cons, met-nil)
