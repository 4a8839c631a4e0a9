-- The names that were met, as a set of names has them.
use Rattle.std.proofs.Common.{◌≡◌, ◌∙◌, sym, ap, refl, ℕ, ◌+◌, ◌<◌, Bool, true, false, ◌||◌, if◌then◌else◌, List, [], ◌∷◌, ◌++◌, length, take, get_or}
use Rattle.std.specs.List.{list_any}
use Rattle.std.proofs.lemmas.List.Folds.{list_any-append}
use Rattle.std.proofs.Math.Bool.{or-false}
use Rattle.pads_rules.specs.DifferentNames.{with_name}
use Rattle.pads_rules.specs.Texts.{same_text, is_among}
use Rattle.pads_rules.proofs.SameTexts.{same-is}
use Rattle.pads_declared.proofs.Lists.{taken}

-- A set has the texts of some things, and no others.
abbrev pub Has : {X : Type 0} → (X → List ℕ) → List (List ℕ) → List X → Type 0
Has text names xs = (t : List ℕ) → is_among names t ≡ list_any (λ x. same_text t (text x)) xs

known : (names : List (List ℕ)) (name t : List ℕ) (s : Bool) → is_among names name ≡ true → same_text t name ≡ s → is_among names t ≡ (is_among names t || s)
known names name t false there same = sym (or-false (is_among names t))
known names name t true there same = let e = ap (is_among names) (same-is t name same) ∙ there in e ∙ sym (ap (λ b. b || true) e)

with-by : (names : List (List ℕ)) (name t : List ℕ) (b : Bool) → is_among names name ≡ b → is_among (if b then names else names ++ name ∷ []) t ≡ (is_among names t || same_text t name)
with-by names name t true there = known names name t (same_text t name) there refl
with-by names name t false there = list_any-append (same_text t) names (name ∷ []) ∙ ap (λ b. is_among names t || b) (or-false (same_text t name))

pub with-name : (names : List (List ℕ)) (name t : List ℕ) → is_among (with_name names name) t ≡ (is_among names t || same_text t name)
with-name names name t = with-by names name t (is_among names name) refl

pub has-more : {X : Type 0} (text : X → List ℕ) (names new : List (List ℕ)) (xs : List X) (i : ℕ) (x : X) → i < length xs → x ≡ get_or xs i x → new ≡ with_name names (text x)
    → Has text names (take i xs) → Has text new (take (i + 1) xs)
has-more {X = X} text names new xs i x there is added has t =
    let p = λ (y : X). same_text t (text y) in
    ap (λ ns. is_among ns t) added ∙ with-name names (text x) t ∙ ap (λ b. b || p x) (has t)
    ∙ sym (ap (list_any p) (taken xs i x there is) ∙ list_any-append p (take i xs) (x ∷ []) ∙ ap (λ b. list_any p (take i xs) || b) (or-false (p x)))
