-- Items of lists, one by one.
use Rattle.std.proofs.Common.{◌≡◌, ◌∙◌, sym, ap, refl, subst, arith, ℕ, zero, suc, nat_lt, ltb-true, lt-ltb, length, Bool, true, false, if◌then◌else◌, List, [], ◌∷◌, ◌++◌, map, Option, Some, None, option_map, slice_get}
use Rattle.std.specs.List.{flat_map, list_all}
use Rattle.std.proofs.lemmas.Bool.{and_from}
use Rattle.law_calculus.proofs.Made.{Each as AllOf}
use Rattle.law_descriptions.specs.WellSorted.{Each}
use Rattle.pads_calc.proofs.Choices.{slice_get-map}

pub all-append : {A : Type 0} (P : A → Type 0) (xs ys : List A) → AllOf P xs → AllOf P ys → AllOf P (xs ++ ys)
all-append P [] ys some more = more
all-append P (x ∷ xs) ys some more = (some.0, all-append P xs ys some.1 more)

pub each-left : {A : Type 0} (P : A → Type 0) (xs ys : List A) → Each P (xs ++ ys) → Each P xs
each-left P [] ys all = tt
each-left P (x ∷ xs) ys all = (all.0, each-left P xs ys all.1)

pub each-right : {A : Type 0} (P : A → Type 0) (xs ys : List A) → Each P (xs ++ ys) → Each P ys
each-right P [] ys all = all
each-right P (x ∷ xs) ys all = each-right P xs ys all.1

-- what a mapped list has at a place comes from there
pub some-map : {A B : Type 0} (f : A → B) (o : Option A) (y : B) → option_map f o ≡ Some y → (x : A) × (o ≡ Some x) × (f x ≡ y)
some-map f None y there = cc
some-map f (Some x) y there = (x, refl, cc)

pub mapped-there : {A B : Type 0} (f : A → B) (xs : List A) (n : ℕ) (y : B) → slice_get (map f xs) n ≡ Some y → (x : A) × (slice_get xs n ≡ Some x) × (f x ≡ y)
mapped-there f xs n y there = some-map f (slice_get xs n) y (sym (slice_get-map f xs n) ∙ there)

pub there-mapped : {A B : Type 0} (f : A → B) (xs : List A) (n : ℕ) (x : A) → slice_get xs n ≡ Some x → slice_get (map f xs) n ≡ Some (f x)
there-mapped f xs n x there = slice_get-map f xs n ∙ ap (option_map f) there

-- what holds of both holds of the one that is chosen
pub either-one : {A : Type 0} (P : A → Type 0) (b : Bool) (x y : A) → P x → P y → P (if b then x else y)
either-one P true x y one other = one
either-one P false x y one other = other

pub each-flat : {A B : Type 0} (P : B → Type 0) (f : A → List B) (xs : List A) (n : ℕ) (x : A) → Each P (flat_map f xs) → slice_get xs n ≡ Some x → Each P (f x)
each-flat P f [] n x all there = cc
each-flat P f (first ∷ xs) zero x all there =
    let same : first ≡ x = cc in subst (λ x. Each P (f x)) same (each-left P (f first) (flat_map f xs) all)
each-flat P f (first ∷ xs) (suc n) x all there = each-flat P f xs n x (each-right P (f first) (flat_map f xs) all) there

pub each-weaker : {A : Type 0} (P Q : A → Type 0) → ((x : A) → P x → Q x) → (xs : List A) → Each P xs → Each Q xs
each-weaker P Q weaker [] all = tt
each-weaker P Q weaker (x ∷ xs) all = (weaker x all.0, each-weaker P Q weaker xs all.1)

-- tests of all items
pub all-passes : {A : Type 0} (test : A → Bool) → (xs : List A) → Each (λ x. test x ≡ true) xs → list_all test xs ≡ true
all-passes test [] all = refl
all-passes test (x ∷ xs) all = and_from (test x) (list_all test xs) all.0 (all-passes test xs all.1)

pub all-at : {A : Type 0} (test : A → Bool) (xs : List A) → ((n : ℕ) (x : A) → slice_get xs n ≡ Some x → test x ≡ true) → list_all test xs ≡ true
all-at test [] each = refl
all-at test (x ∷ xs) each = and_from (test x) (list_all test xs) (each 0 x refl) (all-at test xs (λ n y there. each (suc n) y there))

pub each-there : {A : Type 0} (P : A → Type 0) (xs : List A) (n : ℕ) (x : A) → Each P xs → slice_get xs n ≡ Some x → P x
each-there P [] n x all there = cc
each-there P (first ∷ xs) zero x all there = let same : first ≡ x = cc in subst P same all.0
each-there P (first ∷ xs) (suc n) x all there = each-there P xs n x all.1 there

-- a list has an item at a number below its length
pub below-there : {A : Type 0} (xs : List A) (n : ℕ) → nat_lt n (length xs) ≡ true → (x : A) × (slice_get xs n ≡ Some x)
below-there [] n less = let h = ltb-true n 0 less in absurd (omega arith)
below-there (x ∷ xs) zero less = (x, refl)
below-there (x ∷ xs) (suc n) less = let h = ltb-true (suc n) (suc (length xs)) less in below-there xs n (lt-ltb n (length xs) (omega arith))
