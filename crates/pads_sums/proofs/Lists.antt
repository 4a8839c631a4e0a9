-- Filters, counts and maps of lists.
use Rattle.std.proofs.Common.{◌≡◌, sym, ap, refl, ◌+◌, Bool, true, false, true≢false, cond, ◌&&◌, List, [], ◌∷◌, ◌++◌, map}
use Rattle.std.specs.List.{filter, count_by}
use Rattle.std.proofs.lemmas.List.Sums.{sum_by-append, sum_by-cons}

module _ {X : Type 0} where
  -- a filter behind a filter
  both-step : (p q : X → Bool) (x : X) (xs ys : List X) (b : Bool) → q x ≡ b → filter p xs ≡ ys
      → filter p (cond b (x ∷ xs) xs) ≡ cond (b && p x) (x ∷ ys) ys
  both-step p q x xs ys true is rest = ap (λ zs. cond (p x) (x ∷ zs) zs) rest
  both-step p q x xs ys false is rest = rest

  pub filter_both : (p q : X → Bool) (xs : List X) → filter p (filter q xs) ≡ filter (λ x. q x && p x) xs
  filter_both p q [] = refl
  filter_both p q (x ∷ xs) = both-step p q x (filter q xs) (filter (λ y. q y && p y) xs) (q x) refl (filter_both p q xs)

  -- a test that all pass
  pub filter_all : (p : X → Bool) → ((x : X) → p x ≡ true) → (xs : List X) → filter p xs ≡ xs
  filter_all p passes [] = refl
  filter_all p passes (x ∷ xs) = rw (passes x) (ap (λ ys. x ∷ ys) (filter_all p passes xs))

  pub count_cons : (p : X → Bool) (x : X) (xs : List X) → count_by p (x ∷ xs) ≡ cond (p x) 1 0 + count_by p xs
  count_cons p x xs = sum_by-cons (λ y. cond (p y) 1 0) x xs

pub count_append : {X : Type 0} (p : X → Bool) (xs ys : List X) → count_by p (xs ++ ys) ≡ count_by p xs + count_by p ys
count_append p xs ys = sum_by-append (λ x. cond (p x) 1 0) xs ys

pub map_same : {X Y : Type 0} (f g : X → Y) → ((x : X) → f x ≡ g x) → (xs : List X) → map f xs ≡ map g xs
map_same f g equal [] = refl
map_same f g equal (x ∷ xs) = (λ i. equal x i ∷ map_same f g equal xs i)

-- both of two tests
pub both : (a b : Bool) → (a && b) ≡ true → (a ≡ true) × (b ≡ true)
both true b h = (refl, h)
both false b h = absurd (true≢false (sym h))
