-- Lists of values of which the first are erased.
use Rattle.std.proofs.Common.{◌≡◌, ap, ℕ, zero, suc, ◌+◌, ◌<◌, ◌≤◌, List, [], ◌∷◌, ◌++◌, map, min, length, get_or, take, drop, Some, slice_get, slice_set, refl, arith, add-one}
use Rattle.pads_value.specs.declared.value.Val.{Val}
use Rattle.pads_erase.specs.Erasing.{Eraser, each_part}

next-part' : (parts : List Eraser) (values : List Val) (at : ℕ) (part : Eraser) (v hole : Val) → slice_get parts at ≡ Some part
    → slice_get (each_part (take at parts) values) at ≡ Some v
    → slice_set (slice_set (each_part (take at parts) values) at hole) at (part v) ≡ each_part (take (suc at) parts) values
next-part' [] values at part v hole there is = cc
next-part' (p ∷ parts) [] zero part v hole there is = cc
next-part' (p ∷ parts) (x ∷ values) zero part v hole there is =
    let e : p ≡ part = cc in let f : x ≡ v = cc in rw (e, f) refl
next-part' (p ∷ parts) [] (suc at) part v hole there is = cc
next-part' (p ∷ parts) (x ∷ values) (suc at) part v hole there is = ap (λ rest. p x ∷ rest) (next-part' parts values at part v hole there is)

-- one more part
pub next-part : (parts : List Eraser) (values : List Val) (at : ℕ) (part : Eraser) (v hole : Val) → slice_get parts at ≡ Some part
    → slice_get (each_part (take at parts) values) at ≡ Some v
    → slice_set (slice_set (each_part (take at parts) values) at hole) at (part v) ≡ each_part (take (at + 1) parts) values
next-part parts values at part v hole there is = rw add-one (next-part' parts values at part v hole there is)

-- all parts, or all values
pub all-parts : (parts : List Eraser) (values : List Val) (n : ℕ) → min (length parts) (length values) ≤ n
    → each_part (take n parts) values ≡ each_part parts values
all-parts [] values zero over = refl
all-parts [] values (suc n) over = refl
all-parts (p ∷ parts) [] zero over = refl
all-parts (p ∷ parts) [] (suc n) over = refl
all-parts (p ∷ parts) (x ∷ values) zero over = absurd (omega arith)
all-parts (p ∷ parts) (x ∷ values) (suc n) over = ap (λ rest. p x ∷ rest) (all-parts parts values n (omega arith))

pub mapped-there : {A B : Type 0} (f : A → B) (xs : List A) (n : ℕ) (x : A) → n < length xs → x ≡ get_or xs n x → slice_get (map f xs) n ≡ Some (f x)
mapped-there f [] n x there is = absurd (omega arith)
mapped-there f (y ∷ xs) zero x there is = rw is refl
mapped-there f (y ∷ xs) (suc n) x there is = mapped-there f xs n x (omega arith) is

abbrev pub first_by : Eraser → ℕ → List Val → List Val
first_by f at values = map f (take at values) ++ drop at values

next-element' : (f : Eraser) (values : List Val) (at : ℕ) (v hole : Val) → slice_get (first_by f at values) at ≡ Some v
    → slice_set (slice_set (first_by f at values) at hole) at (f v) ≡ first_by f (suc at) values
next-element' f [] zero v hole is = cc
next-element' f [] (suc at) v hole is = cc
next-element' f (x ∷ values) zero v hole is = let e : x ≡ v = cc in rw e refl
next-element' f (x ∷ values) (suc at) v hole is = ap (λ rest. f x ∷ rest) (next-element' f values at v hole is)

-- one more element
pub next-element : (f : Eraser) (values : List Val) (at : ℕ) (v hole : Val) → slice_get (first_by f at values) at ≡ Some v
    → slice_set (slice_set (first_by f at values) at hole) at (f v) ≡ first_by f (at + 1) values
next-element f values at v hole is = rw add-one (next-element' f values at v hole is)

pub all-elements : (f : Eraser) (values : List Val) (n : ℕ) → length values ≤ n → first_by f n values ≡ map f values
all-elements f [] zero over = refl
all-elements f [] (suc n) over = refl
all-elements f (x ∷ values) zero over = absurd (omega arith)
all-elements f (x ∷ values) (suc n) over = ap (λ rest. f x ∷ rest) (all-elements f values n (omega arith))
