-- Names that are spelled as names, and what holds of each item of a list, and of what may be there.
use Rattle.std.proofs.Common.{◌≡◌, refl, ℕ, true, List, [], ◌∷◌, ◌++◌, map, Option, Some, None}
use Rattle.std.specs.List.{AllByRecursion as Each, flat_map, list_all}
use Rattle.std.proofs.lemmas.Bool.{and_from}
use Rattle.pads_ast.specs.Trees.{written, listed}
use Rattle.pads_lex.specs.Spelling.{is_name}
use Rattle.pads_syntax.proofs.Keeps.{IfThere}

abbrev pub IsSpelled : List ℕ → Type 0
IsSpelled name = is_name name ≡ true

abbrev pub AreSpelled : List (List ℕ) → Type 0
AreSpelled names = Each IsSpelled names

-- the test of all of them
pub all-spelled : (names : List (List ℕ)) → AreSpelled names → list_all is_name names ≡ true
all-spelled [] all = refl
all-spelled (name ∷ names) all = and_from (is_name name) (list_all is_name names) all.0 (all-spelled names all.1)

pub each-both : {A : Type 0} (P : A → Type 0) (xs ys : List A) → Each P xs → Each P ys → Each P (xs ++ ys)
each-both P [] ys some more = more
each-both P (x ∷ xs) ys some more = (some.0, each-both P xs ys some.1 more)

pub each-flat_map : {A B : Type 0} (P : B → Type 0) (f : A → List B) (xs : List A) → Each (λ x. Each P (f x)) xs → Each P (flat_map f xs)
each-flat_map P f [] all = tt
each-flat_map P f (x ∷ xs) all = each-both P (f x) (flat_map f xs) all.0 (each-flat_map P f xs all.1)

pub each-map : {A B : Type 0} (P : B → Type 0) (f : A → B) (xs : List A) → Each (λ x. P (f x)) xs → Each P (map f xs)
each-map P f [] all = tt
each-map P f (x ∷ xs) all = (all.0, each-map P f xs all.1)

-- the items that a part which may be left out gives
pub each-written : {A B : Type 0} (P : B → Type 0) (f : A → List B) (o : Option (List A)) → IfThere (Each (λ x. Each P (f x))) o → Each P (flat_map f (written o))
each-written P f None all = tt
each-written P f (Some xs) all = each-flat_map P f xs all

pub each-listed : {A B : Type 0} (P : B → Type 0) (f : A → List B) (o : Option A) → IfThere (λ x. Each P (f x)) o → Each P (flat_map f (listed o))
each-listed P f None all = tt
each-listed P f (Some x) all = each-both P (f x) [] all tt
