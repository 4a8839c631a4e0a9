-- Steps of loops over the parts of a tree.
use Rattle.std.proofs.Common.{◌≡◌, ◌∙◌, sym, ap, refl, ℕ, ◌+◌, ◌<◌, ◌≤◌, List, [], ◌∷◌, ◌++◌, length, take, drop, map, flat_map, get_or, append_assoc}
use Rattle.std.proofs.lemmas.List.{take_more, drop_more, map-append, append-nil, length-append, drop_all}
use Rattle.std.specs.List.{enumerate_from}
use Rattle.std.proofs.lemmas.Simd.{map-map}
use Rattle.std.proofs.lemmas.List.Concat.{flat_map-append}
use Rattle.pads_ast.specs.declared.decl.Decl.{Decl}
use Rattle.pads_ast.specs.declared.decl.Part.{Part}
use Rattle.pads_rules.specs.declared.declared.Named.{Named}
use Rattle.pads_rules.specs.Pieces.{names_after, names_after_all}
use Rattle.pads_rules.specs.Resolving.{Sight, named}
use Rattle.pads_ast.specs.Trees.{named_part}

-- one element more
pub taken : {X : Type 0} (xs : List X) (i : ℕ) (x : X) → i < length xs → x ≡ get_or xs i x → take (i + 1) xs ≡ take i xs ++ x ∷ []
taken xs i x there is = take_more xs i x there ∙ ap (λ y. take i xs ++ y ∷ []) (sym is)

pub left : {X : Type 0} (xs : List X) (i : ℕ) (x : X) → i < length xs → x ≡ get_or xs i x → drop i xs ≡ x ∷ drop (i + 1) xs
left xs i x there is = drop_more xs i x there ∙ ap (λ y. y ∷ drop (i + 1) xs) (sym is)

-- the last item off again
abbrev front : {X : Type 0} → List X → List X
front [] = []
front (x ∷ []) = []
front (x ∷ y ∷ xs) = x ∷ front (y ∷ xs)

front-last : {X : Type 0} (xs : List X) (x : X) → front (xs ++ x ∷ []) ≡ xs
front-last [] x = refl
front-last (y ∷ []) x = refl
front-last (y ∷ z ∷ xs) x = ap (λ zs. y ∷ zs) (front-last (z ∷ xs) x)

pub same-front : {X : Type 0} (xs ys : List X) (x y : X) → xs ++ x ∷ [] ≡ ys ++ y ∷ [] → ys ≡ xs
same-front xs ys x y e = sym (front-last ys y) ∙ sym (ap front e) ∙ front-last xs x

pub ruleset popped = (same-front)

pub names-more : (types : Sight) (names : List Named) (parts : List Part) (i : ℕ) (p : Part) → i < length parts → p ≡ get_or parts i p →
    names_after types (names_after_all types names (take i parts)) p ≡ names_after_all types names (take (i + 1) parts)
names-more types names parts i p there is =
    rw (taken parts i p there is, flat_map-append named_part (take i parts) (p ∷ []), append-nil (named_part p), map-append (named types) (flat_map named_part (take i parts)) (named_part p))
    (append_assoc names (map (named types) (flat_map named_part (take i parts))) (map (named types) (named_part p)))

pub map-taken : {X Y : Type 0} (f : X → Y) (xs : List X) (i : ℕ) (x : X) → i < length xs → x ≡ get_or xs i x → map f (take i xs) ++ f x ∷ [] ≡ map f (take (i + 1) xs)
map-taken f xs i x there is = sym (ap (map f) (taken xs i x there is) ∙ map-append f (take i xs) (x ∷ []))

pub ruleset lists = (map-append, map-map, map-taken)

-- What stands by its number, from a number on.
abbrev pub numbered_from : {A : Type 0} → (ℕ → Decl → A) → ℕ → List Decl → List A
numbered_from f n decls = map (λ numbered. f numbered.0 numbered.1) (enumerate_from n decls)

pub by-number-more : {A : Type 0} (f : ℕ → Decl → A) (done : List A) (decls : List Decl) (i : ℕ) (d : Decl) → i < length decls → d ≡ get_or decls i d
    → (done ++ f (length done) d ∷ []) ++ numbered_from f (length (done ++ f (length done) d ∷ [])) (drop (i + 1) decls) ≡ done ++ numbered_from f (length done) (drop i decls)
by-number-more f done decls i d there is =
    append_assoc done (f (length done) d ∷ []) _
    ∙ ap (λ n. done ++ f (length done) d ∷ numbered_from f n (drop (i + 1) decls)) (length-append done (f (length done) d ∷ []))
    ∙ sym (ap (λ ds. done ++ numbered_from f (length done) ds) (left decls i d there is))

pub by-number-end : {A : Type 0} (f : ℕ → Decl → A) (done whole : List A) (decls : List Decl) (i : ℕ) → length decls ≤ i → done ++ numbered_from f (length done) (drop i decls) ≡ whole → done ≡ whole
by-number-end f done whole decls i over is = sym (append-nil done) ∙ sym (ap (λ ds. done ++ numbered_from f (length done) ds) (drop_all i decls over)) ∙ is
