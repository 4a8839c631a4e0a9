-- Steps of loops that keep the least violation so far.
use Rattle.std.proofs.Common.{◌≡◌, ◌∙◌, sym, ap, refl, ℕ, ◌+◌, ◌<◌, ◌≤◌, Bool, ◌||◌, List, [], ◌∷◌, ◌++◌, length, take, drop, map, get_or, Option, None}
use Rattle.std.specs.List.{enumerate_from, list_any}
use Rattle.std.proofs.lemmas.List.{drop_all, append-nil, take-map, drop-map}
use Rattle.pads_rules.specs.declared.fault.CheckFault.{CheckFault}
use Rattle.pads_rules.specs.Faults.{when, each, again, lesser, least}
use Rattle.pads_rules.proofs.Least.{lesser-none, lesser_assoc, least-append, each-append}
use Rattle.pads_declared.proofs.Lists.{taken, left}

pub none-lesser : (best : Option CheckFault) → lesser None best ≡ best
unfolding lesser
none-lesser best = refl

-- the same for what stands in the elements
pub mapped-left : {X Y : Type 0} (f : X → Y) (xs : List X) (i : ℕ) (x : X) → i < length xs → x ≡ get_or xs i x → drop i (map f xs) ≡ f x ∷ drop (i + 1) (map f xs)
mapped-left f xs i x there is = drop-map f i xs ∙ ap (map f) (left xs i x there is) ∙ ap (λ ys. f x ∷ ys) (sym (drop-map f (i + 1) xs))

pub mapped-taken : {X Y : Type 0} (f : X → Y) (xs : List X) (i : ℕ) (x : X) → i < length xs → x ≡ get_or xs i x → take (i + 1) (map f xs) ≡ take i (map f xs) ++ f x ∷ []
mapped-taken f xs i x there is =
    take-map f (i + 1) xs ∙ ap (map f) (taken xs i x there is) ∙ mapped-append f (take i xs) x ∙ ap (λ ys. ys ++ f x ∷ []) (sym (take-map f i xs))
  where
    mapped-append : {X Y : Type 0} (f : X → Y) (xs : List X) (x : X) → map f (xs ++ x ∷ []) ≡ map f xs ++ f x ∷ []
    mapped-append f [] x = refl
    mapped-append f (y ∷ ys) x = ap (λ zs. f y ∷ zs) (mapped-append f ys x)

pub each-step : {X : Type 0} (f : X → List CheckFault) (xs : List X) (i : ℕ) (x : X) → i < length xs → x ≡ get_or xs i x →
    lesser (least (each f (take i xs))) (least (f x)) ≡ least (each f (take (i + 1) xs))
each-step f xs i x there is =
    sym (ap (λ ys. least (each f ys)) (taken xs i x there is) ∙ ap least (each-append f (take i xs) (x ∷ []) ∙ ap (λ ys. each f (take i xs) ++ ys) (append-nil (f x)))
    ∙ least-append (each f (take i xs)) (f x))

pub enumerated-step : {X : Type 0} (f : ℕ × X → List CheckFault) (xs : List X) (i : ℕ) (x : X) (best : Option CheckFault) → i < length xs → x ≡ get_or xs i x →
    lesser (lesser best (least (f (i, x)))) (least (each f (enumerate_from (i + 1) (drop (i + 1) xs)))) ≡ lesser best (least (each f (enumerate_from i (drop i xs))))
enumerated-step f xs i x best there is =
    rw (left xs i x there is, least-append (f (i, x)) (each f (enumerate_from (i + 1) (drop (i + 1) xs))))
    (lesser_assoc best (least (f (i, x))) (least (each f (enumerate_from (i + 1) (drop (i + 1) xs)))))

pub enumerated-end : {X : Type 0} (f : ℕ × X → List CheckFault) (xs : List X) (i : ℕ) (best whole : Option CheckFault) → length xs ≤ i →
    lesser best (least (each f (enumerate_from i (drop i xs)))) ≡ whole → best ≡ whole
enumerated-end f xs i best whole over e =
    sym (lesser-none best) ∙ sym (ap (λ ys. lesser best (least (each f (enumerate_from i ys)))) (drop_all i xs over)) ∙ e

any-map : {X Y : Type 0} (p : Y → Bool) (f : X → Y) (xs : List X) → list_any p (map f xs) ≡ list_any (λ x. p (f x)) xs
any-map p f [] = refl
any-map p f (x ∷ xs) = ap (λ b. p (f x) || b) (any-map p f xs)

pub again-step : {X Y : Type 0} (same : Y → Y → Bool) (violation : Y → CheckFault) (key : X → Y) (xs : List X) (i : ℕ) (x : X) (best : Option CheckFault) → i < length xs → x ≡ get_or xs i x →
    lesser (lesser best (least (when (list_any (λ y. same (key x) (key y)) (take i xs)) (violation (key x))))) (least (again same violation (take (i + 1) (map key xs)) (drop (i + 1) (map key xs))))
    ≡ lesser best (least (again same violation (take i (map key xs)) (drop i (map key xs))))
again-step same violation key xs i x best there is =
    let seen : list_any (same (key x)) (take i (map key xs)) ≡ list_any (λ y. same (key x) (key y)) (take i xs) =
    ap (list_any (same (key x))) (take-map key i xs) ∙ any-map (same (key x)) key (take i xs) in
    let next = again same violation (take i (map key xs) ++ key x ∷ []) (drop (i + 1) (map key xs)) in
    rw (mapped-left key xs i x there is, mapped-taken key xs i x there is, ← seen, least-append (when (list_any (same (key x)) (take i (map key xs))) (violation (key x))) next)
    (lesser_assoc best (least (when (list_any (same (key x)) (take i (map key xs))) (violation (key x)))) (least next))

pub again-end : {Y : Type 0} (same : Y → Y → Bool) (violation : Y → CheckFault) (ys : List Y) (i : ℕ) (best whole : Option CheckFault) → length ys ≤ i →
    lesser best (least (again same violation (take i ys) (drop i ys))) ≡ whole → best ≡ whole
again-end same violation ys i best whole over e =
    sym (lesser-none best) ∙ sym (ap (λ zs. lesser best (least (again same violation (take i ys) zs))) (drop_all i ys over)) ∙ e
