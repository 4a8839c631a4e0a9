-- The numbers of the names that a description gives: each name has its own, below the number of names.
use Rattle.std.proofs.Common.{◌≡◌, ◌∙◌, sym, ap, refl, subst, arith, ℕ, suc, ◌+◌, Bool, true, false, not, cond, ◌||◌, ◌==◌, nat_eq, nat_lt, List, [], ◌∷◌, ◌++◌, length, get_or, Option, Some, None, ltb-true, lt-ltb, ltb-false, le-ltb, eq-eqb, ne_eqb, true≢false}
use Rattle.std.specs.List.{flat_map, list_any, position_or_len}
use Rattle.std.proofs.lemmas.List.Folds.{list_any-append}
use Rattle.std.proofs.lemmas.List.Sums.{passes_at_first}
use Rattle.std.proofs.lemmas.Bool.{or_left, or_right}
use lib.Pointwise.{pointwise, bytes_decides}
use Rattle.pads_resolution.specs.declared.decl.Description.{Description}
use Rattle.pads_trans.specs.Met.{in_decl, names_of}
use Rattle.pads_trans.specs.Names.{Name, place_of, number_at, number_of, names_at, with_name, with_names}
use Rattle.law_descriptions.specs.WellSorted.{Each}

abbrev pub is_among : List Name → Name → Bool
is_among names name = list_any (pointwise nat_eq name) names

-- A name of these has a number.
abbrev pub Known : List Name → Name → Type 0
Known names name = is_among names name ≡ true

shifted : (n m : ℕ) → nat_lt (1 + n) (suc m) ≡ nat_lt n m
shifted n m = by (nat_lt n m) refl
  where
    by : (b : Bool) → nat_lt n m ≡ b → nat_lt (1 + n) (suc m) ≡ b
    by true is = let less = ltb-true n m is in lt-ltb (1 + n) (suc m) (omega arith)
    by false is = let more = ltb-false n m is in le-ltb (1 + n) (suc m) (omega arith)

first-by : {A : Type 0} (p : A → Bool) (xs : List A) (b : Bool) → nat_lt (position_or_len p xs) (length xs) ≡ list_any p xs
    → nat_lt (cond (not b) (1 + position_or_len p xs) 0) (suc (length xs)) ≡ (b || list_any p xs)
first-by p xs true rest = lt-ltb 0 (suc (length xs)) (omega arith)
first-by p xs false rest = shifted (position_or_len p xs) (length xs) ∙ rest

pub first-there : {A : Type 0} (p : A → Bool) (xs : List A) → nat_lt (position_or_len p xs) (length xs) ≡ list_any p xs
first-there p [] = refl
first-there p (x ∷ xs) = first-by p xs (p x) (first-there p xs)

-- where a name stands: at the first that is the same
place-is : (names : List Name) (name : Name) → place_of names name ≡ cond (is_among names name) (Some (position_or_len (pointwise nat_eq name) names)) None
place-is names name = ap (λ b. cond b (Some (position_or_len (pointwise nat_eq name) names)) None) (first-there (pointwise nat_eq name) names)

number-is : (names : List Name) (name : Name) → number_of names name ≡ cond (is_among names name) (position_or_len (pointwise nat_eq name) names) (length names)
unfolding number_of
number-is names name = ap (number_at names) (place-is names name) ∙ by (is_among names name)
  where
    by : (b : Bool) → number_at names (cond b (Some (position_or_len (pointwise nat_eq name) names)) None) ≡ cond b (position_or_len (pointwise nat_eq name) names) (length names)
    by true = refl
    by false = refl

number-known : (names : List Name) (name : Name) → Known names name → number_of names name ≡ position_or_len (pointwise nat_eq name) names
number-known names name known = number-is names name ∙ ap (λ b. cond b (position_or_len (pointwise nat_eq name) names) (length names)) known

pub number-below : (names : List Name) (name : Name) → Known names name → nat_lt (number_of names name) (length names) ≡ true
number-below names name known = ap (λ n. nat_lt n (length names)) (number-known names name known) ∙ first-there (pointwise nat_eq name) names ∙ known

pub same-name : (a b : Name) → pointwise nat_eq a b ≡ true → a ≡ b
same-name a b is = (bytes_decides a b).0 is

pub own-name : (name : Name) → pointwise nat_eq name name ≡ true
own-name name = (bytes_decides name name).1 refl

-- a name is what stands at its number
stands : (names : List Name) (name : Name) → Known names name → name ≡ get_or names (number_of names name) []
stands names name known =
    let less = ltb-true (position_or_len (pointwise nat_eq name) names) (length names) (first-there (pointwise nat_eq name) names ∙ known) in
    same-name name (get_or names (position_or_len (pointwise nat_eq name) names) []) (passes_at_first (pointwise nat_eq name) names [] less)
    ∙ ap (λ n. get_or names n []) (sym (number-known names name known))

known-by : (names : List Name) (name : Name) (b : Bool) → is_among names name ≡ b → nat_lt (number_of names name) (length names) ≡ true → Known names name
known-by names name true is below = is
known-by names name false is below =
    let here : number_of names name ≡ length names = number-is names name ∙ ap (λ b. cond b (position_or_len (pointwise nat_eq name) names) (length names)) is in
    let less = ltb-true (number_of names name) (length names) below in
    absurd (omega arith)

-- names of one number are the same, where one is known
pub one-name : (names : List Name) (name other : Name) → Known names name → number_of names name ≡ number_of names other → name ≡ other
one-name names name other known same =
    let below : nat_lt (number_of names other) (length names) ≡ true = ap (λ n. nat_lt n (length names)) (sym same) ∙ number-below names name known in
    let also = known-by names other (is_among names other) refl below in
    stands names name known ∙ ap (λ n. get_or names n []) same ∙ sym (stands names other also)

pub same-number : (names : List Name) (name other : Name) → Known names name → (number_of names name == number_of names other) ≡ pointwise nat_eq other name
same-number names name other known = by (pointwise nat_eq other name) refl
  where
    by : (b : Bool) → pointwise nat_eq other name ≡ b → (number_of names name == number_of names other) ≡ b
    by true is = eq-eqb (number_of names name) (number_of names other) (ap (number_of names) (sym (same-name other name is)))
    by false is = ne_eqb (number_of names name) (number_of names other) (λ same.
        true≢false (sym (subst (λ n. pointwise nat_eq n name ≡ true) (one-name names name other known same) (own-name name)) ∙ is))

-- a name that is met is known, and stays so
at-end : (names : List Name) (name : Name) → is_among (names ++ name ∷ []) name ≡ true
at-end names name =
    list_any-append (pointwise nat_eq name) names (name ∷ [])
    ∙ or_right (is_among names name) (pointwise nat_eq name name || false) (ap (λ b. b || false) (own-name name))

kept-at : (names : List Name) (name other : Name) (o : Option ℕ) → Known names other → Known (names_at names name o) other
kept-at names name other None known =
    list_any-append (pointwise nat_eq other) names (name ∷ []) ∙ or_left (is_among names other) (is_among (name ∷ []) other) known
kept-at names name other (Some place) known = known

met-by : (names : List Name) (name : Name) (b : Bool) → is_among names name ≡ b
    → Known (names_at names name (cond b (Some (position_or_len (pointwise nat_eq name) names)) None)) name
met-by names name true is = is
met-by names name false is = at-end names name

met-one : (names : List Name) (name : Name) → Known (with_name names name) name
unfolding with_name
met-one names name =
    ap (λ o. is_among (names_at names name o) name) (place-is names name) ∙ met-by names name (is_among names name) refl

kept-one : (names : List Name) (name other : Name) → Known names other → Known (with_name names name) other
unfolding with_name
kept-one names name other known = kept-at names name other (place_of names name) known

kept : (names more : List Name) (name : Name) → Known names name → Known (with_names names more) name
kept names [] name known = known
kept names (first ∷ more) name known = kept (with_name names first) more name (kept-one names first name known)

met : (names more : List Name) → Each (Known (with_names names more)) more
met names [] = tt
met names (first ∷ more) = (kept (with_name names first) more first (met-one names first), met (with_name names first) more)

pub all-met : (d : Description) → Each (Known (names_of d)) (flat_map in_decl d.decls)
unfolding names_of
all-met d = met [] (flat_map in_decl d.decls)
