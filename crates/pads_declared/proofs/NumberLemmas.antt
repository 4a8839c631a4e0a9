-- Numbers by names: the first of each name among some things.
use Rattle.std.proofs.Common.{◌≡◌, ◌∙◌, sym, ap, refl, subst, ℕ, zero, suc, ◌+◌, ◌<◌, ◌≤◌, nat_eq, nat_lt, Bool, true, false, not, ◌||◌, cond, true≢false, List, [], ◌∷◌, ◌++◌, length, take, get_or, Option, Some, None, is_some, position, slice_get, arith}
use Rattle.std.specs.Map.{lookup}
use Rattle.std.specs.List.{position_or_len, list_any}
use Rattle.std.proofs.lemmas.List.{take_all, length-take-le}
use Rattle.std.specs.declared.alloc.Global.{Global}
use Rattle.std.specs.declared.vec.Vec.{Vec}
use Rattle.indexmap.specs.IndexMap.{get, insert_entry}
use Rattle.indexmap.proofs.CallerLemmas.{insert_entry-new}
use lib.Pointwise.{pointwise}
use Rattle.pads_rules.specs.Texts.{same_text}
use Rattle.pads_rules.proofs.SameTexts.{same-is, is-same}
use Rattle.pads_declared.specs.declared.first_numbers.FirstNumbers.{FirstNumbers}
use Rattle.pads_declared.specs.Numbered.{number_in, number_or, is_text, HasNone, IsNumbered, NumbersThing, InPairs}
use Rattle.pads_declared.proofs.Lists.{taken}

abbrev pub next : Bool → Option ℕ → Option ℕ
next true o = Some 0
next false None = None
next false (Some i) = Some (suc i)

pub first-less : (n : ℕ) → nat_lt 0 (suc n) ≡ true
first-less n = grind arith

-- the first place in a list is its head, or one behind that in its tail
next-by : {X : Type 0} (p : X → Bool) (xs : List X) (b : Bool) → nat_lt (position_or_len p xs) (length xs) ≡ b
    → cond (nat_lt (1 + position_or_len p xs) (suc (length xs))) (Some (1 + position_or_len p xs)) None ≡ next false (cond b (Some (position_or_len p xs)) None)
next-by p xs true is =
    let e : nat_lt (1 + position_or_len p xs) (suc (length xs)) ≡ true = grind arith in
    let k : 1 + position_or_len p xs ≡ suc (position_or_len p xs) = omega arith in
    ap (λ b. cond b (Some (1 + position_or_len p xs)) None) e ∙ ap (λ n. Some n) k
next-by p xs false is = let e : nat_lt (1 + position_or_len p xs) (suc (length xs)) ≡ false = grind arith in ap (λ b. cond b (Some (1 + position_or_len p xs)) None) e

pub position-first : {X : Type 0} (p : X → Bool) (x : X) (xs : List X) (b : Bool) → p x ≡ b → position p (x ∷ xs) ≡ next b (position p xs)
position-first p x xs true is =
    ap (λ b. let n = cond (not b) (1 + position_or_len p xs) 0 in cond (nat_lt n (suc (length xs))) (Some n) None) is
    ∙ ap (λ b. cond b (Some 0) None) (first-less (length xs))
position-first p x xs false is =
    ap (λ b. let n = cond (not b) (1 + position_or_len p xs) 0 in cond (nat_lt n (suc (length xs))) (Some n) None) is
    ∙ next-by p xs (nat_lt (position_or_len p xs) (length xs)) refl

later-or : (o : Option ℕ) (b : Bool) (n : ℕ) → next false (number_or o b n) ≡ number_or (next false o) b (suc n)
later-or None true n = refl
later-or None false n = refl
later-or (Some i) b n = refl

-- the first place among some and one more
pub position-push : {X : Type 0} (p : X → Bool) (xs : List X) (x : X) → position p (xs ++ x ∷ []) ≡ number_or (position p xs) (p x) (length xs)
position-push p [] x = head (p x) refl
  where
    head : (b : Bool) → p x ≡ b → position p (x ∷ []) ≡ number_or None b 0
    head true is = position-first p x [] true is
    head false is = position-first p x [] false is
position-push p (y ∷ ys) x = by (p y) refl (position-push p ys x)
  where
    by : (b : Bool) → p y ≡ b → position p (ys ++ x ∷ []) ≡ number_or (position p ys) (p x) (length ys) → position p (y ∷ (ys ++ x ∷ [])) ≡ number_or (position p (y ∷ ys)) (p x) (suc (length ys))
    by true is rest = position-first p y (ys ++ x ∷ []) true is ∙ sym (ap (λ o. number_or o (p x) (suc (length ys))) (position-first p y ys true is))
    by false is rest =
        position-first p y (ys ++ x ∷ []) false is ∙ ap (next false) rest ∙ later-or (position p ys) (p x) (length ys)
        ∙ sym (ap (λ o. number_or o (p x) (suc (length ys))) (position-first p y ys false is))

swapped-by : (a b : List ℕ) (s t : Bool) → same_text a b ≡ s → same_text b a ≡ t → s ≡ t
swapped-by a b true true x y = refl
swapped-by a b false false x y = refl
swapped-by a b true false x y = sym (is-same b a (sym (same-is a b x))) ∙ y
swapped-by a b false true x y = sym x ∙ is-same a b (sym (same-is b a y))

pub same-swapped : (a b : List ℕ) → same_text a b ≡ same_text b a
same-swapped a b = swapped-by a b (same_text a b) (same_text b a) refl refl

-- a name that has a number keeps it, and so do the others
kept-by : (numbers : FirstNumbers) (name other : List ℕ) (number : ℕ) (o : Option ℕ) (b : Bool) → is_some (number_in numbers name) ≡ true → number_in numbers other ≡ o → same_text name other ≡ b
    → o ≡ number_or o b number
kept-by numbers name other number (Some i) b there is same = refl
kept-by numbers name other number None false there is same = refl
kept-by numbers name other number None true there is same =
    absurd (true≢false (sym there ∙ ap (λ n. is_some (number_in numbers n)) (same-is name other same) ∙ ap is_some is))

pub numbers-kept : (numbers : FirstNumbers) (name : List ℕ) (number : ℕ) → is_some (number_in numbers name) ≡ true → NumbersThing is_text numbers name number numbers
numbers-kept numbers name number there other = kept-by numbers name other number (number_in numbers other) (same_text name other) there refl refl

lookup-push : {K : Type 0} (test : K → Bool) (es : List (K × ℕ)) (k : K) (v : ℕ) → lookup test (es ++ (k, v) ∷ []) ≡ number_or (lookup test es) (test k) v
lookup-push test [] k v = by (test k)
  where
    by : (b : Bool) → cond b (Some v) None ≡ number_or None b v
    by true = refl
    by false = refl
lookup-push test (e ∷ es) k v = by (test e.0) (lookup-push test es k v)
  where
    by : (b : Bool) → lookup test (es ++ (k, v) ∷ []) ≡ number_or (lookup test es) (test k) v
        → cond b (Some e.1) (lookup test (es ++ (k, v) ∷ [])) ≡ number_or (cond b (Some e.1) (lookup test es)) (test k) v
    by true rest = refl
    by false rest = rest

none-there : (o : Option ℕ) → is_some o ≡ false → o ≡ None
none-there None none = refl
none-there (Some i) none = absurd (true≢false none)

-- a new name gets the number
pub numbers-added : (old new : FirstNumbers) (name : List ℕ) (key : Vec ℕ Global) (number : ℕ) → key.items ≡ name → is_some (number_in old name) ≡ false
    → new.numbers.entries ≡ insert_entry (λ (x y : Vec ℕ Global). pointwise nat_eq x.items y.items) old.numbers.entries key number → NumbersThing is_text old name number new
unfolding same_text
numbers-added old new name key number text none added other =
    let same = λ (x y : Vec ℕ Global). pointwise nat_eq x.items y.items in
    let absent : get same old.numbers key ≡ None = ap (number_in old) text ∙ none-there (number_in old name) none in
    ap (lookup (λ (k : Vec ℕ Global). pointwise nat_eq other k.items)) (added ∙ insert_entry-new same old.numbers key number absent)
    ∙ lookup-push (λ (k : Vec ℕ Global). pointwise nat_eq other k.items) old.numbers.entries key number
    ∙ ap (λ b. number_or (number_in old other) b number) (ap (pointwise nat_eq other) text ∙ same-swapped other name)

-- a thing without a name changes nothing
pub nameless : (o : Option ℕ) (n : ℕ) → o ≡ number_or o false n
nameless None n = refl
nameless (Some i) n = refl

-- one thing more behind the others
pub numbered-more : {A : Type 0} (has_name : List ℕ → A → Bool) (things : List A) (thing : A) (old new : FirstNumbers) → IsNumbered has_name things old → NumbersThing has_name old thing (length things) new
    → IsNumbered has_name (things ++ thing ∷ []) new
numbered-more has_name things thing old new is more name =
    more name ∙ ap (λ o. number_or o (has_name name thing) (length things)) (is name) ∙ sym (position-push (has_name name) things thing)

-- the same in a loop over the things
pub numbered-start : {A : Type 0} (has_name : List ℕ → A → Bool) (things : List A) (first : FirstNumbers) → HasNone first → IsNumbered has_name (take 0 things) first
numbered-start has_name [] first none name = none name
numbered-start has_name (x ∷ xs) first none name = none name

pub numbered-step : {A : Type 0} (has_name : List ℕ → A → Bool) (things : List A) (i : ℕ) (thing : A) (old new : FirstNumbers) → i < length things → thing ≡ get_or things i thing
    → IsNumbered has_name (take i things) old → NumbersThing has_name old thing i new → IsNumbered has_name (take (i + 1) things) new
numbered-step has_name things i thing old new there at is more =
    let short : length (take i things) ≡ i = length-take-le i things (omega (arith, there)) in
    subst (λ some. IsNumbered has_name some new) (sym (taken things i thing there at))
    (numbered-more has_name (take i things) thing old new is (subst (λ n. NumbersThing has_name old thing n new) (sym short) more))

pub numbered-end : {A : Type 0} (has_name : List ℕ → A → Bool) (things : List A) (i : ℕ) (first : FirstNumbers) → length things ≤ i → IsNumbered has_name (take i things) first → IsNumbered has_name things first
numbered-end has_name things i first over is = subst (λ some. IsNumbered has_name some first) (take_all i things over) is

-- one pair more behind the others
pub pairs-more : {A B : Type 0} (Belongs : A → B → Type 0) (xs : List A) (ys : List B) (x : A) (y : B) → InPairs Belongs xs ys → Belongs x y → InPairs Belongs (xs ++ x ∷ []) (ys ++ y ∷ [])
pairs-more Belongs [] [] x y pairs belongs = (belongs, tt)
pairs-more Belongs [] (b ∷ ys) x y pairs belongs = absurd pairs
pairs-more Belongs (a ∷ xs) [] x y pairs belongs = absurd pairs
pairs-more Belongs (a ∷ xs) (b ∷ ys) x y pairs belongs = (pairs.0, pairs-more Belongs xs ys x y pairs.1 belongs)

-- the same in a loop over the first items
pub pairs-start : {A B : Type 0} (Belongs : A → B → Type 0) (xs : List A) → InPairs Belongs (take 0 xs) []
pairs-start Belongs [] = tt
pairs-start Belongs (x ∷ xs) = tt

pub pairs-step : {A B : Type 0} (Belongs : A → B → Type 0) (xs : List A) (i : ℕ) (x : A) (ys : List B) (y : B) → i < length xs → x ≡ get_or xs i x → InPairs Belongs (take i xs) ys → Belongs x y
    → InPairs Belongs (take (i + 1) xs) (ys ++ y ∷ [])
pairs-step Belongs xs i x ys y there at pairs belongs =
    subst (λ some. InPairs Belongs some (ys ++ y ∷ [])) (sym (taken xs i x there at)) (pairs-more Belongs (take i xs) ys x y pairs belongs)

pub pairs-end : {A B : Type 0} (Belongs : A → B → Type 0) (xs : List A) (i : ℕ) (ys : List B) → length xs ≤ i → InPairs Belongs (take i xs) ys → InPairs Belongs xs ys
pairs-end Belongs xs i ys over pairs = subst (λ some. InPairs Belongs some ys) (take_all i xs over) pairs

-- the items at a place belong together
pub pairs-none : {A B : Type 0} (Belongs : A → B → Type 0) (xs : List A) (ys : List B) (i : ℕ) → InPairs Belongs xs ys → None ≡ slice_get ys i → None ≡ slice_get xs i
pairs-none Belongs [] [] i pairs none = refl
pairs-none Belongs [] (y ∷ ys) i pairs none = absurd pairs
pairs-none Belongs (x ∷ xs) [] i pairs none = absurd pairs
pairs-none Belongs (x ∷ xs) (y ∷ ys) zero pairs none = cc
pairs-none Belongs (x ∷ xs) (y ∷ ys) (suc i) pairs none = pairs-none Belongs xs ys i pairs.1 none

pub pairs-at : {A B : Type 0} (Belongs : A → B → Type 0) (xs : List A) (ys : List B) (i : ℕ) (y : B) → InPairs Belongs xs ys → Some y ≡ slice_get ys i → (x : A) × (Some x ≡ slice_get xs i) × Belongs x y
pairs-at Belongs [] [] i y pairs there = cc
pairs-at Belongs [] (b ∷ ys) i y pairs there = absurd pairs
pairs-at Belongs (a ∷ xs) [] i y pairs there = absurd pairs
pairs-at Belongs (a ∷ xs) (b ∷ ys) zero y pairs there = let same : b ≡ y = cc in (a, refl, subst (λ z. Belongs a z) same pairs.0)
pairs-at Belongs (a ∷ xs) (b ∷ ys) (suc i) y pairs there = pairs-at Belongs xs ys i y pairs.1 there

later-some : (o : Option ℕ) → is_some (next false o) ≡ is_some o
later-some None = refl
later-some (Some i) = refl

-- one passes where there is a first
pub any-position : {X : Type 0} (p : X → Bool) (xs : List X) → is_some (position p xs) ≡ list_any p xs
any-position p [] = refl
any-position p (x ∷ xs) = by (p x) refl (any-position p xs)
  where
    by : (b : Bool) → p x ≡ b → is_some (position p xs) ≡ list_any p xs → is_some (position p (x ∷ xs)) ≡ list_any p (x ∷ xs)
    by true is rest = ap is_some (position-first p x xs true is) ∙ sym (ap (λ b. b || list_any p xs) is)
    by false is rest = ap is_some (position-first p x xs false is) ∙ later-some (position p xs) ∙ rest ∙ sym (ap (λ b. b || list_any p xs) is)
