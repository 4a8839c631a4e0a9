-- Fields, branches and labels, as the table of declared types finds them.
use Rattle.std.proofs.Common.{◌≡◌, ◌∙◌, sym, ap, refl, ℕ, nat_lt, Bool, true, false, cond, ◌||◌, List, [], ◌∷◌, length, Option, Some, None, is_some, option_map, find, position, slice_get}
use Rattle.std.specs.List.{position_or_len, list_any}
use Rattle.std.proofs.lemmas.List.Folds.{find_at}
use Rattle.pads_rules.specs.declared.declared.Content.{Content}
use Rattle.pads_rules.specs.declared.declared.Content.TheVariants as content
use Rattle.pads_rules.specs.declared.declared.Declared.{Declared}
use Rattle.pads_rules.specs.declared.declared.Named.{Named}
use Rattle.pads_rules.specs.Members.{content_of, names_in, has_choice_in}
use Rattle.pads_rules.specs.Texts.{same_text, sort_of, is_among}
use Rattle.pads_declared.specs.declared.first_numbers.FirstNumbers.{FirstNumbers}
use Rattle.pads_declared.specs.Numbered.{number_in, has_text, is_text, member_position, choice_position, AreMembers, InPairs}
use Rattle.pads_declared.proofs.NumberLemmas.{same-swapped, pairs-none, pairs-at, any-position}
use Rattle.pads_declared.proofs.TypeLemmas.{none-first}

abbrev Keeps : Declared → FirstNumbers → Type 0
Keeps declared first = AreMembers declared.content first

none-here : (types : List Declared) (number : ℕ) (name : List ℕ) (found : Option Declared) → slice_get types number ≡ found → None ≡ found → None ≡ member_position (content_of types number) name
none-here types number name None at none = rw at refl
none-here types number name (Some declared) at none = cc

pub no-member : (types : List Declared) (members : List FirstNumbers) (number : ℕ) (name : List ℕ) → InPairs Keeps types members → None ≡ slice_get members number → None ≡ member_position (content_of types number) name
no-member types members number name pairs none = none-here types number name (slice_get types number) refl (pairs-none Keeps types members number pairs none)

pub content-at : (types : List Declared) (number : ℕ) (declared : Declared) → Some declared ≡ slice_get types number → content_of types number ≡ declared.content
content-at types number declared at = rw (← at) refl

pub member-there : (types : List Declared) (members : List FirstNumbers) (number : ℕ) (name : List ℕ) (first : FirstNumbers) → InPairs Keeps types members → Some first ≡ slice_get members number
    → number_in first name ≡ member_position (content_of types number) name
member-there types members number name first pairs there =
    let found = pairs-at Keeps types members number first pairs there in
    found.2 name ∙ ap (λ (c : Content). member_position c name) (sym (content-at types number found.0 found.1))

-- the first that passes stands at the first place
at-by : {A : Type 0} (xs : List A) (i k : ℕ) (b : Bool) → Some i ≡ cond b (Some k) None → slice_get xs i ≡ slice_get xs k
at-by xs i k true is = let same : i ≡ k = cc in ap (slice_get xs) same
at-by xs i k false is = cc

at-first : {A : Type 0} (p : A → Bool) (xs : List A) (i : ℕ) → Some i ≡ position p xs → slice_get xs i ≡ find p xs
at-first p xs i is = at-by xs i (position_or_len p xs) (nat_lt (position_or_len p xs) (length xs)) is ∙ sym (find_at p xs)

sort-first : (named : List Named) (name : List ℕ) (i : ℕ) → Some i ≡ position (has_text name) named → option_map (λ (one : Named). one.sort) (slice_get named i) ≡ sort_of named name
sort-first named name i is = ap (option_map (λ (one : Named). one.sort)) (at-first (has_text name) named i is)

pub sort-there : (c : Content) (name : List ℕ) (i : ℕ) → Some i ≡ member_position c name → option_map (λ (one : Named). one.sort) (slice_get (names_in c) i) ≡ sort_of (names_in c) name
sort-there (content.Fields fields) name i is = sort-first fields name i is
sort-there (content.Branches branches) name i is = sort-first branches name i is
sort-there (content.Labels labels) name i is = refl
sort-there (content.Element sort) name i is = refl
sort-there content.Inner name i is = refl

no-sort : (named : List Named) (name : List ℕ) → None ≡ position (has_text name) named → None ≡ sort_of named name
no-sort named name is = ap (option_map (λ (one : Named). one.sort)) (none-first (has_text name) named is)

pub sort-none : (c : Content) (name : List ℕ) → None ≡ member_position c name → None ≡ sort_of (names_in c) name
sort-none (content.Fields fields) name is = no-sort fields name is
sort-none (content.Branches branches) name is = no-sort branches name is
sort-none (content.Labels labels) name is = refl
sort-none (content.Element sort) name is = refl
sort-none content.Inner name is = refl

any-find : {X Y : Type 0} (f : X → Y) (p : X → Bool) (xs : List X) → list_any p xs ≡ is_some (option_map f (find p xs))
any-find f p [] = refl
any-find f p (x ∷ xs) = by (p x) (any-find f p xs)
  where
    by : (b : Bool) → list_any p xs ≡ is_some (option_map f (find p xs)) → (b || list_any p xs) ≡ is_some (option_map f (cond b (Some x) (find p xs)))
    by true rest = refl
    by false rest = rest

any-swapped : (labels : List (List ℕ)) (name : List ℕ) → list_any (is_text name) labels ≡ is_among labels name
any-swapped [] name = refl
any-swapped (label ∷ labels) name = rw (same-swapped label name) (ap (λ b. same_text name label || b) (any-swapped labels name))

pub choice-there : (c : Content) (name : List ℕ) → is_some (choice_position c name) ≡ has_choice_in c name
choice-there (content.Branches branches) name = any-position (has_text name) branches ∙ any-find (λ (one : Named). one.sort) (has_text name) branches
choice-there (content.Labels labels) name = any-position (is_text name) labels ∙ any-swapped labels name
choice-there (content.Fields fields) name = refl
choice-there (content.Element sort) name = refl
choice-there content.Inner name = refl
