-- Numbers of declared types and their members by their names.
use Rattle.std.specs.Prelude.{◌≡◌, ℕ, Bool, true, false, List, [], ◌∷◌, Option, Some, None, nat_eq, position, ⊤}
use Rattle.indexmap.specs.IndexMap.{get_by}
use lib.Pointwise.{pointwise}
use Rattle.pads_rules.specs.declared.declared.Content.{Content}
use Rattle.pads_rules.specs.declared.declared.Content.TheVariants as content
use Rattle.pads_rules.specs.declared.declared.Declared.{Declared}
use Rattle.pads_rules.specs.declared.declared.Named.{Named}
use Rattle.pads_rules.specs.Texts.{same_text}
use Rattle.pads_declared.specs.declared.first_numbers.FirstNumbers.{FirstNumbers}

-- The number that a name has.
abbrev pub number_in : FirstNumbers → List ℕ → Option ℕ
number_in first name = get_by (λ key. pointwise nat_eq name key.items) first.numbers

abbrev pub HasNone : FirstNumbers → Type 0
HasNone first = (name : List ℕ) → number_in first name ≡ None

-- Each name has the number of the first thing of that name, and no other name has one.
abbrev pub IsNumbered : {A : Type 0} → (List ℕ → A → Bool) → List A → FirstNumbers → Type 0
IsNumbered has_name things first = (name : List ℕ) → number_in first name ≡ position (has_name name) things

-- A number, or else another where that is the name's.
abbrev pub number_or : Option ℕ → Bool → ℕ → Option ℕ
number_or (Some there) same number = Some there
number_or None true number = Some number
number_or None false number = None

-- The name of a thing has got a number, if it had none; others have what they had.
abbrev pub NumbersThing : {A : Type 0} → (List ℕ → A → Bool) → FirstNumbers → A → ℕ → FirstNumbers → Type 0
NumbersThing has_name old thing number new = (name : List ℕ) → number_in new name ≡ number_or (number_in old name) (has_name name thing) number

-- A declared type, a field or branch, and a label by its name.
abbrev pub is_declared_as : List ℕ → Declared → Bool
is_declared_as name declared = same_text declared.name name

abbrev pub has_text : List ℕ → Named → Bool
has_text name named = same_text named.text name

abbrev pub is_text : List ℕ → List ℕ → Bool
is_text name label = same_text label name

-- The number of the first field, branch or label of a name.
abbrev pub member_position : Content → List ℕ → Option ℕ
member_position (content.Fields fields) name = position (has_text name) fields
member_position (content.Branches branches) name = position (has_text name) branches
member_position (content.Labels labels) name = position (is_text name) labels
member_position (content.Element sort) name = None
member_position content.Inner name = None

-- The number of the first branch or label of a name.
abbrev pub choice_position : Content → List ℕ → Option ℕ
choice_position (content.Fields fields) name = None
choice_position (content.Branches branches) name = position (has_text name) branches
choice_position (content.Labels labels) name = position (is_text name) labels
choice_position (content.Element sort) name = None
choice_position content.Inner name = None

-- The numbers are those of what a declared type is made of.
abbrev pub AreMembers : Content → FirstNumbers → Type 0
AreMembers content first = (name : List ℕ) → number_in first name ≡ member_position content name

-- The items of two lists belong together, one by one.
abbrev pub InPairs : {A B : Type 0} → (A → B → Type 0) → List A → List B → Type 0
InPairs Belongs [] [] = ⊤
InPairs Belongs [] (y ∷ ys) = ⊥
InPairs Belongs (x ∷ xs) [] = ⊥
InPairs Belongs (x ∷ xs) (y ∷ ys) = Belongs x y × InPairs Belongs xs ys

-- What a table of declared types keeps: the number of the first type of each name, and for each type those of its
-- members.
pub record IsTable (types : List Declared) (numbers : FirstNumbers) (inner : List FirstNumbers) : Type 0 where
  pub named : IsNumbered is_declared_as types numbers
  pub members : InPairs (λ declared first. AreMembers declared.content first) types inner
