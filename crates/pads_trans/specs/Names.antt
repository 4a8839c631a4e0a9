-- Names by number. A name's number is its place among the different names of the description, in the
-- order in which they are first met.
use Rattle.std.specs.Prelude.{ℕ, List, [], ◌∷◌, ◌++◌, length, Option, Some, None, position, nat_eq, codes}
use Rattle.std.specs.List.{fold}
use lib.Pointwise.{pointwise}

abbrev pub Name : Type 0
Name = List ℕ

-- A name that no text of a description spells: the elements so far of an array, and the whole of a struct
-- or an array in its `Pwhere`.
abbrev pub at_sign : Name
at_sign = codes "@"

-- The branches of an optional.
abbrev pub some_name : Name
some_name = codes "some"

abbrev pub none_name : Name
none_name = codes "none"

-- Where a name stands among others, if it does.
abbrev pub place_of : List Name → Name → Option ℕ
place_of names name = position (λ other. pointwise nat_eq name other) names

abbrev pub number_at : List Name → Option ℕ → ℕ
number_at names None = length names
number_at names (Some place) = place

-- The number of a name: its place. (One that isn't there has a number that no other has.)
unfoldable pub number_of : List Name → Name → ℕ
number_of names name = number_at names (place_of names name)

abbrev pub names_at : List Name → Name → Option ℕ → List Name
names_at names name None = names ++ name ∷ []
names_at names name (Some place) = names

-- One more name is met: a new one goes last.
unfoldable pub with_name : List Name → Name → List Name
with_name names name = names_at names name (place_of names name)

-- More names are met, one after another.
abbrev pub with_names : List Name → List Name → List Name
with_names names more = fold with_name names more
