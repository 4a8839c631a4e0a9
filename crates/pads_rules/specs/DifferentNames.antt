-- Different names among some.
use Rattle.std.specs.Prelude.{ℕ, if◌then◌else◌, List, [], ◌∷◌, ◌++◌, length}
use Rattle.pads_ast.specs.NameTokens.{Names}
use Rattle.pads_rules.specs.Texts.{is_among}

-- Some different names and one more, which may be one of them.
abbrev pub with_name : Names → List ℕ → Names
with_name names name = if is_among names name then names else names ++ name ∷ []

-- The different ones of some names, in the order in which they first come; `names` came before.
abbrev pub with_names : Names → Names → Names
with_names names [] = names
with_names names (name ∷ more) = with_names (with_name names name) more

-- How many different names there are.
abbrev pub count_of_different : Names → ℕ
count_of_different names = length (with_names [] names)
