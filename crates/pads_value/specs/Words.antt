-- Tables of words, each with what it means.
use Rattle.std.specs.Prelude.{ℕ, Bool, List, [], ◌∷◌, Option, Some, None, if◌then◌else◌}
use Rattle.std.specs.Str.{bytes_eq}

unfoldable pub is_word : List ℕ → List ℕ → Bool
is_word word text = bytes_eq word text

-- what a table has for a word
abbrev pub find_word : {A : Type 0} → List ℕ → List (List ℕ × A) → Option A
find_word word [] = None
find_word word ((text, meaning) ∷ table) = if is_word word text then Some meaning else find_word word table
