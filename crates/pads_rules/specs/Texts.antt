-- Names by their texts.
use Rattle.std.specs.Prelude.{ℕ, Bool, List, Option, option_map, find}
use Rattle.std.specs.List.{list_any}
use Rattle.std.specs.Str.{bytes_eq}
use Rattle.pads_rules.specs.declared.declared.Named.{Named}
use Rattle.pads_rules.specs.declared.expr_sort.ExprSort.{ExprSort}

-- Two texts are the same.
unfoldable pub same_text : List ℕ → List ℕ → Bool
same_text a b = bytes_eq a b

-- A text is one of some.
abbrev pub is_among : List (List ℕ) → List ℕ → Bool
is_among texts text = list_any (same_text text) texts

-- The sort of a name: the first of that text gives it.
abbrev pub sort_of : List Named → List ℕ → Option ExprSort
sort_of names text = option_map (λ named. named.sort) (find (λ named. same_text named.text text) names)
