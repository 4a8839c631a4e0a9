-- The options among the words of the command line, and what their values come to.
use Rattle.std.specs.Prelude.{ℕ, Bool, not, if◌then◌else◌, List, [], ◌∷◌, Option, Some, None, codes, nat_eq, length, take, drop, option_map}
use Rattle.std.specs.List.{filter, filter_map, starts_with}
use Rattle.std.specs.Str.{bytes_eq}
use Rattle.pads_code.specs.declared.Coding.{Coding}
use Rattle.pads_code.specs.declared.Coding.TheVariants.{Ascii, Ebcdic}
use Rattle.pads_frame.specs.declared.discipline.Discipline.{Discipline}
use Rattle.pads_frame.specs.declared.discipline.Discipline.TheVariants.{Term, Fixed, Rdw, Whole}
use Rattle.pads_orders.specs.Numbers.{number_to, hex_byte}

-- A word is an option where it begins with two dashes.
abbrev pub is_option : List ℕ → Bool
is_option word = starts_with nat_eq word (codes "--")

-- the words that aren't options, in order
abbrev pub arguments : List (List ℕ) → List (List ℕ)
arguments words = filter (λ word. not (is_option word)) words

-- the text behind this beginning
abbrev pub behind : List ℕ → List ℕ → Option (List ℕ)
behind beginning word = if bytes_eq (take (length beginning) word) beginning then Some (drop (length beginning) word) else None

-- the values that options with this beginning have, in order
abbrev pub values : List ℕ → List (List ℕ) → List (List ℕ)
values beginning words = filter_map (behind beginning) words

-- The value of an option that may be given once, and else has its usual value.
abbrev pub once : List ℕ → List (List ℕ) → Option (List ℕ)
once usual [] = Some usual
once usual (value ∷ []) = Some value
once usual (value ∷ other ∷ more) = None

-- the coding of the description's ambient texts
abbrev pub coding_of : List ℕ → Option Coding
coding_of value = if bytes_eq value (codes "ascii") then Some Ascii else if bytes_eq value (codes "ebcdic") then Some Ebcdic else None

-- the most bytes of a record
abbrev pub greatest_max : ℕ
greatest_max = 16777216

abbrev pub max_of : List ℕ → Option ℕ
max_of = number_to greatest_max

-- by what stands behind `term:` and behind `fixed:`
abbrev pub records_with : ℕ → Option (List ℕ) → Option (List ℕ) → Option Discipline
records_with max (Some terminator) block = option_map Term (hex_byte terminator)
records_with max None (Some block) = option_map Fixed (number_to max block)
records_with max None None = None

-- how the records lie in the input, where a record has at most `max` bytes
abbrev pub records_of : ℕ → List ℕ → Option Discipline
records_of max value =
    if bytes_eq value (codes "nl") then Some (Term 10)
    else if bytes_eq value (codes "rdw") then Some Rdw
    else if bytes_eq value (codes "whole") then Some Whole
    else records_with max (behind (codes "term:") value) (behind (codes "fixed:") value)
