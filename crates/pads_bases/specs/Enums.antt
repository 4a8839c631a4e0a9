-- Enums: the label whose spelling is the longest that begins the text; of equal spellings the first label.
use Rattle.std.specs.Prelude.{◌≡◌, ℕ, suc, Bool, true, false, ◌==◌, ◌&&◌, nat_lt, if◌then◌else◌, List, [], ◌∷◌, length, Option, Some, None, slice_get, option_map}
use Rattle.pads_value.specs.declared.reading.Read.{Read}
use Rattle.pads_value.specs.declared.reading.Read.TheVariants.{Good, Hard}
use Rattle.pads_value.specs.declared.cause.Cause.TheVariants as cause
use Rattle.pads_code.specs.declared.Coding.{Coding}
use Rattle.pads_code.specs.CodePage.{points_of, bytes_of}
use Rattle.pads_bases.specs.declared.enums.Label.{Label}
use Rattle.pads_bases.specs.declared.enums.Choice.{Choice}

-- the text begins with the spelling
abbrev pub begins : List ℕ → List ℕ → Bool
begins [] points = true
begins (s ∷ spelling) [] = false
begins (s ∷ spelling) (p ∷ points) = p == s && begins spelling points

-- the longer of two spellings, and of two equally long ones the earlier
abbrev pub longer : Choice → Option Choice → Option Choice
longer this None = Some this
longer this (Some later) = if nat_lt this.size later.size then Some later else Some this

-- an earlier choice, if there is one, with a later
abbrev pub merged : Option Choice → Option Choice → Option Choice
merged None later = later
merged (Some this) later = longer this later

-- the choice among labels whose first has this number
abbrev pub choice : ℕ → List Label → List ℕ → Option Choice
choice number [] points = None
choice number (label ∷ labels) points =
    if begins label.spelling points
    then longer (record { number = number; size = length label.spelling }) (choice (suc number) labels points)
    else choice (suc number) labels points

abbrev pub choice_read : Option Choice → Read ℕ
choice_read None = Hard cause.Enum
choice_read (Some found) = Good found.size found.number

unfoldable pub enum_reading : Coding → List Label → List ℕ → Read ℕ
enum_reading coding labels bytes = choice_read (choice 0 labels (points_of coding bytes))

-- the canonical spelling of a label is its spelling
unfoldable pub enum_spelling : Coding → List Label → ℕ → Option (List ℕ)
enum_spelling coding labels number = option_map (λ label. bytes_of coding label.spelling) (slice_get labels number)

pub record SpellsEnum (coding : Coding) (labels : List Label) (number : ℕ) (bytes : List ℕ) : Type 0 where
  pub label : Label
  pub is : slice_get labels number ≡ Some label
  pub spelling : points_of coding bytes ≡ label.spelling

-- no two labels have one spelling
abbrev pub SpellingsDiffer : List Label → Type 0
SpellingsDiffer labels =
    (j k : ℕ) (one other : Label) → slice_get labels j ≡ Some one → slice_get labels k ≡ Some other → one.spelling ≡ other.spelling → j ≡ k
