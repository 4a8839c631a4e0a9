-- Texts: up to a stop character, to the end of the record, of a fixed width, and single characters. A
-- text's value is its code points, and its canonical spelling their bytes.
use Rattle.std.specs.Prelude.{◌≡◌, ℕ, ℤ, pos, negsuc, ◌==◌, ◌&&◌, nat_lt, nat_le, if◌then◌else◌, not, true, List, [], ◌∷◌, take, length, Option, Some, None}
use Rattle.std.specs.List.{before_first, list_all}
use Rattle.pads_value.specs.declared.reading.Read.{Read}
use Rattle.pads_value.specs.declared.reading.Read.TheVariants.{Good, Hard}
use Rattle.pads_value.specs.declared.cause.Cause.TheVariants as cause
use Rattle.pads_code.specs.declared.Coding.{Coding}
use Rattle.pads_code.specs.CodePage.{point, points_of, bytes_of}

-- the widest text that is spelled in a field
abbrev pub widest : ℕ
widest = 16777216

-- all before the first stop character, or all of the record's rest where there is none
unfoldable pub until_reading : Coding → Option ℕ → List ℕ → Read (List ℕ)
until_reading coding None bytes = Good (length bytes) (points_of coding bytes)
until_reading coding (Some stop) bytes =
    let text = before_first (λ p. p == stop) (points_of coding bytes) in
    Good (length text) text

-- so many bytes
unfoldable pub fixed_reading : Coding → ℤ → List ℕ → Read (List ℕ)
fixed_reading coding (negsuc w) bytes = Hard cause.BadParam
fixed_reading coding (pos width) bytes =
    if nat_lt (length bytes) width then Hard cause.Width
    else Good width (points_of coding (take width bytes))

-- one byte
unfoldable pub char_reading : Coding → List ℕ → Read (List ℕ)
char_reading coding [] = Hard cause.Width
char_reading coding (byte ∷ bytes) = Good 1 (point coding byte ∷ [])

-- the canonical spelling up to a stop character or the record's end: the text
abbrev pub until_spelling : Coding → List ℕ → Option (List ℕ)
until_spelling coding text = Some (bytes_of coding text)

-- in a field: the text, where it has as many code points as the field
unfoldable pub fixed_spelling : Coding → ℤ → List ℕ → Option (List ℕ)
fixed_spelling coding (negsuc w) text = None
fixed_spelling coding (pos width) text =
    if width == length text && nat_le width widest then Some (bytes_of coding text) else None

-- of a character: the text, where it has one code point
unfoldable pub char_spelling : Coding → List ℕ → Option (List ℕ)
char_spelling coding text = if length text == 1 then Some (bytes_of coding text) else None

-- the stop character stands nowhere in the text
abbrev pub HasNoStop : Option ℕ → List ℕ → Type 0
HasNoStop None text = Unit {0}
HasNoStop (Some stop) text = list_all (λ p. not (p == stop)) text ≡ true

-- which bytes spell a text in each of these forms
pub record SpellsUntil (coding : Coding) (stop : Option ℕ) (text bytes : List ℕ) : Type 0 where
  pub same : points_of coding bytes ≡ text
  pub no_stop : HasNoStop stop text

pub record SpellsFixed (coding : Coding) (width : ℤ) (text bytes : List ℕ) : Type 0 where
  pub same : points_of coding bytes ≡ text
  pub fills : width ≡ pos (length bytes)

pub record SpellsChar (coding : Coding) (text bytes : List ℕ) : Type 0 where
  pub same : points_of coding bytes ≡ text
  pub one : length text ≡ 1
