-- Class texts: which code points a class such as `A-Za-z0-9` has, and the longest run of them.
use Rattle.std.specs.Prelude.{◌≡◌, ℕ, Bool, true, ◌==◌, ◌&&◌, nat_le, if◌then◌else◌, not, List, [], ◌∷◌, length, slice_index, Option, Some, None}
use Rattle.std.specs.List.{take_while, list_all, list_any}
use Rattle.pads_value.specs.declared.reading.Read.{Read}
use Rattle.pads_value.specs.declared.reading.Read.TheVariants.{Good, Hard}
use Rattle.pads_value.specs.declared.cause.Cause.TheVariants as cause
use Rattle.pads_code.specs.declared.Coding.{Coding}
use Rattle.pads_code.specs.CodePage.{points_of, bytes_of}

-- the code point `-`
abbrev pub dash : ℕ
dash = 45

-- the code points from `low` to `high`
pub record Interval : Type 0 where
  pub low : ℕ
  pub high : ℕ

abbrev pub single : ℕ → Interval
single p = record { low = p; high = p }

-- read from the left: three code points `a`, `-`, `b` are an interval, any other stands for itself
abbrev pub intervals : List ℕ → List Interval
intervals [] = []
intervals (a ∷ []) = single a ∷ []
intervals (a ∷ b ∷ []) = single a ∷ single b ∷ []
intervals (a ∷ mark ∷ b ∷ class) =
    if mark == dash then record { low = a; high = b } ∷ intervals class
    else single a ∷ intervals (mark ∷ b ∷ class)

-- three code points with a dash in the middle stand in front
abbrev pub opens_interval : List ℕ → Bool
opens_interval class = nat_le 3 (length class) && (slice_index class 1 == dash)

abbrev pub is_interval : Interval → Bool
is_interval i = nat_le i.low i.high

abbrev pub lies_in : ℕ → Interval → Bool
lies_in p i = nat_le i.low p && nat_le p i.high

-- the class isn't empty, and no interval ends before it begins
abbrev pub is_class : List ℕ → Bool
is_class class = not (length class == 0) && list_all is_interval (intervals class)

-- the point lies in one of the intervals
abbrev pub has_point : List ℕ → ℕ → Bool
has_point class p = list_any (lies_in p) (intervals class)

-- whether a class has the point; none where the class is malformed or empty
abbrev pub class_has : List ℕ → ℕ → Option Bool
class_has class p = if is_class class then Some (has_point class p) else None

-- the longest run of code points in the class
unfoldable pub class_reading : Coding → List ℕ → List ℕ → Read (List ℕ)
class_reading coding class bytes =
    let text = take_while (has_point class) (points_of coding bytes) in
    if not (is_class class) then Hard cause.BadParam
    else if length text == 0 then Hard cause.Invalid
    else Good (length text) text

-- the text is one that the class has: not empty, and each code point in the class
abbrev pub is_class_text : List ℕ → List ℕ → Bool
is_class_text class text = is_class class && (not (length text == 0) && list_all (has_point class) text)

unfoldable pub class_spelling : Coding → List ℕ → List ℕ → Option (List ℕ)
class_spelling coding class text = if is_class_text class text then Some (bytes_of coding text) else None

pub record SpellsClass (coding : Coding) (class text bytes : List ℕ) : Type 0 where
  pub same : points_of coding bytes ≡ text
  pub of_class : is_class_text class text ≡ true
