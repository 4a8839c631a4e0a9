-- The bytes of a record as an input that has only this record.
use Rattle.std.specs.Prelude.{ℕ, ◌+◌, ◌/◌, ◌%◌, nat_le, List, [], ◌∷◌, ◌++◌, length, Option, Some, None, if◌then◌else◌}
use Rattle.pads_frame.specs.declared.discipline.Discipline.{Discipline}
use Rattle.pads_frame.specs.declared.discipline.Discipline.TheVariants.{Term, Fixed, Rdw, Whole}

-- the most bytes that a record behind a descriptor word has: the word has 16 bits, and counts its own four bytes too
abbrev pub most_behind_word : ℕ
most_behind_word = 65531

-- the descriptor word of a record of so many bytes: a length in two bytes, the higher first, which counts
-- the word's own four bytes too, and two zero bytes
abbrev pub word : ℕ → List ℕ
word size = (size + 4) / 256 ∷ (size + 4) % 256 ∷ 0 ∷ 0 ∷ []

-- A line has its terminator behind it, and a record of variable length its descriptor word before it; none
-- where no word gives its length. A block and a whole input are their bytes.
abbrev pub framed : Discipline → List ℕ → Option (List ℕ)
framed (Term terminator) bytes = Some (bytes ++ terminator ∷ [])
framed (Fixed block) bytes = Some bytes
framed Rdw bytes = if nat_le (length bytes) most_behind_word then Some (word (length bytes) ++ bytes) else None
framed Whole bytes = Some bytes
