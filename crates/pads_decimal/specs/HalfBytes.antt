-- Half bytes: the high and the low four bits of a byte. Each holds a decimal digit, a sign or a zone.
use Rattle.std.specs.Prelude.{ℕ, ◌+◌, ◌*◌, ◌-◌, ◌/◌, ◌%◌, Bool, nat_lt, List, [], ◌∷◌, length, take, slice_index}

abbrev pub high : ℕ → ℕ
high byte = byte / 16

abbrev pub low : ℕ → ℕ
low byte = byte % 16

abbrev pub is_digit : ℕ → Bool
is_digit half = nat_lt half 10

-- the half bytes of bytes, in their order
abbrev pub halves : List ℕ → List ℕ
halves [] = []
halves (byte ∷ bytes) = high byte ∷ low byte ∷ halves bytes

-- bytes of half bytes, two in each
abbrev pub joined : List ℕ → List ℕ
joined [] = []
joined (half ∷ []) = []
joined (first ∷ second ∷ rest) = (first * 16 + second) ∷ joined rest

-- the last of a list, and those in front of it
abbrev pub last : List ℕ → ℕ
last xs = slice_index xs (length xs - 1)

abbrev pub front : List ℕ → List ℕ
front xs = take (length xs - 1) xs
