-- The records that are made for a self-test, each from its number, counted from 0: an order with its number, a
-- telephone number or none, and its events.
use Rattle.std.specs.Prelude.{ℕ, ◌+◌, ◌%◌, ◌==◌, if◌then◌else◌, List, [], ◌∷◌, ◌++◌, codes, decimal, flat_map, map}
use Rattle.std.specs.List.{join_with_byte, range_with_len}

-- the telephone number of record i, which each third one lacks
abbrev pub telephone : ℕ → List ℕ
telephone i = if i % 3 == 0 then [] else decimal (i % 1000)

-- event j of record i: a state, which is `s` and a digit, and a time
abbrev pub event : ℕ → ℕ → List ℕ
event i j = codes "s" ++ (48 + (i + j) % 10) ∷ [] ++ codes "|" ++ decimal (i + j)

-- what stands before event j
abbrev pub bar_before : ℕ → List ℕ
bar_before j = if j == 0 then [] else codes "|"

-- so many events of record i, with bars between
abbrev pub events : ℕ → ℕ → List ℕ
events i count = join_with_byte 124 (map (event i) (range_with_len 0 count))

-- record i, with the newline that ends it
abbrev pub made_record : ℕ → List ℕ
made_record i = decimal i ++ codes "|" ++ telephone i ++ codes "|" ++ events i (i % 4) ++ 10 ∷ []

-- so many records, the first of which has this number
abbrev pub records_from : ℕ → ℕ → List ℕ
records_from first count = flat_map made_record (range_with_len first count)

-- so many records
abbrev pub made : ℕ → List ℕ
made count = records_from 0 count
