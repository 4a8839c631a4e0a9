-- The distinct samples of a list in the order in which they first come, those of them that are tracked,
-- and how many samples have a value that isn't.
use Rattle.std.specs.Prelude.{ℕ, Bool, not, List, [], ◌∷◌, map, take, count_by, Option, Some, None}
use Rattle.std.specs.List.{filter, list_any}
use Rattle.pads_sums.specs.Samples.{Sample, same}

-- each value once, where it comes first
abbrev pub distinct : List Sample → List Sample
distinct [] = []
distinct (sample ∷ samples) = sample ∷ filter (λ other. not (same sample other)) (distinct samples)

abbrev pub occurrences : List Sample → Sample → ℕ
occurrences samples sample = count_by (same sample) samples

-- so many of a list, or all
abbrev pub within : Option ℕ → List Sample → List Sample
within None samples = samples
within (Some room) samples = take room samples

-- where so many values are tracked, or all
module _ (room : Option ℕ) (samples : List Sample) where
  -- the values that came first
  abbrev pub first_values : List Sample
  first_values = within room (distinct samples)

  -- with their occurrences in the whole list
  abbrev pub tracked : List (Sample × ℕ)
  tracked = map (λ sample. (sample, occurrences samples sample)) first_values

  abbrev pub is_tracked : Sample → Bool
  is_tracked sample = list_any (same sample) first_values

  abbrev pub others : ℕ
  others = count_by (λ sample. not (is_tracked sample)) samples
