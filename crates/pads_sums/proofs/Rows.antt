-- Rows of sums, computed on their definitions.
use Rattle.std.proofs.Common.{◌≡◌, refl, pos, negsuc, ◌^◌, ◌-◌, true, false, List, [], ◌∷◌, codes, Some, None}
use Rattle.pads_sums.specs.Distinct.{distinct, tracked, others}
use Rattle.pads_sums.specs.Merging.{joined, merged}
use Rattle.pads_sums.specs.Nodes.{in_range, number_sample, name_sample}
use Rattle.pads_sums.specs.Samples.{Sample, num, text}
use Rattle.pads_sums.specs.Sums.{kept}

abbrev samples : List Sample
samples = num (pos 7) ∷ num (negsuc 1) ∷ num (pos 7) ∷ num (pos 3) ∷ num (negsuc 1) ∷ num (pos 7) ∷ []

-- each value where it comes first
in-first-order : distinct samples ≡ num (pos 7) ∷ num (negsuc 1) ∷ num (pos 3) ∷ []
in-first-order = refl

-- a number is no text
apart : distinct (text (codes "7") ∷ num (pos 7) ∷ text (codes "7") ∷ []) ≡ text (codes "7") ∷ num (pos 7) ∷ []
apart = refl

-- occurrences are those in the whole list, and what isn't tracked counts among the others
two-tracked : tracked (Some 2) samples ≡ (num (pos 7), 3) ∷ (num (negsuc 1), 2) ∷ []
two-tracked = refl

one-other : others (Some 2) samples ≡ 1
one-other = refl

-- others are samples, and not values
two-others-of-one-value : others (Some 1) (num (pos 1) ∷ num (pos 2) ∷ num (pos 2) ∷ []) ≡ 2
two-others-of-one-value = refl

-- six samples, of six clean nodes beside three others
sums : kept (Some 2) (codes "n") 6 3 samples ≡ record {
  place = codes "n";
  good = 6;
  bad = 3;
  nums = 6;
  least = negsuc 1;
  greatest = pos 7;
  sum = pos 20;
  tracked = (num (pos 7), 3) ∷ (num (negsuc 1), 2) ∷ [];
  others = 1;
}
sums = refl

-- no samples
nothing : kept (Some 2) (codes "n") 0 1 [] ≡ record {
  place = codes "n";
  good = 0;
  bad = 1;
  nums = 0;
  least = pos 0;
  greatest = pos 0;
  sum = pos 0;
  tracked = [];
  others = 0;
}
nothing = refl

greatest-number : number_sample (pos (2 ^ 64 - 1)) ≡ Some (num (pos (2 ^ 64 - 1)))
greatest-number = refl

too-great : number_sample (pos (2 ^ 64)) ≡ None
too-great = refl

least-number : in_range (negsuc (2 ^ 63 - 1)) ≡ true
least-number = refl

too-small : in_range (negsuc (2 ^ 63)) ≡ false
too-small = refl

a-name : name_sample (codes "some" ∷ codes "none" ∷ []) 1 ≡ Some (text (codes "none"))
a-name = refl

no-such-name : name_sample (codes "some" ∷ []) 1 ≡ None
no-such-name = refl

-- later values go behind those that are there; with room for two, the third counts among the others
two-joined : joined (Some 2) ((num (pos 7), 3) ∷ [], 0) ((num (pos 5), 2) ∷ (num (pos 7), 1) ∷ (num (pos 9), 4) ∷ [])
    ≡ ((num (pos 7), 4) ∷ (num (pos 5), 2) ∷ [], 4)
two-joined = refl

all-joined : joined None ((num (pos 7), 3) ∷ [], 0) ((num (pos 9), 4) ∷ (num (pos 7), 1) ∷ []) ≡ ((num (pos 7), 4) ∷ (num (pos 9), 4) ∷ [], 0)
all-joined = refl

-- the sum of the first samples, merged with that of the later ones, is that of all
sums-merged : merged (Some 2) (kept (Some 2) (codes "n") 3 1 (num (pos 7) ∷ num (negsuc 1) ∷ num (pos 7) ∷ []))
    (kept None (codes "n") 3 2 (num (pos 3) ∷ num (negsuc 1) ∷ num (pos 7) ∷ []))
    ≡ kept (Some 2) (codes "n") 6 3 samples
sums-merged = refl

-- where no numbers have come, those of the later sum stand
first-numbers : (merged None (kept None (codes "n") 0 1 []) (kept None (codes "n") 1 0 (num (pos 5) ∷ []))).least ≡ pos 5
first-numbers = refl
