-- What is kept of the nodes of a part, as a function of the whole list of them.
use Rattle.std.specs.Prelude.{ℕ, ℤ, pos, ◌+ℤ◌, not, List, [], ◌∷◌, length, fold, count_by, Option, Some, None}
use Rattle.std.specs.Int.{int_min, int_max}
use Rattle.std.specs.List.{filter_map}
use Rattle.pads_sums.specs.declared.form.PartForm.{PartForm}
use Rattle.pads_sums.specs.declared.part_sum.PartSum.{PartSum}
use Rattle.pads_sums.specs.Distinct.{tracked, others}
use Rattle.pads_sums.specs.Nodes.{Node, sample_of}
use Rattle.pads_sums.specs.Samples.{Sample, num, text}

-- how many values of a part a summary tracks
abbrev pub most : ℕ
most = 1000

abbrev pub number_in : Sample → Option ℤ
number_in (num number) = Some number
number_in (text points) = None

-- the numbers among samples, in their order
abbrev pub numbers : List Sample → List ℤ
numbers samples = filter_map number_in samples

-- the first with each later one; 0 of none
abbrev pub over_all : (ℤ → ℤ → ℤ) → List ℤ → ℤ
over_all f [] = pos 0
over_all f (number ∷ more) = fold f number more

abbrev pub total : List ℤ → ℤ
total all = fold (λ so_far number. so_far +ℤ number) (pos 0) all

abbrev pub samples_of : PartForm → List Node → List Sample
samples_of form nodes = filter_map (sample_of form) nodes

module _ (room : Option ℕ) (place : List ℕ) (good bad : ℕ) (samples : List Sample) where
  abbrev pub kept : PartSum
  kept = record {
    place = place;
    good = good;
    bad = bad;
    nums = length (numbers samples);
    least = over_all int_min (numbers samples);
    greatest = over_all int_max (numbers samples);
    sum = total (numbers samples);
    tracked = tracked room samples;
    others = others room samples;
  }

-- what is kept of these nodes of a part of this place and form, where so many values are tracked, or all
abbrev pub part_sum : Option ℕ → List ℕ → PartForm → List Node → PartSum
part_sum room place form nodes =
    kept room place (count_by (λ node. node.clean) nodes) (count_by (λ node. not node.clean) nodes) (samples_of form nodes)
