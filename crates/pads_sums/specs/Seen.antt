-- What code has of tracked values.
use Rattle.std.specs.Prelude.{ℕ, ℤ, List, ◌++◌, map}
use Rattle.std.specs.declared.alloc.Global.{Global}
use Rattle.std.specs.declared.vec.Vec.{Vec}
use Rattle.pads_sums.specs.Samples.{Sample, num, text}
use Rattle.pads_sums.specs.declared.tracked.Sample.{Sample as CodeSample}
use Rattle.pads_sums.specs.declared.tracked.Sample.TheVariants as code

abbrev pub sample_seen : CodeSample → Sample
sample_seen (code.Num number) = num number
sample_seen (code.Text points) = text points.now

abbrev pub pair_seen : CodeSample × ℕ → Sample × ℕ
pair_seen pair = (sample_seen pair.0, pair.1)

abbrev pub number_pair : ℤ × ℕ → Sample × ℕ
number_pair entry = (num entry.0, entry.1)

abbrev pub text_pair : Vec ℕ Global × ℕ → Sample × ℕ
text_pair entry = (text entry.0.items, entry.1)

-- the pairs of numbers and of texts
abbrev pub pairs : List (ℤ × ℕ) → List (Vec ℕ Global × ℕ) → List (Sample × ℕ)
pairs numbers texts = map number_pair numbers ++ map text_pair texts
