-- Samples as plain data.
use Rattle.std.specs.Prelude.{ℕ, ℤ, Bool, false, List}
use Rattle.std.specs.Ordering.{int_eq}
use Rattle.std.specs.Str.{bytes_eq}
use Rattle.pads_sums.specs.declared.sample.Given.{Given}
use Rattle.pads_sums.specs.declared.sample.Given.TheVariants as given

-- a number, or a text of code points
pub data Sample : Type 0 where
  num : ℤ → Sample
  text : List ℕ → Sample

-- whether both are the same value
abbrev pub same : Sample → Sample → Bool
same (num a) (num b) = int_eq a b
same (num a) (text b) = false
same (text a) (num b) = false
same (text a) (text b) = bytes_eq a b

-- the sample that code gives
abbrev pub given_seen : Given → Sample
given_seen (given.Num number) = num number
given_seen (given.Text points) = text points.now
given_seen (given.Address points) = text points.items
