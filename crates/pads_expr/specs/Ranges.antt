-- `Pforall`: whether something holds for each number of a range.
use Rattle.std.specs.Prelude.{ℕ, zero, suc, ◌+◌, nat_lt, ℤ, pos, ◌+ℤ◌, ◌-ℤ◌, unsigned_abs, int_lt, true, if◌then◌else◌, Option, Some, None}
use Rattle.pads_expr.specs.declared.expr.BinOp.TheVariants.{And}
use Rattle.pads_expr.specs.Operators.{between}
use Rattle.pads_expr.specs.Worth.{Worth, Num, Text, Truth, Part, Answer, Is, Absent, Ill}

-- how many numbers a range may have
abbrev pub longest_range : ℕ
longest_range = 1048576

-- How many numbers there are from `first` to `last`: none where `last` is below `first`.
abbrev pub count_between : ℤ → ℤ → ℕ
count_between first last = if int_lt last first then 0 else unsigned_abs (last -ℤ first) + 1

-- The same where they aren't too many.
abbrev pub range_size : ℤ → ℤ → Option ℕ
range_size first last = if nat_lt longest_range (count_between first last) then None else Some (count_between first last)

-- `&&` of what `holds` gives for `count` numbers from `first` on, from the left; of no number it is true.
abbrev pub conjunction : (holds : ℤ → Answer) → ℤ → ℕ → Answer
conjunction holds first zero = Is (Truth true)
conjunction holds first (suc count) = between And (conjunction holds first count) (holds (first +ℤ pos count))

-- The same for the numbers of a range, without a value where they are too many.
abbrev pub over_range : (holds : ℤ → Answer) → ℤ → ℤ → Answer
over_range holds first last = over (range_size first last)
  where
    over : Option ℕ → Answer
    over None = Absent
    over (Some count) = conjunction holds first count

-- The same from one bound to the other. Both are numbers.
abbrev pub for_all : (holds : ℤ → Answer) → Worth → Worth → Answer
for_all holds (Num first) (Num last) = over_range holds first last
for_all holds (Num first) (Text _) = Ill
for_all holds (Num first) (Truth _) = Ill
for_all holds (Num first) (Part _) = Ill
for_all holds (Text _) last = Ill
for_all holds (Truth _) last = Ill
for_all holds (Part _) last = Ill
