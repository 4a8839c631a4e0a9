-- The report of a summary: for each record type its name, and for each of its parts one line of counts;
-- where it has numbers a line on them; where it has samples a line on its values, and one for each of those
-- with the most occurrences.
use Rattle.std.specs.Prelude.{ℕ, ℤ, pos, negsuc, ◌+◌, ◌*◌, ◌/◌, ◌%◌, nat_lt, nat_eq, List, [], ◌∷◌, ◌++◌, length, take, codes, decimal, encode_utf8_all, flat_map, if◌then◌else◌, suc}
use Rattle.std.specs.Fmt.{signed_decimal}
use Rattle.json.specs.Print.{quoted}
use Rattle.pads_sums.specs.declared.part_sum.PartSum.{PartSum}
use Rattle.pads_sums.specs.declared.part_sum.SumList.{SumList}
use Rattle.pads_sums.specs.Samples.{Sample, num, text}
use Rattle.pads_report.specs.Ranks.{ranked}

abbrev pub line : List ℕ → List ℕ
line words = words ++ 10 ∷ []

-- a number below 1000 in three digits
abbrev pub three_digits : ℕ → List ℕ
three_digits n = (48 + n / 100) ∷ (48 + n / 10 % 10) ∷ (48 + n % 10) ∷ []

-- a quotient, and the thousandths of what it leaves, cut; 0 where the divisor is 0
abbrev pub quotient : ℕ → ℕ → List ℕ
quotient n d = if nat_eq d 0 then codes "0.000" else decimal (n / d) ++ (codes "." ++ three_digits (n % d * 1000 / d))

abbrev pub percent : ℕ → ℕ → List ℕ
percent good bad = quotient (100 * bad) (good + bad)

-- cut toward zero; the sign is the sum's
abbrev pub average : ℤ → ℕ → List ℕ
average (pos sum) count = quotient sum count
average (negsuc less) count = codes "-" ++ quotient (suc less) count

abbrev pub value_text : Sample → List ℕ
value_text (num number) = signed_decimal number
value_text (text points) = quoted (encode_utf8_all points)

abbrev pub counts_line : PartSum → List ℕ
counts_line part =
    line (encode_utf8_all part.place ++ (codes ": good " ++ (decimal part.good ++ (codes " bad " ++ (decimal part.bad
    ++ (codes " pct " ++ percent part.good part.bad))))))

abbrev pub bounds_text : PartSum → List ℕ
bounds_text part = codes "  min " ++ (signed_decimal part.least ++ (codes " max " ++ signed_decimal part.greatest))

abbrev pub numbers_line : PartSum → List ℕ
numbers_line part = if nat_lt 0 part.nums then line (bounds_text part ++ (codes " avg " ++ average part.sum part.nums)) else []

abbrev pub value_line : Sample × ℕ → List ℕ
value_line pair = line (codes "  " ++ (decimal pair.1 ++ (codes " " ++ value_text pair.0)))

module _ (top : ℕ) where
  abbrev pub values_lines : PartSum → List ℕ
  values_lines part = if nat_lt 0 (length part.tracked + part.others) then
      line (codes "  values " ++ (decimal (length part.tracked) ++ (codes " others " ++ decimal part.others)))
      ++ flat_map value_line (take top (ranked part.tracked))
      else []

  abbrev pub part_text : PartSum → List ℕ
  part_text part = counts_line part ++ (numbers_line part ++ values_lines part)

  abbrev pub list_text : SumList → List ℕ
  list_text list = line (codes "type " ++ encode_utf8_all list.name) ++ flat_map part_text list.parts

  abbrev pub report_text : List SumList → List ℕ
  report_text lists = flat_map list_text lists
