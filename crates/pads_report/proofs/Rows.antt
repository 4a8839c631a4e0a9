-- Rows of reports, computed on their definition.
use Rattle.std.proofs.Common.{◌≡◌, refl, ℕ, pos, negsuc, List, [], ◌∷◌, ◌++◌, codes, decimal, arith}
use Rattle.std.proofs.lemmas.Fmt.{decimal_digit, decimal-digits_of}
use lib.Utf8.{encode}
use Rattle.pads_sums.specs.declared.part_sum.PartSum.{PartSum}
use Rattle.pads_sums.specs.declared.part_sum.SumList.{SumList}
use Rattle.pads_sums.specs.Samples.{num}
use Rattle.pads_report.specs.Ranks.{ranked}
use Rattle.pads_report.specs.Reports.{report_text, line, percent, average, value_text}

-- the decimal texts in the rows
none : decimal 0 ≡ codes "0"
none = decimal_digit 0 (omega arith)

one : decimal 1 ≡ codes "1"
one = decimal_digit 1 (omega arith)

two : decimal 2 ≡ codes "2"
two = decimal_digit 2 (omega arith)

three : decimal 3 ≡ codes "3"
three = decimal_digit 3 (omega arith)

six : decimal 6 ≡ codes "6"
six = decimal_digit 6 (omega arith)

seven : decimal 7 ≡ codes "7"
seven = decimal_digit 7 (omega arith)

nine : decimal 9 ≡ codes "9"
nine = decimal_digit 9 (omega arith)

forty-two : decimal 42 ≡ codes "42"
forty-two = decimal-digits_of 42 (omega arith) (omega arith)

fifty : decimal 50 ≡ codes "50"
fifty = decimal-digits_of 50 (omega arith) (omega arith)

sixty-six : decimal 66 ≡ codes "66"
sixty-six = decimal-digits_of 66 (omega arith) (omega arith)

ruleset decimals = (none, one, two, three, six, seven, nine, forty-two, fifty, sixty-six)

abbrev part_of : List ℕ → ℕ → ℕ → PartSum
part_of place good bad = record { place = place; good = good; bad = bad; nums = 0; least = pos 0; greatest = pos 0; sum = pos 0; tracked = []; others = 0 }

abbrev x : PartSum
x = record { place = codes "x"; good = 2; bad = 0; nums = 2; least = pos 3; greatest = pos 9; sum = pos 12; tracked = (num (pos 3), 1) ∷ (num (pos 9), 1) ∷ []; others = 0 }

abbrev y : PartSum
y = record { place = codes "y"; good = 1; bad = 1; nums = 1; least = pos 7; greatest = pos 7; sum = pos 7; tracked = (num (pos 7), 1) ∷ []; others = 0 }

abbrev pt : SumList
pt = record { name = codes "pt"; parts = part_of (codes ".") 1 1 ∷ part_of (codes "$") 1 1 ∷ x ∷ y ∷ [] }

-- two fields of numbers, over two records of which one is clean
two-records : report_text 10 (pt ∷ [])
    ≡ line (codes "type pt")
    ++ (line (codes ".: good 1 bad 1 pct 50.000")
    ++ (line (codes "$: good 1 bad 1 pct 50.000")
    ++ (line (codes "x: good 2 bad 0 pct 0.000")
    ++ (line (codes "  min 3 max 9 avg 6.000")
    ++ (line (codes "  values 2 others 0")
    ++ (line (codes "  1 3")
    ++ (line (codes "  1 9")
    ++ (line (codes "y: good 1 bad 1 pct 50.000")
    ++ (line (codes "  min 7 max 7 avg 7.000")
    ++ (line (codes "  values 1 others 0")
    ++ line (codes "  1 7")))))))))))
unfolding encode
two-records = simp (decimals) refl

-- more occurrences first, and of equally many the one that came first
by-occurrences : ranked ((num (pos 5), 1) ∷ (num (pos 4), 3) ∷ (num (pos 6), 1) ∷ (num (pos 1), 3) ∷ [])
    ≡ (num (pos 4), 3) ∷ (num (pos 1), 3) ∷ (num (pos 5), 1) ∷ (num (pos 6), 1) ∷ []
by-occurrences = refl

-- cut, never rounded
two-thirds-bad : percent 1 2 ≡ codes "66.666"
two-thirds-bad = simp (decimals) refl

none-at-all : percent 0 0 ≡ codes "0.000"
none-at-all = refl

cut-toward-zero : average (negsuc 1) 3 ≡ codes "-0.666"
cut-toward-zero = simp (decimals) refl

-- the sign is the sum's, where the cut average is 0 too
small-and-negative : average (negsuc 0) 2000 ≡ codes "-0.000"
small-and-negative = simp (decimals) refl

a-number : value_text (num (negsuc 41)) ≡ codes "-42"
a-number = simp (decimals) refl
