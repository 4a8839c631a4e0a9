-- The rows of canonical bytes, computed on the definition.
use Rattle.std.proofs.Common.{◌≡◌, ◌∙◌, ap, refl, arith, ℕ, suc, pos, [], ◌∷◌, map, Some, None}
use Rattle.std.specs.Prelude.{codes, option_and_then}
use Rattle.std.proofs.lemmas.Fmt.{decimal-digits_of}
use Rattle.pads_code.specs.CodePage.{byte_of}
use Rattle.pads_code.specs.declared.Coding.TheVariants as coding
use Rattle.pads_int.specs.Spellings.{int_spelling}
use Rattle.pads_int.specs.declared.kind.Kind.TheVariants as kind
use Rattle.pads_value.specs.declared.value.Val.TheVariants as val
use Rattle.pads_value.specs.declared.value.Val.TheVariants.{outs-Unit, outs-Missing, outs-Num, outs-Tuple, outs-Branch, outs-Array}
use Rattle.pads_dispatch.specs.Spellings.{base_spelling, number_of, number_in}
use Rattle.law_canonical.specs.Canonical.{CallSpeller, canon, canon_of, spelled, call_spelled}
use Rattle.law_canonical.specs.Examples.{u8, pair, two_of, num, numbers, either, chosen, worked_out, barred, forgotten, of_pair, call_pair, nothing, record_end, searched}
use Rattle.law_canonical.proofs.Rolls.{spelled-Call, spelled_rules}

-- a number is spelled in its digits, where it is a byte's
byte-spelled : (n : ℕ) → base_spelling u8 [] (num n) ≡ int_spelling kind.U8 coding.Ascii (pos n)
unfolding base_spelling number_of
byte-spelled n = ap (λ layer. option_and_then (int_spelling kind.U8 coding.Ascii) (number_in layer)) (outs-Num (pos n))

none-missing : base_spelling u8 [] val.Missing ≡ None
unfolding base_spelling number_of
none-missing = ap (λ layer. option_and_then (int_spelling kind.U8 coding.Ascii) (number_in layer)) outs-Missing

none-unit : base_spelling u8 [] val.Unit ≡ None
unfolding base_spelling number_of
none-unit = ap (λ layer. option_and_then (int_spelling kind.U8 coding.Ascii) (number_in layer)) outs-Unit

one : int_spelling kind.U8 coding.Ascii (pos 1) ≡ Some (codes "1")
unfolding int_spelling byte_of
one = ap (λ digits. Some (map (byte_of coding.Ascii) digits)) (decimal-digits_of 1 (omega arith) (omega arith))

three : int_spelling kind.U8 coding.Ascii (pos 3) ≡ Some (codes "3")
unfolding int_spelling byte_of
three = ap (λ digits. Some (map (byte_of coding.Ascii) digits)) (decimal-digits_of 3 (omega arith) (omega arith))

seven : int_spelling kind.U8 coding.Ascii (pos 7) ≡ Some (codes "7")
unfolding int_spelling byte_of
seven = ap (λ digits. Some (map (byte_of coding.Ascii) digits)) (decimal-digits_of 7 (omega arith) (omega arith))

twenty : int_spelling kind.U8 coding.Ascii (pos 20) ≡ Some (codes "20")
unfolding int_spelling byte_of
twenty = ap (λ digits. Some (map (byte_of coding.Ascii) digits)) (decimal-digits_of 20 (omega arith) (omega arith))

too-large : int_spelling kind.U8 coding.Ascii (pos 256) ≡ None
unfolding int_spelling byte_of
too-large = refl

ruleset shapes = (outs-Unit, outs-Missing, outs-Num, outs-Tuple, outs-Branch, outs-Array)

ruleset bytes_of = (byte-spelled, none-missing, none-unit, one, three, seven, twenty, too-large)

pub unit-row : canon [] 0 nothing [] val.Unit ≡ Some []
unit-row = simp (spelled_rules, shapes, bytes_of) refl

pub no-unit-row : canon [] 0 nothing [] (num 7) ≡ None
no-unit-row = simp (spelled_rules, shapes, bytes_of) refl

pub end-row : canon [] 0 record_end [] val.Unit ≡ Some []
end-row = simp (spelled_rules, shapes, bytes_of) refl

pub scan-row : canon [] 0 searched [] (num 7) ≡ Some (codes "7")
scan-row = simp (spelled_rules, shapes, bytes_of) refl

pub struct-row : canon [] 0 pair [] (two_of 3 7) ≡ Some (codes "3,7")
struct-row = simp (spelled_rules, shapes, bytes_of) refl

pub short-row : canon [] 0 pair [] (val.Tuple (num 3 ∷ val.Unit ∷ [])) ≡ None
short-row = simp (spelled_rules, shapes, bytes_of) refl

pub missing-row : canon [] 0 pair [] (val.Tuple (num 3 ∷ val.Unit ∷ val.Missing ∷ [])) ≡ None
missing-row = simp (spelled_rules, shapes, bytes_of) refl

pub range-row : canon [] 0 pair [] (two_of 3 256) ≡ None
range-row = simp (spelled_rules, shapes, bytes_of) refl

pub array-row : canon [] 0 numbers [] (val.Array (num 1 ∷ num 20 ∷ [])) ≡ Some (codes "1,20")
array-row = simp (spelled_rules, shapes, bytes_of) refl

pub empty-row : canon [] 0 numbers [] (val.Array []) ≡ Some []
empty-row = simp (spelled_rules, shapes, bytes_of) refl

pub no-array-row : canon [] 0 numbers [] val.Unit ≡ None
no-array-row = simp (spelled_rules, shapes, bytes_of) refl

pub branch-row : canon [] 0 either [] (val.Branch 1 val.Unit) ≡ Some (codes "-")
branch-row = simp (spelled_rules, shapes, bytes_of) refl

pub no-branch-row : canon [] 0 either [] (val.Branch 2 val.Unit) ≡ None
no-branch-row = simp (spelled_rules, shapes, bytes_of) refl

pub switch-row : canon [] 0 chosen [] (val.Branch 0 (num 7)) ≡ Some (codes "7")
switch-row = simp (spelled_rules, shapes, bytes_of) refl

pub other-case-row : canon [] 0 chosen [] (val.Branch 1 val.Unit) ≡ Some (codes "-")
other-case-row = simp (spelled_rules, shapes, bytes_of) refl

pub no-case-row : canon [] 0 chosen [] (val.Branch 2 val.Unit) ≡ None
no-case-row = simp (spelled_rules, shapes, bytes_of) refl

pub compute-row : canon [] 0 worked_out [] (num 7) ≡ Some []
compute-row = simp (spelled_rules, shapes, bytes_of) refl

pub computed-range-row : canon [] 0 worked_out [] (num 256) ≡ None
computed-range-row = simp (spelled_rules, shapes, bytes_of) refl

pub constraint-row : canon [] 0 barred [] (num 7) ≡ Some (codes "7")
constraint-row = simp (spelled_rules, shapes, bytes_of) refl

pub forgotten-row : canon [] 0 forgotten [] val.Unit ≡ None
forgotten-row = simp (spelled_rules, shapes, bytes_of) refl

-- a pair, whatever its calls are spelled in
pair-bytes : (call : CallSpeller) → spelled call pair [] (two_of 3 7) ≡ Some (codes "3,7")
pair-bytes call = simp (spelled_rules, shapes, bytes_of) refl

called : (depth : ℕ) → call_spelled of_pair (suc depth) 0 [] [] (two_of 3 7) ≡ Some (codes "3,7")
unfolding call_spelled
called depth = pair-bytes (call_spelled of_pair depth)

pub call-row : canon of_pair 1 call_pair [] (two_of 3 7) ≡ Some (codes "3,7")
call-row = spelled-Call (call_spelled of_pair 1) 0 [] [] (two_of 3 7) ∙ called 0

pub too-deep-row : canon of_pair 0 call_pair [] (two_of 3 7) ≡ None
unfolding call_spelled
too-deep-row = spelled-Call (call_spelled of_pair 0) 0 [] [] (two_of 3 7)

pub record-type-row : canon_of of_pair 0 (two_of 3 7) ≡ Some (codes "3,7")
record-type-row = called 127

pub undeclared-row : canon_of [] 0 val.Unit ≡ None
unfolding call_spelled
undeclared-row = refl
