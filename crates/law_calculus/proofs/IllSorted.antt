-- Terms that use an ill-sorted expression read as that is worth.
use Rattle.std.proofs.Common.{◌≡◌, ℕ, ◌∙◌, ap, refl, pos, true, not, ◌&&◌, if◌then◌else◌, List, [], ◌∷◌, map, slice_get, Option, Some, None, option_map}
use Rattle.std.specs.Prelude.{codes}
use Rattle.pads_bases.specs.Strings.{fixed_reading}
use Rattle.pads_code.specs.CodePage.{point}
use Rattle.pads_code.specs.declared.Coding.TheVariants as coding
use Rattle.pads_value.specs.declared.descriptor.Pd.{out-roll-Pd}
use Rattle.pads_value.specs.declared.reading.Read.TheVariants.{Good}
use Rattle.pads_value.specs.declared.value.Val.TheVariants as val
use Rattle.pads_expr.specs.Value.{Pairs, value}
use Rattle.pads_expr.specs.Worth.{Worth, Answer, Is, Absent, Ill, worth_or_none}
use Rattle.pads_expr.specs.Worth as worth
use Rattle.pads_expr.proofs.Steps.{value-roll}
use Rattle.pads_dispatch.specs.declared.base.Arg.TheVariants as arg
use Rattle.pads_dispatch.specs.declared.base.Base.TheVariants as base
use Rattle.pads_dispatch.specs.Readings.{base_reading}
use Rattle.pads_calc.specs.declared.reading.Reading.{Reading}
use Rattle.pads_calc.specs.declared.term.Case.{Case}
use Rattle.pads_calc.specs.declared.term.ComputedForm.TheVariants as form
use Rattle.pads_calc.specs.declared.term.Term.{Term}
use Rattle.pads_calc.specs.declared.term.Term.TheVariants as term
use Rattle.pads_calc.specs.Arguments.{arg_told, and_more, is_true_told}
use Rattle.pads_calc.specs.Arrays.{SeqReader, size_of_arg, ending_at, turn_from, elements, sized, seq_of}
use Rattle.pads_calc.specs.Calculus.{Caller, read, caller, meaning, body_of, case_reader, seq_reader}
use Rattle.pads_calc.specs.Choices.{branch_of, chosen, switch_of}
use Rattle.pads_calc.specs.Leaves.{unit_of, base_node, base_of, compute_of}
use Rattle.pads_calc.specs.Readings.{Subject, Reader, is_ok}
use Rattle.pads_calc.specs.Wrappers.{constrained, guard_of}
use Rattle.pads_calc.proofs.Calls.{caller-suc}
use Rattle.pads_calc.proofs.Rolls.{read-Unit, read-Base, read-Switch, read-Guard, read-Seq, read-Call, read-Compute}
use Rattle.law_calculus.specs.Agreement.{told_or, ill_worth, AgreesOnSorted}
use Rattle.law_calculus.specs.ByWorths.{Worths, guard_by, ending_at_by, elements_by, sized_by, seq_by, read_by, caller_by, meaning_by}
use Rattle.law_calculus.specs.IllSorted.{truths_in_order, as_constraint, as_text, as_width, only_one, as_chooser, units, as_size, as_last, one_declared, as_argument, read_own, read_with, unit_read, unmet, uncomputed, bad_argument, unchosen, unsized, z_read, ab_read, one_chosen, no_units, units_stalled, one_unit}
use Rattle.law_calculus.specs.Pair.{first_of}
use Rattle.law_calculus.proofs.ByWorthsRolls.{case_reader_by, seq_reader_by, by-Unit, by-Base, by-Switch, by-Guard, by-Seq, by-Call, by-Compute, call-inner}

pub ill : (env : Pairs) → value truths_in_order env ≡ Ill
ill env = simp (value-roll) refl

-- ill-sorted expressions alone are worth something else
pub ill_worth-agrees : (instead : Worth) → AgreesOnSorted (ill_worth instead)
ill_worth-agrees instead e env sorted = by_answer (value e env) sorted
  where
    by_answer : (a : Answer) → (a ≡ Ill → ⊥) → told_or instead a ≡ worth_or_none a
    by_answer (Is w) sorted = refl
    by_answer Absent sorted = refl
    by_answer Ill sorted = absurd (sorted refl)

abbrev subject : Subject
subject = first_of (codes "ab")

abbrev call : Caller
call = caller subject one_declared 1

abbrev call_with : Worth → Caller
call_with instead = caller_by (ill_worth instead) subject one_declared 1

-- a constraint
abbrev asked : Option Worth → Reading
asked told = if is_ok (unit_of 0 0) && not (is_true_told told) then constrained (unit_of 0 0) else unit_of 0 0

pub constraint-own : read_own as_constraint ≡ unmet
constraint-own =
    read-Guard subject call term.Unit 0 truths_in_order [] 0
    ∙ ap (guard_of 0 truths_in_order []) (read-Unit subject call [] 0)
    ∙ ap (λ a. asked (worth_or_none a)) (ill ((0, val.Unit) ∷ []))
    ∙ simp out-roll-Pd

pub constraint-with : read_with (worth.Truth true) as_constraint ≡ unit_read
constraint-with =
    let instead = worth.Truth true in
    by-Guard (ill_worth instead) subject (call_with instead) term.Unit 0 truths_in_order [] 0
    ∙ ap (guard_by (ill_worth instead) 0 truths_in_order []) (by-Unit (ill_worth instead) subject (call_with instead) [] 0)
    ∙ ap (λ a. asked (told_or instead a)) (ill ((0, val.Unit) ∷ []))
    ∙ simp out-roll-Pd

-- a computed text
abbrev computed : Option Worth → Reading
computed told = compute_of 0 form.Text told 0

pub text-own : read_own as_text ≡ uncomputed
text-own = read-Compute subject call truths_in_order form.Text [] 0 ∙ ap (λ a. computed (worth_or_none a)) (ill [])

pub text-with : read_with (worth.Text (codes "z")) as_text ≡ z_read
text-with =
    let instead = worth.Text (codes "z") in
    by-Compute (ill_worth instead) subject (call_with instead) truths_in_order form.Text [] 0 ∙ ap (λ a. computed (told_or instead a)) (ill [])

-- a width
abbrev so_wide : Option Worth → Reading
so_wide told = base_of subject (base.Fixed coding.Ascii) (and_more (arg_told told) (Some [])) 0

pub width-own : read_own as_width ≡ bad_argument
width-own = read-Base subject call (base.Fixed coding.Ascii) (truths_in_order ∷ []) [] 0 ∙ ap (λ a. so_wide (worth_or_none a)) (ill [])

two : base_reading (base.Fixed coding.Ascii) (arg.Num (pos 2) ∷ []) (codes "ab") ≡ Good 2 (val.Text (codes "ab"))
unfolding base_reading fixed_reading point
two = refl

pub width-with : read_with (worth.Num (pos 2)) as_width ≡ ab_read
width-with =
    let instead = worth.Num (pos 2) in
    by-Base (ill_worth instead) subject (call_with instead) (base.Fixed coding.Ascii) (truths_in_order ∷ []) [] 0
    ∙ ap (λ a. so_wide (told_or instead a)) (ill [])
    ∙ ap (base_node 0 0) two

-- a choice
abbrev picked : List Reader → Option Worth → Reading
picked readers told = switch_of 0 (chosen (arg_told told) (map (λ (case : Case). case.key) only_one)) readers [] 0

pub chooser-own : read_own as_chooser ≡ unchosen
chooser-own = read-Switch subject call truths_in_order only_one [] 0 ∙ ap (λ a. picked (map (case_reader subject call) only_one) (worth_or_none a)) (ill [])

pub chooser-with : read_with (worth.Num (pos 1)) as_chooser ≡ one_chosen
chooser-with =
    let instead = worth.Num (pos 1) in
    by-Switch (ill_worth instead) subject (call_with instead) truths_in_order only_one [] 0
    ∙ ap (λ a. picked (map (case_reader_by (ill_worth instead) subject (call_with instead)) only_one) (told_or instead a)) (ill [])
    ∙ ap (λ r. branch_of 0 0 r 0) (by-Unit (ill_worth instead) subject (call_with instead) [] 0)
    ∙ simp out-roll-Pd

-- a size
abbrev so_many : Option Worth → Option (Option ℕ)
so_many told = option_map Some (size_of_arg (arg_told told))

pub size-own : read_own as_size ≡ unsized
size-own =
    read-Seq subject call (units (Some truths_in_order) None) [] 0
    ∙ ap (λ a. sized subject (seq_reader subject call (units (Some truths_in_order) None)) (so_many (worth_or_none a)) [] 0) (ill [])

of_none : (worths : Worths) (s : SeqReader) → sized_by worths subject s (Some (Some 0)) [] 0 ≡ no_units
unfolding elements_by ending_at_by
of_none worths s = refl

pub size-with : read_with (worth.Num (pos 0)) as_size ≡ no_units
size-with =
    let instead = worth.Num (pos 0) in
    let s = seq_reader_by (ill_worth instead) subject (call_with instead) (units (Some truths_in_order) None) in
    by-Seq (ill_worth instead) subject (call_with instead) (units (Some truths_in_order) None) [] 0
    ∙ ap (λ a. sized_by (ill_worth instead) subject s (so_many (told_or instead a)) [] 0) (ill [])
    ∙ of_none (ill_worth instead) s

-- the condition of the last element
abbrev unit_reader : Reader
unit_reader env i = unit_of 0 i

abbrev ending_units : Reader → SeqReader
ending_units elem = record { elem = elem; sep = None; size = None; last = Some truths_in_order; stop = None; elts = 0 }

units-own : seq_of subject (ending_units unit_reader) [] 0 ≡ units_stalled
unfolding elements ending_at turn_from
units-own = simp (out-roll-Pd, ill)

units-with : seq_by (ill_worth (worth.Truth true)) subject (ending_units unit_reader) [] 0 ≡ one_unit
unfolding elements_by ending_at_by turn_from
units-with = simp (out-roll-Pd, ill)

pub last-own : read_own as_last ≡ units_stalled
last-own =
    let unit : read subject call term.Unit ≡ unit_reader = λ k env i. read-Unit subject call env i k in
    read-Seq subject call (units None (Some truths_in_order)) [] 0
    ∙ ap (λ elem. seq_of subject (ending_units elem) [] 0) unit
    ∙ units-own

pub last-with : read_with (worth.Truth true) as_last ≡ one_unit
last-with =
    let instead = worth.Truth true in
    let unit : read_by (ill_worth instead) subject (call_with instead) term.Unit ≡ unit_reader = λ k env i. by-Unit (ill_worth instead) subject (call_with instead) env i k in
    by-Seq (ill_worth instead) subject (call_with instead) (units None (Some truths_in_order)) [] 0
    ∙ ap (λ elem. seq_by (ill_worth instead) subject (ending_units elem) [] 0) unit
    ∙ units-with

-- an argument of a call
abbrev called : (Term → Reader) → Option Worth → Reading
called reads told = body_of 0 reads (slice_get one_declared 0) (and_more (arg_told told) (Some [])) 0

pub argument-own : read_own as_argument ≡ bad_argument
argument-own =
    read-Call subject call 0 (truths_in_order ∷ []) [] 0
    ∙ caller-suc subject one_declared 0 (truths_in_order ∷ []) [] 0 0
    ∙ ap (λ a. called (meaning subject one_declared 0) (worth_or_none a)) (ill [])

pub argument-with : read_with (worth.Num (pos 1)) as_argument ≡ unit_read
argument-with =
    let instead = worth.Num (pos 1) in
    by-Call (ill_worth instead) subject (call_with instead) 0 (truths_in_order ∷ []) [] 0
    ∙ call-inner (ill_worth instead) subject one_declared 0 (truths_in_order ∷ []) [] 0 0
    ∙ ap (λ a. called (meaning_by (ill_worth instead) subject one_declared 0) (told_or instead a)) (ill [])
    ∙ by-Unit (ill_worth instead) subject (caller_by (ill_worth instead) subject one_declared 0) ((0, val.Num (pos 1)) ∷ []) 0
