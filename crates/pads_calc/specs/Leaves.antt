-- The terms without terms in them: literals, the end of the record, base types, computed values.
use Rattle.std.specs.Prelude.{ℕ, ◌+◌, ◌&&◌, not, nat_lt, nat_eq, int_le, Bool, List, drop, length, Option, Some, None, if◌then◌else◌}
use Rattle.std.specs.List.{starts_with}
use Rattle.pads_value.specs.declared.cause.Cause.TheVariants as cause
use Rattle.pads_value.specs.declared.reading.Read.{Read}
use Rattle.pads_value.specs.declared.reading.Read.TheVariants.{Good, Soft, Hard}
use Rattle.pads_value.specs.declared.value.Val.{Val}
use Rattle.pads_value.specs.declared.value.Val.TheVariants as val
use Rattle.pads_expr.specs.Worth.{Worth}
use Rattle.pads_expr.specs.Worth as worth
use Rattle.pads_dispatch.specs.declared.base.Arg.{Arg}
use Rattle.pads_dispatch.specs.declared.base.Base.{Base}
use Rattle.pads_dispatch.specs.Readings.{base_reading}
use Rattle.pads_calc.specs.declared.reading.Reading.{Reading}
use Rattle.pads_calc.specs.declared.term.ComputedForm.{ComputedForm}
use Rattle.pads_calc.specs.declared.term.ComputedForm.TheVariants as form
use Rattle.pads_calc.specs.Readings.{Subject, leaf, fails, faulty}

-- nothing
abbrev pub unit_of : ℕ → ℕ → Reading
unit_of origin i = leaf origin val.Unit i i

-- the literal's bytes stand here
abbrev pub lit_of : Subject → List ℕ → ℕ → Reading
lit_of subject literal i =
    if starts_with nat_eq (drop i subject.bytes) literal then leaf subject.origin val.Unit i (i + length literal)
    else fails subject.origin cause.MissingLiteral i

-- no byte is left
abbrev pub at_end : List ℕ → ℕ → Bool
at_end bytes i = not (nat_lt i (length bytes))

abbrev pub eor_of : Subject → ℕ → Reading
eor_of subject i = if at_end subject.bytes i then leaf subject.origin val.Unit i i else fails subject.origin cause.MissingEor i

-- what a base type's reading is as a node
abbrev pub base_node : ℕ → ℕ → Read Val → Reading
base_node origin i (Good size value) = leaf origin value i (i + size)
base_node origin i (Soft size cause) = faulty origin cause i (i + size)
base_node origin i (Hard cause) = fails origin cause i

-- a base type on the bytes from here on; an argument without a value is a bad one
abbrev pub base_of : Subject → Base → Option (List Arg) → ℕ → Reading
base_of subject base None i = fails subject.origin cause.BadParam i
base_of subject base (Some args) i = base_node subject.origin i (base_reading base args (drop i subject.bytes))

-- the value of a computed field: a number in the range, or a text
abbrev pub computed : ComputedForm → Worth → Option Val
computed (form.Range least greatest) (worth.Num number) =
    if int_le least number && int_le number greatest then Some (val.Num number) else None
computed (form.Range least greatest) (worth.Text text) = None
computed (form.Range least greatest) (worth.Truth truth) = None
computed (form.Range least greatest) (worth.Part part) = None
computed form.Text (worth.Num number) = None
computed form.Text (worth.Text text) = Some (val.Text text)
computed form.Text (worth.Truth truth) = None
computed form.Text (worth.Part part) = None

abbrev pub computed_told : ComputedForm → Option Worth → Option Val
computed_told form None = None
computed_told form (Some found) = computed form found

abbrev pub compute_node : ℕ → ℕ → Option Val → Reading
compute_node origin i None = fails origin cause.Compute i
compute_node origin i (Some value) = leaf origin value i i

abbrev pub compute_of : ℕ → ComputedForm → Option Worth → ℕ → Reading
compute_of origin form found i = compute_node origin i (computed_told form found)
