-- Terms that use an ill-sorted expression, one for each use that there is, and what they read as at the first
-- byte of `ab`: in the calculus, and where the expression is worth something. What is wanted was worked out by
-- hand from the rules.
use Rattle.std.specs.Prelude.{true, false, pos, List, [], ◌∷◌, codes, Option, Some, None}
use Rattle.pads_code.specs.declared.Coding.TheVariants as coding
use Rattle.pads_value.specs.declared.cause.Cause.{Cause}
use Rattle.pads_value.specs.declared.cause.Cause.TheVariants as cause
use Rattle.pads_value.specs.declared.descriptor.Class.TheVariants as class
use Rattle.pads_value.specs.declared.value.Val.TheVariants as val
use Rattle.pads_expr.specs.declared.expr.BinOp.TheVariants.{Lt}
use Rattle.pads_expr.specs.declared.expr.Expr.{Expr, Expr-F, roll-Expr}
use Rattle.pads_expr.specs.Worth.{Worth}
use Rattle.pads_dispatch.specs.declared.base.Base.TheVariants as base
use Rattle.pads_calc.specs.declared.decl.Decl.{Decl}
use Rattle.pads_calc.specs.declared.reading.Reading.{Reading}
use Rattle.pads_calc.specs.declared.term.Case.{Case}
use Rattle.pads_calc.specs.declared.term.ComputedForm.TheVariants as form
use Rattle.pads_calc.specs.declared.term.Key.TheVariants as key
use Rattle.pads_calc.specs.declared.term.Seq.{Seq}
use Rattle.pads_calc.specs.declared.term.Term.{Term}
use Rattle.pads_calc.specs.declared.term.Term.TheVariants as term
use Rattle.pads_calc.specs.Calculus.{meaning}
use Rattle.law_calculus.specs.Agreement.{ill_worth}
use Rattle.law_calculus.specs.ByWorths.{meaning_by}
use Rattle.law_calculus.specs.Pair.{first_of, pd, ok, soft, hard}

-- truths have no order
abbrev pub truths_in_order : Expr
truths_in_order = roll-Expr (Expr-F.Bin Lt (roll-Expr (Expr-F.Truth true)) (roll-Expr (Expr-F.Truth false)))

-- as a constraint of nothing
abbrev pub as_constraint : Term
as_constraint = term.Guard term.Unit 0 truths_in_order

-- as a computed text
abbrev pub as_text : Term
as_text = term.Compute truths_in_order form.Text

-- as the width of a text
abbrev pub as_width : Term
as_width = term.Base (base.Fixed coding.Ascii) (truths_in_order ∷ [])

-- as what chooses the case 1, which is nothing
abbrev pub only_one : List Case
only_one = record { key = Some (key.Num (pos 1)); arm = record { name = 0; term = term.Unit } } ∷ []

abbrev pub as_chooser : Term
as_chooser = term.Switch truths_in_order only_one

-- as the size of an array of nothings, and as the condition of its last element
abbrev pub units : Option Expr → Option Expr → Seq
units size last = record { elem = term.Unit; sep = None; size = size; last = last; stop = None; elts = 0 }

abbrev pub as_size : Term
as_size = term.Seq (units (Some truths_in_order) None)

abbrev pub as_last : Term
as_last = term.Seq (units None (Some truths_in_order))

-- as the argument of a declaration that is nothing
abbrev pub one_declared : List Decl
one_declared = record { name = 0; params = 0 ∷ []; body = term.Unit; set = false } ∷ []

abbrev pub as_argument : Term
as_argument = term.Call 0 (truths_in_order ∷ [])

-- what a term reads as in the calculus
abbrev pub read_own : Term → Reading
read_own t = meaning (first_of (codes "ab")) one_declared 1 t [] 0

-- and where ill-sorted expressions are worth this
abbrev pub read_with : Worth → Term → Reading
read_with worth t = meaning_by (ill_worth worth) (first_of (codes "ab")) one_declared 1 t [] 0

-- nothing, clean or under a constraint that isn't met
abbrev pub unit_read : Reading
unit_read = record { value = val.Unit; pd = ok 0 0; place = 0 }

abbrev pub unmet : Reading
unmet = record { value = val.Unit; pd = soft cause.Constraint 0 0; place = 0 }

-- no value
abbrev pub failed : Cause → Reading
failed cause = record { value = val.Missing; pd = hard cause 0; place = 0 }

abbrev pub uncomputed : Reading
uncomputed = failed cause.Compute

abbrev pub bad_argument : Reading
bad_argument = failed cause.BadParam

abbrev pub unchosen : Reading
unchosen = failed cause.Switch

abbrev pub unsized : Reading
unsized = failed cause.ArrayBound

-- texts of one character and of two
abbrev pub z_read : Reading
z_read = record { value = val.Text (codes "z"); pd = ok 0 0; place = 0 }

abbrev pub ab_read : Reading
ab_read = record { value = val.Text (codes "ab"); pd = ok 0 2; place = 2 }

-- the case 1
abbrev pub one_chosen : Reading
one_chosen = record { value = val.Branch 0 val.Unit; pd = pd 0 class.Ok None 0 0 (ok 0 0 ∷ []); place = 0 }

-- arrays of no element, and of one: the turn behind it takes no byte, or isn't made
abbrev pub no_units : Reading
no_units = record { value = val.Array []; pd = ok 0 0; place = 0 }

abbrev pub units_stalled : Reading
units_stalled = record { value = val.Array (val.Unit ∷ []); pd = pd 1 class.Err (Some cause.ArrayStall) 0 0 (ok 0 0 ∷ []); place = 0 }

abbrev pub one_unit : Reading
one_unit = record { value = val.Array (val.Unit ∷ []); pd = pd 0 class.Ok None 0 0 (ok 0 0 ∷ []); place = 0 }
