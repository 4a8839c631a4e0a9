-- What the calculus takes expressions to be worth, and functions that agree with it on some of them.
use Rattle.std.specs.Prelude.{◌≡◌, ◌≢◌, ℕ, List, [], Option, Some, None}
use Rattle.pads_value.specs.Cuts.{Cut}
use Rattle.pads_expr.specs.declared.expr.Expr.{Expr}
use Rattle.pads_expr.specs.Value.{Pairs, value}
use Rattle.pads_expr.specs.Worth.{Worth, Answer, Is, Absent, Ill, worth_or_none}
use Rattle.pads_calc.specs.declared.decl.Decl.{Decl}
use Rattle.pads_calc.specs.declared.reading.Reading.{Reading}
use Rattle.pads_calc.specs.declared.term.Term.TheVariants as term
use Rattle.pads_calc.specs.Readings.{Subject}
use Rattle.pads_calc.specs.Rows.{deepest, subject_of_cut}
use Rattle.law_calculus.specs.ByWorths.{Worths, meaning_by}
use Rattle.law_calculus.specs.Evaluated.{Moment, Evaluates}

-- what the calculus takes an expression to be worth
abbrev pub own_worths : Worths
own_worths e env = worth_or_none (value e env)

-- the calculus' own worth for each expression that the reading of a term evaluates
abbrev pub AgreesOnEvaluated : Subject → List Decl → Moment → Worths → Type 0
AgreesOnEvaluated subject decls now worths =
    (e : Expr) (env : Pairs) → Evaluates subject decls now e env → worths e env ≡ own_worths e env

-- the calculus' own worth for each expression that isn't ill-sorted
abbrev pub AgreesOnSorted : Worths → Type 0
AgreesOnSorted worths = (e : Expr) (env : Pairs) → value e env ≢ Ill → worths e env ≡ own_worths e env

-- the calculus' own worths, but ill-sorted expressions are worth this
abbrev pub told_or : Worth → Answer → Option Worth
told_or instead (Is worth) = Some worth
told_or instead Absent = None
told_or instead Ill = Some instead

abbrev pub ill_worth : Worth → Worths
ill_worth instead e env = told_or instead (value e env)

-- a record of the type of this number, read by these worths
abbrev pub record_by : Worths → List Decl → ℕ → ℕ → Cut → Reading
record_by worths decls scan number cut = meaning_by worths (subject_of_cut scan cut) decls deepest (term.Call number []) [] 0
