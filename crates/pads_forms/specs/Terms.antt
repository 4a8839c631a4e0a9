-- The branches of a term, and names by their numbers.
use Rattle.std.specs.Prelude.{ℕ, List, [], Option, None, option_map, unwrap_or, slice_get}
use Rattle.pads_calc.specs.declared.term.Arm.{Arm}
use Rattle.pads_calc.specs.declared.term.Case.{Case}
use Rattle.pads_calc.specs.declared.term.Part.{Part}
use Rattle.pads_calc.specs.declared.term.Seq.{Seq}
use Rattle.pads_calc.specs.declared.term.Term.{Term, Term-F}

-- a module has all the names that it speaks of; a name that isn't there would be empty
abbrev pub name_at : List (List ℕ) → ℕ → List ℕ
name_at names number = unwrap_or (slice_get names number) []

-- the branch of a number, of a union by its branches or of one by its cases
abbrev pub arm_in : Term-F Term Arm Case Part Seq → ℕ → Option Arm
arm_in Term-F.Unit number = None
arm_in (Term-F.Base base args) number = None
arm_in (Term-F.Lit literal) number = None
arm_in Term-F.Eor number = None
arm_in (Term-F.Struct parts) number = None
arm_in (Term-F.Alt arms) number = slice_get arms number
arm_in (Term-F.Switch e cases) number = option_map (λ case. case.arm) (slice_get cases number)
arm_in (Term-F.Guard inner binder condition) number = None
arm_in (Term-F.Seq s) number = None
arm_in (Term-F.Call name args) number = None
arm_in (Term-F.Compute e form) number = None
arm_in (Term-F.Absorb inner) number = None
arm_in (Term-F.Scan inner) number = None
