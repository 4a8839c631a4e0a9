-- Terms of which rows are computed: a pair of numbers with a comma between them that is looked for, two
-- numbers at most with commas between them up to a semicolon, a number or a mark, tried or chosen, and a
-- computed number; and of which a call is.
use Rattle.std.specs.Prelude.{ℕ, pos, true, false, List, [], ◌∷◌, codes, Option, Some, None}
use Rattle.pads_code.specs.declared.Coding.TheVariants as coding
use Rattle.pads_int.specs.declared.kind.Kind.TheVariants as kind
use Rattle.pads_value.specs.declared.value.Val.{Val}
use Rattle.pads_value.specs.declared.value.Val.TheVariants as val
use Rattle.pads_expr.specs.declared.expr.Expr.TheVariants as expr
use Rattle.pads_dispatch.specs.declared.base.Base.{Base}
use Rattle.pads_dispatch.specs.declared.base.Base.TheVariants as base
use Rattle.pads_calc.specs.declared.decl.Decl.{Decl}
use Rattle.pads_calc.specs.declared.term.Arm.{Arm}
use Rattle.pads_calc.specs.declared.term.Case.{Case}
use Rattle.pads_calc.specs.declared.term.Key.TheVariants as key
use Rattle.pads_calc.specs.declared.term.Part.{Part}
use Rattle.pads_calc.specs.declared.term.ComputedForm.TheVariants as form
use Rattle.pads_calc.specs.declared.term.Seq.{Seq}
use Rattle.pads_calc.specs.declared.term.Term.{Term}
use Rattle.pads_calc.specs.declared.term.Term.TheVariants as term

abbrev pub u8 : Base
u8 = base.Int kind.U8 coding.Ascii

abbrev pub number : Term
number = term.Base u8 []

-- what is absorbed
abbrev pub mark : List ℕ → Term
mark literal = term.Absorb (term.Lit literal)

abbrev pub comma : Term
comma = term.Scan (mark (codes ","))

abbrev pub part : Option ℕ → Term → Part
part name t = record { name = name; term = t }

abbrev pub parts : List Part
parts = part (Some 0) number ∷ part None comma ∷ part (Some 1) number ∷ []

abbrev pub pair : Term
pair = term.Struct parts

abbrev pub num : ℕ → Val
num n = val.Num (pos n)

abbrev pub two_of : ℕ → ℕ → Val
two_of a b = val.Tuple (num a ∷ val.Unit ∷ num b ∷ [])

abbrev pub few : Seq
few = record { elem = number; sep = Some (mark (codes ",")); size = Some (expr.Num (pos 2)); last = None; stop = Some (term.Lit (codes ";")); elts = 0 }

abbrev pub numbers : Term
numbers = term.Seq few

abbrev pub arms : List Arm
arms = record { name = 0; term = number } ∷ record { name = 1; term = term.Lit (codes "-") } ∷ []

-- a number, or a mark that stands for none
abbrev pub either : Term
either = term.Alt arms

-- letters up to a semicolon
abbrev pub lettered : Seq
lettered = record { elem = term.Lit (codes "a"); sep = None; size = None; last = None; stop = Some (term.Lit (codes ";")); elts = 0 }

abbrev pub letters : Term
letters = term.Seq lettered

abbrev pub cases : List Case
cases =
    record { key = Some (key.Num (pos 1)); arm = record { name = 0; term = number } }
    ∷ record { key = None; arm = record { name = 1; term = term.Lit (codes "-") } } ∷ []

-- a number where 1 is chosen, else the mark
abbrev pub chosen : Term
chosen = term.Switch (expr.Num (pos 1)) cases

-- a number up to 255, without bytes
abbrev pub worked_out : Term
worked_out = term.Compute (expr.Num (pos 7)) (form.Range (pos 0) (pos 255))

-- a number under a constraint that is never met
abbrev pub barred : Term
barred = term.Guard number 0 (expr.Truth false)

-- a number whose value isn't kept
abbrev pub forgotten : Term
forgotten = term.Absorb number

-- the pair's declaration, and its call
abbrev pub of_pair : List Decl
of_pair = record { name = 0; params = []; body = pair; set = true } ∷ []

abbrev pub call_pair : Term
call_pair = term.Call 0 []

-- nothing, the end of the record, and a number that is searched for
abbrev pub nothing : Term
nothing = term.Unit

abbrev pub record_end : Term
record_end = term.Eor

abbrev pub searched : Term
searched = term.Scan number
