-- A struct of a number, a comma that is looked for and a number, and what it reads as on five records. What
-- is wanted was worked out by hand from the rules.
use Rattle.std.specs.Prelude.{ℕ, pos, List, [], ◌∷◌, codes, Option, Some, None}
use Rattle.pads_code.specs.declared.Coding.TheVariants as coding
use Rattle.pads_int.specs.declared.kind.Kind.TheVariants as kind
use Rattle.pads_value.specs.declared.cause.Cause.{Cause}
use Rattle.pads_value.specs.declared.cause.Cause.TheVariants as cause
use Rattle.pads_value.specs.declared.descriptor.Class.{Class}
use Rattle.pads_value.specs.declared.descriptor.Class.TheVariants as class
use Rattle.pads_value.specs.declared.descriptor.Pd.{Pd, roll-Pd}
use Rattle.pads_value.specs.declared.value.Val.{Val}
use Rattle.pads_value.specs.declared.value.Val.TheVariants as val
use Rattle.pads_dispatch.specs.declared.base.Base.{Base}
use Rattle.pads_dispatch.specs.declared.base.Base.TheVariants as base
use Rattle.pads_calc.specs.declared.reading.Reading.{Reading}
use Rattle.pads_calc.specs.declared.term.Part.{Part}
use Rattle.pads_calc.specs.declared.term.Term.{Term}
use Rattle.pads_calc.specs.declared.term.Term.TheVariants as term
use Rattle.pads_calc.specs.Calculus.{meaning}
use Rattle.pads_calc.specs.Readings.{Subject}
use Rattle.pads_calc.specs.Rows.{farthest}

abbrev pub u8 : Base
u8 = base.Int kind.U8 coding.Ascii

abbrev pub number : Term
number = term.Base u8 []

abbrev pub literal : Term
literal = term.Absorb (term.Lit (codes ","))

abbrev pub comma : Term
comma = term.Scan literal

abbrev pub part : Option ℕ → Term → Part
part name t = record { name = name; term = t }

abbrev pub parts : List Part
parts = part (Some 0) number ∷ part None comma ∷ part (Some 1) number ∷ []

abbrev pub pair : Term
pair = term.Struct parts

-- a record of these bytes, at the input's start
abbrev pub first_of : List ℕ → Subject
first_of bytes = record { origin = 0; bytes = bytes; scan = farthest }

-- what it reads as at the first of these bytes, by the definition
abbrev pub read_pair : List ℕ → Reading
read_pair bytes = meaning (first_of bytes) [] 0 pair [] 0

-- a descriptor, with nothing left to the header rule
abbrev pub pd : ℕ → Class → Option Cause → ℕ → ℕ → List Pd → Pd
pd nerr class cause begin end kids = roll-Pd (record { nerr = nerr; class = class; cause = cause; span = record { begin = begin; end = end }; kids = kids })

abbrev pub ok : ℕ → ℕ → Pd
ok begin end = pd 0 class.Ok None begin end []

abbrev pub soft : Cause → ℕ → ℕ → Pd
soft cause begin end = pd 1 class.Err (Some cause) begin end []

abbrev pub hard : Cause → ℕ → Pd
hard cause at = pd 1 class.Fail (Some cause) at at []

abbrev pub three_values : Val → Val → Val → Val
three_values a b c = val.Tuple (a ∷ b ∷ c ∷ [])

-- on 3,7
abbrev pub both_there : Reading
both_there = record {
  value = three_values (val.Num (pos 3)) val.Unit (val.Num (pos 7));
  pd = pd 0 class.Ok None 0 3 (ok 0 1 ∷ ok 1 2 ∷ ok 2 3 ∷ []);
  place = 3;
}

-- on ,5
abbrev pub first_missing : Reading
first_missing = record {
  value = three_values val.Missing val.Unit (val.Num (pos 5));
  pd = pd 1 class.Err None 0 2 (hard cause.Invalid 0 ∷ ok 0 1 ∷ ok 1 2 ∷ []);
  place = 2;
}

-- on 300,400
abbrev pub both_out_of_range : Reading
both_out_of_range = record {
  value = three_values val.Missing val.Unit val.Missing;
  pd = pd 2 class.Err None 0 7 (soft cause.Range 0 3 ∷ ok 3 4 ∷ soft cause.Range 4 7 ∷ []);
  place = 7;
}

-- on the empty record
abbrev pub all_missing : Reading
all_missing = record {
  value = three_values val.Missing val.Missing val.Missing;
  pd = pd 3 class.Err None 0 0 (hard cause.Invalid 0 ∷ hard cause.MissingLiteral 0 ∷ hard cause.Invalid 0 ∷ []);
  place = 0;
}

-- on 3;;,7xyz
abbrev pub comma_later : Reading
comma_later = record {
  value = three_values (val.Num (pos 3)) val.Unit (val.Num (pos 7));
  pd = pd 1 class.Err None 0 5 (ok 0 1 ∷ soft cause.Skipped 1 4 ∷ ok 4 5 ∷ []);
  place = 5;
}
