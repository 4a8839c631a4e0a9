-- What a reading is of, what it is, and the readings that the rules are made of. A place counts the bytes
-- of the record before it. Spans are offsets in the whole input, in which the record's first byte has the
-- offset `origin`.
use Rattle.std.specs.Prelude.{ℕ, ◌+◌, Bool, true, false, List, [], ◌∷◌, map, Option, Some, None}
use Rattle.pads_value.specs.declared.cause.Cause.{Cause}
use Rattle.pads_value.specs.declared.cause.Cause.TheVariants as cause
use Rattle.pads_value.specs.declared.descriptor.Own.{Own}
use Rattle.pads_value.specs.declared.descriptor.Pd.{Pd, out-Pd}
use Rattle.pads_value.specs.declared.value.Val.{Val}
use Rattle.pads_value.specs.declared.value.Val.TheVariants as val
use Rattle.pads_value.specs.Header.{head, is_clean}
use Rattle.pads_expr.specs.Value.{Pairs}
use Rattle.pads_calc.specs.declared.reading.Reading.{Reading}

-- what is read: the bytes of a record, the offset of the first of them in the whole input, and how many
-- bytes a search passes over at most
pub record Subject : Type 0 where
  pub origin : ℕ
  pub bytes : List ℕ
  pub scan : ℕ

-- what a term reads as in an environment at a place
abbrev pub Reader : Type 0
Reader = Pairs → ℕ → Reading

-- a node that goes from `begin` to `place`
abbrev pub node : ℕ → Option Own → Val → ℕ → ℕ → List Pd → Reading
node origin own value begin place kids = record {
  value = value;
  pd = head own (record { begin = origin + begin; end = origin + place }) kids;
  place = place;
}

-- a node without a cause and without kids
abbrev pub leaf : ℕ → Val → ℕ → ℕ → Reading
leaf origin value begin place = node origin None value begin place []

-- "fails with a cause": no value, no byte, no kids
abbrev pub fails : ℕ → Cause → ℕ → Reading
fails origin cause i = node origin (Some (record { cause = cause; fails = true })) val.Missing i i []

-- bytes are taken and there is no value
abbrev pub faulty : ℕ → Cause → ℕ → ℕ → Reading
faulty origin cause begin place = node origin (Some (record { cause = cause; fails = false })) val.Missing begin place []

abbrev pub is_ok : Reading → Bool
is_ok r = is_clean r.pd

-- the cause for which a reading is given up
abbrev pub blame : Reading → Cause
blame r = or_literal (out-Pd r.pd).cause
  where
    or_literal : Option Cause → Cause
    or_literal None = cause.MissingLiteral
    or_literal (Some own) = own

-- the values, the descriptors and the last place of readings that follow one another
abbrev pub values : List Reading → List Val
values readings = map (λ r. r.value) readings

abbrev pub pds : List Reading → List Pd
pds readings = map (λ r. r.pd) readings

abbrev pub end_of : ℕ → List Reading → ℕ
end_of i [] = i
end_of i (r ∷ readings) = end_of r.place readings
