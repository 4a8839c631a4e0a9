-- The terms around one term: constraints, terms whose value isn't kept, and searches.
use Rattle.std.specs.Prelude.{ℕ, zero, suc, ◌+◌, ◌-◌, min, nat_lt, not, ◌&&◌, ◌∷◌, length, if◌then◌else◌}
use Rattle.pads_value.specs.declared.cause.Cause.TheVariants as cause
use Rattle.pads_value.specs.declared.descriptor.Pd.{out-Pd}
use Rattle.pads_value.specs.declared.value.Val.TheVariants as val
use Rattle.pads_value.specs.Header.{with_cause}
use Rattle.pads_expr.specs.Value.{Pairs}
use Rattle.pads_expr.specs.declared.expr.Expr.{Expr}
use Rattle.pads_calc.specs.declared.reading.Reading.{Reading}
use Rattle.pads_calc.specs.Arguments.{is_true}
use Rattle.pads_calc.specs.Readings.{Subject, Reader, fails, is_ok, blame}

-- a constraint that isn't true of a clean reading's value; the value stays
abbrev pub constrained : Reading → Reading
constrained r = record r { pd = with_cause cause.Constraint (out-Pd r.pd).span.begin r.pd }

-- the constraint is asked of a clean reading alone, and one without a value isn't true
abbrev pub guard_of : ℕ → Expr → Pairs → Reading → Reading
guard_of binder condition env r =
    if is_ok r && not (is_true condition ((binder, r.value) ∷ env)) then constrained r else r

-- the value isn't kept
abbrev pub absorb_of : Reading → Reading
absorb_of r = record r { value = if is_ok r then val.Unit else val.Missing }

-- the reading at `j`, of what was looked for from `i` on; bytes passed over are a fault
abbrev pub found_at : ℕ → ℕ → ℕ → Reading → Reading
found_at origin i j r = if nat_lt i j then record r { pd = with_cause cause.Skipped (origin + i) r.pd } else r

-- the first of the places from `j` on, of which there are so many, at which the reading is clean
unfoldable pub scan_from : ℕ → ℕ → Reader → Pairs → ℕ → ℕ → Reading
scan_from origin zero inner env i j = fails origin (blame (inner env i)) i
scan_from origin (suc places) inner env i j =
    if is_ok (inner env j) then found_at origin i j (inner env j)
    else scan_from origin places inner env i (j + 1)

-- the last place at which what is looked for from `i` on may stand: as far behind it as a search goes, and
-- no further than the record's end
abbrev pub last_place : Subject → ℕ → ℕ
last_place subject i = min (i + subject.scan) (length subject.bytes)

-- the least place from here to the last one at which the reading is clean
abbrev pub scan : Subject → Reader → Reader
scan subject inner env i = scan_from subject.origin (suc (last_place subject i - i)) inner env i i
