-- What a value is printed as: its canonical bytes, framed, where they read back as the value.
use Rattle.std.specs.Prelude.{◌≡◌, ℕ, not, Bool, true, false, List, Option, Some, None, if◌then◌else◌}
use Rattle.pads_value.specs.declared.row.Row.{Row}
use Rattle.pads_value.specs.declared.value.Val.{Val}
use Rattle.pads_frame.specs.declared.discipline.Discipline.{Discipline}
use Rattle.pads_frame.specs.Framed.{framed}
use Rattle.pads_module.specs.Modules.{Contents}
use Rattle.pads_calc.specs.Rows.{type_of}
use Rattle.law_canonical.specs.Canonical.{canon_of}
use Rattle.pads_print.specs.declared.printed.Printed.{Printed}
use Rattle.pads_print.specs.declared.printed.Printed.TheVariants.{Framed, Ambiguous, NotAValue}
use Rattle.pads_print.specs.ReadBack.{ReadsBack, back, reads_back}

-- the canonical bytes of a value of the record of this number
abbrev pub canonical : Contents → ℕ → Val → Option (List ℕ)
canonical m number v = canon_of m.decls (type_of m.shape number) v

-- It has canonical bytes, and they don't read back.
pub record IsAmbiguous (m : Contents) (d : Discipline) (max number : ℕ) (v : Val) : Type 0 where
  pub bytes : List ℕ
  pub there : canonical m number v ≡ Some bytes
  pub otherwise : ¬ ReadsBack m d max number bytes v

-- The same as a test.
abbrev pub read_otherwise : (List ℕ → Bool) → Option (List ℕ) → Bool
read_otherwise reads None = false
read_otherwise reads (Some bytes) = not (reads bytes)

abbrev pub ambiguous : Contents → Discipline → ℕ → ℕ → Val → Bool
ambiguous m d max number v = read_otherwise (λ bytes. reads_back m d max number bytes v) (canonical m number v)

-- The canonical bytes, framed, where they read back; none where there are none, or the value is ambiguous.
abbrev pub framed_if : (List ℕ → Bool) → Discipline → Option (List ℕ) → Option (List ℕ)
framed_if reads d None = None
framed_if reads d (Some bytes) = if reads bytes then framed d bytes else None

abbrev pub printed : Contents → Discipline → ℕ → ℕ → Val → Option (List ℕ)
printed m d max number v = framed_if (λ bytes. reads_back m d max number bytes v) d (canonical m number v)

-- The value is ambiguous. These are its canonical bytes, and the rows that they read as once they are framed.
pub record IsReadOtherwise (m : Contents) (d : Discipline) (max number : ℕ) (v : Val) (bytes : List ℕ) (rows : List Row) : Type 0 where
  pub otherwise : ambiguous m d max number v ≡ true
  pub there : canonical m number v ≡ Some bytes
  pub read_as : rows ≡ back m d max number bytes

-- What is answered: just one of these three holds of a value.
abbrev pub PrintGives : Contents → Discipline → ℕ → ℕ → Val → Printed → Type 0
PrintGives m d max number v (Framed bytes) = printed m d max number v ≡ Some bytes
PrintGives m d max number v (Ambiguous bytes rows) = IsReadOtherwise m d max number v bytes rows
PrintGives m d max number v NotAValue = canonical m number v ≡ None
