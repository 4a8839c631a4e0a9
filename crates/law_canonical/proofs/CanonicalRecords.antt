-- A clean row is that of a record whose body reads clean: its value has canonical bytes.
use Rattle.std.proofs.Common.{◌≡◌, ◌∙◌, sym, refl, subst, arith, ℕ, suc, ◌+◌, ◌≤◌, true, false, List, [], ◌∷◌, length, Option, Some, None}
use Rattle.std.proofs.lemmas.Bool.{and_parts}
use Rattle.pads_value.specs.Cuts.{Cut}
use Rattle.pads_value.specs.Header.{head, all_clean, is_clean}
use Rattle.pads_value.specs.declared.cause.Cause.TheVariants as cause
use Rattle.pads_value.specs.declared.descriptor.Own.{Own}
use Rattle.pads_value.specs.declared.descriptor.Pd.{Pd}
use Rattle.pads_value.specs.declared.frame.Mark.{Mark}
use Rattle.pads_value.specs.declared.frame.Mark.TheVariants as mark
use Rattle.pads_value.specs.declared.value.Val.{Val}
use Rattle.pads_value.specs.declared.value.Val.TheVariants as val
use Rattle.pads_int.specs.Spellings.{widest}
use Rattle.pads_calc.specs.declared.decl.Decl.{Decl}
use Rattle.pads_calc.specs.declared.decl.Shape.{Shape}
use Rattle.pads_calc.specs.declared.reading.Reading.{Reading}
use Rattle.pads_calc.specs.Readings.{is_ok}
use Rattle.pads_calc.specs.Rows.{deepest, type_of, subject_of_cut, body_reading, kept_reading, extra, row_by, row_of}
use Rattle.pads_calc.specs.Skeletons.{KeepsAll}
use Rattle.pads_calc.proofs.CleanNodes.{clean-own}
use Rattle.pads_module.proofs.KeptReadings.{kept-value}
use Rattle.law_calculus.specs.Plain.{Plain}
use Rattle.law_calculus.proofs.SoundTerms.{sound-caller}
use Rattle.law_canonical.specs.Canonical.{call_spelled, canon_of}
use Rattle.law_canonical.specs.Fitting.{FitsType}
use Rattle.law_canonical.proofs.CanonicalReads.{call-has}
use Rattle.law_canonical.proofs.PlainTerms.{plain-call}
use Rattle.law_canonical.proofs.Rolls.{spelled-Call}

-- a row's node that is clean has no cause of its own, and clean kids
clean-head : (own : Option Own) (cut : Cut) (kids : List Pd) → is_clean (head own (record { begin = cut.first; end = cut.end }) kids) ≡ true
    → (own ≡ None) × (all_clean kids ≡ true)
clean-head own cut kids ok =
    let first : 0 + cut.first ≡ cut.first = omega arith in
    let end : 0 + cut.end ≡ cut.end = omega arith in
    clean-own 0 own val.Missing cut.first cut.end kids (rw (first, end) ok)

never-owned : (own : Own) (cut : Cut) (kids : List Pd) → is_clean (head (Some own) (record { begin = cut.first; end = cut.end }) kids) ≡ true → ⊥
never-owned own cut kids ok = let none = (clean-head (Some own) cut kids ok).0 in absurd cc

-- a clean row is that of a frame with all of its bytes, and its value that of a clean reading
pub record CleanRow (m : Mark) (number : ℕ) (cut : Cut) (r : Reading) : Type 0 where
  pub clean : is_ok r ≡ true
  pub is : (row_by m number cut r).value ≡ r.value

pub clean-row : (m : Mark) (number : ℕ) (cut : Cut) (r : Reading) → is_clean (row_by m number cut r).pd ≡ true → CleanRow m number cut r
clean-row mark.Plain number cut r ok = record { clean = (and_parts (is_clean r.pd) (all_clean (extra cut r.place)) (clean-head None cut (r.pd ∷ extra cut r.place) ok).1).0; is = refl }
clean-row mark.Short number cut r ok = absurd (never-owned (record { cause = cause.RecordShort; fails = false }) cut (r.pd ∷ extra cut r.place) ok)
clean-row mark.Long number cut r ok = absurd (never-owned (record { cause = cause.RecordLong; fails = true }) cut [] ok)
clean-row mark.Broken number cut r ok = absurd (never-owned (record { cause = cause.RecordBroken; fails = true }) cut [] ok)

-- the canonical bytes of a record's value
pub record RecordBytes (decls : List Decl) (number : ℕ) (v : Val) (most : ℕ) : Type 0 where
  pub bytes : List ℕ
  pub is : canon_of decls number v ≡ Some bytes
  pub short : length bytes ≤ most
  pub fits : FitsType decls number v bytes

body-has : (decls : List Decl) (scan number : ℕ) (cut : Cut) → Plain decls → length cut.bytes ≤ widest → is_ok (body_reading decls scan number cut) ≡ true
    → RecordBytes decls number (body_reading decls scan number cut).value (length cut.bytes)
body-has decls scan number cut plain bounded ok =
    let subject = subject_of_cut scan cut in
    let here = call-has subject decls plain bounded deepest number [] [] 0 (plain-call number []) ok in
    let sound = sound-caller subject decls deepest number [] [] 0 in
    record {
      bytes = here.bytes;
      is = sym (spelled-Call (call_spelled decls deepest) number [] [] (body_reading decls scan number cut).value) ∙ here.is;
      short = omega (arith, here.short, sound.within (omega arith));
      fits = here.fits;
    }

pub row-has : (decls : List Decl) (shape : Shape) (scan number : ℕ) (cut : Cut) → Plain decls → KeepsAll decls → length cut.bytes ≤ widest → is_clean (row_of decls shape scan number cut).pd ≡ true
    → RecordBytes decls (type_of shape number) (row_of decls shape scan number cut).value (length cut.bytes)
row-has decls shape scan number cut plain keeps bounded ok =
    let r = body_reading decls scan (type_of shape number) cut in
    let row = clean-row cut.mark number cut (kept_reading decls scan (type_of shape number) cut) ok in
    let is : (row_of decls shape scan number cut).value ≡ r.value = row.is ∙ kept-value decls keeps (type_of shape number) r in
    subst (λ v. RecordBytes decls (type_of shape number) v (length cut.bytes)) (sym is) (body-has decls scan (type_of shape number) cut plain bounded row.clean)
