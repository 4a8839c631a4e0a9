use Rattle.std.proofs.Common.{◌≡◌, ap, subst, ◌≤◌, length, is_some}
use Rattle.pads_calc.specs.Rows.{type_of, row_of}
use Rattle.law_canonical.specs.Fitting.{FitsType}
use Rattle.law_canonical.proofs.CanonicalRecords.{row-has}
use Rattle.law_canonical.proofs.laws.clean_records_have_canonical_bytes.Goals as goal

pub returns : goal.returns
returns c = record {
  there = λ decls shape scan number cut plain keeps bounded ok. ap is_some (row-has decls shape scan number cut plain keeps bounded ok).is;
  short = λ decls shape scan number cut bytes plain keeps bounded ok is. (
      let found = row-has decls shape scan number cut plain keeps bounded ok in
      let same : found.bytes ≡ bytes = cc in subst (λ bytes. length bytes ≤ length cut.bytes) same found.short);
  fits = λ decls shape scan number cut bytes plain keeps bounded ok is. (
      let found = row-has decls shape scan number cut plain keeps bounded ok in
      let same : found.bytes ≡ bytes = cc in
      subst (FitsType decls (type_of shape number) (row_of decls shape scan number cut).value) same found.fits);
}
