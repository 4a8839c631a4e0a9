-- What a search reads as, place by place.
use Rattle.std.proofs.Common.{◌≡◌, ℕ, zero, suc, ◌+◌, ◌-◌, ◌<◌, ◌≤◌, ◌∙◌, nat_lt, Bool, true, false, if◌then◌else◌, length, refl, ap, arith}
use Rattle.pads_value.specs.declared.cause.Cause.TheVariants as cause
use Rattle.pads_value.specs.Header.{with_cause}
use Rattle.pads_expr.specs.Value.{Pairs}
use Rattle.pads_calc.specs.declared.reading.Reading.{Reading}
use Rattle.pads_calc.specs.Readings.{Subject, Reader, fails, is_ok, blame}
use Rattle.pads_calc.specs.Wrappers.{found_at, last_place, scan, scan_from}

pub found-here : (origin i : ℕ) (r : Reading) → found_at origin i i r ≡ r
found-here origin i r =
    let same : nat_lt i i ≡ false = grind arith in
    ap (λ (moved : Bool). if moved then record r { pd = with_cause cause.Skipped (origin + i) r.pd } else r) same

module _ (origin : ℕ) (inner : Reader) (env : Pairs) (i : ℕ) where
  pub scan-none : (j : ℕ) → scan_from origin zero inner env i j ≡ fails origin (blame (inner env i)) i
  unfolding scan_from
  scan-none j = refl

  pub scan-step : (places j : ℕ) → scan_from origin (suc places) inner env i j
      ≡ (if is_ok (inner env j) then found_at origin i j (inner env j) else scan_from origin places inner env i (j + 1))
  unfolding scan_from
  scan-step places j = refl

  pub scan-found : (end j : ℕ) → j < end → is_ok (inner env j) ≡ true → scan_from origin (end - j) inner env i j ≡ found_at origin i j (inner env j)
  scan-found end j more ok =
      let places : end - j ≡ suc (end - (j + 1)) = omega arith in
      rw places (scan-step (end - (j + 1)) j ∙ ap (λ (found : Bool). if found then found_at origin i j (inner env j) else scan_from origin (end - (j + 1)) inner env i (j + 1)) ok)

  pub scan-next : (end j : ℕ) → j < end → is_ok (inner env j) ≡ false → scan_from origin (end - j) inner env i j ≡ scan_from origin (end - (j + 1)) inner env i (j + 1)
  scan-next end j more bad =
      let places : end - j ≡ suc (end - (j + 1)) = omega arith in
      rw places (scan-step (end - (j + 1)) j ∙ ap (λ (found : Bool). if found then found_at origin i j (inner env j) else scan_from origin (end - (j + 1)) inner env i (j + 1)) bad)

  pub scan-over : (end j : ℕ) → end ≤ j → scan_from origin (end - j) inner env i j ≡ fails origin (blame (inner env i)) i
  scan-over end j over =
      let places : end - j ≡ zero = omega arith in
      rw places (scan-none j)

module _ (subject : Subject) (inner : Reader) (env : Pairs) (i : ℕ) where
  abbrev from : ℕ → ℕ → Reading
  from places j = scan_from subject.origin places inner env i j

  -- the search, with its first place looked at
  scan-first : scan subject inner env i ≡ (if is_ok (inner env i) then found_at subject.origin i i (inner env i) else from (last_place subject i - i) (i + 1))
  scan-first = scan-step subject.origin inner env i (last_place subject i - i) i

  pub scan-here : is_ok (inner env i) ≡ true → scan subject inner env i ≡ inner env i
  scan-here ok =
      scan-first
      ∙ ap (λ (found : Bool). if found then found_at subject.origin i i (inner env i) else from (last_place subject i - i) (i + 1)) ok
      ∙ found-here subject.origin i (inner env i)

  pub scan-on : i ≤ length subject.bytes → is_ok (inner env i) ≡ false → scan subject inner env i ≡ from (last_place subject i + 1 - (i + 1)) (i + 1)
  scan-on within bad =
      let places : last_place subject i + 1 - (i + 1) ≡ last_place subject i - i = omega arith in
      rw places (scan-first
      ∙ ap (λ (found : Bool). if found then found_at subject.origin i i (inner env i) else from (last_place subject i - i) (i + 1)) bad)
