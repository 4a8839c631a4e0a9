-- Where a literal stands, told by where it occurs, and what it reads as there and elsewhere.
use Rattle.std.proofs.Common.{◌≡◌, ◌∙◌, sym, ap, ℕ, ◌+◌, ◌-◌, ◌≤◌, Bool, true, false, if◌then◌else◌, List, length, length-append, length-drop, length-take, drop-drop, get_or-take, take, drop, arith, refl, ⊎_elim}
use Rattle.std.proofs.Math.Seq.{take-append_seam}
use Rattle.std.proofs.lemmas.Bool.{cases_Bool}
use Rattle.std.proofs.lemmas.Bool.Decides.{Decides-eqb}
use Rattle.std.proofs.lemmas.Slice.Eq.{starts_is}
use Rattle.memchr.specs.Find.{OccursAt, NoneBefore, Nowhere}
use Rattle.memchr.proofs.lemmas.MatchLemmas.{OccursAt-split, OccursAt-from_part}
use Rattle.pads_value.specs.declared.cause.Cause.TheVariants as cause
use Rattle.pads_value.specs.declared.descriptor.Pd.{out-roll-Pd}
use Rattle.pads_value.specs.declared.value.Val.TheVariants as val
use Rattle.pads_calc.specs.Leaves.{lit_of}
use Rattle.pads_calc.specs.Readings.{Subject, leaf, fails, is_ok, blame}
use Rattle.pads_calc.specs.Wrappers.{absorb_of}
use Rattle.pads_calc.proofs.Cases.{pick}
use Rattle.pads_steps.specs.Searches.{IsFirst, StandsNowhere, stands_at}

module _ (subject : Subject) (literal : List ℕ) where
  abbrev starts_at : ℕ → Bool
  starts_at j = stands_at subject.bytes literal j

  pub ok-there : (j : ℕ) → starts_at j ≡ true → is_ok (lit_of subject literal j) ≡ true
  ok-there j starts = ap (λ (b : Bool). is_ok (if b then leaf subject.origin val.Unit j (j + length literal) else fails subject.origin cause.MissingLiteral j)) starts ∙ simp out-roll-Pd

  -- elsewhere it isn't there
  pub misses-there : (j : ℕ) → starts_at j ≡ false → lit_of subject literal j ≡ fails subject.origin cause.MissingLiteral j
  misses-there j starts = ap (λ (b : Bool). if b then leaf subject.origin val.Unit j (j + length literal) else fails subject.origin cause.MissingLiteral j) starts

  pub bad-elsewhere : (j : ℕ) → starts_at j ≡ false → is_ok (lit_of subject literal j) ≡ false
  bad-elsewhere j starts = ap is_ok (misses-there j starts) ∙ simp out-roll-Pd

  pub blamed : (j : ℕ) → starts_at j ≡ false → blame (lit_of subject literal j) ≡ cause.MissingLiteral
  blamed j starts = ap blame (misses-there j starts) ∙ simp out-roll-Pd

  -- a literal's value is not kept, or is nothing
  pub absorbs : (j : ℕ) → absorb_of (lit_of subject literal j) ≡ lit_of subject literal j
  absorbs j =
      pick (λ r. absorb_of r ≡ r) (starts_at j) (leaf subject.origin val.Unit j (j + length literal)) (fails subject.origin cause.MissingLiteral j)
      (λ _. simp out-roll-Pd) (λ _. simp out-roll-Pd)

-- where it occurs among the first bytes of several, and where among all of them
module _ (bytes literal : List ℕ) (size : ℕ) where
  occurs-whole : (k : ℕ) → OccursAt (take size bytes) literal k → OccursAt bytes literal k
  occurs-whole k occurs =
      let long = length-take size bytes in
      let fits = occurs.fits in
      record {
        fits = omega (arith, fits, long);
        reads = λ j less. sym (get_or-take size bytes (k + j) 0 (omega (arith, fits, long))) ∙ occurs.reads j less;
      }

  occurs-part : (k : ℕ) → k + length literal ≤ size → OccursAt bytes literal k → OccursAt (take size bytes) literal k
  occurs-part k within occurs =
      let long = length-take size bytes in
      let fits = occurs.fits in
      record {
        fits = omega (arith, fits, long);
        reads = λ j less. get_or-take size bytes (k + j) 0 (omega arith) ∙ occurs.reads j less;
      }

module _ (bytes literal : List ℕ) where
  occurs-starts : (i k : ℕ) → OccursAt (drop i bytes) literal k → stands_at bytes literal (i + k) ≡ true
  occurs-starts i k occurs =
      (starts_is Decides-eqb (drop (i + k) bytes) literal (stands_at bytes literal (i + k)) refl).1 _ (sym (drop-drop k i bytes) ∙ OccursAt-split (drop i bytes) literal k occurs)

  starts-occurs : (i k : ℕ) → i + k ≤ length bytes → stands_at bytes literal (i + k) ≡ true → OccursAt (drop i bytes) literal k
  starts-occurs i k within starts =
      let split = drop-drop k i bytes ∙ (starts_is Decides-eqb (drop (i + k) bytes) literal (stands_at bytes literal (i + k)) refl).0 starts in
      let size = ap length split ∙ length-append literal (drop (length literal) (drop (i + k) bytes)) in
      OccursAt-from_part (drop i bytes) literal k (omega (arith, size, length-drop k (drop i bytes), length-drop i bytes))
      (ap (take (length literal)) split ∙ take-append_seam literal (drop (length literal) (drop (i + k) bytes)))

  -- where it occurs nowhere up to a place, it stands nowhere up to there
  misses : (i n : ℕ) → i + n ≤ length bytes + 1 → Nowhere (OccursAt (drop i bytes) literal) 0 n → StandsNowhere bytes literal i (i + n)
  misses i n within none j from to =
      let there : i + (j - i) ≡ j = omega arith in
      ⊎_elim (λ starts. absurd (none (j - i) (omega arith) (omega arith) (starts-occurs i (j - i) (omega arith) (ap (stands_at bytes literal) there ∙ starts)))) (λ no_starts. no_starts)
      (cases_Bool (stands_at bytes literal j))

  -- what is looked at from `i` on for places up to `last`
  module _ (i last : ℕ) (from : i ≤ last) (within : last ≤ length bytes) where
    abbrev size : ℕ
    size = last - i + length literal

    abbrev part : List ℕ
    part = take size (drop i bytes)

    nowhere : (n : ℕ) → n ≤ last - i + 1 → Nowhere (OccursAt part literal) 0 n → Nowhere (OccursAt (drop i bytes) literal) 0 n
    nowhere n few none k low high occurs = none k low high (occurs-part (drop i bytes) literal size k (omega arith) occurs)

    pub first-place : (k : ℕ) → NoneBefore (OccursAt part literal) 0 (length part + 1) k → OccursAt part literal k → IsFirst bytes literal i last (i + k)
    first-place k first occurs =
        let long = length-take size (drop i bytes) in
        let high : i + k ≤ last = omega (arith, long, occurs.fits, from) in
        record {
          low = omega arith;
          high = high;
          here = occurs-starts i k (occurs-whole (drop i bytes) literal size k occurs);
          before = misses i k (omega (arith, high, within)) (nowhere k (omega (arith, high)) first.before);
        }

    pub no-place : Nowhere (OccursAt part literal) 0 (length part + 1) → StandsNowhere bytes literal i (last + 1)
    no-place none k low high =
        let long = length-take size (drop i bytes) in
        let left = length-drop i bytes in
        misses i (last - i + 1) (omega (arith, from, within))
        (nowhere (last - i + 1) (omega arith) (λ k low high. none k low (omega (arith, long, left, high, from, within)))) k low (omega (arith, high, from))
