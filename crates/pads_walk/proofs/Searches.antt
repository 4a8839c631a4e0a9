-- The first place at which a literal stands is the least at which it reads without a fault.
use Rattle.std.proofs.Common.{◌≡◌, ◌∙◌, sym, ap, ℕ, zero, suc, ◌+◌, ◌-◌, ◌<◌, ◌≤◌, true, false, List, length, arith, refl, ⊎_elim}
use Rattle.pads_expr.specs.Value.{Pairs}
use Rattle.pads_value.specs.declared.cause.Cause.TheVariants as cause
use Rattle.pads_calc.specs.declared.decl.Decl.{Decl}
use Rattle.pads_steps.specs.declared.record.Record.{Record}
use Rattle.pads_calc.specs.declared.term.Term.{Term}
use Rattle.pads_calc.specs.declared.term.Term.TheVariants as term
use Rattle.pads_calc.specs.Leaves.{lit_of}
use Rattle.pads_calc.specs.Readings.{Subject, Reader, fails, is_ok, blame}
use Rattle.pads_steps.specs.Records.{subject_of}
use Rattle.pads_steps.specs.Searches.{IsFirst, StandsNowhere}
use Rattle.pads_steps.proofs.Searches.{absorbs, bad-elsewhere, blamed, ok-there}
use Rattle.pads_calc.specs.Wrappers.{absorb_of, found_at, last_place, scan, scan_from}
use Rattle.pads_calc.proofs.Rolls.{read-Lit, read-Absorb}
use Rattle.pads_calc.proofs.Scans.{scan-found, scan-next, scan-over}
use Rattle.pads_walk.specs.Literals.{IsLiteral, literal_reader}
use Rattle.pads_walk.specs.Reads.{calls, reads}

module _ (origin : ℕ) (inner : Reader) (env : Pairs) (i end : ℕ) where
  -- no place from `from` up to `to` reads without a fault
  abbrev NoneIn : ℕ → ℕ → Type 0
  NoneIn from to = (k : ℕ) → from ≤ k → k < to → is_ok (inner env k) ≡ false

  scan-first : (at : ℕ) → at < end → is_ok (inner env at) ≡ true → (d j : ℕ) → at ≡ j + d → NoneIn j at
      → scan_from origin (end - j) inner env i j ≡ found_at origin i at (inner env at)
  scan-first at less ok zero j is none =
      let same : j ≡ at = omega arith in
      rw same (scan-found origin inner env i end at less ok)
  scan-first at less ok (suc d) j is none =
      scan-next origin inner env i end j (omega arith) (none j (omega arith) (omega arith))
      ∙ scan-first at less ok d (j + 1) (omega arith) (λ k from to. none k (omega arith) to)

  scan-nowhere : (d j : ℕ) → end ≡ j + d → NoneIn j end → scan_from origin (end - j) inner env i j ≡ fails origin (blame (inner env i)) i
  scan-nowhere zero j is none = scan-over origin inner env i end j (omega arith)
  scan-nowhere (suc d) j is none =
      scan-next origin inner env i end j (omega arith) (none j (omega arith) (omega arith))
      ∙ scan-nowhere d (j + 1) (omega arith) (λ k from to. none k (omega arith) to)

module _ (subject : Subject) (literal : List ℕ) (i : ℕ) (within : i ≤ length subject.bytes) (env : Pairs) where
  abbrev reads_at : Reader
  reads_at env j = lit_of subject literal j

  abbrev last : ℕ
  last = last_place subject i

  places : scan_from subject.origin (last + 1 - i) reads_at env i i ≡ scan subject reads_at env i
  places = let same : last + 1 - i ≡ suc (last - i) = omega arith in rw same refl

  pub scan-literal : (at : ℕ) → IsFirst subject.bytes literal i last at → found_at subject.origin i at (lit_of subject literal at) ≡ scan subject reads_at env i
  scan-literal at first =
      sym (scan-first subject.origin reads_at env i (last + 1) at (omega (arith, first.high)) (ok-there subject literal at first.here) (at - i) i (omega (arith, first.low))
      (λ j from to. bad-elsewhere subject literal j (first.before j from to)))
      ∙ places

  pub scan-none : StandsNowhere subject.bytes literal i (last + 1) → fails subject.origin cause.MissingLiteral i ≡ scan subject reads_at env i
  scan-none none =
      ap (λ c. fails subject.origin c i) (sym (blamed subject literal i (none i (omega arith) (omega (arith, within)))))
      ∙ sym (scan-nowhere subject.origin reads_at env i (last + 1) (last + 1 - i) i (omega (arith, within)) (λ j from to. bad-elsewhere subject literal j (none j from to)))
      ∙ places

-- what a term reads as that is a literal, its value kept or not
pub literal-reads : (from : Record) (decls : List Decl) (depth : ℕ) (t : Term) (literal : List ℕ) → IsLiteral t literal → reads from decls depth t ≡ literal_reader from literal
literal-reads from decls depth t literal is = λ k env i. at env i k
  where
    at : (env : Pairs) (i : ℕ) → reads from decls depth t env i ≡ literal_reader from literal env i
    at env i =
        ⊎_elim
        (λ plain. ap (λ t. reads from decls depth t env i) plain ∙ read-Lit (subject_of from) (calls from decls depth) literal env i)
        (λ absorbed. ap (λ t. reads from decls depth t env i) absorbed ∙ read-Absorb (subject_of from) (calls from decls depth) (term.Lit literal) env i
        ∙ ap absorb_of (read-Lit (subject_of from) (calls from decls depth) literal env i)
        ∙ absorbs (subject_of from) literal i)
        is
