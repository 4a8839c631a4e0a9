-- The code of a union runs as the union reads, where the code of each branch does: each is tried at the
-- place of the mark, which the first clean one, or the end of the branches, takes away.
use Rattle.std.proofs.Common.{◌≡◌, ◌∙◌, ap, refl, arith, Bool, if◌then◌else◌, ℕ, suc, ◌+◌, ◌≤◌, List, [], ◌∷◌, ◌++◌, length, map, Some, slice_get}
use Rattle.pads_value.specs.declared.cause.Cause.TheVariants as cause
use Rattle.pads_calc.specs.declared.reading.Reading.{Reading}
use Rattle.pads_calc.specs.declared.term.Arm.{Arm}
use Rattle.pads_calc.specs.Calculus.{Caller, read, arm_reader}
use Rattle.pads_calc.specs.Choices.{branch_of, alt_from}
use Rattle.pads_calc.specs.Leaves.{unit_of}
use Rattle.pads_calc.specs.Readings.{Subject, fails, is_ok}
use Rattle.pads_calc.proofs.Cases.{pick}
use Rattle.pads_calc.proofs.Induction.{EachArm}
use Rattle.pads_image.specs.declared.entry.Entry.{Entry}
use Rattle.pads_image.specs.declared.op.Op.{Op}
use Rattle.pads_image.specs.declared.op.Op.TheVariants as op
use Rattle.pads_image.specs.Blocks.{Block, arms_code, arms_size, alt_block, layout}
use Rattle.pads_image.specs.Heights.{Deeper}
use Rattle.pads_image.specs.States.{State, entries, seen}
use Rattle.pads_image.specs.Steps.{Goes, mark_at}
use Rattle.law_images.proofs.LevelledTerms.{levelled, arms-levelled}
use Rattle.pads_image.proofs.Lengths.{arms-sized, sized}
use Rattle.law_images.proofs.Levels.{below-left, below-right, tries-level}
use Rattle.law_images.proofs.Places.{first-there, rest-there, left-there, right-there}
use Rattle.law_images.proofs.Reaching.{To, once, join, to-same, seen-marked}
use Rattle.law_images.proofs.Running.{Ready, RunsAs, behind}

-- a state over the mark of its own place, with another reading
abbrev trying : State → ℕ → Reading → State
trying s q r = record s { at_ = q; last = r; marks = mark_at s.last.place ∷ s.marks }

abbrev arm_blocks : List Arm → List Block
arm_blocks arms = map (λ arm. layout arm.term) arms

module _ (code : List Op) (of_entries : List Entry) (subject : Subject) (most : ℕ) (deeper : Deeper) (depth : ℕ) (call : Caller) where
  abbrev EachRuns : List Arm → Type 0
  EachRuns arms = EachArm (λ t. RunsAs code of_entries subject most deeper depth (layout t) (read subject call t)) arms

  -- the branches from some number on, in front of the instruction that no branch is left for
  module _ (stop end : ℕ) (there : slice_get code stop ≡ Some op.NoArm) (next : stop + 1 ≡ end) where
    abbrev tries : List Arm → ℕ → ℕ → List Op
    tries arms number q = arms_code (λ number. op.Try number end) (arm_blocks arms) number q

    tries-run : (arms : List Arm) → EachRuns arms → (number q below h : ℕ) (s : State) (r : Reading) → r.place ≡ s.last.place → q + arms_size (arm_blocks arms) ≡ stop
        → below + h ≤ most → Ready code of_entries subject most deeper depth (tries arms number q) q below h (trying s q r)
        → To code of_entries subject most (trying s q r) (behind s end (alt_from subject.origin number (map (arm_reader subject call) arms) (seen s) s.last.place))
    tries-run [] each number q below h s r same ends fits ready =
        let t = trying s q r in
        let last : q + 1 ≡ end = omega (arith, ends, next) in
        let at_ : q ≡ stop = omega (arith, ends) in
        to-same code of_entries subject most t (behind s end (fails subject.origin cause.UnionMatch r.place)) (behind s end (fails subject.origin cause.UnionMatch s.last.place))
        (ap (λ i. behind s end (fails subject.origin cause.UnionMatch i)) same)
        (once code of_entries subject most t (behind s end (fails subject.origin cause.UnionMatch r.place)) stop op.NoArm at_ there (omega (arith, ready.counted, fits))
        (ap (λ a. Goes (behind s a (fails subject.origin cause.UnionMatch r.place))) last))
    tries-run (arm ∷ arms) each number q below h s r same ends fits ready =
        let b = layout arm.term in
        let here = op.Try number end in
        let place = s.last.place in
        let q1 = q + b.size in
        let rest = tries arms (number + 1) (q1 + 1) in
        let r1 = read subject call arm.term (seen s) place in
        let t = trying s q r in
        let u = trying s q1 r1 in
        let v = trying s (q1 + 1) (unit_of subject.origin place) in
        let found = branch_of subject.origin number r1 place in
        let later = alt_from subject.origin (number + 1) (map (arm_reader subject call) arms) (seen s) place in
        let sized_ : q + length (b.code q) ≡ q1 = ap (λ n. q + n) (sized arm.term q) in
        let over = below-right deeper most (b.code q) (here ∷ rest) below h h ((levelled deeper most arm.term).level q h) ready.fits in
        let behind_ = right-there code q (b.code q) (here ∷ rest) q1 sized_ ready.there in
        let small : entries u ≤ most = omega (arith, ready.counted, over.0) in
        let ran : To code of_entries subject most t u =
        to-same code of_entries subject most t (behind t q1 (read subject call arm.term (seen t) r.place)) u
        (ap (λ env. behind t q1 (read subject call arm.term env r.place)) (seen-marked s q r (mark_at place ∷ s.marks))
        ∙ ap (λ i. trying s q1 (read subject call arm.term (seen s) i)) same)
        (each 0 arm refl q below h t (record {
          at_ = refl;
          deep = ready.deep;
          sane = ready.sane;
          above = ready.above;
          counted = ready.counted;
          within = ready.within;
          there = left-there code q (b.code q) (here ∷ rest) ready.there;
          fits = below-left deeper most (b.code q) (here ∷ rest) below h ready.fits;
        })) in
        let tried : (w : State) → (if is_ok r1 then Goes (behind s end found) else Goes v) ≡ Goes w → To code of_entries subject most t w =
        λ w goes. join code of_entries subject most t u w ran (once code of_entries subject most u w q1 here refl (first-there code q1 here rest behind_) small goes) in
        pick (λ x. To code of_entries subject most t (behind s end x)) (is_ok r1) found later
        (λ ok. tried (behind s end found) (ap (λ (clean : Bool). if clean then Goes (behind s end found) else Goes v) ok))
        (λ bad. join code of_entries subject most t v (behind s end later)
        (tried v (ap (λ (clean : Bool). if clean then Goes (behind s end found) else Goes v) bad))
        (tries-run arms (λ k arm there. each (suc k) arm there) (number + 1) (q1 + 1) below h s (unit_of subject.origin place) refl (omega (arith, ends)) fits (record {
          at_ = refl;
          deep = ready.deep;
          sane = ready.sane;
          above = ready.above;
          counted = omega (arith, ready.counted);
          within = omega (arith, ready.within, same);
          there = rest-there code q1 here rest behind_;
          fits = over.1;
        })))

  pub alt-runs : (arms : List Arm) → EachRuns arms
      → RunsAs code of_entries subject most deeper depth (alt_block (arm_blocks arms)) (λ env i. alt_from subject.origin 0 (map (arm_reader subject call) arms) env i)
  alt-runs arms each p below h s ready =
      let end = p + (2 + arms_size (arm_blocks arms)) in
      let stop = p + 1 + arms_size (arm_blocks arms) in
      let ops = arms_code (λ number. op.Try number end) (arm_blocks arms) 0 (p + 1) in
      let t = trying s (p + 1) s.last in
      let inner = rest-there code p op.Mark (ops ++ op.NoArm ∷ []) ready.there in
      let sized_ : p + 1 + length ops ≡ stop = ap (λ n. p + 1 + n) (arms-sized (λ number. op.Try number end) arms (λ n arm there. sized arm.term) 0 (p + 1)) in
      let level = tries-level deeper most end (arm_blocks arms) (arms-levelled deeper most arms (λ n arm there. levelled deeper most arm.term)) 0 (p + 1) (h + 1) in
      let over = below-right deeper most ops (op.NoArm ∷ []) below (h + 1) (h + 1) level ready.fits.1 in
      let last = behind s end (alt_from subject.origin 0 (map (arm_reader subject call) arms) (seen s) s.last.place) in
      join code of_entries subject most s t last
      (once code of_entries subject most s t p op.Mark ready.at_ (first-there code p op.Mark (ops ++ op.NoArm ∷ []) ready.there)
      (omega (arith, ready.counted, ready.fits.0)) (ap (λ a. Goes (trying s (a + 1) s.last)) ready.at_))
      (tries-run stop end (first-there code stop op.NoArm [] (right-there code (p + 1) ops (op.NoArm ∷ []) stop sized_ inner)) (omega arith)
      arms each 0 (p + 1) below (h + 1) s s.last refl refl over.0 (record {
        at_ = refl;
        deep = ready.deep;
        sane = ready.sane;
        above = ready.above;
        counted = omega (arith, ready.counted);
        within = ready.within;
        there = left-there code (p + 1) ops (op.NoArm ∷ []) inner;
        fits = below-left deeper most ops (op.NoArm ∷ []) below (h + 1) ready.fits.1;
      }))
