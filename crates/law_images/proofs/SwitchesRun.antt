-- The code of a switched union runs as the union reads, where the code of each case does: the first
-- instruction goes to the chosen case, and the one behind the case to the end.
use Rattle.std.proofs.Common.{◌≡◌, ◌∙◌, sym, ap, refl, subst, arith, ℕ, zero, suc, ◌+◌, List, [], ◌∷◌, ◌++◌, length, append_assoc, map, Option, Some, None, slice_get}
use Rattle.pads_value.specs.declared.cause.Cause.TheVariants as cause
use Rattle.pads_value.specs.declared.descriptor.Span.{Span}
use Rattle.pads_expr.specs.declared.expr.Expr.{Expr}
use Rattle.pads_calc.specs.declared.reading.Reading.{Reading}
use Rattle.pads_calc.specs.declared.term.Case.{Case}
use Rattle.pads_calc.specs.declared.term.Key.{Key}
use Rattle.pads_calc.specs.declared.term.Term.{Term}
use Rattle.pads_calc.specs.Arguments.{argument}
use Rattle.pads_calc.specs.Calculus.{Caller, read, case_reader}
use Rattle.pads_calc.specs.Choices.{branch_of, chosen, switch_of}
use Rattle.pads_calc.specs.Readings.{Subject, fails}
use Rattle.pads_calc.proofs.Choices.{switch-found, switch-past}
use Rattle.pads_calc.proofs.Induction.{EachCase}
use Rattle.law_calculus.proofs.SoundReadings.{Sound, SoundReader}
use Rattle.pads_image.specs.declared.entry.Entry.{Entry}
use Rattle.pads_image.specs.declared.op.Op.{Op}
use Rattle.pads_image.specs.declared.op.Op.TheVariants as op
use Rattle.pads_image.specs.declared.op.Target.{Target}
use Rattle.pads_image.specs.Blocks.{arms_code, arms_size, blocks, targets, switch_block, layout, case_layout}
use Rattle.pads_image.specs.Heights.{Deeper}
use Rattle.pads_image.specs.States.{State, seen}
use Rattle.pads_image.specs.Steps.{Goes, began, goes_to, switch_step}
use Rattle.law_images.proofs.LevelledTerms.{levelled}
use Rattle.pads_image.proofs.Lengths.{sized}
use Rattle.law_images.proofs.Levels.{AllBelow, below-left, below-right}
use Rattle.law_images.proofs.Places.{StandsAt, first-there, rest-there, left-there, right-there}
use Rattle.law_images.proofs.Reaching.{To, once, join, to-same, seen-behind}
use Rattle.law_images.proofs.Running.{Ready, RunsAs, behind}

-- a sound reading says where it began
pub began-sound : (subject : Subject) (i : ℕ) (r : Reading) → Sound subject i r → began subject.origin r ≡ i
began-sound subject i r h = omega (arith, ap (λ (s : Span). s.begin) h.span)

abbrev target_at : Option Key → ℕ → Target
target_at key to = record { key = key; to = to }

-- the targets have the keys of the cases, and there are as many
same-keys : (cases : List Case) (q : ℕ) → map (λ (target : Target). target.key) (targets (map case_layout cases) q) ≡ map (λ (case : Case). case.key) cases
same-keys [] q = refl
same-keys (case ∷ cases) q = ap (λ keys. case.key ∷ keys) (same-keys cases (q + (layout case.arm.term).size + 1))

no-target : (cases : List Case) (q n : ℕ) → slice_get cases n ≡ None → slice_get (targets (map case_layout cases) q) n ≡ None
no-target [] q n none = refl
no-target (case ∷ cases) q zero none = absurd cc
no-target (case ∷ cases) q (suc n) none = no-target cases (q + (layout case.arm.term).size + 1) n none

-- where a case of some cases stands, of which the first has a number
module _ (code : List Op) (most : ℕ) (deeper : Deeper) (end below h : ℕ) where
  abbrev case_code : Case → ℕ → ℕ → List Op
  case_code case number q = (layout case.arm.term).code q ++ op.Arm number end ∷ []

  abbrev cases_code : List Case → ℕ → ℕ → List Op
  cases_code cases number q = arms_code (λ number. op.Arm number end) (blocks (map case_layout cases)) number q

  record CaseAt (cases : List Case) (number q n : ℕ) (case : Case) : Type 0 where
    first : ℕ
    target : slice_get (targets (map case_layout cases) q) n ≡ Some (target_at case.key first)
    there : StandsAt code first (case_code case (number + n) first)
    fits : AllBelow deeper most below h (case_code case (number + n) first)

  below-one : (xs ys : List Op) (x : Op) (height : ℕ) → AllBelow deeper most below height (xs ++ x ∷ ys) → AllBelow deeper most below height (xs ++ x ∷ [])
  below-one [] ys x height all = (all.0, tt)
  below-one (z ∷ xs) ys x height all = (all.0, below-one xs ys x _ all.1)

  one-there : (p : ℕ) (xs ys : List Op) (x : Op) → StandsAt code p (xs ++ x ∷ ys) → StandsAt code p (xs ++ x ∷ [])
  one-there p xs ys x h = left-there code p (xs ++ x ∷ []) ys (subst (λ ops. StandsAt code p ops) (sym (append_assoc xs (x ∷ []) ys)) h)

  case-at : (cases : List Case) (number q n : ℕ) (case : Case) → slice_get cases n ≡ Some case → StandsAt code q (cases_code cases number q)
      → AllBelow deeper most below h (cases_code cases number q) → CaseAt cases number q n case
  case-at [] number q n case is there fits = absurd cc
  case-at (c ∷ cases) number q zero case is there fits =
      let same : c ≡ case = cc in
      let b = layout c.arm.term in
      let none : number ≡ number + 0 = omega arith in
      let rest = cases_code cases (number + 1) (q + b.size + 1) in
      subst (λ (case : Case). CaseAt (c ∷ cases) number q zero case) same (record {
        first = q;
        target = refl;
        there = subst (λ (n : ℕ). StandsAt code q (case_code c n q)) none (one-there q (b.code q) rest (op.Arm number end) there);
        fits = subst (λ (n : ℕ). AllBelow deeper most below h (case_code c n q)) none (below-one (b.code q) rest (op.Arm number end) h fits);
      })
  case-at (c ∷ cases) number q (suc n) case is there fits =
      let b = layout c.arm.term in
      let here = op.Arm number end in
      let rest = cases_code cases (number + 1) (q + b.size + 1) in
      let sized_ : q + length (b.code q) ≡ q + b.size = ap (λ n. q + n) (sized c.arm.term q) in
      let next : number + 1 + n ≡ number + suc n = omega arith in
      let more = case-at cases (number + 1) (q + b.size + 1) n case is
      (rest-there code (q + b.size) here rest (right-there code q (b.code q) (here ∷ rest) (q + b.size) sized_ there))
      (below-right deeper most (b.code q) (here ∷ rest) below h h ((levelled deeper most c.arm.term).level q h) fits).1 in
      record {
        first = more.first;
        target = more.target;
        there = subst (λ (n : ℕ). StandsAt code more.first (case_code case n more.first)) next more.there;
        fits = subst (λ (n : ℕ). AllBelow deeper most below h (case_code case n more.first)) next more.fits;
      }

module _ (code : List Op) (of_entries : List Entry) (subject : Subject) (most : ℕ) (deeper : Deeper) (depth : ℕ) (call : Caller)
    (sound : (t : Term) → SoundReader subject (read subject call t)) where
  abbrev EachRuns : List Case → Type 0
  EachRuns cases = EachCase (λ t. RunsAs code of_entries subject most deeper depth (layout t) (read subject call t)) cases

  module _ (e : Expr) (cases : List Case) (each : EachRuns cases) (p below h : ℕ) (s : State)
      (ready : Ready code of_entries subject most deeper depth ((switch_block e (map case_layout cases)).code p) p below h s) where
    abbrev end : ℕ
    end = p + (1 + arms_size (blocks (map case_layout cases)))

    abbrev goals : List Target
    goals = targets (map case_layout cases) (p + 1)

    abbrev here : Op
    here = op.Switch e goals end

    abbrev number_chosen : Option ℕ
    number_chosen = chosen (argument e (seen s)) (map (λ (c : Case). c.key) cases)

    abbrev ended : Reading → State
    ended r = behind s end r

    abbrev switched : Option ℕ → Reading
    switched number = switch_of subject.origin number (map (case_reader subject call) cases) (seen s) s.last.place

    -- the first step, by the chosen number
    switch-to : (number : Option ℕ) (t : State) → number_chosen ≡ number → switch_step subject.origin number goals end s ≡ Goes t → To code of_entries subject most s t
    switch-to number t is goes =
        once code of_entries subject most s t p here ready.at_ (first-there code p here (cases_code code most deeper end below h cases 0 (p + 1)) ready.there)
        (omega (arith, ready.counted, ready.fits.0))
        (ap (λ keys. switch_step subject.origin (chosen (argument e (seen s)) keys) goals end s) (same-keys cases (p + 1))
        ∙ ap (λ number. switch_step subject.origin number goals end s) is ∙ goes)

    -- the case runs, and the instruction behind it makes it the union's branch
    case-runs : (n : ℕ) (case : Case) → slice_get cases n ≡ Some case → number_chosen ≡ Some n
        → To code of_entries subject most s (ended (branch_of subject.origin n (read subject call case.arm.term (seen s) s.last.place) s.last.place))
    case-runs n case there is =
        let inner = rest-there code p here (cases_code code most deeper end below h cases 0 (p + 1)) ready.there in
        let found = case-at code most deeper end below h cases 0 (p + 1) n case there inner ready.fits.1 in
        let b = layout case.arm.term in
        let place = s.last.place in
        let arm = op.Arm n end in
        let same : 0 + n ≡ n = omega arith in
        let stands = subst (λ (n : ℕ). StandsAt code found.first (b.code found.first ++ op.Arm n end ∷ [])) same found.there in
        let fits = subst (λ (n : ℕ). AllBelow deeper most below h (b.code found.first ++ op.Arm n end ∷ [])) same found.fits in
        let q = found.first + b.size in
        let r = read subject call case.arm.term (seen s) place in
        let t = behind s found.first s.last in
        let u = behind s q r in
        let last = ended (branch_of subject.origin n r place) in
        let sized_ : found.first + length (b.code found.first) ≡ q = ap (λ n. found.first + n) (sized case.arm.term found.first) in
        let over = below-right deeper most (b.code found.first) (arm ∷ []) below h h ((levelled deeper most case.arm.term).level found.first h) fits in
        join code of_entries subject most s t last
        (switch-to (Some n) t is (ap (λ target. goes_to subject.origin end s target) found.target))
        (join code of_entries subject most t u last
        (to-same code of_entries subject most t (behind t q (read subject call case.arm.term (seen t) place)) u
        (ap (λ env. behind s q (read subject call case.arm.term env place)) (seen-behind s found.first s.last))
        (each n case there found.first below h t (record {
          at_ = refl;
          deep = ready.deep;
          sane = ready.sane;
          above = ready.above;
          counted = ready.counted;
          within = ready.within;
          there = left-there code found.first (b.code found.first) (arm ∷ []) stands;
          fits = below-left deeper most (b.code found.first) (arm ∷ []) below h fits;
        })))
        (once code of_entries subject most u last q arm refl (first-there code q arm [] (right-there code found.first (b.code found.first) (arm ∷ []) q sized_ stands))
        (omega (arith, ready.counted, over.0))
        (ap (λ i. Goes (ended (branch_of subject.origin n r i))) (began-sound subject place r (sound case.arm.term (seen s) place)))))

    numbered : (n : ℕ) (case : Option Case) → slice_get cases n ≡ case → number_chosen ≡ Some n → To code of_entries subject most s (ended (switched (Some n)))
    numbered n None none is =
        let r = fails subject.origin cause.Switch s.last.place in
        to-same code of_entries subject most s (ended r) (ended (switched (Some n)))
        (ap (λ r. ended r) (sym (switch-past subject call (seen s) s.last.place cases (Some n) n refl none)))
        (switch-to (Some n) (ended r) is (ap (λ target. goes_to subject.origin end s target) (no-target cases (p + 1) n none)))
    numbered n (Some case) there is =
        to-same code of_entries subject most s
        (ended (branch_of subject.origin n (read subject call case.arm.term (seen s) s.last.place) s.last.place)) (ended (switched (Some n)))
        (ap (λ r. ended r) (sym (switch-found subject call (seen s) s.last.place cases (Some n) n case refl there)))
        (case-runs n case there is)

    by-number : (number : Option ℕ) → number_chosen ≡ number → To code of_entries subject most s (ended (switched number))
    by-number None is = switch-to None (ended (fails subject.origin cause.Switch s.last.place)) is refl
    by-number (Some n) is = numbered n (slice_get cases n) refl is

    switch-done : To code of_entries subject most s (ended (switched number_chosen))
    switch-done = by-number number_chosen refl

  pub switch-runs : (e : Expr) (cases : List Case) → EachRuns cases
      → RunsAs code of_entries subject most deeper depth (switch_block e (map case_layout cases))
      (λ env i. switch_of subject.origin (chosen (argument e env) (map (λ c. c.key) cases)) (map (case_reader subject call) cases) env i)
  switch-runs e cases each p below h s ready = switch-done e cases each p below h s ready
