-- What a union reads as, branch by branch.
use Rattle.std.proofs.Common.{◌≡◌, ℕ, zero, suc, ◌+◌, ◌<◌, ◌≤◌, ◌∙◌, List, [], ◌∷◌, map, length, drop, get_or, Option, None, Some, slice_get, Bool, true, false, if◌then◌else◌, option_map, refl, sym, ap}
use Rattle.pads_value.specs.declared.cause.Cause.TheVariants as cause
use Rattle.pads_expr.specs.Value.{Pairs}
use Rattle.pads_calc.specs.declared.term.Arm.{Arm}
use Rattle.pads_calc.specs.declared.term.Case.{Case}
use Rattle.pads_calc.specs.declared.reading.Reading.{Reading}
use Rattle.pads_calc.specs.Calculus.{Caller, read, arm_reader, case_reader}
use Rattle.pads_calc.specs.Choices.{branch_of, alt_from, switch_of}
use Rattle.pads_calc.specs.Readings.{Subject, Reader, fails, is_ok}
use Rattle.pads_calc.proofs.Lists.{drop-next, drop-past'}

pub slice_get-map : {A B : Type 0} (f : A → B) (xs : List A) (n : ℕ) → slice_get (map f xs) n ≡ option_map f (slice_get xs n)
slice_get-map f [] n = refl
slice_get-map f (x ∷ xs) zero = refl
slice_get-map f (x ∷ xs) (suc n) = slice_get-map f xs n

module _ (subject : Subject) (call : Caller) (env : Pairs) (i : ℕ) where
  abbrev from : List Arm → ℕ → Reading
  from arms n = alt_from subject.origin n (map (arm_reader subject call) (drop n arms)) env i

  alt-step : (arms : List Arm) (n : ℕ) (arm : Arm) → n < length arms → arm ≡ get_or arms n arm → from arms n
      ≡ (if is_ok (read subject call arm.term env i) then branch_of subject.origin n (read subject call arm.term env i) i else from arms (n + 1))
  alt-step arms n arm more here =
      ap (λ rest. alt_from subject.origin n (map (arm_reader subject call) rest) env i)
      (drop-next arms n arm more ∙ ap (λ first. first ∷ drop (n + 1) arms) (sym here))

  pub alt-found : (arms : List Arm) (n : ℕ) (arm : Arm) → n < length arms → arm ≡ get_or arms n arm
      → is_ok (read subject call arm.term env i) ≡ true → from arms n ≡ branch_of subject.origin n (read subject call arm.term env i) i
  alt-found arms n arm more here ok =
      alt-step arms n arm more here
      ∙ ap (λ (found : Bool). if found then branch_of subject.origin n (read subject call arm.term env i) i else from arms (n + 1)) ok

  pub alt-next : (arms : List Arm) (n : ℕ) (arm : Arm) → n < length arms → arm ≡ get_or arms n arm
      → is_ok (read subject call arm.term env i) ≡ false → from arms n ≡ from arms (n + 1)
  alt-next arms n arm more here bad =
      alt-step arms n arm more here
      ∙ ap (λ (found : Bool). if found then branch_of subject.origin n (read subject call arm.term env i) i else from arms (n + 1)) bad

  pub alt-none : (arms : List Arm) (n : ℕ) → length arms ≤ n → from arms n ≡ fails subject.origin cause.UnionMatch i
  alt-none arms n over = ap (λ rest. alt_from subject.origin n (map (arm_reader subject call) rest) env i) (drop-past' arms n over)

  pub switch-none : (readers : List Reader) (number : Option ℕ) → number ≡ None → switch_of subject.origin number readers env i ≡ fails subject.origin cause.Switch i
  switch-none readers number none = rw none refl

  pub switch-found : (cases : List Case) (number : Option ℕ) (n : ℕ) (case : Case) → number ≡ Some n → slice_get cases n ≡ Some case
      → switch_of subject.origin number (map (case_reader subject call) cases) env i ≡ branch_of subject.origin n (read subject call case.arm.term env i) i
  switch-found cases number n case chosen there =
      rw (chosen, slice_get-map (case_reader subject call) cases n, there) refl

  pub switch-past : (cases : List Case) (number : Option ℕ) (n : ℕ) → number ≡ Some n → slice_get cases n ≡ None
      → switch_of subject.origin number (map (case_reader subject call) cases) env i ≡ fails subject.origin cause.Switch i
  switch-past cases number n chosen none =
      rw (chosen, slice_get-map (case_reader subject call) cases n, none) refl
