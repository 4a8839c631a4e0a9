-- What stands below a part, found part by part.
use Rattle.std.proofs.Common.{◌≡◌, ◌∙◌, sym, ap, refl, ℕ, zero, suc, ◌+◌, ◌<◌, ne_eqb, nat_eq, Bool, true, false, ◌&&◌, cond, List, [], ◌∷◌, ◌++◌, length, take, position, get_or, slice_get, Option, Some, None, option_and_then, if◌then◌else◌, eqb-true, arith}
use Rattle.std.specs.Option.{option_map, option_or}
use Rattle.std.proofs.lemmas.Cmp.{nat_eq_equiv}
use Rattle.std.proofs.lemmas.List.{take_more, length-take-le}
use Rattle.std.proofs.lemmas.Option.{slice_get_within}
use Rattle.pads_sums.specs.declared.form.PartForm.{PartForm}
use Rattle.pads_sums.specs.declared.form.PartForm.TheVariants as form
use Rattle.pads_plan.specs.declared.part.PlanPart.{PlanPart}
use Rattle.pads_plan.specs.declared.part.Step.{Step}
use Rattle.pads_plan.specs.declared.part.Step.TheVariants as step
use Rattle.pads_sums.proofs.Positions.{position_snoc}
use Rattle.pads_accum.specs.Placed.{form_at, same_step}
use Rattle.pads_accum.specs.Routes.{below_upto, is_number, number_of, step_at}

abbrev is_step : Step → Option Step → Bool
is_step s None = false
is_step s (Some t) = same_step s t

-- a number and the step that it stands for
number_is_step : (f : Option PartForm) (s : Step) (k : ℕ) → is_number (number_of f s) k ≡ is_step s (step_at f k)
number_is_step None step.Record k = refl
number_is_step None step.Body k = refl
number_is_step None (step.Part j) k = refl
number_is_step None (step.Branch j) k = refl
number_is_step None step.Each k = refl
number_is_step (Some form.Record) step.Record zero = refl
number_is_step (Some form.Record) step.Record (suc k) = refl
number_is_step (Some form.Record) step.Body zero = refl
number_is_step (Some form.Record) step.Body (suc k) = ne_eqb (suc k) 0 (λ e. omega arith)
number_is_step (Some form.Record) (step.Part j) zero = refl
number_is_step (Some form.Record) (step.Part j) (suc k) = refl
number_is_step (Some form.Record) (step.Branch j) zero = refl
number_is_step (Some form.Record) (step.Branch j) (suc k) = refl
number_is_step (Some form.Record) step.Each zero = refl
number_is_step (Some form.Record) step.Each (suc k) = refl
number_is_step (Some form.Bare) step.Record k = refl
number_is_step (Some form.Bare) step.Body k = refl
number_is_step (Some form.Bare) (step.Part j) k = refl
number_is_step (Some form.Bare) (step.Branch j) k = refl
number_is_step (Some form.Bare) step.Each k = refl
number_is_step (Some form.Number) step.Record k = refl
number_is_step (Some form.Number) step.Body k = refl
number_is_step (Some form.Number) (step.Part j) k = refl
number_is_step (Some form.Number) (step.Branch j) k = refl
number_is_step (Some form.Number) step.Each k = refl
number_is_step (Some form.Text) step.Record k = refl
number_is_step (Some form.Text) step.Body k = refl
number_is_step (Some form.Text) (step.Part j) k = refl
number_is_step (Some form.Text) (step.Branch j) k = refl
number_is_step (Some form.Text) step.Each k = refl
number_is_step (Some form.Address) step.Record k = refl
number_is_step (Some form.Address) step.Body k = refl
number_is_step (Some form.Address) (step.Part j) k = refl
number_is_step (Some form.Address) (step.Branch j) k = refl
number_is_step (Some form.Address) step.Each k = refl
number_is_step (Some (form.Label names)) step.Record k = refl
number_is_step (Some (form.Label names)) step.Body k = refl
number_is_step (Some (form.Label names)) (step.Part j) k = refl
number_is_step (Some (form.Label names)) (step.Branch j) k = refl
number_is_step (Some (form.Label names)) step.Each k = refl
number_is_step (Some form.Fields) step.Record k = refl
number_is_step (Some form.Fields) step.Body k = refl
number_is_step (Some form.Fields) (step.Part j) k = nat_eq_equiv.symm k j
number_is_step (Some form.Fields) (step.Branch j) k = refl
number_is_step (Some form.Fields) step.Each k = refl
number_is_step (Some (form.Branch names)) step.Record k = refl
number_is_step (Some (form.Branch names)) step.Body k = refl
number_is_step (Some (form.Branch names)) (step.Part j) k = refl
number_is_step (Some (form.Branch names)) (step.Branch j) k = nat_eq_equiv.symm k j
number_is_step (Some (form.Branch names)) step.Each k = refl
number_is_step (Some form.Elements) step.Record zero = refl
number_is_step (Some form.Elements) step.Record (suc k) = refl
number_is_step (Some form.Elements) step.Body zero = refl
number_is_step (Some form.Elements) step.Body (suc k) = refl
number_is_step (Some form.Elements) (step.Part j) zero = refl
number_is_step (Some form.Elements) (step.Part j) (suc k) = refl
number_is_step (Some form.Elements) (step.Branch j) zero = refl
number_is_step (Some form.Elements) (step.Branch j) (suc k) = refl
number_is_step (Some form.Elements) step.Each zero = refl
number_is_step (Some form.Elements) step.Each (suc k) = ne_eqb (suc k) 0 (λ e. omega arith)

-- a step from a part is one from a part that is there
no-number : (s : Step) (at : ℕ) → number_of None s ≡ Some at → ⊥
no-number step.Record at is = cc
no-number step.Body at is = cc
no-number (step.Part j) at is = cc
no-number (step.Branch j) at is = cc
no-number step.Each at is = cc

within-step : (parts : List PlanPart) (up at : ℕ) (s : Step) (o : Option PlanPart) → slice_get parts up ≡ o → number_of (option_map (λ p. p.form) o) s ≡ Some at → up < length parts
within-step parts up at s None is number = absurd (no-number s at number)
within-step parts up at s (Some part) is number = slice_get_within parts up part is

pub number_within : (parts : List PlanPart) (up at : ℕ) (s : Step) → number_of (form_at parts up) s ≡ Some at → up < length parts
number_within parts up at s number = within-step parts up at s (slice_get parts up) refl number

-- one part more
module _ (parts : List PlanPart) (i : ℕ) (part : PlanPart) (within : i < length parts) (there : part ≡ get_or parts i part) (up k : ℕ) where
  taken : take (i + 1) parts ≡ take i parts ++ part ∷ []
  taken = take_more parts i part within ∙ ap (λ p. take i parts ++ p ∷ []) (sym there)

  long : length (take i parts) ≡ i
  long = length-take-le i parts (omega (arith, within))

  found : (s : Step) → position (λ p. nat_eq p.up up && same_step p.step s) (take (i + 1) parts)
      ≡ option_or (position (λ p. nat_eq p.up up && same_step p.step s) (take i parts)) (cond (nat_eq part.up up && same_step part.step s) (Some i) None)
  found s =
      ap (position (λ p. nat_eq p.up up && same_step p.step s)) taken
      ∙ position_snoc (λ p. nat_eq p.up up && same_step p.step s) (take i parts) part
      ∙ ap (λ n. option_or (position (λ p. nat_eq p.up up && same_step p.step s) (take i parts)) (cond (nat_eq part.up up && same_step part.step s) (Some n) None)) long

  nothing-more : (o : Option ℕ) → option_or o None ≡ o
  nothing-more None = refl
  nothing-more (Some n) = refl

  here-step : (s : Step) (b : Bool) → same_step part.step s ≡ b → (o : Option ℕ) → option_or o (cond b (Some i) None) ≡ (if b then option_or o (Some i) else o)
  here-step s true is o = refl
  here-step s false is o = nothing-more o

  by-step : (wanted : Option Step) (b : Bool) → nat_eq part.up up ≡ b
      → option_and_then (λ s. position (λ p. nat_eq p.up up && same_step p.step s) (take (i + 1) parts)) wanted
      ≡ (if b && is_step part.step wanted then option_or (option_and_then (λ s. position (λ p. nat_eq p.up up && same_step p.step s) (take i parts)) wanted) (Some i)
      else option_and_then (λ s. position (λ p. nat_eq p.up up && same_step p.step s) (take i parts)) wanted)
  by-step None true is = refl
  by-step None false is = refl
  by-step (Some s) true is = found s ∙ rw is (here-step s (same_step part.step s) refl (position (λ p. nat_eq p.up up && same_step p.step s) (take i parts)))
  by-step (Some s) false is = found s ∙ rw is (nothing-more (position (λ p. nat_eq p.up up && same_step p.step s) (take i parts)))

  form-is : (b : Bool) → nat_eq part.up up ≡ b → (b && is_step part.step (step_at (form_at parts up) k)) ≡ (b && is_number (number_of (form_at parts part.up) part.step) k)
  form-is true is =
      let same : part.up ≡ up = eqb-true part.up up is in
      ap (λ u. is_step part.step (step_at (form_at parts u) k)) (sym same) ∙ sym (number_is_step (form_at parts part.up) part.step k)
  form-is false is = refl

  pub below_next : below_upto parts (i + 1) up k
      ≡ (if nat_eq up part.up && is_number (number_of (form_at parts part.up) part.step) k then option_or (below_upto parts i up k) (Some i) else below_upto parts i up k)
  below_next =
      by-step (step_at (form_at parts up) k) (nat_eq part.up up) refl
      ∙ ap (λ b. if b then option_or (below_upto parts i up k) (Some i) else below_upto parts i up k)
      (form-is (nat_eq part.up up) refl ∙ ap (λ b. b && is_number (number_of (form_at parts part.up) part.step) k) (nat_eq_equiv.symm part.up up))
