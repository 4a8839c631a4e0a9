-- How a sorted or a plain term is made of its layer, and what it says of the layer.
use Rattle.std.proofs.Common.{◌≡◌, ◌∙◌, sym, ap, subst, ℕ, zero, suc, true, List, [], ◌∷◌, Some, slice_get}
use Rattle.std.specs.Prelude.{⊤}
use Rattle.pads_calc.specs.declared.term.Arm.{Arm}
use Rattle.pads_calc.specs.declared.term.Case.{Case}
use Rattle.pads_calc.specs.declared.term.Part.{Part}
use Rattle.pads_calc.specs.declared.term.Seq.{Seq}
use Rattle.pads_calc.specs.declared.term.Term.{Term, Term-F, out-Term, roll-Term, out-roll-Term}
use Rattle.law_calculus.specs.Expressions.{SortScope}
use Rattle.law_calculus.specs.Plain.{IsPlain, IsPlainHere, plain}
use Rattle.law_calculus.specs.Sorted.{Sorts, fits, Standing, standing_in, IsSorted, sorted}
use Rattle.law_calculus.specs.Terms.{terms_in}

-- all items of a list, one by one
abbrev pub Each : {A : Type 0} → (A → Type 0) → List A → Type 0
Each P [] = ⊤
Each P (x ∷ xs) = P x × Each P xs

pub each-there : {A : Type 0} (P : A → Type 0) (xs : List A) → Each P xs → (n : ℕ) (x : A) → slice_get xs n ≡ Some x → P x
each-there P [] all n x there = cc
each-there P (first ∷ xs) all zero x there = let same : first ≡ x = cc in subst P same all.0
each-there P (first ∷ xs) all (suc n) x there = each-there P xs all.1 n x there

module _ (sorts : Sorts) (scope : SortScope) where
  abbrev pub Stands : Standing → Type 0
  Stands inner = IsSorted sorts inner.scope inner.term

  -- a term of this layer, whose expressions fit, and in which each term is sorted where it stands
  pub sorted-as : (t : Term) (layer : Term-F Term Arm Case Part Seq) → out-Term t ≡ layer → fits sorts scope layer ≡ true → Each Stands (standing_in sorts.declared scope layer)
      → IsSorted sorts scope t
  sorted-as t layer is fit all =
      sorted (ap (fits sorts scope) is ∙ fit)
      (λ n inner there. each-there Stands (standing_in sorts.declared scope layer) all n inner
      (ap (λ layer. slice_get (standing_in sorts.declared scope layer) n) (sym is) ∙ there))

  pub sorted-made : (layer : Term-F Term Arm Case Part Seq) → fits sorts scope layer ≡ true → Each Stands (standing_in sorts.declared scope layer) → IsSorted sorts scope (roll-Term layer)
  sorted-made layer = sorted-as (roll-Term layer) layer (out-roll-Term layer)

  -- and what it says
  pub sorted-fits : (t : Term) (layer : Term-F Term Arm Case Part Seq) → out-Term t ≡ layer → IsSorted sorts scope t → fits sorts scope layer ≡ true
  sorted-fits t layer is (sorted fit all) = ap (fits sorts scope) (sym is) ∙ fit

  pub sorted-inside : (t : Term) (layer : Term-F Term Arm Case Part Seq) → out-Term t ≡ layer → IsSorted sorts scope t
      → (n : ℕ) (inner : Standing) → slice_get (standing_in sorts.declared scope layer) n ≡ Some inner → Stands inner
  sorted-inside t layer is (sorted fit all) n inner there = all n inner (ap (λ layer. slice_get (standing_in sorts.declared scope layer) n) is ∙ there)

pub plain-as : (t : Term) (layer : Term-F Term Arm Case Part Seq) → out-Term t ≡ layer → IsPlainHere layer → Each IsPlain (terms_in layer) → IsPlain t
plain-as t layer is here all =
    plain (subst IsPlainHere (sym is) here)
    (λ n inner there. each-there IsPlain (terms_in layer) all n inner (ap (λ layer. slice_get (terms_in layer) n) (sym is) ∙ there))

pub plain-made : (layer : Term-F Term Arm Case Part Seq) → IsPlainHere layer → Each IsPlain (terms_in layer) → IsPlain (roll-Term layer)
plain-made layer = plain-as (roll-Term layer) layer (out-roll-Term layer)

pub plain-here : (t : Term) (layer : Term-F Term Arm Case Part Seq) → out-Term t ≡ layer → IsPlain t → IsPlainHere layer
plain-here t layer is (plain here all) = subst IsPlainHere is here

pub plain-inside : (t : Term) (layer : Term-F Term Arm Case Part Seq) → out-Term t ≡ layer → IsPlain t
    → (n : ℕ) (inner : Term) → slice_get (terms_in layer) n ≡ Some inner → IsPlain inner
plain-inside t layer is (plain here all) n inner there = all n inner (ap (λ layer. slice_get (terms_in layer) n) is ∙ there)
