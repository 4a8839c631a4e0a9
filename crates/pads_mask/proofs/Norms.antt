-- Sorts tell of terms. The sort of what is left of a term is that of the term, told of what is left of the
-- terms in it.
use Rattle.std.proofs.Common.{◌≡◌, ◌∙◌, sym, ap, refl, ℕ, zero, suc, List, [], ◌∷◌, map, Option, None, Some, slice_get, unwrap_or}
use Rattle.pads_expr.specs.declared.expr.Expr.{Expr}
use Rattle.pads_dispatch.specs.declared.base.Base.{Base}
use Rattle.pads_dispatch.specs.declared.base.Base.TheVariants as base
use Rattle.pads_calc.specs.declared.term.Arm.{Arm}
use Rattle.pads_calc.specs.declared.term.Case.{Case}
use Rattle.pads_calc.specs.declared.term.Part.{Part}
use Rattle.pads_calc.specs.declared.term.ComputedForm.{ComputedForm}
use Rattle.pads_calc.specs.declared.term.ComputedForm.TheVariants as form
use Rattle.pads_calc.specs.declared.term.Seq.{Seq}
use Rattle.pads_calc.specs.declared.term.Term.{Term, Term-F, out-Term, roll-Term}
use Rattle.pads_calc.specs.declared.term.Term.TheVariants as term
use Rattle.pads_calc.proofs.Induction.{EachForm, each-term}
use Rattle.law_calculus.specs.Sorts.{Sort, Number, Text, Truth, Nothing, Labels, Struct, Choice, Array, base_sort, result_sort, sort_at, sort_of}
use Rattle.law_calculus.proofs.Layers.{out-Unit, out-Base, out-Lit, out-Eor, out-Struct, out-Alt, out-Switch, out-Guard, out-Seq, out-Call, out-Compute, out-Absorb, out-Scan}
use Rattle.law_calculus.proofs.SortedForms.{layer_sort, sort-out}
use Rattle.pads_mask.specs.Unguarded.{unguarded, unguarded_arm, unguarded_case, unguarded_part, unguarded_seq}
use Rattle.pads_mask.proofs.Layers.{Layer, arm-terms, case-terms}
use Rattle.pads_mask.proofs.Rolls.{unguarded-Unit, unguarded-Base, unguarded-Lit, unguarded-Eor, unguarded-Struct, unguarded-Alt, unguarded-Switch, unguarded-Guard, unguarded-Seq, unguarded-Call, unguarded-Compute, unguarded-Absorb, unguarded-Scan}

-- a sort told of terms without their constraints
abbrev pub norm : Sort → Sort
norm Number = Number
norm Text = Text
norm Truth = Truth
norm Nothing = Nothing
norm (Labels count) = Labels count
norm (Struct parts) = Struct (map unguarded_part parts)
norm (Choice branches) = Choice (map unguarded branches)
norm (Array element) = Array (unguarded element)

abbrev pub norms : List Sort → List Sort
norms sorts = map norm sorts

base-norm : (b : Base) → base_sort b ≡ norm (base_sort b)
base-norm (base.Int kind coding) = refl
base-norm (base.IntFw kind coding) = refl
base-norm (base.Bin kind order) = refl
base-norm (base.Until coding) = refl
base-norm (base.UntilEor coding) = refl
base-norm (base.Fixed coding) = refl
base-norm (base.Class coding) = refl
base-norm (base.Char coding) = refl
base-norm (base.Ip coding) = refl
base-norm (base.Packed signed) = refl
base-norm (base.Zoned signed) = refl
base-norm (base.Enum coding labels) = refl

result-norm : (f : ComputedForm) → result_sort f ≡ norm (result_sort f)
result-norm (form.Range least greatest) = refl
result-norm form.Text = refl

pub norm-at : (declared : List Sort) (number : ℕ) → sort_at (norms declared) number ≡ norm (sort_at declared number)
norm-at [] number = refl
norm-at (sort ∷ declared) zero = refl
norm-at (sort ∷ declared) (suc number) = norm-at declared number

module _ (declared : List Sort) where
  abbrev Norms : Term → Type 0
  Norms t = sort_of (norms declared) (unguarded t) ≡ norm (sort_of declared t)

  -- of a form, by its layer and by that of what is left
  by-layer : (t made : Term) → unguarded t ≡ made → (layer left : Layer) → out-Term t ≡ layer → out-Term made ≡ left
      → layer_sort (norms declared) left ≡ norm (layer_sort declared layer) → Norms t
  by-layer t made is layer left layer_is left_is same =
      ap (sort_of (norms declared)) is ∙ sort-out (norms declared) made ∙ ap (layer_sort (norms declared)) left_is ∙ same
      ∙ ap norm (ap (layer_sort declared) (sym layer_is) ∙ sym (sort-out declared t))

  norm-forms : EachForm Norms
  norm-forms = record {
    of_unit = by-layer _ _ unguarded-Unit Term-F.Unit Term-F.Unit out-Unit out-Unit refl;
    of_base = λ b args. by-layer _ _ (unguarded-Base b args) (Term-F.Base b args) (Term-F.Base b args) (out-Base b args) (out-Base b args) (base-norm b);
    of_lit = λ literal. by-layer _ _ (unguarded-Lit literal) (Term-F.Lit literal) (Term-F.Lit literal) (out-Lit literal) (out-Lit literal) refl;
    of_eor = by-layer _ _ unguarded-Eor Term-F.Eor Term-F.Eor out-Eor out-Eor refl;
    of_struct = λ parts h. by-layer _ _ (unguarded-Struct parts) (Term-F.Struct parts) (Term-F.Struct (map unguarded_part parts)) (out-Struct parts) (out-Struct (map unguarded_part parts)) refl;
    of_alt = λ arms h. by-layer _ _ (unguarded-Alt arms) (Term-F.Alt arms) (Term-F.Alt (map unguarded_arm arms)) (out-Alt arms) (out-Alt (map unguarded_arm arms)) (ap Choice (arm-terms arms));
    of_switch = λ e cases h.
        by-layer _ _ (unguarded-Switch e cases) (Term-F.Switch e cases) (Term-F.Switch e (map unguarded_case cases)) (out-Switch e cases) (out-Switch e (map unguarded_case cases)) (ap Choice (case-terms cases));
    of_guard = λ inner binder condition h.
        ap (sort_of (norms declared)) (unguarded-Guard inner binder condition) ∙ h
        ∙ ap norm (ap (layer_sort declared) (sym (out-Guard inner binder condition)) ∙ sym (sort-out declared (term.Guard inner binder condition)));
    of_seq = λ s h. by-layer _ _ (unguarded-Seq s) (Term-F.Seq s) (Term-F.Seq (unguarded_seq s)) (out-Seq s) (out-Seq (unguarded_seq s)) refl;
    of_call = λ number args. by-layer _ _ (unguarded-Call number args) (Term-F.Call number args) (Term-F.Call number args) (out-Call number args) (out-Call number args) (norm-at declared number);
    of_compute = λ e f. by-layer _ _ (unguarded-Compute e f) (Term-F.Compute e f) (Term-F.Compute e f) (out-Compute e f) (out-Compute e f) (result-norm f);
    of_absorb = λ inner h. by-layer _ _ (unguarded-Absorb inner) (Term-F.Absorb inner) (Term-F.Absorb (unguarded inner)) (out-Absorb inner) (out-Absorb (unguarded inner)) refl;
    of_scan = λ inner h. by-layer _ _ (unguarded-Scan inner) (Term-F.Scan inner) (Term-F.Scan (unguarded inner)) (out-Scan inner) (out-Scan (unguarded inner)) h;
  }

  pub sort-norm : (t : Term) → sort_of (norms declared) (unguarded t) ≡ norm (sort_of declared t)
  sort-norm t = each-term Norms norm-forms t
