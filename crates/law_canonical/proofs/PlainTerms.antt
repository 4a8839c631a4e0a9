-- What a plain term tells of the terms in it: they are plain, and what is absorbed in it has no value.
use Rattle.std.proofs.Common.{◌≡◌, ◌∙◌, sym, ap, subst, ℕ, true, List, Some, slice_get}
use Rattle.pads_value.specs.declared.value.Val.TheVariants as val
use Rattle.pads_expr.specs.declared.expr.Expr.{Expr}
use Rattle.pads_expr.specs.Value.{Pairs}
use Rattle.pads_calc.specs.declared.reading.Reading.{Reading}
use Rattle.pads_calc.specs.declared.term.Arm.{Arm}
use Rattle.pads_calc.specs.declared.term.Case.{Case}
use Rattle.pads_calc.specs.declared.term.Part.{Part}
use Rattle.pads_calc.specs.declared.term.Seq.{Seq}
use Rattle.pads_calc.specs.declared.term.Term.{Term, Term-F, out-Term, roll-Term, roll-out-Term}
use Rattle.pads_calc.specs.declared.term.Term.TheVariants as term
use Rattle.pads_calc.specs.Calculus.{Caller, read}
use Rattle.pads_calc.specs.Readings.{Subject, is_ok}
use Rattle.pads_calc.proofs.CleanForms.{clean-lit, clean-eor, clean-absorb}
use Rattle.pads_calc.proofs.Rolls.{read-Lit, read-Eor, read-Absorb}
use Rattle.law_calculus.specs.Plain.{IsMark, IsAbsorb, IsPlain, IsPlainHere, plain}
use Rattle.law_calculus.specs.Terms.{terms_in}

abbrev pub Layer : Type 0
Layer = Term-F Term Arm Case Part Seq

-- each of these terms is plain
abbrev pub EachPlain : List Term → Type 0
EachPlain terms = (n : ℕ) (inner : Term) → slice_get terms n ≡ Some inner → IsPlain inner

module _ {t : Term} (layer : Layer) (is : out-Term t ≡ layer) where
  pub plain-here : IsPlain t → IsPlainHere layer
  plain-here (plain here all) = subst IsPlainHere is here

  pub plain-inside : IsPlain t → EachPlain (terms_in layer)
  plain-inside (plain here all) = subst (λ layer. EachPlain (terms_in layer)) is all

-- a call is plain
pub plain-call : (number : ℕ) (args : List Expr) → IsPlain (term.Call number args)
plain-call number args =
    plain (subst IsPlainHere (sym (term.outs-Call number args)) tt)
    (subst (λ layer. EachPlain (terms_in layer)) (sym (term.outs-Call number args)) (λ n inner there. absurd cc))

module _ (subject : Subject) (call : Caller) (env : Pairs) (i : ℕ) where
  -- where a term reads without a fault, it has no value
  abbrev NoValue : Term → Type 0
  NoValue t = is_ok (read subject call t env i) ≡ true → (read subject call t env i).value ≡ val.Unit

  lit-unit : (literal : List ℕ) → NoValue (term.Lit literal)
  lit-unit literal ok =
      let same = read-Lit subject call literal env i in
      ap (λ (r : Reading). r.value) (same ∙ (clean-lit subject literal i (ap is_ok (sym same) ∙ ok)).is)

  eor-unit : NoValue term.Eor
  eor-unit ok =
      let same = read-Eor subject call env i in
      ap (λ (r : Reading). r.value) (same ∙ (clean-eor subject i (ap is_ok (sym same) ∙ ok)).is)

  absorbed-unit : (inner : Term) → NoValue (term.Absorb inner)
  absorbed-unit inner ok =
      let same = read-Absorb subject call inner env i in
      ap (λ (r : Reading). r.value) same ∙ (clean-absorb (read subject call inner env i) (ap is_ok (sym same) ∙ ok)).1

  mark-layer : (layer : Layer) → IsMark layer → NoValue (roll-Term layer)
  mark-layer Term-F.Unit mark = absurd mark
  mark-layer (Term-F.Base base args) mark = absurd mark
  mark-layer (Term-F.Lit literal) mark = subst NoValue (sym (term.rolls-Lit literal)) (lit-unit literal)
  mark-layer Term-F.Eor mark = subst NoValue (sym term.rolls-Eor) eor-unit
  mark-layer (Term-F.Struct parts) mark = absurd mark
  mark-layer (Term-F.Alt arms) mark = absurd mark
  mark-layer (Term-F.Switch e cases) mark = absurd mark
  mark-layer (Term-F.Guard inner binder condition) mark = absurd mark
  mark-layer (Term-F.Seq s) mark = absurd mark
  mark-layer (Term-F.Call number args) mark = absurd mark
  mark-layer (Term-F.Compute e form) mark = absurd mark
  mark-layer (Term-F.Absorb inner) mark = absurd mark
  mark-layer (Term-F.Scan inner) mark = absurd mark

  absorb-layer : (layer : Layer) → IsAbsorb layer → NoValue (roll-Term layer)
  absorb-layer Term-F.Unit absorbs = absurd absorbs
  absorb-layer (Term-F.Base base args) absorbs = absurd absorbs
  absorb-layer (Term-F.Lit literal) absorbs = absurd absorbs
  absorb-layer Term-F.Eor absorbs = absurd absorbs
  absorb-layer (Term-F.Struct parts) absorbs = absurd absorbs
  absorb-layer (Term-F.Alt arms) absorbs = absurd absorbs
  absorb-layer (Term-F.Switch e cases) absorbs = absurd absorbs
  absorb-layer (Term-F.Guard inner binder condition) absorbs = absurd absorbs
  absorb-layer (Term-F.Seq s) absorbs = absurd absorbs
  absorb-layer (Term-F.Call number args) absorbs = absurd absorbs
  absorb-layer (Term-F.Compute e form) absorbs = absurd absorbs
  absorb-layer (Term-F.Absorb inner) absorbs = subst NoValue (sym (term.rolls-Absorb inner)) (absorbed-unit inner)
  absorb-layer (Term-F.Scan inner) absorbs = absurd absorbs

  -- a literal or the record's end, and what absorbs
  pub mark-unit : (t : Term) → IsMark (out-Term t) → NoValue t
  mark-unit t mark = subst NoValue (roll-out-Term t) (mark-layer (out-Term t) mark)

  pub absorb-unit : (t : Term) → IsAbsorb (out-Term t) → NoValue t
  absorb-unit t absorbs = subst NoValue (roll-out-Term t) (absorb-layer (out-Term t) absorbs)
