-- A masked module stays plain.
use Rattle.std.proofs.Common.{◌≡◌, ◌∙◌, sym, ap, refl, subst, ℕ, zero, suc, Bool, true, false, List, [], ◌∷◌, map, Option, None, Some, slice_get, option_map, if◌then◌else◌}
use Rattle.pads_calc.specs.declared.decl.Decl.{Decl}
use Rattle.pads_calc.specs.declared.term.Term.{Term, Term-F, out-Term, roll-Term, roll-out-Term}
use Rattle.pads_calc.specs.declared.term.Term.TheVariants as term
use Rattle.pads_module.specs.Modules.{Contents}
use Rattle.pads_calc.proofs.Choices.{slice_get-map}
use Rattle.law_calculus.specs.Plain.{IsAbsorb, IsMark, IsPlain, IsPlainHere, IsSeparator, Plain, plain}
use Rattle.law_calculus.specs.Terms.{terms_in}
use Rattle.pads_erase.specs.declared.mask.Mask.{Mask}
use Rattle.pads_erase.specs.declared.mode.Mode.{Mode}
use Rattle.pads_erase.specs.Modes.{checks, mode_for}
use Rattle.pads_mask.specs.Masks.{masked, masked_decl, name_of}
use Rattle.pads_mask.specs.Unguarded.{unguarded, unguarded_option, unguarded_seq}
use Rattle.pads_mask.proofs.Layers.{Layer, left_of, left-is, part-terms, arm-terms, case-terms, seq-terms}
use Rattle.pads_mask.proofs.Rolls.{unguarded-Guard}

mark-stays : (layer : Layer) → IsMark layer → IsMark (out-Term (unguarded (roll-Term layer)))
mark-stays Term-F.Unit is = absurd is
mark-stays (Term-F.Base base args) is = absurd is
mark-stays (Term-F.Lit literal) is = subst IsMark (sym (left-is (Term-F.Lit literal))) tt
mark-stays Term-F.Eor is = subst IsMark (sym (left-is Term-F.Eor)) tt
mark-stays (Term-F.Struct parts) is = absurd is
mark-stays (Term-F.Alt arms) is = absurd is
mark-stays (Term-F.Switch e cases) is = absurd is
mark-stays (Term-F.Guard inner binder condition) is = absurd is
mark-stays (Term-F.Seq s) is = absurd is
mark-stays (Term-F.Call number args) is = absurd is
mark-stays (Term-F.Compute e form) is = absurd is
mark-stays (Term-F.Absorb inner) is = absurd is
mark-stays (Term-F.Scan inner) is = absurd is

absorb-stays : (layer : Layer) → IsAbsorb layer → IsAbsorb (out-Term (unguarded (roll-Term layer)))
absorb-stays Term-F.Unit is = absurd is
absorb-stays (Term-F.Base base args) is = absurd is
absorb-stays (Term-F.Lit literal) is = absurd is
absorb-stays Term-F.Eor is = absurd is
absorb-stays (Term-F.Struct parts) is = absurd is
absorb-stays (Term-F.Alt arms) is = absurd is
absorb-stays (Term-F.Switch e cases) is = absurd is
absorb-stays (Term-F.Guard inner binder condition) is = absurd is
absorb-stays (Term-F.Seq s) is = absurd is
absorb-stays (Term-F.Call number args) is = absurd is
absorb-stays (Term-F.Compute e form) is = absurd is
absorb-stays (Term-F.Absorb inner) is = subst IsAbsorb (sym (left-is (Term-F.Absorb inner))) tt
absorb-stays (Term-F.Scan inner) is = absurd is

mark-of : (t : Term) → IsMark (out-Term t) → IsMark (out-Term (unguarded t))
mark-of t is = subst (λ t. IsMark (out-Term (unguarded t))) (roll-out-Term t) (mark-stays (out-Term t) is)

separator-of : (o : Option Term) → IsSeparator o → IsSeparator (unguarded_option o)
separator-of None is = tt
separator-of (Some t) is = subst (λ t. IsAbsorb (out-Term (unguarded t))) (roll-out-Term t) (absorb-stays (out-Term t) is)

abbrev EachPlain : List Term → Type 0
EachPlain terms = (n : ℕ) (inner : Term) → slice_get terms n ≡ Some inner → IsPlain inner

abbrev EachStays : List Term → Type 0
EachStays terms = (n : ℕ) (inner : Term) → slice_get terms n ≡ Some inner → IsPlain (unguarded inner)

each-plain : (terms : List Term) → EachStays terms → EachPlain (map unguarded terms)
each-plain [] all n inner there = cc
each-plain (t ∷ terms) all zero inner there = let e : unguarded t ≡ inner = cc in subst IsPlain e (all zero t refl)
each-plain (t ∷ terms) all (suc n) inner there = each-plain terms (λ n. all (suc n)) n inner there

-- of each form but the constraint
left-plain : (layer : Layer) → IsPlainHere (left_of layer) → terms_in (left_of layer) ≡ map unguarded (terms_in layer) → EachStays (terms_in layer)
    → IsPlain (unguarded (roll-Term layer))
left-plain layer here terms all =
    plain (subst IsPlainHere (sym (left-is layer)) here)
    (subst (λ layer. EachPlain (terms_in layer)) (sym (left-is layer)) (subst EachPlain (sym terms) (each-plain (terms_in layer) all)))

layer-stays : (layer : Layer) → IsPlainHere layer → EachStays (terms_in layer) → IsPlain (unguarded (roll-Term layer))
layer-stays Term-F.Unit here all = left-plain Term-F.Unit tt refl all
layer-stays (Term-F.Base base args) here all = left-plain (Term-F.Base base args) here refl all
layer-stays (Term-F.Lit literal) here all = left-plain (Term-F.Lit literal) tt refl all
layer-stays Term-F.Eor here all = left-plain Term-F.Eor tt refl all
layer-stays (Term-F.Struct parts) here all = left-plain (Term-F.Struct parts) tt (part-terms parts) all
layer-stays (Term-F.Alt arms) here all = left-plain (Term-F.Alt arms) tt (arm-terms arms) all
layer-stays (Term-F.Switch e cases) here all = left-plain (Term-F.Switch e cases) tt (case-terms cases) all
layer-stays (Term-F.Guard inner binder condition) here all =
    subst IsPlain (sym (ap unguarded (term.rolls-Guard inner binder condition) ∙ unguarded-Guard inner binder condition)) (all zero inner refl)
layer-stays (Term-F.Seq s) here all = left-plain (Term-F.Seq s) (separator-of s.sep here) (seq-terms s) all
layer-stays (Term-F.Call number args) here all = left-plain (Term-F.Call number args) tt refl all
layer-stays (Term-F.Compute e form) here all = left-plain (Term-F.Compute e form) tt refl all
layer-stays (Term-F.Absorb inner) here all = left-plain (Term-F.Absorb inner) (mark-of inner here) refl all
layer-stays (Term-F.Scan inner) here all = left-plain (Term-F.Scan inner) tt refl all

pub term-stays : (t : Term) → IsPlain t → IsPlain (unguarded t)
term-stays t (plain here all) =
    subst (λ t. IsPlain (unguarded t)) (roll-out-Term t) (layer-stays (out-Term t) here (λ n inner there. term-stays inner (all n inner there)))

pub body-stays : (check : Bool) (t : Term) → IsPlain t → IsPlain (if check then t else unguarded t)
body-stays true t is = is
body-stays false t is = term-stays t is

-- a declaration that is found among changed ones is a changed one
pub found-changed : (f : Decl → Decl) (decls : List Decl) (number : ℕ) (made : Decl) → slice_get (map f decls) number ≡ Some made
    → (decl : Decl) × (slice_get decls number ≡ Some decl) × (f decl ≡ made)
found-changed f [] number made there = cc
found-changed f (decl ∷ decls) zero made there = (decl, refl, cc)
found-changed f (decl ∷ decls) (suc number) made there = found-changed f decls number made there

pub stays-plain : (m : Contents) (mask : Mask) → Plain m.decls → Plain (masked m mask).decls
stays-plain m mask h number made there =
    let found = found-changed (λ decl. masked_decl (mode_for mask (name_of m decl)) decl) m.decls number made there in
    subst (λ (decl : Decl). IsPlain decl.body) found.2
    (body-stays (checks (mode_for mask (name_of m found.0))) found.0.body (h number found.0 found.1))
