-- The layer that is left of a term without its constraints, and the terms in it.
use Rattle.std.proofs.Common.{◌≡◌, ◌∙◌, sym, ap, refl, List, [], ◌∷◌, ◌++◌, map, Option, None, Some}
use Rattle.pads_calc.specs.declared.term.Arm.{Arm}
use Rattle.pads_calc.specs.declared.term.Case.{Case}
use Rattle.pads_calc.specs.declared.term.Part.{Part}
use Rattle.pads_calc.specs.declared.term.Seq.{Seq}
use Rattle.pads_calc.specs.declared.term.Term.{Term, Term-F, out-Term, roll-Term}
use Rattle.pads_calc.specs.declared.term.Term.TheVariants as term
use Rattle.law_calculus.specs.Terms.{if_there, terms_in}
use Rattle.law_calculus.proofs.Layers.{out-Unit, out-Base, out-Lit, out-Eor, out-Struct, out-Alt, out-Switch, out-Seq, out-Call, out-Compute, out-Absorb, out-Scan}
use Rattle.pads_mask.specs.Unguarded.{unguarded, unguarded_arm, unguarded_case, unguarded_option, unguarded_part, unguarded_seq}
use Rattle.pads_mask.proofs.Rolls.{unguarded-Unit, unguarded-Base, unguarded-Lit, unguarded-Eor, unguarded-Struct, unguarded-Alt, unguarded-Switch, unguarded-Guard, unguarded-Seq, unguarded-Call, unguarded-Compute, unguarded-Absorb, unguarded-Scan}

abbrev pub Layer : Type 0
Layer = Term-F Term Arm Case Part Seq

-- of a constraint, the layer of the term inside is left
abbrev pub left_of : Layer → Layer
left_of Term-F.Unit = Term-F.Unit
left_of (Term-F.Base base args) = Term-F.Base base args
left_of (Term-F.Lit literal) = Term-F.Lit literal
left_of Term-F.Eor = Term-F.Eor
left_of (Term-F.Struct parts) = Term-F.Struct (map unguarded_part parts)
left_of (Term-F.Alt arms) = Term-F.Alt (map unguarded_arm arms)
left_of (Term-F.Switch e cases) = Term-F.Switch e (map unguarded_case cases)
left_of (Term-F.Guard inner binder condition) = out-Term (unguarded inner)
left_of (Term-F.Seq s) = Term-F.Seq (unguarded_seq s)
left_of (Term-F.Call number args) = Term-F.Call number args
left_of (Term-F.Compute e form) = Term-F.Compute e form
left_of (Term-F.Absorb inner) = Term-F.Absorb (unguarded inner)
left_of (Term-F.Scan inner) = Term-F.Scan (unguarded inner)

pub left-is : (layer : Layer) → out-Term (unguarded (roll-Term layer)) ≡ left_of layer
left-is Term-F.Unit = ap out-Term (ap unguarded term.rolls-Unit ∙ unguarded-Unit) ∙ out-Unit
left-is (Term-F.Base base args) = ap out-Term (ap unguarded (term.rolls-Base base args) ∙ unguarded-Base base args) ∙ out-Base base args
left-is (Term-F.Lit literal) = ap out-Term (ap unguarded (term.rolls-Lit literal) ∙ unguarded-Lit literal) ∙ out-Lit literal
left-is Term-F.Eor = ap out-Term (ap unguarded term.rolls-Eor ∙ unguarded-Eor) ∙ out-Eor
left-is (Term-F.Struct parts) = ap out-Term (ap unguarded (term.rolls-Struct parts) ∙ unguarded-Struct parts) ∙ out-Struct (map unguarded_part parts)
left-is (Term-F.Alt arms) = ap out-Term (ap unguarded (term.rolls-Alt arms) ∙ unguarded-Alt arms) ∙ out-Alt (map unguarded_arm arms)
left-is (Term-F.Switch e cases) = ap out-Term (ap unguarded (term.rolls-Switch e cases) ∙ unguarded-Switch e cases) ∙ out-Switch e (map unguarded_case cases)
left-is (Term-F.Guard inner binder condition) = ap out-Term (ap unguarded (term.rolls-Guard inner binder condition) ∙ unguarded-Guard inner binder condition)
left-is (Term-F.Seq s) = ap out-Term (ap unguarded (term.rolls-Seq s) ∙ unguarded-Seq s) ∙ out-Seq (unguarded_seq s)
left-is (Term-F.Call number args) = ap out-Term (ap unguarded (term.rolls-Call number args) ∙ unguarded-Call number args) ∙ out-Call number args
left-is (Term-F.Compute e form) = ap out-Term (ap unguarded (term.rolls-Compute e form) ∙ unguarded-Compute e form) ∙ out-Compute e form
left-is (Term-F.Absorb inner) = ap out-Term (ap unguarded (term.rolls-Absorb inner) ∙ unguarded-Absorb inner) ∙ out-Absorb (unguarded inner)
left-is (Term-F.Scan inner) = ap out-Term (ap unguarded (term.rolls-Scan inner) ∙ unguarded-Scan inner) ∙ out-Scan (unguarded inner)

-- the terms in what is left
pub part-terms : (parts : List Part) → map (λ (part : Part). part.term) (map unguarded_part parts) ≡ map unguarded (map (λ (part : Part). part.term) parts)
part-terms [] = refl
part-terms (part ∷ parts) = ap (λ rest. unguarded part.term ∷ rest) (part-terms parts)

pub arm-terms : (arms : List Arm) → map (λ (arm : Arm). arm.term) (map unguarded_arm arms) ≡ map unguarded (map (λ (arm : Arm). arm.term) arms)
arm-terms [] = refl
arm-terms (arm ∷ arms) = ap (λ rest. unguarded arm.term ∷ rest) (arm-terms arms)

pub case-terms : (cases : List Case) → map (λ (case : Case). case.arm.term) (map unguarded_case cases) ≡ map unguarded (map (λ (case : Case). case.arm.term) cases)
case-terms [] = refl
case-terms (case ∷ cases) = ap (λ rest. unguarded case.arm.term ∷ rest) (case-terms cases)

pub option-terms : (a b : Option Term) → (if_there (unguarded_option a) ++ if_there (unguarded_option b)) ≡ map unguarded (if_there a ++ if_there b)
option-terms None None = refl
option-terms None (Some b) = refl
option-terms (Some a) None = refl
option-terms (Some a) (Some b) = refl

pub seq-terms : (s : Seq) → terms_in (Term-F.Seq (unguarded_seq s)) ≡ map unguarded (terms_in (Term-F.Seq s))
seq-terms s = ap (λ rest. unguarded s.elem ∷ rest) (option-terms s.sep s.stop)
