-- Which terms are straight, form by form.
use Rattle.std.proofs.Common.{◌≡◌, ◌∙◌, sym, ap, refl, ℕ, List, map, Bool, true, false}
use Rattle.std.specs.List.{list_all}
use Rattle.std.proofs.lemmas.List.Folds.{list_all-map}
use Rattle.pads_expr.specs.declared.expr.Expr.{Expr}
use Rattle.pads_dispatch.specs.declared.base.Base.{Base}
use Rattle.pads_calc.specs.declared.term.ComputedForm.{ComputedForm}
use Rattle.pads_calc.specs.declared.term.Arm.{Arm, fold-Arm}
use Rattle.pads_calc.specs.declared.term.Case.{Case, fold-Case}
use Rattle.pads_calc.specs.declared.term.Part.{Part, fold-Part, fold_out-Part}
use Rattle.pads_calc.specs.declared.term.Seq.{Seq, fold-Seq}
use Rattle.pads_calc.specs.declared.term.Term.{Term, Term-F, fold-Term, fold-roll-Term, roll-Term, map-Term}
use Rattle.pads_calc.specs.declared.term.Term.TheVariants as term
use Rattle.pads_module.specs.Straight.{is_straight, is_so, term_straight, arm_straight, case_straight, part_straight, seq_straight}

abbrev of_arm : Arm → Bool
of_arm = fold-Arm Bool Bool Bool Bool Bool term_straight arm_straight case_straight part_straight seq_straight

abbrev of_case : Case → Bool
of_case = fold-Case Bool Bool Bool Bool Bool term_straight arm_straight case_straight part_straight seq_straight

abbrev of_part : Part → Bool
of_part = fold-Part Bool Bool Bool Bool Bool term_straight arm_straight case_straight part_straight seq_straight

abbrev of_seq : Seq → Bool
of_seq = fold-Seq Bool Bool Bool Bool Bool term_straight arm_straight case_straight part_straight seq_straight

of_part-is : (part : Part) → of_part part ≡ is_straight part.term
unfolding is_straight
of_part-is part = fold_out-Part Bool Bool Bool Bool Bool term_straight arm_straight case_straight part_straight seq_straight part

straight-roll : (layer : Term-F Term Arm Case Part Seq) → is_straight (roll-Term layer) ≡ term_straight (map-Term Term Arm Case Part Seq Bool Bool Bool Bool Bool is_straight of_arm of_case of_part of_seq layer)
unfolding is_straight
straight-roll layer = fold-roll-Term Bool Bool Bool Bool Bool term_straight arm_straight case_straight part_straight seq_straight layer

pub straight-Unit : is_straight term.Unit ≡ true
straight-Unit = ap is_straight (sym term.rolls-Unit) ∙ straight-roll Term-F.Unit

pub straight-Base : (base : Base) (args : List Expr) → is_straight (term.Base base args) ≡ true
straight-Base base args = ap is_straight (sym (term.rolls-Base base args)) ∙ straight-roll (Term-F.Base base args)

pub straight-Lit : (literal : List ℕ) → is_straight (term.Lit literal) ≡ true
straight-Lit literal = ap is_straight (sym (term.rolls-Lit literal)) ∙ straight-roll (Term-F.Lit literal)

pub straight-Eor : is_straight term.Eor ≡ true
straight-Eor = ap is_straight (sym term.rolls-Eor) ∙ straight-roll Term-F.Eor

pub straight-Struct : (parts : List Part) → is_straight (term.Struct parts) ≡ list_all (λ part. is_straight part.term) parts
straight-Struct parts =
    ap is_straight (sym (term.rolls-Struct parts)) ∙ straight-roll (Term-F.Struct parts)
    ∙ list_all-map is_so of_part parts ∙ ap (λ (h : Part → Bool). list_all h parts) (λ i x. of_part-is x i)

pub straight-Alt : (arms : List Arm) → is_straight (term.Alt arms) ≡ false
straight-Alt arms = ap is_straight (sym (term.rolls-Alt arms)) ∙ straight-roll (Term-F.Alt arms)

pub straight-Switch : (e : Expr) (cases : List Case) → is_straight (term.Switch e cases) ≡ false
straight-Switch e cases = ap is_straight (sym (term.rolls-Switch e cases)) ∙ straight-roll (Term-F.Switch e cases)

pub straight-Guard : (inner : Term) (binder : ℕ) (condition : Expr) → is_straight (term.Guard inner binder condition) ≡ is_straight inner
straight-Guard inner binder condition = ap is_straight (sym (term.rolls-Guard inner binder condition)) ∙ straight-roll (Term-F.Guard inner binder condition)

pub straight-Seq : (s : Seq) → is_straight (term.Seq s) ≡ false
straight-Seq s = ap is_straight (sym (term.rolls-Seq s)) ∙ straight-roll (Term-F.Seq s)

pub straight-Call : (number : ℕ) (args : List Expr) → is_straight (term.Call number args) ≡ true
straight-Call number args = ap is_straight (sym (term.rolls-Call number args)) ∙ straight-roll (Term-F.Call number args)

pub straight-Compute : (e : Expr) (form : ComputedForm) → is_straight (term.Compute e form) ≡ true
straight-Compute e form = ap is_straight (sym (term.rolls-Compute e form)) ∙ straight-roll (Term-F.Compute e form)

pub straight-Absorb : (inner : Term) → is_straight (term.Absorb inner) ≡ is_straight inner
straight-Absorb inner = ap is_straight (sym (term.rolls-Absorb inner)) ∙ straight-roll (Term-F.Absorb inner)

pub straight-Scan : (inner : Term) → is_straight (term.Scan inner) ≡ false
straight-Scan inner = ap is_straight (sym (term.rolls-Scan inner)) ∙ straight-roll (Term-F.Scan inner)

pub ruleset straight_rules = (
  straight-Unit,
  straight-Base,
  straight-Lit,
  straight-Eor,
  straight-Struct,
  straight-Alt,
  straight-Switch,
  straight-Guard,
  straight-Seq,
  straight-Call,
  straight-Compute,
  straight-Absorb,
  straight-Scan,
)
