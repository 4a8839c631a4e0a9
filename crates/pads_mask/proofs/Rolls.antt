-- Terms without their constraints, form by form.
use Rattle.std.proofs.Common.{◌≡◌, ◌∙◌, sym, ap, refl, ℕ, List, map, Option, None, Some}
use Rattle.pads_expr.specs.declared.expr.Expr.{Expr}
use Rattle.pads_dispatch.specs.declared.base.Base.{Base}
use Rattle.pads_calc.specs.declared.term.Arm.{Arm, fold-Arm, fold_out-Arm}
use Rattle.pads_calc.specs.declared.term.Case.{Case, fold-Case, fold_out-Case}
use Rattle.pads_calc.specs.declared.term.Part.{Part, fold-Part, fold_out-Part}
use Rattle.pads_calc.specs.declared.term.ComputedForm.{ComputedForm}
use Rattle.pads_calc.specs.declared.term.Seq.{Seq, fold-Seq, fold_out-Seq}
use Rattle.pads_calc.specs.declared.term.Term.{Term, Term-F, fold-roll-Term, roll-Term, map-Term}
use Rattle.pads_calc.specs.declared.term.Term.TheShapes.{former-Seq-sep}
use Rattle.pads_calc.specs.declared.term.Term.TheVariants as term
use Rattle.pads_calc.proofs.Rolls.{mapped}
use Rattle.pads_mask.specs.Unguarded.{unguarded, unguarded_arm, unguarded_case, unguarded_option, unguarded_part, unguarded_seq, term_step, arm_step, case_step, part_step, seq_step}

abbrev of_arm : Arm → Arm
of_arm = fold-Arm Term Arm Case Part Seq term_step arm_step case_step part_step seq_step

abbrev of_case : Case → Case
of_case = fold-Case Term Arm Case Part Seq term_step arm_step case_step part_step seq_step

abbrev of_part : Part → Part
of_part = fold-Part Term Arm Case Part Seq term_step arm_step case_step part_step seq_step

abbrev of_seq : Seq → Seq
of_seq = fold-Seq Term Arm Case Part Seq term_step arm_step case_step part_step seq_step

of_part-is : (part : Part) → of_part part ≡ unguarded_part part
unfolding unguarded
of_part-is part = fold_out-Part Term Arm Case Part Seq term_step arm_step case_step part_step seq_step part

of_arm-is : (arm : Arm) → of_arm arm ≡ unguarded_arm arm
unfolding unguarded
of_arm-is arm = fold_out-Arm Term Arm Case Part Seq term_step arm_step case_step part_step seq_step arm

abbrev with_arm : Case → Arm → Case
with_arm case arm = record { key = case.key; arm = arm }

of_case-is : (case : Case) → of_case case ≡ unguarded_case case
of_case-is case = fold_out-Case Term Arm Case Part Seq term_step arm_step case_step part_step seq_step case ∙ ap (with_arm case) (of_arm-is case.arm)

option-is : (o : Option Term) → (former-Seq-sep).map Term Term unguarded o ≡ unguarded_option o
option-is None = refl
option-is (Some t) = refl

abbrev with_terms : Term → Option Term → Option Term → Seq → Seq
with_terms elem sep stop s = record { elem = elem; sep = sep; size = s.size; last = s.last; stop = stop; elts = s.elts }

of_seq-is : (s : Seq) → of_seq s ≡ unguarded_seq s
unfolding unguarded
of_seq-is s =
    fold_out-Seq Term Arm Case Part Seq term_step arm_step case_step part_step seq_step s
    ∙ ap (λ sep. with_terms (unguarded s.elem) sep ((former-Seq-sep).map Term Term unguarded s.stop) s) (option-is s.sep)
    ∙ ap (λ stop. with_terms (unguarded s.elem) (unguarded_option s.sep) stop s) (option-is s.stop)

unguarded-roll : (layer : Term-F Term Arm Case Part Seq)
    → unguarded (roll-Term layer) ≡ term_step (map-Term Term Arm Case Part Seq Term Arm Case Part Seq unguarded of_arm of_case of_part of_seq layer)
unfolding unguarded
unguarded-roll layer = fold-roll-Term Term Arm Case Part Seq term_step arm_step case_step part_step seq_step layer

pub unguarded-Unit : unguarded term.Unit ≡ term.Unit
unguarded-Unit =
    ap unguarded (sym term.rolls-Unit) ∙ unguarded-roll Term-F.Unit

pub unguarded-Base : (base : Base) (args : List Expr) → unguarded (term.Base base args) ≡ term.Base base args
unguarded-Base base args =
    ap unguarded (sym (term.rolls-Base base args)) ∙ unguarded-roll (Term-F.Base base args)

pub unguarded-Lit : (literal : List ℕ) → unguarded (term.Lit literal) ≡ term.Lit literal
unguarded-Lit literal =
    ap unguarded (sym (term.rolls-Lit literal)) ∙ unguarded-roll (Term-F.Lit literal)

pub unguarded-Eor : unguarded term.Eor ≡ term.Eor
unguarded-Eor =
    ap unguarded (sym term.rolls-Eor) ∙ unguarded-roll Term-F.Eor

pub unguarded-Struct : (parts : List Part) → unguarded (term.Struct parts) ≡ term.Struct (map unguarded_part parts)
unguarded-Struct parts =
    ap unguarded (sym (term.rolls-Struct parts)) ∙ unguarded-roll (Term-F.Struct parts)
    ∙ ap (λ parts. term.Struct parts) (mapped of_part unguarded_part of_part-is parts)

pub unguarded-Alt : (arms : List Arm) → unguarded (term.Alt arms) ≡ term.Alt (map unguarded_arm arms)
unguarded-Alt arms =
    ap unguarded (sym (term.rolls-Alt arms)) ∙ unguarded-roll (Term-F.Alt arms)
    ∙ ap (λ arms. term.Alt arms) (mapped of_arm unguarded_arm of_arm-is arms)

pub unguarded-Switch : (e : Expr) (cases : List Case) → unguarded (term.Switch e cases) ≡ term.Switch e (map unguarded_case cases)
unguarded-Switch e cases =
    ap unguarded (sym (term.rolls-Switch e cases)) ∙ unguarded-roll (Term-F.Switch e cases)
    ∙ ap (λ cases. term.Switch e cases) (mapped of_case unguarded_case of_case-is cases)

pub unguarded-Guard : (inner : Term) (binder : ℕ) (condition : Expr) → unguarded (term.Guard inner binder condition) ≡ unguarded inner
unguarded-Guard inner binder condition =
    ap unguarded (sym (term.rolls-Guard inner binder condition)) ∙ unguarded-roll (Term-F.Guard inner binder condition)

pub unguarded-Seq : (s : Seq) → unguarded (term.Seq s) ≡ term.Seq (unguarded_seq s)
unguarded-Seq s =
    ap unguarded (sym (term.rolls-Seq s)) ∙ unguarded-roll (Term-F.Seq s)
    ∙ ap (λ s. term.Seq s) (of_seq-is s)

pub unguarded-Call : (number : ℕ) (args : List Expr) → unguarded (term.Call number args) ≡ term.Call number args
unguarded-Call number args =
    ap unguarded (sym (term.rolls-Call number args)) ∙ unguarded-roll (Term-F.Call number args)

pub unguarded-Compute : (e : Expr) (form : ComputedForm) → unguarded (term.Compute e form) ≡ term.Compute e form
unguarded-Compute e form =
    ap unguarded (sym (term.rolls-Compute e form)) ∙ unguarded-roll (Term-F.Compute e form)

pub unguarded-Absorb : (inner : Term) → unguarded (term.Absorb inner) ≡ term.Absorb (unguarded inner)
unguarded-Absorb inner =
    ap unguarded (sym (term.rolls-Absorb inner)) ∙ unguarded-roll (Term-F.Absorb inner)

pub unguarded-Scan : (inner : Term) → unguarded (term.Scan inner) ≡ term.Scan (unguarded inner)
unguarded-Scan inner =
    ap unguarded (sym (term.rolls-Scan inner)) ∙ unguarded-roll (Term-F.Scan inner)

-- every form without its constraints
pub ruleset unguarded_rules = (
  unguarded-Unit,
  unguarded-Base,
  unguarded-Lit,
  unguarded-Eor,
  unguarded-Struct,
  unguarded-Alt,
  unguarded-Switch,
  unguarded-Guard,
  unguarded-Seq,
  unguarded-Call,
  unguarded-Compute,
  unguarded-Absorb,
  unguarded-Scan,
)
