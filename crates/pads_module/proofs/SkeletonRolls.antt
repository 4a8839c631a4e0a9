-- The skeletons of terms, form by form.
use Rattle.std.proofs.Common.{◌≡◌, ◌∙◌, sym, ap, ℕ, List, map}
use Rattle.pads_expr.specs.declared.expr.Expr.{Expr}
use Rattle.pads_dispatch.specs.declared.base.Base.{Base}
use Rattle.pads_erase.specs.declared.skeleton.Skeleton.{Skeleton}
use Rattle.pads_erase.specs.declared.skeleton.Skeleton.TheVariants as skeleton
use Rattle.pads_calc.specs.declared.term.Arm.{Arm, fold-Arm, fold_out-Arm}
use Rattle.pads_calc.specs.declared.term.Case.{Case, fold-Case, fold_out-Case}
use Rattle.pads_calc.specs.declared.term.Part.{Part, fold-Part, fold_out-Part}
use Rattle.pads_calc.specs.declared.term.ComputedForm.{ComputedForm}
use Rattle.pads_calc.specs.declared.term.Seq.{Seq, fold-Seq, fold_out-Seq}
use Rattle.pads_calc.specs.declared.term.Term.{Term, Term-F, fold-roll-Term, roll-Term, map-Term}
use Rattle.pads_calc.specs.declared.term.Term.TheVariants as term
use Rattle.pads_calc.specs.Skeletons.{skeleton_of, term_skeleton, arm_skeleton, case_skeleton, part_skeleton, seq_skeleton}
use Rattle.pads_calc.proofs.Rolls.{mapped}

abbrev of_arm : Arm → Skeleton
of_arm = fold-Arm Skeleton Skeleton Skeleton Skeleton Skeleton term_skeleton arm_skeleton case_skeleton part_skeleton seq_skeleton

abbrev of_case : Case → Skeleton
of_case = fold-Case Skeleton Skeleton Skeleton Skeleton Skeleton term_skeleton arm_skeleton case_skeleton part_skeleton seq_skeleton

abbrev of_part : Part → Skeleton
of_part = fold-Part Skeleton Skeleton Skeleton Skeleton Skeleton term_skeleton arm_skeleton case_skeleton part_skeleton seq_skeleton

abbrev of_seq : Seq → Skeleton
of_seq = fold-Seq Skeleton Skeleton Skeleton Skeleton Skeleton term_skeleton arm_skeleton case_skeleton part_skeleton seq_skeleton

of_part-is : (part : Part) → of_part part ≡ skeleton_of part.term
unfolding skeleton_of
of_part-is part = fold_out-Part Skeleton Skeleton Skeleton Skeleton Skeleton term_skeleton arm_skeleton case_skeleton part_skeleton seq_skeleton part

of_arm-is : (arm : Arm) → of_arm arm ≡ skeleton_of arm.term
unfolding skeleton_of
of_arm-is arm = fold_out-Arm Skeleton Skeleton Skeleton Skeleton Skeleton term_skeleton arm_skeleton case_skeleton part_skeleton seq_skeleton arm

of_case-is : (case : Case) → of_case case ≡ skeleton_of case.arm.term
of_case-is case = fold_out-Case Skeleton Skeleton Skeleton Skeleton Skeleton term_skeleton arm_skeleton case_skeleton part_skeleton seq_skeleton case ∙ of_arm-is case.arm

of_seq-is : (s : Seq) → of_seq s ≡ skeleton_of s.elem
unfolding skeleton_of
of_seq-is s = fold_out-Seq Skeleton Skeleton Skeleton Skeleton Skeleton term_skeleton arm_skeleton case_skeleton part_skeleton seq_skeleton s

skeleton-roll : (layer : Term-F Term Arm Case Part Seq)
    → skeleton_of (roll-Term layer) ≡ term_skeleton (map-Term Term Arm Case Part Seq Skeleton Skeleton Skeleton Skeleton Skeleton skeleton_of of_arm of_case of_part of_seq layer)
unfolding skeleton_of
skeleton-roll layer = fold-roll-Term Skeleton Skeleton Skeleton Skeleton Skeleton term_skeleton arm_skeleton case_skeleton part_skeleton seq_skeleton layer

pub skeleton-Unit : skeleton_of term.Unit ≡ skeleton.Nothing
skeleton-Unit = ap skeleton_of (sym term.rolls-Unit) ∙ skeleton-roll Term-F.Unit

pub skeleton-Base : (base : Base) (args : List Expr) → skeleton_of (term.Base base args) ≡ skeleton.Leaf
skeleton-Base base args = ap skeleton_of (sym (term.rolls-Base base args)) ∙ skeleton-roll (Term-F.Base base args)

pub skeleton-Lit : (literal : List ℕ) → skeleton_of (term.Lit literal) ≡ skeleton.Nothing
skeleton-Lit literal = ap skeleton_of (sym (term.rolls-Lit literal)) ∙ skeleton-roll (Term-F.Lit literal)

pub skeleton-Eor : skeleton_of term.Eor ≡ skeleton.Nothing
skeleton-Eor = ap skeleton_of (sym term.rolls-Eor) ∙ skeleton-roll Term-F.Eor

pub skeleton-Struct : (parts : List Part) → skeleton_of (term.Struct parts) ≡ skeleton.List (map (λ part. skeleton_of part.term) parts)
skeleton-Struct parts =
    ap skeleton_of (sym (term.rolls-Struct parts)) ∙ skeleton-roll (Term-F.Struct parts)
    ∙ ap (λ parts. skeleton.List parts) (mapped of_part (λ part. skeleton_of part.term) of_part-is parts)

pub skeleton-Alt : (arms : List Arm) → skeleton_of (term.Alt arms) ≡ skeleton.Arms (map (λ arm. skeleton_of arm.term) arms)
skeleton-Alt arms =
    ap skeleton_of (sym (term.rolls-Alt arms)) ∙ skeleton-roll (Term-F.Alt arms)
    ∙ ap (λ arms. skeleton.Arms arms) (mapped of_arm (λ arm. skeleton_of arm.term) of_arm-is arms)

pub skeleton-Switch : (e : Expr) (cases : List Case) → skeleton_of (term.Switch e cases) ≡ skeleton.Arms (map (λ case. skeleton_of case.arm.term) cases)
skeleton-Switch e cases =
    ap skeleton_of (sym (term.rolls-Switch e cases)) ∙ skeleton-roll (Term-F.Switch e cases)
    ∙ ap (λ arms. skeleton.Arms arms) (mapped of_case (λ case. skeleton_of case.arm.term) of_case-is cases)

pub skeleton-Guard : (inner : Term) (binder : ℕ) (condition : Expr) → skeleton_of (term.Guard inner binder condition) ≡ skeleton_of inner
skeleton-Guard inner binder condition = ap skeleton_of (sym (term.rolls-Guard inner binder condition)) ∙ skeleton-roll (Term-F.Guard inner binder condition)

pub skeleton-Seq : (s : Seq) → skeleton_of (term.Seq s) ≡ skeleton.Each (skeleton_of s.elem)
skeleton-Seq s = ap skeleton_of (sym (term.rolls-Seq s)) ∙ skeleton-roll (Term-F.Seq s) ∙ ap (λ element. skeleton.Each element) (of_seq-is s)

pub skeleton-Call : (number : ℕ) (args : List Expr) → skeleton_of (term.Call number args) ≡ skeleton.Ref number
skeleton-Call number args = ap skeleton_of (sym (term.rolls-Call number args)) ∙ skeleton-roll (Term-F.Call number args)

pub skeleton-Compute : (e : Expr) (form : ComputedForm) → skeleton_of (term.Compute e form) ≡ skeleton.Leaf
skeleton-Compute e form = ap skeleton_of (sym (term.rolls-Compute e form)) ∙ skeleton-roll (Term-F.Compute e form)

pub skeleton-Absorb : (inner : Term) → skeleton_of (term.Absorb inner) ≡ skeleton_of inner
skeleton-Absorb inner = ap skeleton_of (sym (term.rolls-Absorb inner)) ∙ skeleton-roll (Term-F.Absorb inner)

pub skeleton-Scan : (inner : Term) → skeleton_of (term.Scan inner) ≡ skeleton_of inner
skeleton-Scan inner = ap skeleton_of (sym (term.rolls-Scan inner)) ∙ skeleton-roll (Term-F.Scan inner)

-- every form's skeleton
pub ruleset skeleton_rules = (
  skeleton-Unit,
  skeleton-Base,
  skeleton-Lit,
  skeleton-Eor,
  skeleton-Struct,
  skeleton-Alt,
  skeleton-Switch,
  skeleton-Guard,
  skeleton-Seq,
  skeleton-Call,
  skeleton-Compute,
  skeleton-Absorb,
  skeleton-Scan,
)
