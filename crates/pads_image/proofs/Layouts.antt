-- The layout of each form, from the layouts of the terms in it.
use Rattle.std.proofs.Common.{◌≡◌, ◌∙◌, sym, ap, refl, ℕ, ◌+◌, List, map, Option, None, Some, option_map}
use Rattle.pads_expr.specs.declared.expr.Expr.{Expr}
use Rattle.pads_dispatch.specs.declared.base.Base.{Base}
use Rattle.pads_calc.specs.declared.term.Arm.{Arm, fold-Arm, fold_out-Arm}
use Rattle.pads_calc.specs.declared.term.Case.{Case, fold-Case, fold_out-Case}
use Rattle.pads_calc.specs.declared.term.Part.{Part, fold-Part, fold_out-Part}
use Rattle.pads_calc.specs.declared.term.ComputedForm.{ComputedForm}
use Rattle.pads_calc.specs.declared.term.Seq.{Seq, fold-Seq, fold_out-Seq}
use Rattle.pads_calc.specs.declared.term.Term.{Term, Term-F, fold-roll-Term, roll-Term, map-Term}
use Rattle.pads_calc.specs.declared.term.Term.TheShapes.{former-Seq-sep}
use Rattle.pads_calc.specs.declared.term.Term.TheVariants as term
use Rattle.pads_calc.proofs.Rolls.{mapped}
use Rattle.pads_image.specs.declared.op.Op.TheVariants as op
use Rattle.pads_image.specs.Blocks.{Block, PartBlock, CaseBlock, single, followed, struct_block, alt_block, switch_block, scan_block, term_block, arm_block, case_block, part_block, seq_block, seq_code, stop_size, sep_size, layout, part_layout, case_layout, seq_layout}

abbrev of_arm : Arm → Block
of_arm = fold-Arm Block Block CaseBlock PartBlock Block term_block arm_block case_block part_block seq_block

abbrev of_case : Case → CaseBlock
of_case = fold-Case Block Block CaseBlock PartBlock Block term_block arm_block case_block part_block seq_block

abbrev of_part : Part → PartBlock
of_part = fold-Part Block Block CaseBlock PartBlock Block term_block arm_block case_block part_block seq_block

abbrev of_seq : Seq → Block
of_seq = fold-Seq Block Block CaseBlock PartBlock Block term_block arm_block case_block part_block seq_block

of_part-is : (part : Part) → of_part part ≡ part_layout part
unfolding layout
of_part-is part = fold_out-Part Block Block CaseBlock PartBlock Block term_block arm_block case_block part_block seq_block part

of_arm-is : (arm : Arm) → of_arm arm ≡ layout arm.term
unfolding layout
of_arm-is arm = fold_out-Arm Block Block CaseBlock PartBlock Block term_block arm_block case_block part_block seq_block arm

of_case-is : (case : Case) → of_case case ≡ case_layout case
of_case-is case =
    fold_out-Case Block Block CaseBlock PartBlock Block term_block arm_block case_block part_block seq_block case
    ∙ ap (λ (b : Block). let there : CaseBlock = record { key = case.key; block = b } in there) (of_arm-is case.arm)

sep-mapped : {A B : Type 0} (f : A → B) (o : Option A) → (former-Seq-sep).map A B f o ≡ option_map f o
sep-mapped f None = refl
sep-mapped f (Some x) = refl

abbrev seq_with : Seq → Option Block → Option Block → Block
seq_with s sep stop = record {
  size = 6 + (layout s.elem).size + stop_size stop + sep_size sep;
  code = λ p. seq_code stop sep (layout s.elem) p s.size s.last s.elts;
}

of_seq-is : (s : Seq) → of_seq s ≡ seq_layout s
unfolding layout
of_seq-is s =
    fold_out-Seq Block Block CaseBlock PartBlock Block term_block arm_block case_block part_block seq_block s
    ∙ ap (λ sep. seq_with s sep ((former-Seq-sep).map Term Block layout s.stop)) (sep-mapped layout s.sep)
    ∙ ap (λ stop. seq_with s (option_map layout s.sep) stop) (sep-mapped layout s.stop)

layout-roll : (layer : Term-F Term Arm Case Part Seq) → layout (roll-Term layer)
    ≡ term_block (map-Term Term Arm Case Part Seq Block Block CaseBlock PartBlock Block layout of_arm of_case of_part of_seq layer)
unfolding layout
layout-roll layer = fold-roll-Term Block Block CaseBlock PartBlock Block term_block arm_block case_block part_block seq_block layer

pub layout-Unit : layout term.Unit ≡ single op.Unit
layout-Unit = ap layout (sym term.rolls-Unit) ∙ layout-roll Term-F.Unit

pub layout-Base : (base : Base) (args : List Expr) → layout (term.Base base args) ≡ single (op.Base base args)
layout-Base base args = ap layout (sym (term.rolls-Base base args)) ∙ layout-roll (Term-F.Base base args)

pub layout-Lit : (literal : List ℕ) → layout (term.Lit literal) ≡ single (op.Lit literal)
layout-Lit literal = ap layout (sym (term.rolls-Lit literal)) ∙ layout-roll (Term-F.Lit literal)

pub layout-Eor : layout term.Eor ≡ single op.Eor
layout-Eor = ap layout (sym term.rolls-Eor) ∙ layout-roll Term-F.Eor

pub layout-Struct : (parts : List Part) → layout (term.Struct parts) ≡ struct_block (map part_layout parts)
layout-Struct parts = ap layout (sym (term.rolls-Struct parts)) ∙ layout-roll (Term-F.Struct parts) ∙ ap struct_block (mapped of_part part_layout of_part-is parts)

pub layout-Alt : (arms : List Arm) → layout (term.Alt arms) ≡ alt_block (map (λ arm. layout arm.term) arms)
layout-Alt arms = ap layout (sym (term.rolls-Alt arms)) ∙ layout-roll (Term-F.Alt arms) ∙ ap alt_block (mapped of_arm (λ arm. layout arm.term) of_arm-is arms)

pub layout-Switch : (e : Expr) (cases : List Case) → layout (term.Switch e cases) ≡ switch_block e (map case_layout cases)
layout-Switch e cases = ap layout (sym (term.rolls-Switch e cases)) ∙ layout-roll (Term-F.Switch e cases) ∙ ap (switch_block e) (mapped of_case case_layout of_case-is cases)

pub layout-Guard : (inner : Term) (binder : ℕ) (condition : Expr) → layout (term.Guard inner binder condition) ≡ followed (layout inner) (op.Guard binder condition)
layout-Guard inner binder condition = ap layout (sym (term.rolls-Guard inner binder condition)) ∙ layout-roll (Term-F.Guard inner binder condition)

pub layout-Seq : (s : Seq) → layout (term.Seq s) ≡ seq_layout s
layout-Seq s = ap layout (sym (term.rolls-Seq s)) ∙ layout-roll (Term-F.Seq s) ∙ of_seq-is s

pub layout-Call : (number : ℕ) (args : List Expr) → layout (term.Call number args) ≡ single (op.Call number args)
layout-Call number args = ap layout (sym (term.rolls-Call number args)) ∙ layout-roll (Term-F.Call number args)

pub layout-Compute : (e : Expr) (form : ComputedForm) → layout (term.Compute e form) ≡ single (op.Compute e form)
layout-Compute e form = ap layout (sym (term.rolls-Compute e form)) ∙ layout-roll (Term-F.Compute e form)

pub layout-Absorb : (inner : Term) → layout (term.Absorb inner) ≡ followed (layout inner) op.Absorb
layout-Absorb inner = ap layout (sym (term.rolls-Absorb inner)) ∙ layout-roll (Term-F.Absorb inner)

pub layout-Scan : (inner : Term) → layout (term.Scan inner) ≡ scan_block (layout inner)
layout-Scan inner = ap layout (sym (term.rolls-Scan inner)) ∙ layout-roll (Term-F.Scan inner)

pub ruleset layout_rules = (
  layout-Unit,
  layout-Base,
  layout-Lit,
  layout-Eor,
  layout-Struct,
  layout-Alt,
  layout-Switch,
  layout-Guard,
  layout-Seq,
  layout-Call,
  layout-Compute,
  layout-Absorb,
  layout-Scan,
)
