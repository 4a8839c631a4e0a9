-- The code and the size of each form of term.
use Rattle.std.proofs.Common.{◌≡◌, ap, ℕ, List, [], ◌∷◌, map}
use Rattle.pads_dispatch.specs.declared.base.Base.{Base}
use Rattle.pads_expr.specs.declared.expr.Expr.{Expr}
use Rattle.pads_calc.specs.declared.term.Arm.{Arm}
use Rattle.pads_calc.specs.declared.term.Case.{Case}
use Rattle.pads_calc.specs.declared.term.ComputedForm.{ComputedForm}
use Rattle.pads_calc.specs.declared.term.Part.{Part}
use Rattle.pads_calc.specs.declared.term.Seq.{Seq}
use Rattle.pads_calc.specs.declared.term.Term.{Term}
use Rattle.pads_calc.specs.declared.term.Term.TheVariants as term
use Rattle.pads_image.specs.declared.op.Op.TheVariants as op
use Rattle.pads_image.specs.Blocks.{Block, alt_block, case_layout, followed, scan_block, seq_layout, struct_block, switch_block, layout, part_layout}
use Rattle.pads_image.proofs.Layouts.{layout-Unit, layout-Base, layout-Lit, layout-Eor, layout-Struct, layout-Alt, layout-Switch, layout-Guard, layout-Seq, layout-Call, layout-Compute, layout-Absorb, layout-Scan}

pub code-Unit : (p : ℕ) → (layout term.Unit).code p ≡ op.Unit ∷ []
code-Unit p = ap (λ (b : Block). b.code p) layout-Unit

pub code-Base : (base : Base) (args : List Expr) (p : ℕ) → (layout (term.Base base args)).code p ≡ op.Base base args ∷ []
code-Base base args p = ap (λ (b : Block). b.code p) (layout-Base base args)

pub code-Lit : (literal : List ℕ) (p : ℕ) → (layout (term.Lit literal)).code p ≡ op.Lit literal ∷ []
code-Lit literal p = ap (λ (b : Block). b.code p) (layout-Lit literal)

pub code-Eor : (p : ℕ) → (layout term.Eor).code p ≡ op.Eor ∷ []
code-Eor p = ap (λ (b : Block). b.code p) layout-Eor

pub code-Call : (number : ℕ) (args : List Expr) (p : ℕ) → (layout (term.Call number args)).code p ≡ op.Call number args ∷ []
code-Call number args p = ap (λ (b : Block). b.code p) (layout-Call number args)

pub code-Compute : (e : Expr) (form : ComputedForm) (p : ℕ) → (layout (term.Compute e form)).code p ≡ op.Compute e form ∷ []
code-Compute e form p = ap (λ (b : Block). b.code p) (layout-Compute e form)

pub code-Struct : (parts : List Part) (p : ℕ) → (layout (term.Struct parts)).code p ≡ (struct_block (map part_layout parts)).code p
code-Struct parts p = ap (λ (b : Block). b.code p) (layout-Struct parts)

pub code-Guard : (inner : Term) (binder : ℕ) (condition : Expr) (p : ℕ) → (layout (term.Guard inner binder condition)).code p ≡ (followed (layout inner) (op.Guard binder condition)).code p
code-Guard inner binder condition p = ap (λ (b : Block). b.code p) (layout-Guard inner binder condition)

pub code-Absorb : (inner : Term) (p : ℕ) → (layout (term.Absorb inner)).code p ≡ (followed (layout inner) op.Absorb).code p
code-Absorb inner p = ap (λ (b : Block). b.code p) (layout-Absorb inner)

pub code-Alt : (arms : List Arm) (p : ℕ) → (layout (term.Alt arms)).code p ≡ (alt_block (map (λ arm. layout arm.term) arms)).code p
code-Alt arms p = ap (λ (b : Block). b.code p) (layout-Alt arms)

pub code-Switch : (e : Expr) (cases : List Case) (p : ℕ) → (layout (term.Switch e cases)).code p ≡ (switch_block e (map case_layout cases)).code p
code-Switch e cases p = ap (λ (b : Block). b.code p) (layout-Switch e cases)

pub code-Seq : (s : Seq) (p : ℕ) → (layout (term.Seq s)).code p ≡ (seq_layout s).code p
code-Seq s p = ap (λ (b : Block). b.code p) (layout-Seq s)

pub code-Scan : (inner : Term) (p : ℕ) → (layout (term.Scan inner)).code p ≡ (scan_block (layout inner)).code p
code-Scan inner p = ap (λ (b : Block). b.code p) (layout-Scan inner)

pub ruleset code_rules = (
  code-Unit,
  code-Base,
  code-Lit,
  code-Eor,
  code-Struct,
  code-Alt,
  code-Switch,
  code-Guard,
  code-Seq,
  code-Call,
  code-Compute,
  code-Absorb,
  code-Scan,
)
