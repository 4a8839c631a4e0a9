-- The layer of each form of term.
use Rattle.std.proofs.Common.{◌≡◌, ◌∙◌, sym, ap, ℕ, List}
use Rattle.pads_expr.specs.declared.expr.Expr.{Expr}
use Rattle.pads_dispatch.specs.declared.base.Base.{Base}
use Rattle.pads_calc.specs.declared.term.Arm.{Arm}
use Rattle.pads_calc.specs.declared.term.Case.{Case}
use Rattle.pads_calc.specs.declared.term.Part.{Part}
use Rattle.pads_calc.specs.declared.term.ComputedForm.{ComputedForm}
use Rattle.pads_calc.specs.declared.term.Seq.{Seq}
use Rattle.pads_calc.specs.declared.term.Term.{Term, Term-F, out-Term, out-roll-Term}
use Rattle.pads_calc.specs.declared.term.Term.TheVariants as term

pub out-Unit : out-Term term.Unit ≡ Term-F.Unit
out-Unit = ap out-Term (sym term.rolls-Unit) ∙ out-roll-Term Term-F.Unit

pub out-Base : (base : Base) (args : List Expr) → out-Term (term.Base base args) ≡ Term-F.Base base args
out-Base base args = ap out-Term (sym (term.rolls-Base base args)) ∙ out-roll-Term (Term-F.Base base args)

pub out-Lit : (literal : List ℕ) → out-Term (term.Lit literal) ≡ Term-F.Lit literal
out-Lit literal = ap out-Term (sym (term.rolls-Lit literal)) ∙ out-roll-Term (Term-F.Lit literal)

pub out-Eor : out-Term term.Eor ≡ Term-F.Eor
out-Eor = ap out-Term (sym term.rolls-Eor) ∙ out-roll-Term Term-F.Eor

pub out-Struct : (parts : List Part) → out-Term (term.Struct parts) ≡ Term-F.Struct parts
out-Struct parts = ap out-Term (sym (term.rolls-Struct parts)) ∙ out-roll-Term (Term-F.Struct parts)

pub out-Alt : (arms : List Arm) → out-Term (term.Alt arms) ≡ Term-F.Alt arms
out-Alt arms = ap out-Term (sym (term.rolls-Alt arms)) ∙ out-roll-Term (Term-F.Alt arms)

pub out-Switch : (e : Expr) (cases : List Case) → out-Term (term.Switch e cases) ≡ Term-F.Switch e cases
out-Switch e cases = ap out-Term (sym (term.rolls-Switch e cases)) ∙ out-roll-Term (Term-F.Switch e cases)

pub out-Guard : (inner : Term) (binder : ℕ) (condition : Expr) → out-Term (term.Guard inner binder condition) ≡ Term-F.Guard inner binder condition
out-Guard inner binder condition = ap out-Term (sym (term.rolls-Guard inner binder condition)) ∙ out-roll-Term (Term-F.Guard inner binder condition)

pub out-Seq : (s : Seq) → out-Term (term.Seq s) ≡ Term-F.Seq s
out-Seq s = ap out-Term (sym (term.rolls-Seq s)) ∙ out-roll-Term (Term-F.Seq s)

pub out-Call : (number : ℕ) (args : List Expr) → out-Term (term.Call number args) ≡ Term-F.Call number args
out-Call number args = ap out-Term (sym (term.rolls-Call number args)) ∙ out-roll-Term (Term-F.Call number args)

pub out-Compute : (e : Expr) (form : ComputedForm) → out-Term (term.Compute e form) ≡ Term-F.Compute e form
out-Compute e form = ap out-Term (sym (term.rolls-Compute e form)) ∙ out-roll-Term (Term-F.Compute e form)

pub out-Absorb : (inner : Term) → out-Term (term.Absorb inner) ≡ Term-F.Absorb inner
out-Absorb inner = ap out-Term (sym (term.rolls-Absorb inner)) ∙ out-roll-Term (Term-F.Absorb inner)

pub out-Scan : (inner : Term) → out-Term (term.Scan inner) ≡ Term-F.Scan inner
out-Scan inner = ap out-Term (sym (term.rolls-Scan inner)) ∙ out-roll-Term (Term-F.Scan inner)

pub ruleset layers = (
  out-Unit,
  out-Base,
  out-Lit,
  out-Eor,
  out-Struct,
  out-Alt,
  out-Switch,
  out-Guard,
  out-Seq,
  out-Call,
  out-Compute,
  out-Absorb,
  out-Scan,
)
