-- The canonical bytes of each form, from those of the terms in it.
use Rattle.std.proofs.Common.{◌≡◌, ◌∙◌, sym, ap, refl, ℕ, List, [], map, Option, None, Some, option_map}
use Rattle.pads_value.specs.declared.value.Val.{Val, out-Val}
use Rattle.pads_value.specs.declared.value.Val.TheVariants as val
use Rattle.pads_expr.specs.declared.expr.Expr.{Expr}
use Rattle.pads_expr.specs.Value.{Pairs}
use Rattle.pads_dispatch.specs.declared.base.Base.{Base}
use Rattle.pads_calc.specs.declared.term.Arm.{Arm, fold-Arm, fold_out-Arm}
use Rattle.pads_calc.specs.declared.term.Case.{Case, fold-Case, fold_out-Case}
use Rattle.pads_calc.specs.declared.term.Part.{Part, fold-Part, fold_out-Part}
use Rattle.pads_calc.specs.declared.term.ComputedForm.{ComputedForm}
use Rattle.pads_calc.specs.declared.term.Seq.{Seq, fold-Seq, fold_out-Seq}
use Rattle.pads_calc.specs.declared.term.Term.{Term, Term-F, fold-roll-Term, roll-Term, map-Term}
use Rattle.pads_calc.specs.declared.term.Term.TheShapes.{former-Seq-sep}
use Rattle.pads_calc.specs.declared.term.Term.TheVariants as term
use Rattle.pads_calc.specs.Arguments.{arguments}
use Rattle.pads_calc.proofs.Rolls.{mapped}
use Rattle.pads_forms.specs.Shapes.{tuple_in, branch_in, array_in}
use Rattle.law_canonical.specs.Canonical.{Speller, NamedSpeller, SeqSpeller, CallSpeller, spelled, of_unit, of_base, of_computed, of_struct, of_branch, of_array, term_step, arm_step, case_step, part_step, seq_step}

sep-mapped : {A B : Type 0} (f : A → B) (o : Option A) → (former-Seq-sep).map A B f o ≡ option_map f o
sep-mapped f None = refl
sep-mapped f (Some x) = refl

module _ (call : CallSpeller) where
  -- how the parts of a term spell
  abbrev pub part_speller : Part → NamedSpeller
  part_speller part = record { name = part.name; speller = spelled call part.term }

  abbrev pub arm_speller : Arm → Speller
  arm_speller arm = spelled call arm.term

  abbrev pub case_speller : Case → Speller
  case_speller case = spelled call case.arm.term

  abbrev pub seq_speller : Seq → SeqSpeller
  seq_speller s = record { elem = spelled call s.elem; sep = option_map (spelled call) s.sep }

  abbrev step_of : Term-F Speller Speller Speller NamedSpeller SeqSpeller → Speller
  step_of = term_step call

  abbrev of_arm : Arm → Speller
  of_arm = fold-Arm Speller Speller Speller NamedSpeller SeqSpeller step_of arm_step case_step part_step seq_step

  abbrev of_case : Case → Speller
  of_case = fold-Case Speller Speller Speller NamedSpeller SeqSpeller step_of arm_step case_step part_step seq_step

  abbrev of_part : Part → NamedSpeller
  of_part = fold-Part Speller Speller Speller NamedSpeller SeqSpeller step_of arm_step case_step part_step seq_step

  abbrev of_seq : Seq → SeqSpeller
  of_seq = fold-Seq Speller Speller Speller NamedSpeller SeqSpeller step_of arm_step case_step part_step seq_step

  of_part-is : (part : Part) → of_part part ≡ part_speller part
  unfolding spelled
  of_part-is part = fold_out-Part Speller Speller Speller NamedSpeller SeqSpeller step_of arm_step case_step part_step seq_step part

  of_arm-is : (arm : Arm) → of_arm arm ≡ arm_speller arm
  unfolding spelled
  of_arm-is arm = fold_out-Arm Speller Speller Speller NamedSpeller SeqSpeller step_of arm_step case_step part_step seq_step arm

  of_case-is : (case : Case) → of_case case ≡ case_speller case
  of_case-is case =
      fold_out-Case Speller Speller Speller NamedSpeller SeqSpeller step_of arm_step case_step part_step seq_step case ∙ of_arm-is case.arm

  abbrev with_sep : Seq → Option Speller → SeqSpeller
  with_sep s sep = record { elem = spelled call s.elem; sep = sep }

  of_seq-is : (s : Seq) → of_seq s ≡ seq_speller s
  unfolding spelled
  of_seq-is s =
      fold_out-Seq Speller Speller Speller NamedSpeller SeqSpeller step_of arm_step case_step part_step seq_step s
      ∙ ap (with_sep s) (sep-mapped (spelled call) s.sep)

  -- one layer
  spelled-roll : (layer : Term-F Term Arm Case Part Seq) → spelled call (roll-Term layer)
      ≡ step_of (map-Term Term Arm Case Part Seq Speller Speller Speller NamedSpeller SeqSpeller (spelled call) of_arm of_case of_part of_seq layer)
  unfolding spelled
  spelled-roll layer = fold-roll-Term Speller Speller Speller NamedSpeller SeqSpeller step_of arm_step case_step part_step seq_step layer

  pub spelled-Unit : (env : Pairs) (v : Val) → spelled call term.Unit env v ≡ of_unit (Some []) v
  spelled-Unit env v =
      ap (λ t. spelled call t env v) (sym term.rolls-Unit) ∙ ap (λ (s : Speller). s env v) (spelled-roll Term-F.Unit)

  pub spelled-Base : (base : Base) (args : List Expr) (env : Pairs) (v : Val) → spelled call (term.Base base args) env v ≡ of_base base (arguments args env) v
  spelled-Base base args env v =
      ap (λ t. spelled call t env v) (sym (term.rolls-Base base args)) ∙ ap (λ (s : Speller). s env v) (spelled-roll (Term-F.Base base args))

  pub spelled-Lit : (literal : List ℕ) (env : Pairs) (v : Val) → spelled call (term.Lit literal) env v ≡ of_unit (Some literal) v
  spelled-Lit literal env v =
      ap (λ t. spelled call t env v) (sym (term.rolls-Lit literal)) ∙ ap (λ (s : Speller). s env v) (spelled-roll (Term-F.Lit literal))

  pub spelled-Eor : (env : Pairs) (v : Val) → spelled call term.Eor env v ≡ of_unit (Some []) v
  spelled-Eor env v =
      ap (λ t. spelled call t env v) (sym term.rolls-Eor) ∙ ap (λ (s : Speller). s env v) (spelled-roll Term-F.Eor)

  pub spelled-Struct : (parts : List Part) (env : Pairs) (v : Val) → spelled call (term.Struct parts) env v ≡ of_struct (map part_speller parts) env (tuple_in (out-Val v))
  spelled-Struct parts env v =
      ap (λ t. spelled call t env v) (sym (term.rolls-Struct parts)) ∙ ap (λ (s : Speller). s env v) (spelled-roll (Term-F.Struct parts))
      ∙ ap (λ (parts : List NamedSpeller). of_struct parts env (tuple_in (out-Val v))) (mapped of_part part_speller of_part-is parts)

  pub spelled-Alt : (arms : List Arm) (env : Pairs) (v : Val) → spelled call (term.Alt arms) env v ≡ of_branch (map arm_speller arms) env (branch_in (out-Val v))
  spelled-Alt arms env v =
      ap (λ t. spelled call t env v) (sym (term.rolls-Alt arms)) ∙ ap (λ (s : Speller). s env v) (spelled-roll (Term-F.Alt arms))
      ∙ ap (λ (arms : List Speller). of_branch arms env (branch_in (out-Val v))) (mapped of_arm arm_speller of_arm-is arms)

  pub spelled-Switch : (e : Expr) (cases : List Case) (env : Pairs) (v : Val) → spelled call (term.Switch e cases) env v ≡ of_branch (map case_speller cases) env (branch_in (out-Val v))
  spelled-Switch e cases env v =
      ap (λ t. spelled call t env v) (sym (term.rolls-Switch e cases)) ∙ ap (λ (s : Speller). s env v) (spelled-roll (Term-F.Switch e cases))
      ∙ ap (λ (cases : List Speller). of_branch cases env (branch_in (out-Val v))) (mapped of_case case_speller of_case-is cases)

  pub spelled-Guard : (inner : Term) (binder : ℕ) (condition : Expr) (env : Pairs) (v : Val) → spelled call (term.Guard inner binder condition) env v ≡ spelled call inner env v
  spelled-Guard inner binder condition env v =
      ap (λ t. spelled call t env v) (sym (term.rolls-Guard inner binder condition)) ∙ ap (λ (s : Speller). s env v) (spelled-roll (Term-F.Guard inner binder condition))

  pub spelled-Seq : (s : Seq) (env : Pairs) (v : Val) → spelled call (term.Seq s) env v ≡ of_array (seq_speller s) env (array_in (out-Val v))
  spelled-Seq s env v =
      ap (λ t. spelled call t env v) (sym (term.rolls-Seq s)) ∙ ap (λ (s : Speller). s env v) (spelled-roll (Term-F.Seq s))
      ∙ ap (λ (s : SeqSpeller). of_array s env (array_in (out-Val v))) (of_seq-is s)

  pub spelled-Call : (number : ℕ) (args : List Expr) (env : Pairs) (v : Val) → spelled call (term.Call number args) env v ≡ call number args env v
  spelled-Call number args env v =
      ap (λ t. spelled call t env v) (sym (term.rolls-Call number args)) ∙ ap (λ (s : Speller). s env v) (spelled-roll (Term-F.Call number args))

  pub spelled-Compute : (e : Expr) (form : ComputedForm) (env : Pairs) (v : Val) → spelled call (term.Compute e form) env v ≡ of_computed form v
  spelled-Compute e form env v =
      ap (λ t. spelled call t env v) (sym (term.rolls-Compute e form)) ∙ ap (λ (s : Speller). s env v) (spelled-roll (Term-F.Compute e form))

  pub spelled-Absorb : (inner : Term) (env : Pairs) (v : Val) → spelled call (term.Absorb inner) env v ≡ of_unit (spelled call inner env val.Unit) v
  spelled-Absorb inner env v =
      ap (λ t. spelled call t env v) (sym (term.rolls-Absorb inner)) ∙ ap (λ (s : Speller). s env v) (spelled-roll (Term-F.Absorb inner))

  pub spelled-Scan : (inner : Term) (env : Pairs) (v : Val) → spelled call (term.Scan inner) env v ≡ spelled call inner env v
  spelled-Scan inner env v =
      ap (λ t. spelled call t env v) (sym (term.rolls-Scan inner)) ∙ ap (λ (s : Speller). s env v) (spelled-roll (Term-F.Scan inner))

-- every form's equation
pub ruleset spelled_rules = (spelled-Unit, spelled-Base, spelled-Lit, spelled-Eor, spelled-Struct, spelled-Alt, spelled-Switch, spelled-Guard, spelled-Seq, spelled-Call, spelled-Compute, spelled-Absorb, spelled-Scan)
