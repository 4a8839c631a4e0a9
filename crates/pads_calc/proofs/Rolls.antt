-- The equations of the calculus, form by form: what a term reads as, from what the terms in it read as.
use Rattle.std.proofs.Common.{◌≡◌, ◌∙◌, sym, ap, refl, ℕ, List, [], ◌∷◌, map, Option, None, Some, option_map}
use Rattle.pads_expr.specs.declared.expr.Expr.{Expr}
use Rattle.pads_expr.specs.Value.{Pairs, value}
use Rattle.pads_expr.specs.Worth.{worth_or_none}
use Rattle.pads_dispatch.specs.declared.base.Base.{Base}
use Rattle.pads_calc.specs.declared.term.Arm.{Arm, fold-Arm, fold_out-Arm}
use Rattle.pads_calc.specs.declared.term.Case.{Case, fold-Case, fold_out-Case}
use Rattle.pads_calc.specs.declared.term.Part.{Part, fold-Part, fold_out-Part}
use Rattle.pads_calc.specs.declared.term.ComputedForm.{ComputedForm}
use Rattle.pads_calc.specs.declared.term.Seq.{Seq, fold-Seq, fold_out-Seq}
use Rattle.pads_calc.specs.declared.term.Term.{Term, Term-F, fold-roll-Term, roll-Term, map-Term}
use Rattle.pads_calc.specs.declared.term.Term.TheShapes.{former-Seq-sep}
use Rattle.pads_calc.specs.declared.term.Term.TheVariants as term
use Rattle.pads_calc.specs.Arguments.{argument, arguments}
use Rattle.pads_calc.specs.Arrays.{SeqReader, seq_of}
use Rattle.pads_calc.specs.Calculus.{Caller, read, part_reader, arm_reader, case_reader, option_reader, seq_reader, term_step, arm_step, case_step, part_step, seq_step}
use Rattle.pads_calc.specs.Choices.{Keyed, alt_from, chosen, switch_of}
use Rattle.pads_calc.specs.Leaves.{unit_of, lit_of, eor_of, base_of, compute_of}
use Rattle.pads_calc.specs.Readings.{Subject, Reader}
use Rattle.pads_calc.specs.Structs.{Named, in_turn, struct_of}
use Rattle.pads_calc.specs.Wrappers.{guard_of, absorb_of, scan}

map-map : {A B C : Type 0} (f : A → B) (g : B → C) (xs : List A) → map g (map f xs) ≡ map (λ x. g (f x)) xs
map-map f g [] = refl
map-map f g (x ∷ xs) = ap (λ rest. g (f x) ∷ rest) (map-map f g xs)

sep-mapped : {A B : Type 0} (f : A → B) (o : Option A) → (former-Seq-sep).map A B f o ≡ option_map f o
sep-mapped f None = refl
sep-mapped f (Some x) = refl

pub mapped : {A B : Type 0} (f g : A → B) → ((x : A) → f x ≡ g x) → (xs : List A) → map f xs ≡ map g xs
mapped f g same xs = ap (λ h. map h xs) (λ i x. same x i)

module _ (subject : Subject) (call : Caller) where
  abbrev keyed : Case → Keyed
  keyed case = record { key = case.key; reader = case_reader subject call case }

  abbrev step_of : Term-F Reader Reader Keyed Named SeqReader → Reader
  step_of = term_step subject call

  abbrev of_arm : Arm → Reader
  of_arm = fold-Arm Reader Reader Keyed Named SeqReader step_of arm_step case_step part_step seq_step

  abbrev of_case : Case → Keyed
  of_case = fold-Case Reader Reader Keyed Named SeqReader step_of arm_step case_step part_step seq_step

  abbrev of_part : Part → Named
  of_part = fold-Part Reader Reader Keyed Named SeqReader step_of arm_step case_step part_step seq_step

  abbrev of_seq : Seq → SeqReader
  of_seq = fold-Seq Reader Reader Keyed Named SeqReader step_of arm_step case_step part_step seq_step

  of_part-is : (part : Part) → of_part part ≡ part_reader subject call part
  unfolding read
  of_part-is part = fold_out-Part Reader Reader Keyed Named SeqReader step_of arm_step case_step part_step seq_step part

  of_arm-is : (arm : Arm) → of_arm arm ≡ arm_reader subject call arm
  unfolding read
  of_arm-is arm = fold_out-Arm Reader Reader Keyed Named SeqReader step_of arm_step case_step part_step seq_step arm

  of_case-is : (case : Case) → of_case case ≡ keyed case
  of_case-is case =
      fold_out-Case Reader Reader Keyed Named SeqReader step_of arm_step case_step part_step seq_step case
      ∙ ap (λ (r : Reader). let there : Keyed = record { key = case.key; reader = r } in there) (of_arm-is case.arm)

  abbrev with_terms : Reader → Option Reader → Option Reader → Seq → SeqReader
  with_terms elem sep stop s = record { elem = elem; sep = sep; size = s.size; last = s.last; stop = stop; elts = s.elts }

  of_seq-is : (s : Seq) → of_seq s ≡ seq_reader subject call s
  unfolding read
  of_seq-is s =
      fold_out-Seq Reader Reader Keyed Named SeqReader step_of arm_step case_step part_step seq_step s
      ∙ ap (λ sep. with_terms (read subject call s.elem) sep ((former-Seq-sep).map Term Reader (read subject call) s.stop) s) (sep-mapped (read subject call) s.sep)
      ∙ ap (λ stop. with_terms (read subject call s.elem) (option_reader subject call s.sep) stop s) (sep-mapped (read subject call) s.stop)

  -- one layer
  read-roll : (layer : Term-F Term Arm Case Part Seq) → read subject call (roll-Term layer)
      ≡ step_of (map-Term Term Arm Case Part Seq Reader Reader Keyed Named SeqReader (read subject call) of_arm of_case of_part of_seq layer)
  unfolding read
  read-roll layer = fold-roll-Term Reader Reader Keyed Named SeqReader step_of arm_step case_step part_step seq_step layer

  pub read-Unit : (env : Pairs) (i : ℕ) → read subject call term.Unit env i ≡ unit_of subject.origin i
  read-Unit env i = ap (λ t. read subject call t env i) (sym term.rolls-Unit) ∙ ap (λ (r : Reader). r env i) (read-roll Term-F.Unit)

  pub read-Base : (base : Base) (args : List Expr) (env : Pairs) (i : ℕ) →
      read subject call (term.Base base args) env i ≡ base_of subject base (arguments args env) i
  read-Base base args env i =
      ap (λ t. read subject call t env i) (sym (term.rolls-Base base args)) ∙ ap (λ (r : Reader). r env i) (read-roll (Term-F.Base base args))

  pub read-Struct : (parts : List Part) (env : Pairs) (i : ℕ) →
      read subject call (term.Struct parts) env i ≡ struct_of subject.origin (in_turn (map (part_reader subject call) parts) env i) i
  read-Struct parts env i =
      ap (λ t. read subject call t env i) (sym (term.rolls-Struct parts)) ∙ ap (λ (r : Reader). r env i) (read-roll (Term-F.Struct parts))
      ∙ ap (λ (parts : List Named). struct_of subject.origin (in_turn parts env i) i) (mapped of_part (part_reader subject call) of_part-is parts)

  pub read-Lit : (literal : List ℕ) (env : Pairs) (i : ℕ) → read subject call (term.Lit literal) env i ≡ lit_of subject literal i
  read-Lit literal env i =
      ap (λ t. read subject call t env i) (sym (term.rolls-Lit literal)) ∙ ap (λ (r : Reader). r env i) (read-roll (Term-F.Lit literal))

  pub read-Eor : (env : Pairs) (i : ℕ) → read subject call term.Eor env i ≡ eor_of subject i
  read-Eor env i = ap (λ t. read subject call t env i) (sym term.rolls-Eor) ∙ ap (λ (r : Reader). r env i) (read-roll Term-F.Eor)

  pub read-Alt : (arms : List Arm) (env : Pairs) (i : ℕ) → read subject call (term.Alt arms) env i ≡ alt_from subject.origin 0 (map (arm_reader subject call) arms) env i
  read-Alt arms env i =
      ap (λ t. read subject call t env i) (sym (term.rolls-Alt arms)) ∙ ap (λ (r : Reader). r env i) (read-roll (Term-F.Alt arms))
      ∙ ap (λ arms. alt_from subject.origin 0 arms env i) (mapped of_arm (arm_reader subject call) of_arm-is arms)

  pub read-Switch : (e : Expr) (cases : List Case) (env : Pairs) (i : ℕ) → read subject call (term.Switch e cases) env i ≡ switch_of subject.origin (chosen (argument e env) (map (λ c. c.key) cases)) (map (case_reader subject call) cases) env i
  read-Switch e cases env i =
      ap (λ t. read subject call t env i) (sym (term.rolls-Switch e cases)) ∙ ap (λ (r : Reader). r env i) (read-roll (Term-F.Switch e cases))
      ∙ ap (λ (cases : List Keyed). switch_of subject.origin (chosen (argument e env) (map (λ c. c.key) cases)) (map (λ c. c.reader) cases) env i) (mapped of_case keyed of_case-is cases)
      ∙ ap (λ keys. switch_of subject.origin (chosen (argument e env) keys) (map (λ c. c.reader) (map keyed cases)) env i) (map-map keyed (λ c. c.key) cases)
      ∙ ap (λ readers. switch_of subject.origin (chosen (argument e env) (map (λ c. c.key) cases)) readers env i) (map-map keyed (λ c. c.reader) cases)

  pub read-Guard : (inner : Term) (binder : ℕ) (condition : Expr) (env : Pairs) (i : ℕ) → read subject call (term.Guard inner binder condition) env i ≡ guard_of binder condition env (read subject call inner env i)
  read-Guard inner binder condition env i =
      ap (λ t. read subject call t env i) (sym (term.rolls-Guard inner binder condition)) ∙ ap (λ (r : Reader). r env i) (read-roll (Term-F.Guard inner binder condition))

  pub read-Seq : (s : Seq) (env : Pairs) (i : ℕ) → read subject call (term.Seq s) env i ≡ seq_of subject (seq_reader subject call s) env i
  read-Seq s env i =
      ap (λ t. read subject call t env i) (sym (term.rolls-Seq s)) ∙ ap (λ (r : Reader). r env i) (read-roll (Term-F.Seq s))
      ∙ ap (λ s. seq_of subject s env i) (of_seq-is s)

  pub read-Call : (number : ℕ) (args : List Expr) (env : Pairs) (i : ℕ) → read subject call (term.Call number args) env i ≡ call number args env i
  read-Call number args env i =
      ap (λ t. read subject call t env i) (sym (term.rolls-Call number args)) ∙ ap (λ (r : Reader). r env i) (read-roll (Term-F.Call number args))

  pub read-Compute : (e : Expr) (form : ComputedForm) (env : Pairs) (i : ℕ) → read subject call (term.Compute e form) env i ≡ compute_of subject.origin form (worth_or_none (value e env)) i
  read-Compute e form env i =
      ap (λ t. read subject call t env i) (sym (term.rolls-Compute e form)) ∙ ap (λ (r : Reader). r env i) (read-roll (Term-F.Compute e form))

  pub read-Absorb : (inner : Term) (env : Pairs) (i : ℕ) → read subject call (term.Absorb inner) env i ≡ absorb_of (read subject call inner env i)
  read-Absorb inner env i =
      ap (λ t. read subject call t env i) (sym (term.rolls-Absorb inner)) ∙ ap (λ (r : Reader). r env i) (read-roll (Term-F.Absorb inner))

  pub read-Scan : (inner : Term) (env : Pairs) (i : ℕ) → read subject call (term.Scan inner) env i ≡ scan subject (read subject call inner) env i
  read-Scan inner env i =
      ap (λ t. read subject call t env i) (sym (term.rolls-Scan inner)) ∙ ap (λ (r : Reader). r env i) (read-roll (Term-F.Scan inner))

-- every form's equation
pub ruleset read_rules = (
  read-Unit,
  read-Base,
  read-Lit,
  read-Eor,
  read-Struct,
  read-Alt,
  read-Switch,
  read-Guard,
  read-Seq,
  read-Call,
  read-Compute,
  read-Absorb,
  read-Scan,
)
