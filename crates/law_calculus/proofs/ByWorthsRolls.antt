-- What a term reads as by given worths, form by form, from what the terms in it read as; and what a call
-- reads as.
use Rattle.std.proofs.Common.{◌≡◌, ◌∙◌, sym, ap, refl, ℕ, zero, suc, List, map, Option, None, Some, option_map, slice_get}
use Rattle.std.proofs.lemmas.Simd.{map-map}
use Rattle.pads_value.specs.declared.cause.Cause.TheVariants as cause
use Rattle.pads_expr.specs.declared.expr.Expr.{Expr}
use Rattle.pads_expr.specs.Value.{Pairs}
use Rattle.pads_dispatch.specs.declared.base.Base.{Base}
use Rattle.pads_calc.specs.declared.decl.Decl.{Decl}
use Rattle.pads_calc.specs.declared.term.Arm.{Arm, fold-Arm, fold_out-Arm}
use Rattle.pads_calc.specs.declared.term.Case.{Case, fold-Case, fold_out-Case}
use Rattle.pads_calc.specs.declared.term.Part.{Part, fold-Part, fold_out-Part}
use Rattle.pads_calc.specs.declared.term.ComputedForm.{ComputedForm}
use Rattle.pads_calc.specs.declared.term.Seq.{Seq, fold-Seq, fold_out-Seq}
use Rattle.pads_calc.specs.declared.term.Term.{Term, Term-F, fold-roll-Term, roll-Term, map-Term}
use Rattle.pads_calc.specs.declared.term.Term.TheShapes.{former-Seq-sep}
use Rattle.pads_calc.specs.declared.term.Term.TheVariants as term
use Rattle.pads_calc.specs.Arrays.{SeqReader}
use Rattle.pads_calc.specs.Calculus.{Caller, arm_step, case_step, part_step, seq_step, body_of}
use Rattle.pads_calc.specs.Choices.{Keyed, alt_from, chosen, switch_of}
use Rattle.pads_calc.specs.Leaves.{unit_of, lit_of, eor_of, base_of, compute_of}
use Rattle.pads_calc.specs.Readings.{Subject, Reader, fails}
use Rattle.pads_calc.specs.Structs.{Named, in_turn, struct_of}
use Rattle.pads_calc.specs.Wrappers.{absorb_of, scan}
use Rattle.pads_calc.proofs.Rolls.{mapped}
use Rattle.law_calculus.specs.ByWorths.{Worths, argument_by, arguments_by, guard_by, seq_by, term_step_by, read_by, caller_by}

sep-mapped : {A B : Type 0} (f : A → B) (o : Option A) → (former-Seq-sep).map A B f o ≡ option_map f o
sep-mapped f None = refl
sep-mapped f (Some x) = refl

module _ (worths : Worths) (subject : Subject) (call : Caller) where
  abbrev reads : Term → Reader
  reads = read_by worths subject call

  -- what the parts of a term read as
  abbrev pub part_reader_by : Part → Named
  part_reader_by part = record { name = part.name; reader = read_by worths subject call part.term }

  abbrev pub arm_reader_by : Arm → Reader
  arm_reader_by arm = read_by worths subject call arm.term

  abbrev pub case_reader_by : Case → Reader
  case_reader_by case = read_by worths subject call case.arm.term

  abbrev keyed : Case → Keyed
  keyed case = record { key = case.key; reader = case_reader_by case }

  abbrev pub option_reader_by : Option Term → Option Reader
  option_reader_by t = option_map (read_by worths subject call) t

  abbrev pub seq_reader_by : Seq → SeqReader
  seq_reader_by s = record {
    elem = read_by worths subject call s.elem;
    sep = option_reader_by s.sep;
    size = s.size;
    last = s.last;
    stop = option_reader_by s.stop;
    elts = s.elts;
  }

  abbrev step_of : Term-F Reader Reader Keyed Named SeqReader → Reader
  step_of = term_step_by worths subject call

  abbrev of_arm : Arm → Reader
  of_arm = fold-Arm Reader Reader Keyed Named SeqReader step_of arm_step case_step part_step seq_step

  abbrev of_case : Case → Keyed
  of_case = fold-Case Reader Reader Keyed Named SeqReader step_of arm_step case_step part_step seq_step

  abbrev of_part : Part → Named
  of_part = fold-Part Reader Reader Keyed Named SeqReader step_of arm_step case_step part_step seq_step

  abbrev of_seq : Seq → SeqReader
  of_seq = fold-Seq Reader Reader Keyed Named SeqReader step_of arm_step case_step part_step seq_step

  of_part-is : (part : Part) → of_part part ≡ part_reader_by part
  unfolding read_by
  of_part-is part = fold_out-Part Reader Reader Keyed Named SeqReader step_of arm_step case_step part_step seq_step part

  of_arm-is : (arm : Arm) → of_arm arm ≡ arm_reader_by arm
  unfolding read_by
  of_arm-is arm = fold_out-Arm Reader Reader Keyed Named SeqReader step_of arm_step case_step part_step seq_step arm

  of_case-is : (case : Case) → of_case case ≡ keyed case
  of_case-is case =
      fold_out-Case Reader Reader Keyed Named SeqReader step_of arm_step case_step part_step seq_step case
      ∙ ap (λ (r : Reader). let there : Keyed = record { key = case.key; reader = r } in there) (of_arm-is case.arm)

  abbrev with_terms : Reader → Option Reader → Option Reader → Seq → SeqReader
  with_terms elem sep stop s = record { elem = elem; sep = sep; size = s.size; last = s.last; stop = stop; elts = s.elts }

  of_seq-is : (s : Seq) → of_seq s ≡ seq_reader_by s
  unfolding read_by
  of_seq-is s =
      fold_out-Seq Reader Reader Keyed Named SeqReader step_of arm_step case_step part_step seq_step s
      ∙ ap (λ sep. with_terms (reads s.elem) sep ((former-Seq-sep).map Term Reader reads s.stop) s) (sep-mapped reads s.sep)
      ∙ ap (λ stop. with_terms (reads s.elem) (option_reader_by s.sep) stop s) (sep-mapped reads s.stop)

  -- one layer, of a term that is rolled of it
  read-roll : (layer : Term-F Term Arm Case Part Seq) (t : Term) → roll-Term layer ≡ t → (env : Pairs) (i : ℕ) → reads t env i
      ≡ step_of (map-Term Term Arm Case Part Seq Reader Reader Keyed Named SeqReader reads of_arm of_case of_part of_seq layer) env i
  unfolding read_by
  read-roll layer t is env i =
      ap (λ t. reads t env i) (sym is)
      ∙ ap (λ (r : Reader). r env i) (fold-roll-Term Reader Reader Keyed Named SeqReader step_of arm_step case_step part_step seq_step layer)

  pub by-Unit : (env : Pairs) (i : ℕ) → reads term.Unit env i ≡ unit_of subject.origin i
  by-Unit env i = read-roll Term-F.Unit term.Unit term.rolls-Unit env i

  pub by-Base : (base : Base) (args : List Expr) (env : Pairs) (i : ℕ)
      → reads (term.Base base args) env i ≡ base_of subject base (arguments_by worths args env) i
  by-Base base args env i = read-roll (Term-F.Base base args) (term.Base base args) (term.rolls-Base base args) env i

  pub by-Lit : (literal : List ℕ) (env : Pairs) (i : ℕ) → reads (term.Lit literal) env i ≡ lit_of subject literal i
  by-Lit literal env i = read-roll (Term-F.Lit literal) (term.Lit literal) (term.rolls-Lit literal) env i

  pub by-Eor : (env : Pairs) (i : ℕ) → reads term.Eor env i ≡ eor_of subject i
  by-Eor env i = read-roll Term-F.Eor term.Eor term.rolls-Eor env i

  pub by-Struct : (parts : List Part) (env : Pairs) (i : ℕ)
      → reads (term.Struct parts) env i ≡ struct_of subject.origin (in_turn (map part_reader_by parts) env i) i
  by-Struct parts env i =
      read-roll (Term-F.Struct parts) (term.Struct parts) (term.rolls-Struct parts) env i
      ∙ ap (λ (parts : List Named). struct_of subject.origin (in_turn parts env i) i) (mapped of_part part_reader_by of_part-is parts)

  pub by-Alt : (arms : List Arm) (env : Pairs) (i : ℕ) → reads (term.Alt arms) env i ≡ alt_from subject.origin 0 (map arm_reader_by arms) env i
  by-Alt arms env i =
      read-roll (Term-F.Alt arms) (term.Alt arms) (term.rolls-Alt arms) env i
      ∙ ap (λ arms. alt_from subject.origin 0 arms env i) (mapped of_arm arm_reader_by of_arm-is arms)

  pub by-Switch : (e : Expr) (cases : List Case) (env : Pairs) (i : ℕ) → reads (term.Switch e cases) env i
      ≡ switch_of subject.origin (chosen (argument_by worths e env) (map (λ c. c.key) cases)) (map case_reader_by cases) env i
  by-Switch e cases env i =
      read-roll (Term-F.Switch e cases) (term.Switch e cases) (term.rolls-Switch e cases) env i
      ∙ ap (λ (cases : List Keyed). switch_of subject.origin (chosen (argument_by worths e env) (map (λ c. c.key) cases)) (map (λ c. c.reader) cases) env i) (mapped of_case keyed of_case-is cases)
      ∙ ap (λ keys. switch_of subject.origin (chosen (argument_by worths e env) keys) (map (λ c. c.reader) (map keyed cases)) env i) (map-map (λ (c : Keyed). c.key) keyed cases)
      ∙ ap (λ readers. switch_of subject.origin (chosen (argument_by worths e env) (map (λ c. c.key) cases)) readers env i) (map-map (λ (c : Keyed). c.reader) keyed cases)

  pub by-Guard : (inner : Term) (binder : ℕ) (condition : Expr) (env : Pairs) (i : ℕ)
      → reads (term.Guard inner binder condition) env i ≡ guard_by worths binder condition env (reads inner env i)
  by-Guard inner binder condition env i =
      read-roll (Term-F.Guard inner binder condition) (term.Guard inner binder condition) (term.rolls-Guard inner binder condition) env i

  pub by-Seq : (s : Seq) (env : Pairs) (i : ℕ) → reads (term.Seq s) env i ≡ seq_by worths subject (seq_reader_by s) env i
  by-Seq s env i =
      read-roll (Term-F.Seq s) (term.Seq s) (term.rolls-Seq s) env i ∙ ap (λ s. seq_by worths subject s env i) (of_seq-is s)

  pub by-Call : (number : ℕ) (args : List Expr) (env : Pairs) (i : ℕ) → reads (term.Call number args) env i ≡ call number args env i
  by-Call number args env i = read-roll (Term-F.Call number args) (term.Call number args) (term.rolls-Call number args) env i

  pub by-Compute : (e : Expr) (form : ComputedForm) (env : Pairs) (i : ℕ)
      → reads (term.Compute e form) env i ≡ compute_of subject.origin form (worths e env) i
  by-Compute e form env i = read-roll (Term-F.Compute e form) (term.Compute e form) (term.rolls-Compute e form) env i

  pub by-Absorb : (inner : Term) (env : Pairs) (i : ℕ) → reads (term.Absorb inner) env i ≡ absorb_of (reads inner env i)
  by-Absorb inner env i = read-roll (Term-F.Absorb inner) (term.Absorb inner) (term.rolls-Absorb inner) env i

  pub by-Scan : (inner : Term) (env : Pairs) (i : ℕ) → reads (term.Scan inner) env i ≡ scan subject (reads inner) env i
  by-Scan inner env i = read-roll (Term-F.Scan inner) (term.Scan inner) (term.rolls-Scan inner) env i

module _ (worths : Worths) (subject : Subject) (decls : List Decl) (number : ℕ) (args : List Expr) (env : Pairs) (i : ℕ) where
  pub call-deepest : caller_by worths subject decls zero number args env i ≡ fails subject.origin cause.Depth i
  unfolding caller_by
  call-deepest = refl

  pub call-inner : (depth : ℕ) → caller_by worths subject decls (suc depth) number args env i
      ≡ body_of subject.origin (read_by worths subject (caller_by worths subject decls depth)) (slice_get decls number) (arguments_by worths args env) i
  unfolding caller_by
  call-inner depth = refl
