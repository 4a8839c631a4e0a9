-- What a term reads as where expressions are worth what a given function says: equation by equation the
-- calculus. No definition that is used here evaluates an expression, so what one is worth is asked of the
-- given function alone.
use Rattle.std.specs.Prelude.{ℕ, zero, suc, ◌++◌, not, ◌&&◌, Bool, false, List, [], ◌∷◌, map, length, Option, Some, None, option_map, slice_get, if◌then◌else◌}
use Rattle.pads_value.specs.declared.cause.Cause.TheVariants as cause
use Rattle.pads_value.specs.declared.value.Val.{Val}
use Rattle.pads_value.specs.declared.value.Val.TheVariants as val
use Rattle.pads_expr.specs.declared.expr.Expr.{Expr}
use Rattle.pads_expr.specs.Value.{Pairs}
use Rattle.pads_expr.specs.Worth.{Worth}
use Rattle.pads_dispatch.specs.declared.base.Arg.{Arg}
use Rattle.pads_calc.specs.declared.decl.Decl.{Decl}
use Rattle.pads_calc.specs.declared.reading.Reading.{Reading}
use Rattle.pads_calc.specs.declared.term.Term.{Term, Term-F, fold-Term}
use Rattle.pads_calc.specs.declared.turn.Ending.{Ending}
use Rattle.pads_calc.specs.Arguments.{arg_told, and_more, is_true_told}
use Rattle.pads_calc.specs.Arrays.{SeqReader, Elements, size_of_arg, is_full, is_empty, is_stopped, ending_by, turn_from, no_more, unless_ended, and_then, array_of, turns_from}
use Rattle.pads_calc.specs.Calculus.{Caller, arm_step, case_step, part_step, seq_step, body_of}
use Rattle.pads_calc.specs.Choices.{Keyed, alt_from, chosen, switch_of}
use Rattle.pads_calc.specs.Leaves.{unit_of, lit_of, eor_of, at_end, base_of, compute_of}
use Rattle.pads_calc.specs.Readings.{Subject, Reader, fails, is_ok}
use Rattle.pads_calc.specs.Structs.{Named, in_turn, struct_of}
use Rattle.pads_calc.specs.Wrappers.{constrained, absorb_of, scan}

-- what each expression is worth in each environment, if anything
abbrev pub Worths : Type 0
Worths = Expr → Pairs → Option Worth

module _ (worths : Worths) where
  abbrev pub argument_by : Expr → Pairs → Option Arg
  argument_by e env = arg_told (worths e env)

  abbrev pub arguments_by : List Expr → Pairs → Option (List Arg)
  arguments_by [] env = Some []
  arguments_by (e ∷ es) env = and_more (argument_by e env) (arguments_by es env)

  abbrev pub is_true_by : Expr → Pairs → Bool
  is_true_by e env = is_true_told (worths e env)

  abbrev pub guard_by : ℕ → Expr → Pairs → Reading → Reading
  guard_by binder condition env r =
      if is_ok r && not (is_true_by condition ((binder, r.value) ∷ env)) then constrained r else r

  abbrev pub size_by : Option Expr → Pairs → Option (Option ℕ)
  size_by None env = Some None
  size_by (Some e) env = option_map Some (size_of_arg (argument_by e env))

  abbrev pub is_last_by : Option Expr → ℕ → List Val → Pairs → Bool
  is_last_by None elts elements env = false
  is_last_by (Some condition) elts elements env =
      not (is_empty elements) && is_true_by condition ((elts, val.Array elements) ∷ env)

  unfoldable pub ending_at_by : List ℕ → SeqReader → Option ℕ → List Val → Pairs → ℕ → Ending
  ending_at_by bytes s size elements env j =
      ending_by (is_full size (length elements)) (is_last_by s.last s.elts elements env) (is_stopped s.stop env j) (at_end bytes j) size

  unfoldable pub elements_by : List ℕ → SeqReader → Option ℕ → Pairs → ℕ → List Val → ℕ → Elements
  elements_by bytes s size env zero before j = no_more None
  elements_by bytes s size env (suc turns) before j =
      unless_ended (ending_at_by bytes s size before env j)
      (and_then (turn_from s (is_empty before) env j)
      (λ r. elements_by bytes s size env turns (before ++ r.value ∷ []) r.place))

  abbrev pub sized_by : Subject → SeqReader → Option (Option ℕ) → Pairs → ℕ → Reading
  sized_by subject s None env i = fails subject.origin cause.ArrayBound i
  sized_by subject s (Some size) env i =
      array_of subject.origin (elements_by subject.bytes s size env (turns_from subject.bytes i) [] i) i

  abbrev pub seq_by : Subject → SeqReader → Reader
  seq_by subject s env i = sized_by subject s (size_by s.size env) env i

  -- one equation for each form
  abbrev pub term_step_by : Subject → Caller → Term-F Reader Reader Keyed Named SeqReader → Reader
  term_step_by subject call Term-F.Unit env i = unit_of subject.origin i
  term_step_by subject call (Term-F.Base base args) env i = base_of subject base (arguments_by args env) i
  term_step_by subject call (Term-F.Lit literal) env i = lit_of subject literal i
  term_step_by subject call Term-F.Eor env i = eor_of subject i
  term_step_by subject call (Term-F.Struct parts) env i = struct_of subject.origin (in_turn parts env i) i
  term_step_by subject call (Term-F.Alt arms) env i = alt_from subject.origin 0 arms env i
  term_step_by subject call (Term-F.Switch e cases) env i =
      switch_of subject.origin (chosen (argument_by e env) (map (λ c. c.key) cases)) (map (λ c. c.reader) cases) env i
  term_step_by subject call (Term-F.Guard inner binder condition) env i = guard_by binder condition env (inner env i)
  term_step_by subject call (Term-F.Seq s) env i = seq_by subject s env i
  term_step_by subject call (Term-F.Call number args) env i = call number args env i
  term_step_by subject call (Term-F.Compute e form) env i = compute_of subject.origin form (worths e env) i
  term_step_by subject call (Term-F.Absorb inner) env i = absorb_of (inner env i)
  term_step_by subject call (Term-F.Scan inner) env i = scan subject inner env i

  -- the reading of a term, where the calls read so
  unfoldable pub read_by : Subject → Caller → Term → Reader
  read_by subject call =
      fold-Term Reader Reader Keyed Named SeqReader (term_step_by subject call) arm_step case_step part_step seq_step

  -- a call where calls may be nested so deep; below, one less
  unfoldable pub caller_by : Subject → List Decl → ℕ → Caller
  caller_by subject decls zero number args env i = fails subject.origin cause.Depth i
  caller_by subject decls (suc depth) number args env i =
      body_of subject.origin (read_by subject (caller_by subject decls depth)) (slice_get decls number) (arguments_by args env) i

  -- the reading of a term of a module, inside of which calls may be nested so deep
  abbrev pub meaning_by : Subject → List Decl → ℕ → Term → Reader
  meaning_by subject decls depth = read_by subject (caller_by subject decls depth)
