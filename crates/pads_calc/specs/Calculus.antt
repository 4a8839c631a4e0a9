-- The calculus: the reading of a term in an environment at a place of a record. Source: the parsing
-- semantics of the data description calculus (Fisher, Mandelbaum and Walker, POPL 2006), with its
-- dependent sums, ordered sums, constrained types, sequences, applications, computed values, absorbed
-- types and scans, in this project's profile.
use Rattle.std.specs.Prelude.{ℕ, zero, suc, List, [], map, Option, Some, None, option_map, slice_get}
use Rattle.pads_value.specs.declared.cause.Cause.TheVariants as cause
use Rattle.pads_expr.specs.declared.expr.Expr.{Expr}
use Rattle.pads_dispatch.specs.declared.base.Arg.{Arg}
use Rattle.pads_calc.specs.declared.decl.Decl.{Decl}
use Rattle.pads_calc.specs.declared.reading.Reading.{Reading}
use Rattle.pads_calc.specs.declared.term.Arm.{Arm, Arm-F}
use Rattle.pads_calc.specs.declared.term.Case.{Case, Case-F}
use Rattle.pads_calc.specs.declared.term.Part.{Part, Part-F}
use Rattle.pads_calc.specs.declared.term.Seq.{Seq, Seq-F}
use Rattle.pads_calc.specs.declared.term.Term.{Term, Term-F, fold-Term}
use Rattle.pads_calc.specs.Arguments.{argument, arguments, bound_to}
use Rattle.pads_calc.specs.Arrays.{SeqReader, seq_of}
use Rattle.pads_calc.specs.Choices.{Keyed, alt_from, chosen, switch_of}
use Rattle.pads_calc.specs.Leaves.{unit_of, lit_of, eor_of, base_of, compute_of}
use Rattle.pads_calc.specs.Readings.{Subject, Reader, fails}
use Rattle.pads_calc.specs.Structs.{Named, in_turn, struct_of}
use Rattle.pads_calc.specs.Wrappers.{guard_of, absorb_of, scan}
use Rattle.pads_expr.specs.Value.{value}
use Rattle.pads_expr.specs.Worth.{worth_or_none}

-- what a call of a declaration with such arguments reads as
abbrev pub Caller : Type 0
Caller = ℕ → List Expr → Reader

module _ (subject : Subject) (call : Caller) where
  -- one equation for each form
  abbrev pub term_step : Term-F Reader Reader Keyed Named SeqReader → Reader
  term_step Term-F.Unit env i = unit_of subject.origin i
  term_step (Term-F.Base base args) env i = base_of subject base (arguments args env) i
  term_step (Term-F.Lit literal) env i = lit_of subject literal i
  term_step Term-F.Eor env i = eor_of subject i
  term_step (Term-F.Struct parts) env i = struct_of subject.origin (in_turn parts env i) i
  term_step (Term-F.Alt arms) env i = alt_from subject.origin 0 arms env i
  term_step (Term-F.Switch e cases) env i =
      switch_of subject.origin (chosen (argument e env) (map (λ c. c.key) cases)) (map (λ c. c.reader) cases) env i
  term_step (Term-F.Guard inner binder condition) env i = guard_of binder condition env (inner env i)
  term_step (Term-F.Seq s) env i = seq_of subject s env i
  term_step (Term-F.Call number args) env i = call number args env i
  term_step (Term-F.Compute e form) env i = compute_of subject.origin form (worth_or_none (value e env)) i
  term_step (Term-F.Absorb inner) env i = absorb_of (inner env i)
  term_step (Term-F.Scan inner) env i = scan subject inner env i

abbrev pub arm_step : Arm-F Reader Reader Keyed Named SeqReader → Reader
arm_step arm = arm.term

abbrev pub case_step : Case-F Reader Reader Keyed Named SeqReader → Keyed
case_step case = record { key = case.key; reader = case.arm }

abbrev pub part_step : Part-F Reader Reader Keyed Named SeqReader → Named
part_step part = record { name = part.name; reader = part.term }

abbrev pub seq_step : Seq-F Reader Reader Keyed Named SeqReader → SeqReader
seq_step s = record { elem = s.elem; sep = s.sep; size = s.size; last = s.last; stop = s.stop; elts = s.elts }

-- the reading of a term, where the calls read so
unfoldable pub read : Subject → Caller → Term → Reader
read subject call = fold-Term Reader Reader Keyed Named SeqReader (term_step subject call) arm_step case_step part_step seq_step

-- what the parts of a term read as
module _ (subject : Subject) (call : Caller) where
  abbrev pub part_reader : Part → Named
  part_reader part = record { name = part.name; reader = read subject call part.term }

  abbrev pub arm_reader : Arm → Reader
  arm_reader arm = read subject call arm.term

  abbrev pub case_reader : Case → Reader
  case_reader case = read subject call case.arm.term

  abbrev pub option_reader : Option Term → Option Reader
  option_reader t = option_map (read subject call) t

  abbrev pub seq_reader : Seq → SeqReader
  seq_reader s = record {
    elem = read subject call s.elem;
    sep = option_reader s.sep;
    size = s.size;
    last = s.last;
    stop = option_reader s.stop;
    elts = s.elts;
  }

-- a declaration's body, with the arguments as its whole environment
abbrev pub body_of : ℕ → (Term → Reader) → Option Decl → Option (List Arg) → ℕ → Reading
body_of origin reader decl None i = fails origin cause.BadParam i
body_of origin reader None (Some args) i = fails origin cause.BadParam i
body_of origin reader (Some decl) (Some args) i = reader decl.body (bound_to decl.params args []) i

-- a call where calls may be nested so deep; below, one less
unfoldable pub caller : Subject → List Decl → ℕ → Caller
caller subject decls zero number args env i = fails subject.origin cause.Depth i
caller subject decls (suc depth) number args env i =
    body_of subject.origin (read subject (caller subject decls depth)) (slice_get decls number) (arguments args env) i

-- the reading of a term of a module, inside of which calls may be nested so deep
abbrev pub meaning : Subject → List Decl → ℕ → Term → Reader
meaning subject decls depth = read subject (caller subject decls depth)
