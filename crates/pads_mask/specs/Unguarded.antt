-- A term without its constraints: each is replaced by the term inside. A call stays, so the constraints of
-- the declaration that it names stay as well.
use Rattle.std.specs.Prelude.{Option, option_map}
use Rattle.pads_calc.specs.declared.term.Arm.{Arm, Arm-F}
use Rattle.pads_calc.specs.declared.term.Case.{Case, Case-F}
use Rattle.pads_calc.specs.declared.term.Part.{Part, Part-F}
use Rattle.pads_calc.specs.declared.term.Seq.{Seq, Seq-F}
use Rattle.pads_calc.specs.declared.term.Term.{Term, Term-F, fold-Term}
use Rattle.pads_calc.specs.declared.term.Term.TheVariants as term

-- one equation for each form
abbrev pub term_step : Term-F Term Arm Case Part Seq → Term
term_step Term-F.Unit = term.Unit
term_step (Term-F.Base base args) = term.Base base args
term_step (Term-F.Lit literal) = term.Lit literal
term_step Term-F.Eor = term.Eor
term_step (Term-F.Struct parts) = term.Struct parts
term_step (Term-F.Alt arms) = term.Alt arms
term_step (Term-F.Switch e cases) = term.Switch e cases
term_step (Term-F.Guard inner binder condition) = inner
term_step (Term-F.Seq s) = term.Seq s
term_step (Term-F.Call number args) = term.Call number args
term_step (Term-F.Compute e form) = term.Compute e form
term_step (Term-F.Absorb inner) = term.Absorb inner
term_step (Term-F.Scan inner) = term.Scan inner

abbrev pub arm_step : Arm-F Term Arm Case Part Seq → Arm
arm_step arm = record { name = arm.name; term = arm.term }

abbrev pub case_step : Case-F Term Arm Case Part Seq → Case
case_step case = record { key = case.key; arm = case.arm }

abbrev pub part_step : Part-F Term Arm Case Part Seq → Part
part_step part = record { name = part.name; term = part.term }

abbrev pub seq_step : Seq-F Term Arm Case Part Seq → Seq
seq_step s = record { elem = s.elem; sep = s.sep; size = s.size; last = s.last; stop = s.stop; elts = s.elts }

unfoldable pub unguarded : Term → Term
unguarded = fold-Term Term Arm Case Part Seq term_step arm_step case_step part_step seq_step

-- the same of what a term is made of
abbrev pub unguarded_arm : Arm → Arm
unguarded_arm arm = record { name = arm.name; term = unguarded arm.term }

abbrev pub unguarded_case : Case → Case
unguarded_case case = record { key = case.key; arm = unguarded_arm case.arm }

abbrev pub unguarded_part : Part → Part
unguarded_part part = record { name = part.name; term = unguarded part.term }

abbrev pub unguarded_option : Option Term → Option Term
unguarded_option t = option_map unguarded t

abbrev pub unguarded_seq : Seq → Seq
unguarded_seq s = record {
  elem = unguarded s.elem;
  sep = unguarded_option s.sep;
  size = s.size;
  last = s.last;
  stop = unguarded_option s.stop;
  elts = s.elts;
}
