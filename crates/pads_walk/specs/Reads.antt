-- What is read of a record by a module's declarations, as the calculus has it.
use Rattle.std.specs.Prelude.{ℕ, List}
use Rattle.pads_calc.specs.declared.decl.Decl.{Decl}
use Rattle.pads_steps.specs.declared.record.Record.{Record}
use Rattle.pads_calc.specs.declared.term.Arm.{Arm}
use Rattle.pads_calc.specs.declared.term.Case.{Case}
use Rattle.pads_calc.specs.declared.term.Part.{Part}
use Rattle.pads_calc.specs.declared.term.Seq.{Seq}
use Rattle.pads_calc.specs.declared.term.Term.{Term}
use Rattle.pads_calc.specs.Arrays.{SeqReader}
use Rattle.pads_calc.specs.Calculus.{Caller, caller, read, part_reader, arm_reader, case_reader, seq_reader}
use Rattle.pads_calc.specs.Readings.{Reader}
use Rattle.pads_steps.specs.Records.{subject_of}
use Rattle.pads_calc.specs.Structs.{Named}

abbrev pub calls : Record → List Decl → ℕ → Caller
calls from decls depth = caller (subject_of from) decls depth

abbrev pub reads : Record → List Decl → ℕ → Term → Reader
reads from decls depth = read (subject_of from) (calls from decls depth)

abbrev pub reads_part : Record → List Decl → ℕ → Part → Named
reads_part from decls depth = part_reader (subject_of from) (calls from decls depth)

abbrev pub reads_arm : Record → List Decl → ℕ → Arm → Reader
reads_arm from decls depth = arm_reader (subject_of from) (calls from decls depth)

abbrev pub reads_case : Record → List Decl → ℕ → Case → Reader
reads_case from decls depth = case_reader (subject_of from) (calls from decls depth)

abbrev pub reads_seq : Record → List Decl → ℕ → Seq → SeqReader
reads_seq from decls depth = seq_reader (subject_of from) (calls from decls depth)
