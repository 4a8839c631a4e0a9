-- What is written: canonical bytes behind the bytes that a buffer has.
use Rattle.std.specs.Prelude.{ℕ, Bool, true, false, List, Option, Some, None, option_map}
use Rattle.pads_calc.specs.declared.decl.Decl.{Decl}
use Rattle.pads_calc.specs.declared.term.Arm.{Arm}
use Rattle.pads_calc.specs.declared.term.Case.{Case}
use Rattle.pads_calc.specs.declared.term.Part.{Part}
use Rattle.pads_calc.specs.declared.term.Seq.{Seq}
use Rattle.law_canonical.specs.Canonical.{Speller, NamedSpeller, SeqSpeller, canon, joined}

-- the buffer, where all bytes were written
abbrev pub filled : Bool → List ℕ → Option (List ℕ)
filled true buffer = Some buffer
filled false buffer = None

-- these bytes behind those of the buffer, where there are any
abbrev pub behind : List ℕ → Option (List ℕ) → Option (List ℕ)
behind buffer bytes = joined (Some buffer) bytes

-- how the parts of a term spell
module _ (decls : List Decl) (depth : ℕ) where
  abbrev pub part_spells : Part → NamedSpeller
  part_spells part = record { name = part.name; speller = canon decls depth part.term }

  abbrev pub arm_spells : Arm → Speller
  arm_spells arm = canon decls depth arm.term

  abbrev pub case_spells : Case → Speller
  case_spells case = canon decls depth case.arm.term

  abbrev pub seq_spells : Seq → SeqSpeller
  seq_spells s = record { elem = canon decls depth s.elem; sep = option_map (canon decls depth) s.sep }
