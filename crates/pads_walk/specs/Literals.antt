-- Searches of a literal: which terms are one, and what a search reads as.
use Rattle.std.specs.Prelude.{◌≡◌, ◌⊎◌, ℕ, List}
use Rattle.pads_calc.specs.declared.reading.Reading.{Reading}
use Rattle.pads_steps.specs.declared.record.Record.{Record}
use Rattle.pads_calc.specs.declared.term.Term.{Term}
use Rattle.pads_calc.specs.declared.term.Term.TheVariants as term
use Rattle.pads_calc.specs.Leaves.{lit_of}
use Rattle.pads_calc.specs.Readings.{Reader}
use Rattle.pads_steps.specs.Records.{subject_of}
use Rattle.pads_calc.specs.Wrappers.{scan}
use Rattle.pads_expr.specs.Value.{Pairs}

-- the term is this literal, its value kept or not
abbrev pub IsLiteral : Term → List ℕ → Type 0
IsLiteral t literal = (t ≡ term.Lit literal) ⊎ (t ≡ term.Absorb (term.Lit literal))

-- what the literal reads as at a place
abbrev pub literal_reader : Record → List ℕ → Reader
literal_reader from literal env i = lit_of (subject_of from) literal i

-- the reading is that of a search of the literal from the place on, whatever the environment
abbrev pub IsFound : Record → List ℕ → ℕ → Reading → Type 0
IsFound from literal i r = (env : Pairs) → r ≡ scan (subject_of from) (literal_reader from literal) env i
