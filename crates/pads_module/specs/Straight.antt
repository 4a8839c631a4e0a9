-- Straight terms: no union, array or search is in them, so that they read each place once.
use Rattle.std.specs.Prelude.{Bool, true, false, List}
use Rattle.std.specs.List.{list_all}
use Rattle.pads_calc.specs.declared.decl.Decl.{Decl}
use Rattle.pads_calc.specs.declared.term.Arm.{Arm-F}
use Rattle.pads_calc.specs.declared.term.Case.{Case-F}
use Rattle.pads_calc.specs.declared.term.Part.{Part-F}
use Rattle.pads_calc.specs.declared.term.Seq.{Seq-F}
use Rattle.pads_calc.specs.declared.term.Term.{Term, Term-F, fold-Term}

abbrev pub is_so : Bool → Bool
is_so term = term

abbrev pub term_straight : Term-F Bool Bool Bool Bool Bool → Bool
term_straight Term-F.Unit = true
term_straight (Term-F.Base base args) = true
term_straight (Term-F.Lit literal) = true
term_straight Term-F.Eor = true
term_straight (Term-F.Struct parts) = list_all is_so parts
term_straight (Term-F.Alt arms) = false
term_straight (Term-F.Switch e cases) = false
term_straight (Term-F.Guard inner binder condition) = inner
term_straight (Term-F.Seq s) = false
term_straight (Term-F.Call number args) = true
term_straight (Term-F.Compute e form) = true
term_straight (Term-F.Absorb inner) = inner
term_straight (Term-F.Scan inner) = false

abbrev pub arm_straight : Arm-F Bool Bool Bool Bool Bool → Bool
arm_straight arm = arm.term

abbrev pub case_straight : Case-F Bool Bool Bool Bool Bool → Bool
case_straight case = case.arm

abbrev pub part_straight : Part-F Bool Bool Bool Bool Bool → Bool
part_straight part = part.term

abbrev pub seq_straight : Seq-F Bool Bool Bool Bool Bool → Bool
seq_straight s = false

unfoldable pub is_straight : Term → Bool
is_straight = fold-Term Bool Bool Bool Bool Bool term_straight arm_straight case_straight part_straight seq_straight

-- the bodies of all declarations
abbrev pub all_straight : List Decl → Bool
all_straight decls = list_all (λ decl. is_straight decl.body) decls
