-- How many parts, arms, cases and labels a term has: at most so many that 16 bits number them.
use Rattle.std.specs.Prelude.{ℕ, Bool, true, ◌&&◌, nat_le, List, length, Option, Some, None}
use Rattle.std.specs.List.{list_all}
use Rattle.pads_dispatch.specs.Labels.{labels_fit}
use Rattle.pads_calc.specs.declared.decl.Decl.{Decl}
use Rattle.pads_calc.specs.declared.term.Arm.{Arm-F}
use Rattle.pads_calc.specs.declared.term.Case.{Case-F}
use Rattle.pads_calc.specs.declared.term.Part.{Part-F}
use Rattle.pads_calc.specs.declared.term.Seq.{Seq-F}
use Rattle.pads_calc.specs.declared.term.Term.{Term, Term-F, fold-Term}

-- the most parts, arms or cases of a term, parameters of a declaration, and declarations
abbrev pub most : ℕ
most = 65535

abbrev pub few : {A : Type 0} → List A → Bool
few xs = nat_le (length xs) most

abbrev pub fits : Bool → Bool
fits term = term

abbrev pub all_fit : List Bool → Bool
all_fit terms = list_all fits terms

abbrev pub if_there : Option Bool → Bool
if_there None = true
if_there (Some term) = term

abbrev pub term_counts : Term-F Bool Bool Bool Bool Bool → Bool
term_counts Term-F.Unit = true
term_counts (Term-F.Base base args) = labels_fit base
term_counts (Term-F.Lit literal) = true
term_counts Term-F.Eor = true
term_counts (Term-F.Struct parts) = few parts && all_fit parts
term_counts (Term-F.Alt arms) = few arms && all_fit arms
term_counts (Term-F.Switch e cases) = few cases && all_fit cases
term_counts (Term-F.Guard inner binder condition) = inner
term_counts (Term-F.Seq s) = s
term_counts (Term-F.Call number args) = true
term_counts (Term-F.Compute e form) = true
term_counts (Term-F.Absorb inner) = inner
term_counts (Term-F.Scan inner) = inner

abbrev pub arm_counts : Arm-F Bool Bool Bool Bool Bool → Bool
arm_counts arm = arm.term

abbrev pub case_counts : Case-F Bool Bool Bool Bool Bool → Bool
case_counts case = case.arm

abbrev pub part_counts : Part-F Bool Bool Bool Bool Bool → Bool
part_counts part = part.term

abbrev pub seq_counts : Seq-F Bool Bool Bool Bool Bool → Bool
seq_counts s = s.elem && if_there s.sep && if_there s.stop

-- the counts of a term and of all terms in it
unfoldable pub counts_fit : Term → Bool
counts_fit = fold-Term Bool Bool Bool Bool Bool term_counts arm_counts case_counts part_counts seq_counts

abbrev pub option_counts : Option Term → Bool
option_counts None = true
option_counts (Some t) = counts_fit t

abbrev pub decl_counts : Decl → Bool
decl_counts decl = few decl.params && counts_fit decl.body

-- the counts of all declarations
abbrev pub module_counts : List Decl → Bool
module_counts decls = few decls && list_all decl_counts decls
