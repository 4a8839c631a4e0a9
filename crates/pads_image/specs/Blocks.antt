-- The layout of a term: the instructions that stand for it, by the address where they begin. Addresses
-- are absolute, and "the end" of a term is the address behind it.
use Rattle.std.specs.Prelude.{ℕ, ◌+◌, List, [], ◌∷◌, ◌++◌, Option, Some, None, option_map}
use Rattle.pads_expr.specs.declared.expr.Expr.{Expr}
use Rattle.pads_calc.specs.declared.term.Arm.{Arm-F}
use Rattle.pads_calc.specs.declared.term.Case.{Case, Case-F}
use Rattle.pads_calc.specs.declared.term.Key.{Key}
use Rattle.pads_calc.specs.declared.term.Part.{Part, Part-F}
use Rattle.pads_calc.specs.declared.term.Seq.{Seq, Seq-F}
use Rattle.pads_calc.specs.declared.term.Term.{Term, Term-F, fold-Term}
use Rattle.pads_image.specs.declared.op.Op.{Op}
use Rattle.pads_image.specs.declared.op.Op.TheVariants as op
use Rattle.pads_image.specs.declared.op.Target.{Target}

-- how many instructions there are, and what they are where they begin at an address
pub record Block : Type 0 where
  pub size : ℕ
  pub code : ℕ → List Op

-- a part with its name, and a case with its key
pub record PartBlock : Type 0 where
  pub name : Option ℕ
  pub block : Block

pub record CaseBlock : Type 0 where
  pub key : Option Key
  pub block : Block

-- one instruction
abbrev pub single : Op → Block
single instruction = record { size = 1; code = λ p. instruction ∷ [] }

-- a term with one instruction behind it
abbrev pub followed : Block → Op → Block
followed inner instruction = record { size = inner.size + 1; code = λ p. inner.code p ++ instruction ∷ [] }

-- the parts of a struct, each with its instruction behind it
abbrev pub parts_size : List PartBlock → ℕ
parts_size [] = 0
parts_size (part ∷ parts) = part.block.size + 1 + parts_size parts

abbrev pub parts_code : List PartBlock → ℕ → List Op
parts_code [] p = []
parts_code (part ∷ parts) p = part.block.code p ++ op.Part part.name ∷ parts_code parts (p + part.block.size + 1)

-- how many bindings a part makes
abbrev pub bindings_of : Option ℕ → ℕ
bindings_of None = 0
bindings_of (Some name) = 1

-- how many parts are named
abbrev pub named : List PartBlock → ℕ
named [] = 0
named (part ∷ parts) = bindings_of part.name + named parts

abbrev pub struct_block : List PartBlock → Block
struct_block parts = record {
  size = 2 + parts_size parts;
  code = λ p. op.Open ∷ parts_code parts (p + 1) ++ op.Close (named parts) ∷ [];
}

-- branches, each with one instruction behind it
abbrev pub arms_size : List Block → ℕ
arms_size [] = 0
arms_size (arm ∷ arms) = arm.size + 1 + arms_size arms

abbrev pub arms_code : (ℕ → Op) → List Block → ℕ → ℕ → List Op
arms_code behind [] number p = []
arms_code behind (arm ∷ arms) number p = arm.code p ++ behind number ∷ arms_code behind arms (number + 1) (p + arm.size + 1)

abbrev pub alt_block : List Block → Block
alt_block arms = record {
  size = 2 + arms_size arms;
  code = λ p. op.Mark ∷ arms_code (λ number. op.Try number (p + (2 + arms_size arms))) arms 0 (p + 1) ++ op.NoArm ∷ [];
}

abbrev pub blocks : List CaseBlock → List Block
blocks [] = []
blocks (case ∷ cases) = case.block ∷ blocks cases

-- where each case begins
abbrev pub targets : List CaseBlock → ℕ → List Target
targets [] p = []
targets (case ∷ cases) p = (record { key = case.key; to = p }) ∷ targets cases (p + case.block.size + 1)

abbrev pub switch_block : Expr → List CaseBlock → Block
switch_block e cases = record {
  size = 1 + arms_size (blocks cases);
  code = λ p.
      op.Switch e (targets cases (p + 1)) (p + (1 + arms_size (blocks cases)))
      ∷ arms_code (λ number. op.Arm number (p + (1 + arms_size (blocks cases)))) (blocks cases) 0 (p + 1);
}

abbrev pub scan_block : Block → Block
scan_block inner = record { size = inner.size + 2; code = λ p. op.ScanFrom ∷ inner.code (p + 1) ++ op.ScanOn (p + 1) ∷ [] }

-- the terminator and the separator of an array, where they are there
abbrev pub stop_size : Option Block → ℕ
stop_size None = 0
stop_size (Some stop) = stop.size + 2

abbrev pub stop_code : Option Block → ℕ → ℕ → List Op
stop_code None shut p = []
stop_code (Some stop) shut p = op.Mark ∷ stop.code (p + 1) ++ op.Stop shut ∷ []

abbrev pub sep_size : Option Block → ℕ
sep_size None = 0
sep_size (Some sep) = sep.size + 1

abbrev pub sep_code : Option Block → ℕ → ℕ → List Op
sep_code None shut p = []
sep_code (Some sep) shut p = sep.code p ++ op.Sep shut ∷ []

-- where the parts of an array that begins at an address stand
module _ (stop sep : Option Block) (elem : Block) (p : ℕ) where
  abbrev pub edge_at : ℕ
  edge_at = p + 2 + stop_size stop

  abbrev pub elem_at : ℕ
  elem_at = edge_at + 2 + sep_size sep

  abbrev pub shut_at : ℕ
  shut_at = elem_at + elem.size + 1

  abbrev pub seq_code : Option Expr → Option Expr → ℕ → List Op
  seq_code size last elts =
      op.Size size (shut_at + 1) ∷ op.Full last elts shut_at ∷ stop_code stop shut_at (p + 2)
      ++ op.Edge shut_at ∷ op.Turn elem_at ∷ sep_code sep shut_at (edge_at + 2)
      ++ elem.code elem_at ++ op.Elem shut_at (p + 1) ∷ op.Shut ∷ []

-- one equation for each form
abbrev pub term_block : Term-F Block Block CaseBlock PartBlock Block → Block
term_block Term-F.Unit = single op.Unit
term_block (Term-F.Base base args) = single (op.Base base args)
term_block (Term-F.Lit literal) = single (op.Lit literal)
term_block Term-F.Eor = single op.Eor
term_block (Term-F.Struct parts) = struct_block parts
term_block (Term-F.Alt arms) = alt_block arms
term_block (Term-F.Switch e cases) = switch_block e cases
term_block (Term-F.Guard inner binder condition) = followed inner (op.Guard binder condition)
term_block (Term-F.Seq s) = s
term_block (Term-F.Call number args) = single (op.Call number args)
term_block (Term-F.Compute e form) = single (op.Compute e form)
term_block (Term-F.Absorb inner) = followed inner op.Absorb
term_block (Term-F.Scan inner) = scan_block inner

abbrev pub arm_block : Arm-F Block Block CaseBlock PartBlock Block → Block
arm_block arm = arm.term

abbrev pub case_block : Case-F Block Block CaseBlock PartBlock Block → CaseBlock
case_block case = record { key = case.key; block = case.arm }

abbrev pub part_block : Part-F Block Block CaseBlock PartBlock Block → PartBlock
part_block part = record { name = part.name; block = part.term }

abbrev pub seq_block : Seq-F Block Block CaseBlock PartBlock Block → Block
seq_block s = record {
  size = 6 + s.elem.size + stop_size s.stop + sep_size s.sep;
  code = λ p. seq_code s.stop s.sep s.elem p s.size s.last s.elts;
}

-- the layout of a term
unfoldable pub layout : Term → Block
layout = fold-Term Block Block CaseBlock PartBlock Block term_block arm_block case_block part_block seq_block

-- what the parts of a struct, the cases of a switched union and an array are laid out as
abbrev pub part_layout : Part → PartBlock
part_layout part = record { name = part.name; block = layout part.term }

abbrev pub case_layout : Case → CaseBlock
case_layout case = record { key = case.key; block = layout case.arm.term }

abbrev pub seq_layout : Seq → Block
seq_layout s = record {
  size = 6 + (layout s.elem).size + stop_size (option_map layout s.stop) + sep_size (option_map layout s.sep);
  code = λ p. seq_code (option_map layout s.stop) (option_map layout s.sep) (layout s.elem) p s.size s.last s.elts;
}
