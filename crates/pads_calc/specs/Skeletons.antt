-- The skeleton of a term: where the values of the declaration's own stand in what the term reads as. A base
-- type and a computed field have one; constraints, searches and absorbing are passed through; a call refers
-- to the declaration that is called.
use Rattle.std.specs.Prelude.{◌≡◌, Bool, true, List, map, Option, Some, None, if◌then◌else◌}
use Rattle.std.specs.List.{list_all}
use Rattle.pads_erase.specs.declared.skeleton.Keeping.{Keeping}
use Rattle.pads_erase.specs.declared.skeleton.Skeleton.{Skeleton}
use Rattle.pads_erase.specs.declared.skeleton.Skeleton.TheVariants as skeleton
use Rattle.pads_calc.specs.declared.decl.Decl.{Decl}
use Rattle.pads_calc.specs.declared.term.Arm.{Arm-F}
use Rattle.pads_calc.specs.declared.term.Case.{Case-F}
use Rattle.pads_calc.specs.declared.term.Part.{Part-F}
use Rattle.pads_calc.specs.declared.term.Seq.{Seq-F}
use Rattle.pads_calc.specs.declared.term.Term.{Term, Term-F, fold-Term}

-- one equation for each form
abbrev pub term_skeleton : Term-F Skeleton Skeleton Skeleton Skeleton Skeleton → Skeleton
term_skeleton Term-F.Unit = skeleton.Nothing
term_skeleton (Term-F.Base base args) = skeleton.Leaf
term_skeleton (Term-F.Lit literal) = skeleton.Nothing
term_skeleton Term-F.Eor = skeleton.Nothing
term_skeleton (Term-F.Struct parts) = skeleton.List parts
term_skeleton (Term-F.Alt arms) = skeleton.Arms arms
term_skeleton (Term-F.Switch e cases) = skeleton.Arms cases
term_skeleton (Term-F.Guard inner binder condition) = inner
term_skeleton (Term-F.Seq element) = skeleton.Each element
term_skeleton (Term-F.Call number args) = skeleton.Ref number
term_skeleton (Term-F.Compute e form) = skeleton.Leaf
term_skeleton (Term-F.Absorb inner) = inner
term_skeleton (Term-F.Scan inner) = inner

abbrev pub arm_skeleton : Arm-F Skeleton Skeleton Skeleton Skeleton Skeleton → Skeleton
arm_skeleton arm = arm.term

abbrev pub case_skeleton : Case-F Skeleton Skeleton Skeleton Skeleton Skeleton → Skeleton
case_skeleton case = case.arm

abbrev pub part_skeleton : Part-F Skeleton Skeleton Skeleton Skeleton Skeleton → Skeleton
part_skeleton part = part.term

abbrev pub seq_skeleton : Seq-F Skeleton Skeleton Skeleton Skeleton Skeleton → Skeleton
seq_skeleton s = s.elem

unfoldable pub skeleton_of : Term → Skeleton
skeleton_of = fold-Term Skeleton Skeleton Skeleton Skeleton Skeleton term_skeleton arm_skeleton case_skeleton part_skeleton seq_skeleton

-- what declarations keep
abbrev pub keeping_of : Decl → Keeping
keeping_of decl = record { set = decl.set; skeleton = skeleton_of decl.body }

abbrev pub keepings_of : List Decl → List Keeping
keepings_of decls = map keeping_of decls

abbrev pub all_set : List Decl → Bool
all_set decls = list_all (λ decl. decl.set) decls

-- what is looked up where values are erased; none where all are kept
abbrev pub erasing_of : List Decl → Option (List Keeping)
erasing_of decls = if all_set decls then None else Some (keepings_of decls)

-- each declaration keeps the values of its own body
abbrev pub KeepsAll : List Decl → Type 0
KeepsAll decls = all_set decls ≡ true
