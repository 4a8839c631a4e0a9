-- What the steps of a path stand for over the declarations of a module. A name goes to the first part or branch
-- of that name, an index to an element, `[*]` to all elements. Constraints, searches and calls are passed
-- through. A chain of calls that comes back to a declaration before it reaches another term has nothing below it.
use Rattle.std.specs.Prelude.{ℕ, ◌+◌, min, List, [], ◌∷◌, length, position, false, Option, Some, None, option_map, option_and_then, slice_get, Result, Ok, Err, codes}
use Rattle.pads_calc.specs.declared.decl.Decl.{Decl}
use Rattle.pads_module.specs.declared.module.Module.{Module}
use Rattle.pads_calc.specs.declared.term.Arm.{Arm}
use Rattle.pads_calc.specs.declared.term.Case.{Case}
use Rattle.pads_calc.specs.declared.term.Part.{Part}
use Rattle.pads_calc.specs.declared.term.Seq.{Seq}
use Rattle.pads_calc.specs.declared.term.Term.{Term, Term-F, out-Term}
use Rattle.pads_forms.specs.Forms.{form_at}
use Rattle.pads_nodes.specs.declared.step.Step.{Step}
use Rattle.pads_nodes.specs.declared.step.Step.TheVariants as step
use Rattle.pads_syntax_path.specs.declared.path.PathStep.{PathStep}
use Rattle.pads_syntax_path.specs.declared.path.PathStep.TheVariants as path
use Rattle.pads_path.specs.declared.fault.PathFault.{PathFault}
use Rattle.pads_path.specs.declared.fault.PathReason.{PathReason}
use Rattle.pads_path.specs.declared.fault.PathReason.TheVariants as reason
use Rattle.pads_path.specs.Names.{is_part, is_arm, is_case}

abbrev pub reason_name : PathReason → List ℕ
reason_name reason.NoField = codes "NoField"
reason_name reason.NoBranch = codes "NoBranch"
reason_name reason.NotNamed = codes "NotNamed"
reason_name reason.NotArray = codes "NotArray"

-- A step by number, and the term of the nodes that it leads to.
pub record Way : Type 0 where
  pub step : Step
  pub term : Term

abbrev pub way_to : Step → Term → Way
way_to next t = record { step = next; term = t }

-- A number in 16 bits. A term has at most 65,535 parts, branches or cases.
abbrev pub short : ℕ → ℕ
short number = min number 65535

abbrev pub part_way : List Part → ℕ → Option Way
part_way parts number = option_map (λ part. way_to (step.Part (short number)) part.term) (slice_get parts number)

abbrev pub arm_way : List Arm → ℕ → Option Way
arm_way arms number = option_map (λ arm. way_to (step.Arm (short number)) arm.term) (slice_get arms number)

abbrev pub case_way : List Case → ℕ → Option Way
case_way cases number = option_map (λ case. way_to (step.Arm (short number)) case.arm.term) (slice_get cases number)

-- To elements of an array.
abbrev pub element_way : Step → Term-F Term Arm Case Part Seq → Option Way
element_way next Term-F.Unit = None
element_way next (Term-F.Base base args) = None
element_way next (Term-F.Lit literal) = None
element_way next Term-F.Eor = None
element_way next (Term-F.Struct parts) = None
element_way next (Term-F.Alt arms) = None
element_way next (Term-F.Switch e cases) = None
element_way next (Term-F.Guard inner binder condition) = None
element_way next (Term-F.Seq s) = Some (way_to next s.elem)
element_way next (Term-F.Call number args) = None
element_way next (Term-F.Compute e form) = None
element_way next (Term-F.Absorb inner) = None
element_way next (Term-F.Scan inner) = None

module _ (names : List (List ℕ)) where
  -- By a name: to a part of a struct, or to a branch of a union or an optional.
  abbrev pub named_way : List ℕ → Term-F Term Arm Case Part Seq → Option Way
  named_way text Term-F.Unit = None
  named_way text (Term-F.Base base args) = None
  named_way text (Term-F.Lit literal) = None
  named_way text Term-F.Eor = None
  named_way text (Term-F.Struct parts) = option_and_then (part_way parts) (position (is_part names text) parts)
  named_way text (Term-F.Alt arms) = option_and_then (arm_way arms) (position (is_arm names text) arms)
  named_way text (Term-F.Switch e cases) = option_and_then (case_way cases) (position (is_case names text) cases)
  named_way text (Term-F.Guard inner binder condition) = None
  named_way text (Term-F.Seq s) = None
  named_way text (Term-F.Call number args) = None
  named_way text (Term-F.Compute e form) = None
  named_way text (Term-F.Absorb inner) = None
  named_way text (Term-F.Scan inner) = None

  abbrev pub way_in : PathStep → Term-F Term Arm Case Part Seq → Option Way
  way_in (path.Name text) t = named_way text t
  way_in (path.Index number) t = element_way (step.Elem number) t
  way_in path.Each t = element_way step.Each t

  -- Where a step goes from a term that isn't passed through, if there is one.
  abbrev pub way : PathStep → Option Term → Option Way
  way next None = None
  way next (Some t) = way_in next (out-Term t)

-- Why a name names nothing at a term.
abbrev pub no_name : Term-F Term Arm Case Part Seq → PathReason
no_name Term-F.Unit = reason.NotNamed
no_name (Term-F.Base base args) = reason.NotNamed
no_name (Term-F.Lit literal) = reason.NotNamed
no_name Term-F.Eor = reason.NotNamed
no_name (Term-F.Struct parts) = reason.NoField
no_name (Term-F.Alt arms) = reason.NoBranch
no_name (Term-F.Switch e cases) = reason.NoBranch
no_name (Term-F.Guard inner binder condition) = reason.NotNamed
no_name (Term-F.Seq s) = reason.NotNamed
no_name (Term-F.Call number args) = reason.NotNamed
no_name (Term-F.Compute e form) = reason.NotNamed
no_name (Term-F.Absorb inner) = reason.NotNamed
no_name (Term-F.Scan inner) = reason.NotNamed

abbrev pub no_name_at : Option Term → PathReason
no_name_at None = reason.NotNamed
no_name_at (Some t) = no_name (out-Term t)

-- Why a step goes nowhere.
abbrev pub reason_of : PathStep → Option Term → PathReason
reason_of (path.Name text) t = no_name_at t
reason_of (path.Index number) t = reason.NotArray
reason_of path.Each t = reason.NotArray

-- One more step before the others.
abbrev pub with_step : Step → Result (List Step) PathFault → Result (List Step) PathFault
with_step next (Ok steps) = Ok (next ∷ steps)
with_step next (Err fault) = Err fault

-- Where a step goes somewhere, what follows behind it; else the step is at fault.
abbrev pub or_fault : PathFault → Option Way → (Way → Result (List Step) PathFault) → Result (List Step) PathFault
or_fault fault None follow = Err fault
or_fault fault (Some found) follow = with_step found.step (follow found)

-- The term that decides what a node is, behind constraints, searches and calls.
abbrev pub form_of : List Decl → Term → Option Term
form_of decls t = option_map (λ form. form.term) (form_at decls false (length decls) t)

-- The same of the body of a declaration, by its number.
abbrev pub body_form : List Decl → ℕ → Option Term
body_form decls number = option_and_then (λ decl. form_of decls decl.body) (slice_get decls number)

module _ (decls : List Decl) (names : List (List ℕ)) where
  -- The steps from a term on, of which the next has this number.
  unfoldable pub resolved_from : ℕ → Option Term → List PathStep → Result (List Step) PathFault
  resolved_from number here [] = Ok []
  resolved_from number here (next ∷ steps) =
      or_fault (record { step = number; reason = reason_of next here }) (way names next here)
      (λ found. resolved_from (number + 1) (form_of decls found.term) steps)

-- The steps of a path from the body of the record type, which are counted from 1.
abbrev pub resolved : Module → List PathStep → Result (List Step) PathFault
resolved description steps =
    resolved_from description.decls description.names 1 (body_form description.decls description.shape.each) steps
