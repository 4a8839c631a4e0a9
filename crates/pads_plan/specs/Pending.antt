-- A term's own part and what stands below it, from one layer of the term; for private clauses.
use Rattle.std.specs.Prelude.{ℕ, zero, suc, ◌+◌, ◌<◌, ◌≤◌, ◌≡◌, List, [], ◌++◌, length, map, Bool, true, false, nat_eq, Option, Some, None, Result, Ok, Err, if◌then◌else◌, slice_get, ⊤}
use Rattle.std.specs.List.{list_any}
use Rattle.pads_calc.specs.declared.decl.Decl.{Decl}
use Rattle.pads_calc.specs.declared.term.Arm.{Arm}
use Rattle.pads_calc.specs.declared.term.Case.{Case}
use Rattle.pads_calc.specs.declared.term.Part.{Part}
use Rattle.pads_calc.specs.declared.term.Seq.{Seq}
use Rattle.pads_calc.specs.declared.term.Term.{Term, Term-F, out-Term}
use Rattle.pads_forms.specs.Terms.{name_at}
use Rattle.pads_plan.specs.declared.listing.Pending.{Pending}
use Rattle.pads_value.specs.declared.memory.Refusal.{Refusal}
use Rattle.pads_value.specs.declared.memory.Refusal.TheVariants as refusal
use Rattle.pads_sums.specs.declared.form.PartForm.{PartForm}
use Rattle.pads_plan.specs.declared.part.PlanPart.{PlanPart}
use Rattle.pads_plan.specs.declared.part.PlanList.{PlanList}
use Rattle.pads_plan.specs.declared.plan.TooManyParts.{TooManyParts}
use Rattle.pads_plan.specs.Plans.{size, most}
use Rattle.pads_sums.specs.declared.form.PartForm.TheVariants as form
use Rattle.pads_plan.specs.declared.part.Step.{Step}
use Rattle.pads_plan.specs.Expansion.{Numbered, Listed, listing, Branch, Named, bare, base_form, computed_form, expand, caller, parts_below, branches_below, elements_below}
use Rattle.pads_plan.specs.Ways.{from}

-- whether a term is passed through, calls left aside
abbrev pub is_passed : Term-F Term Arm Case Part Seq → Bool
is_passed Term-F.Unit = false
is_passed (Term-F.Base base args) = false
is_passed (Term-F.Lit literal) = false
is_passed Term-F.Eor = false
is_passed (Term-F.Struct parts) = false
is_passed (Term-F.Alt arms) = false
is_passed (Term-F.Switch e cases) = false
is_passed (Term-F.Guard inner binder condition) = true
is_passed (Term-F.Seq s) = false
is_passed (Term-F.Call number args) = false
is_passed (Term-F.Compute e computed) = false
is_passed (Term-F.Absorb inner) = true
is_passed (Term-F.Scan inner) = true

abbrev pub is_called : Term-F Term Arm Case Part Seq → Bool
is_called Term-F.Unit = false
is_called (Term-F.Base base args) = false
is_called (Term-F.Lit literal) = false
is_called Term-F.Eor = false
is_called (Term-F.Struct parts) = false
is_called (Term-F.Alt arms) = false
is_called (Term-F.Switch e cases) = false
is_called (Term-F.Guard inner binder condition) = false
is_called (Term-F.Seq s) = false
is_called (Term-F.Call number args) = true
is_called (Term-F.Compute e computed) = false
is_called (Term-F.Absorb inner) = false
is_called (Term-F.Scan inner) = false

abbrev pub is_unit : Term-F Term Arm Case Part Seq → Bool
is_unit Term-F.Unit = true
is_unit (Term-F.Base base args) = false
is_unit (Term-F.Lit literal) = false
is_unit Term-F.Eor = false
is_unit (Term-F.Struct parts) = false
is_unit (Term-F.Alt arms) = false
is_unit (Term-F.Switch e cases) = false
is_unit (Term-F.Guard inner binder condition) = false
is_unit (Term-F.Seq s) = false
is_unit (Term-F.Call number args) = false
is_unit (Term-F.Compute e computed) = false
is_unit (Term-F.Absorb inner) = false
is_unit (Term-F.Scan inner) = false

module _ (names : List (List ℕ)) where
  abbrev pub arm_names : List Arm → List (List ℕ)
  arm_names arms = map (λ arm. name_at names arm.name) arms

  abbrev pub case_names : List Case → List (List ℕ)
  case_names cases = map (λ case. name_at names case.arm.name) cases

  -- the form of a term that isn't passed through
  abbrev pub form_of : Term-F Term Arm Case Part Seq → PartForm
  form_of Term-F.Unit = form.Bare
  form_of (Term-F.Base base args) = base_form base
  form_of (Term-F.Lit literal) = form.Bare
  form_of Term-F.Eor = form.Bare
  form_of (Term-F.Struct parts) = form.Fields
  form_of (Term-F.Alt arms) = form.Branch (arm_names arms)
  form_of (Term-F.Switch e cases) = form.Branch (case_names cases)
  form_of (Term-F.Guard inner binder condition) = form.Bare
  form_of (Term-F.Seq s) = form.Elements
  form_of (Term-F.Call number args) = form.Bare
  form_of (Term-F.Compute e computed) = computed_form computed
  form_of (Term-F.Absorb inner) = form.Bare
  form_of (Term-F.Scan inner) = form.Bare

  module _ (call : ℕ → Listed) where
    abbrev pub named_of : Part → Named
    named_of part = record { name = part.name; node = expand names call part.term }

    abbrev pub branch_of : Arm → Branch
    branch_of arm = record { name = arm.name; node = expand names call arm.term }

    abbrev pub branch_of_case : Case → Branch
    branch_of_case case = branch_of case.arm

    -- what stands below it
    module _ (way : List ℕ) (above : Step) (place : List ℕ) (up : ℕ) where
      abbrev pub kids_of : Term-F Term Arm Case Part Seq → List Numbered
      kids_of Term-F.Unit = []
      kids_of (Term-F.Base base args) = []
      kids_of (Term-F.Lit literal) = []
      kids_of Term-F.Eor = []
      kids_of (Term-F.Struct parts) = parts_below names way above place up 0 (map named_of parts)
      kids_of (Term-F.Alt arms) = branches_below names way above place up 0 (map branch_of arms)
      kids_of (Term-F.Switch e cases) = branches_below names way above place up 0 (map branch_of_case cases)
      kids_of (Term-F.Guard inner binder condition) = []
      kids_of (Term-F.Seq s) = elements_below names way above place up (expand names call s.elem)
      kids_of (Term-F.Call number args) = []
      kids_of (Term-F.Compute e computed) = []
      kids_of (Term-F.Absorb inner) = []
      kids_of (Term-F.Scan inner) = []

-- a term that isn't passed through, if one was found
abbrev pub Plain : Option Term → Type 0
Plain None = ⊤
Plain (Some t) = (is_passed (out-Term t) ≡ false) × (is_called (out-Term t) ≡ false)

module _ (decls : List Decl) where
  -- the declaration that a call leads to, unless it stands on the way already
  abbrev pub unless_met : ℕ → List ℕ → Option Decl
  unless_met number way = if list_any (nat_eq number) way then None else slice_get decls number

  abbrev pub callee_of : ℕ → ℕ → List ℕ → Option Decl
  callee_of zero number way = None
  callee_of (suc left) number way = unless_met number way

module _ (decls : List Decl) (names : List (List ℕ)) where
  -- the parts of a term, where so many declarations can still come to stand on the way
  abbrev pub parts_at : ℕ → Term → Listed
  parts_at left t = (expand names (caller names decls left) t).listed

  -- what was found behind the terms that are passed through: a term, or none at a repeated call
  abbrev pub found_at : ℕ → Option Term → Listed
  found_at left None = bare form.Bare
  found_at left (Some t) = parts_at left t

  -- the terms that are still to be listed, the next one last
  abbrev pub numbered : Pending → Numbered
  numbered item = parts_at item.left item.term.now item.way (from item.up item.step item.place)

  abbrev pub pending : List Pending → List Numbered
  pending stack = map numbered stack

-- the parts that are listed already, then those that are still to be listed
abbrev pub whole : List PlanPart → List Numbered → List PlanPart
whole parts items = parts ++ listing (length parts) items

-- One more part is listed, unless there is no room for all.
abbrev pub ListsOne : (room : ℕ) (all : List PlanPart) (before : ℕ) (parts : List PlanPart) (items : List Numbered) → Result (Unit {0}) (Refusal TooManyParts) → Type 0
ListsOne room all before parts items (Ok done) = (whole parts items ≡ all) × (length parts ≡ before + 1) × (length parts ≤ room)
ListsOne room all before parts items (Err (refusal.Fault fault)) = room < length all
ListsOne room all before parts items (Err refusal.Memory) = ⊤

-- All parts are listed, unless there is no room for them.
abbrev pub ListsAll : (room : ℕ) (all parts : List PlanPart) → Result (Unit {0}) (Refusal TooManyParts) → Type 0
ListsAll room all parts (Ok done) = (parts ≡ all) × (length parts ≤ room)
ListsAll room all parts (Err (refusal.Fault fault)) = room < length all
ListsAll room all parts (Err refusal.Memory) = ⊤

-- The parts of a record type, unless there is no room for them.
abbrev pub Listing : (room : ℕ) (all : List PlanPart) → Result (List PlanPart) (Refusal TooManyParts) → Type 0
Listing room all (Ok parts) = (parts ≡ all) × (length all ≤ room)
Listing room all (Err (refusal.Fault fault)) = room < length all
Listing room all (Err refusal.Memory) = ⊤

abbrev pub ListMade : (room : ℕ) (list : PlanList) → Result PlanList (Refusal TooManyParts) → Type 0
ListMade room list (Ok made) = (made ≡ list) × (length list.parts ≤ room)
ListMade room list (Err (refusal.Fault fault)) = room < length list.parts
ListMade room list (Err refusal.Memory) = ⊤

-- Lists of at most so many parts in all, unless there are more.
abbrev pub ListsMade : (lists : List PlanList) → Result (List PlanList) (Refusal TooManyParts) → Type 0
ListsMade lists (Ok made) = (made ≡ lists) × (size lists ≤ most)
ListsMade lists (Err (refusal.Fault fault)) = most < size lists
ListsMade lists (Err refusal.Memory) = ⊤
