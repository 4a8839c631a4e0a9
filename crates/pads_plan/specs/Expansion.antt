-- The parts that a term stands for: a part of its own, then in document order those below it, which are
-- the named parts of a struct, the branches of a union other than nothing, and all elements of an array.
-- Constraints, searches, absorbed terms and calls are passed through. A call of a declaration that
-- already stands on the way from the record type is a part with nothing below it.
use Rattle.std.specs.Prelude.{ℕ, zero, suc, ◌+◌, List, [], ◌∷◌, ◌++◌, length, map, Bool, true, false, nat_eq, Option, Some, None, if◌then◌else◌, slice_get}
use Rattle.std.specs.List.{list_any}
use Rattle.pads_dispatch.specs.declared.base.Base.{Base}
use Rattle.pads_dispatch.specs.declared.base.Base.TheVariants as base
use Rattle.pads_calc.specs.declared.decl.Decl.{Decl}
use Rattle.pads_calc.specs.declared.term.Arm.{Arm-F}
use Rattle.pads_calc.specs.declared.term.Case.{Case-F}
use Rattle.pads_calc.specs.declared.term.ComputedForm.{ComputedForm}
use Rattle.pads_calc.specs.declared.term.ComputedForm.TheVariants as computed
use Rattle.pads_calc.specs.declared.term.Part.{Part-F}
use Rattle.pads_calc.specs.declared.term.Seq.{Seq-F}
use Rattle.pads_calc.specs.declared.term.Term.{Term, Term-F, fold-Term}
use Rattle.pads_forms.specs.Terms.{name_at}
use Rattle.pads_sums.specs.declared.form.PartForm.{PartForm}
use Rattle.pads_sums.specs.declared.form.PartForm.TheVariants as form
use Rattle.pads_plan.specs.declared.part.PlanPart.{PlanPart}
use Rattle.pads_plan.specs.declared.part.Step.{Step}
use Rattle.pads_plan.specs.declared.part.Step.TheVariants as step
use Rattle.pads_plan.specs.Ways.{Origin, from, own, named_below, each_below}

-- the parts from a number on
abbrev pub Numbered : Type 0
Numbered = ℕ → List PlanPart

-- parts numbered one list after another
abbrev pub listing : ℕ → List Numbered → List PlanPart
listing at [] = []
listing at (parts ∷ more) = parts at ++ listing (at + length (parts at)) more

-- the parts of a term: by the declarations that stand on the way to it and by how it is reached
abbrev pub Listed : Type 0
Listed = List ℕ → Origin → Numbered

-- a term, a branch and a part of a struct, with their parts
pub record Node : Type 0 where
  pub is_unit : Bool
  pub listed : Listed

pub record Branch : Type 0 where
  pub name : ℕ
  pub node : Node

pub record Named : Type 0 where
  pub name : Option ℕ
  pub node : Node

-- a part with nothing below it
abbrev pub bare : PartForm → Listed
bare form way origin at = own form origin ∷ []

-- what the nodes of a base type give
abbrev pub base_form : Base → PartForm
base_form (base.Int kind coding) = form.Number
base_form (base.IntFw kind coding) = form.Number
base_form (base.Bin kind order) = form.Number
base_form (base.Until coding) = form.Text
base_form (base.UntilEor coding) = form.Text
base_form (base.Fixed coding) = form.Text
base_form (base.Class coding) = form.Text
base_form (base.Char coding) = form.Text
base_form (base.Ip coding) = form.Address
base_form (base.Enum coding labels) = form.Label (map (λ label. label.name) labels)
base_form (base.Packed signed) = form.Number
base_form (base.Zoned signed) = form.Number

abbrev pub computed_form : ComputedForm → PartForm
computed_form (computed.Range least greatest) = form.Number
computed_form computed.Text = form.Text

abbrev pub term : Listed → Node
term listed = record { is_unit = false; listed = listed }

abbrev pub arm_step : Arm-F Node Branch Branch Named Node → Branch
arm_step arm = record { name = arm.name; node = arm.term }

abbrev pub case_step : Case-F Node Branch Branch Named Node → Branch
case_step case = case.arm

abbrev pub part_step : Part-F Node Branch Branch Named Node → Named
part_step part = record { name = part.name; node = part.term }

abbrev pub seq_step : Seq-F Node Branch Branch Named Node → Node
seq_step s = s.elem

-- what a declaration stands for, unless there is none or it stands on the way already
abbrev pub called : (Term → Node) → ℕ → Option Decl → Listed
called expanded number None way = bare form.Bare way
called expanded number (Some decl) way =
    if list_any (nat_eq number) way then bare form.Bare way else (expanded decl.body).listed (way ++ number ∷ [])

-- the parts of a kid, where it has a name
abbrev pub if_named : Option ℕ → (ℕ → Numbered) → List Numbered
if_named None parts = []
if_named (Some name) parts = parts name ∷ []

module _ (names : List (List ℕ)) where
  -- The parts below the part of number `up`, reached by this step, at this place; the declarations on the
  -- way to it.
  module _ (way : List ℕ) (above : Step) (place : List ℕ) (up : ℕ) where
    abbrev pub by_name : Step → ℕ → Listed → Numbered
    by_name step name listed = listed way (from up step (named_below above place (name_at names name)))

    -- those of a struct's parts from number k on
    abbrev pub parts_below : ℕ → List Named → List Numbered
    parts_below k [] = []
    parts_below k (part ∷ parts) = if_named part.name (λ name. by_name (step.Part k) name part.node.listed) ++ parts_below (k + 1) parts

    -- those of a union's branches from number k on, nothing left out
    abbrev pub branches_below : ℕ → List Branch → List Numbered
    branches_below k [] = []
    branches_below k (branch ∷ branches) =
        (if branch.node.is_unit then [] else by_name (step.Branch k) branch.name branch.node.listed ∷ []) ++ branches_below (k + 1) branches

    -- those of an array's elements
    abbrev pub elements_below : Node → List Numbered
    elements_below elem = elem.listed way (from up step.Each (each_below place)) ∷ []

  abbrev pub branch_names : List Branch → List (List ℕ)
  branch_names branches = map (λ branch. name_at names branch.name) branches

  abbrev pub struct_listed : List Named → Listed
  struct_listed parts way origin at = own form.Fields origin ∷ listing (at + 1) (parts_below way origin.step origin.place at 0 parts)

  abbrev pub union_listed : List Branch → Listed
  union_listed branches way origin at =
      own (form.Branch (branch_names branches)) origin ∷ listing (at + 1) (branches_below way origin.step origin.place at 0 branches)

  abbrev pub array_listed : Node → Listed
  array_listed elem way origin at = own form.Elements origin ∷ listing (at + 1) (elements_below way origin.step origin.place at elem)

  module _ (call : ℕ → Listed) where
    -- one equation for each form
    abbrev pub term_step : Term-F Node Branch Branch Named Node → Node
    term_step Term-F.Unit = record { is_unit = true; listed = bare form.Bare }
    term_step (Term-F.Base base args) = term (bare (base_form base))
    term_step (Term-F.Lit literal) = term (bare form.Bare)
    term_step Term-F.Eor = term (bare form.Bare)
    term_step (Term-F.Struct parts) = term (struct_listed parts)
    term_step (Term-F.Alt arms) = term (union_listed arms)
    term_step (Term-F.Switch e cases) = term (union_listed cases)
    term_step (Term-F.Guard inner binder condition) = term inner.listed
    term_step (Term-F.Seq elem) = term (array_listed elem)
    term_step (Term-F.Call number args) = term (call number)
    term_step (Term-F.Compute e computed) = term (bare (computed_form computed))
    term_step (Term-F.Absorb inner) = term inner.listed
    term_step (Term-F.Scan inner) = term inner.listed

  -- a term, where calls stand for these parts
  unfoldable pub expand : (ℕ → Listed) → Term → Node
  expand call = fold-Term Node Branch Branch Named Node (term_step call) arm_step case_step part_step seq_step

  -- A call, where so many more declarations can come to stand on the way. That is the number of all at
  -- first, and with each one that comes there is one less; so where none can come, all stand there.
  unfoldable pub caller : List Decl → ℕ → ℕ → Listed
  caller decls zero number = bare form.Bare
  caller decls (suc left) number = called (expand (caller decls left)) number (slice_get decls number)
