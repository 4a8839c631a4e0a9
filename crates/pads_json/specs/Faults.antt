-- The faults of a record: all nodes with a cause of their own, a node before its kids and kids in order,
-- each with its place, its cause and its extent. A kid that its node's term doesn't give has no entry.
use Rattle.std.specs.Prelude.{ℕ, ◌+◌, List, [], ◌∷◌, ◌++◌, map, Bool, true, false, ◌&&◌, codes, flat_map, Option, Some, None, is_none}
use Rattle.std.specs.List.{list_all}
use Rattle.serde_json.specs.Data.{Data, number, unsigned, string, array, object, item, no_items, member, no_members}
use Rattle.json.specs.Print.{escape}
use Rattle.serde_json.specs.Written.{compact_text}
use Rattle.pads_value.specs.declared.cause.Cause.{Cause}
use Rattle.pads_value.specs.declared.descriptor.Pd.{Pd, Pd-F, fold-Pd, out-Pd}
use Rattle.pads_value.specs.declared.descriptor.Span.{Span}
use Rattle.pads_value.specs.declared.value.Val.{Val}
use Rattle.pads_value.specs.Causes.{name_of}
use Rattle.pads_calc.specs.declared.decl.Decl.{Decl}
use Rattle.pads_calc.specs.declared.term.Term.{Term}
use Rattle.pads_forms.specs.Forms.{Form, form_at}
use Rattle.pads_forms.specs.Slots.{Slot, slot}
use Rattle.pads_forms.specs.Steps.{Step}
use Rattle.pads_json.specs.Places.{place_text}

-- the begin and the end, offsets in the whole input
abbrev pub span_shown : Span → Data
span_shown span = array (item (number (unsigned span.begin)) (item (number (unsigned span.end)) no_items))

abbrev pub fault : List ℕ → Cause → Span → Data
fault place cause span =
    object (member (codes "at") (string place) (member (codes "cause") (string (name_of cause)) (member (codes "span") (span_shown span) no_members)))

-- the fault of a node itself
abbrev pub own_fault : List ℕ → Option Cause → Span → List Data
own_fault place None span = []
own_fault place (Some cause) span = fault place cause span ∷ []

-- the faults of a node and those below it: by the steps to it from the body, the last first, by its value
-- where that is known, and by its term, in which calls may be nested so deep
abbrev pub Told : Type 0
Told = List Step → Option Val → ℕ → Term → List Data

abbrev pub kid_faults : List Step → ℕ → Option Slot → Told → List Data
kid_faults steps depth None kid = []
kid_faults steps depth (Some given) kid = kid (given.step ∷ steps) given.value depth given.term

module _ (decls : List Decl) (names : List (List ℕ)) where
  -- of the kids from kid `at` on
  abbrev pub kids_faults : List Step → Option Val → Form → ℕ → List Told → List Data
  kids_faults steps v form at [] = []
  kids_faults steps v form at (kid ∷ kids) =
      kid_faults steps form.depth (slot names form.term v at) kid ++ kids_faults steps v form (at + 1) kids

  abbrev pub below : List Step → Option Val → Option Form → List Told → List Data
  below steps v None kids = []
  below steps v (Some form) kids = kids_faults steps v form 0 kids

  abbrev pub faults_step : Pd-F Told → Told
  faults_step node steps v depth t =
      own_fault (place_text steps) node.cause node.span ++ below steps v (form_at decls true depth t) node.kids

  unfoldable pub faults : Pd → Told
  faults = fold-Pd Told faults_step

  -- the same of kids that aren't opened yet, for private clauses
  abbrev pub kids_told : List Step → Option Val → Form → List Pd → List Data
  kids_told steps v form kids = kids_faults steps v form 0 (map faults kids)

  abbrev pub kid_told : List Step → ℕ → Option Slot → Pd → List Data
  kid_told steps depth given kid = kid_faults steps depth given (faults kid)

-- faults as they are written one after another, each with a comma behind it, for private clauses
abbrev pub listed : List Data → List ℕ
listed = flat_map (λ told. compact_text told ++ 44 ∷ [])

-- what stands before a fault's place, and behind it
abbrev pub fault_head : List ℕ
fault_head = codes "{" ++ 34 ∷ (codes "at" ++ 34 ∷ (codes ":" ++ 34 ∷ []))

abbrev pub fault_tail : Cause → Span → List ℕ
fault_tail cause span =
    34 ∷ (codes "," ++ 34 ∷ (codes "cause" ++ 34 ∷ (codes ":" ++ 34 ∷ (escape (name_of cause) ++ 34 ∷ (codes "," ++ 34 ∷ (codes "span" ++ 34 ∷ (codes ":" ++ (compact_text (span_shown span) ++ codes "},"))))))))

-- A node without a cause of its own and without kids.
abbrev pub has_nothing : Option Cause → List Pd → Bool
has_nothing None [] = true
has_nothing None (kid ∷ kids) = false
has_nothing (Some cause) kids = false

abbrev pub is_bare_node : Pd → Bool
is_bare_node pd = has_nothing (out-Pd pd).cause (out-Pd pd).kids

-- whether neither a node nor any below it has a cause
abbrev pub quiet_step : Pd-F Bool → Bool
quiet_step node = is_none node.cause && list_all (λ quiet. quiet) node.kids

unfoldable pub is_quiet : Pd → Bool
is_quiet = fold-Pd Bool quiet_step
