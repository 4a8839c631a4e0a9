-- The plan of a module: the parts of its record types, the header type's first, where there is one.
use Rattle.std.specs.Prelude.{ℕ, List, [], ◌∷◌, length, map, sum_by, Option, Some, None, unwrap_or, option_map, slice_get}
use Rattle.pads_calc.specs.declared.decl.Decl.{Decl}
use Rattle.pads_calc.specs.declared.decl.Shape.{Shape}
use Rattle.pads_module.specs.Modules.{Contents}
use Rattle.pads_forms.specs.Terms.{name_at}
use Rattle.pads_sums.specs.declared.form.PartForm.TheVariants as form
use Rattle.pads_plan.specs.declared.part.PlanList.{PlanList}
use Rattle.pads_plan.specs.declared.part.PlanPart.{PlanPart}
use Rattle.pads_plan.specs.Expansion.{caller}
use Rattle.pads_plan.specs.Ways.{own, record_origin, body_origin}

abbrev pub with_head : Option ℕ → ℕ → List ℕ
with_head None each = each ∷ []
with_head (Some head) each = head ∷ each ∷ []

-- the types of records, the header's first
abbrev pub types : Shape → List ℕ
types shape = with_head shape.head shape.each

module _ (decls : List Decl) (names : List (List ℕ)) where
  -- the record node has number 0 and its body 1; what is below the body comes after it
  abbrev pub parts_of : ℕ → List PlanPart
  parts_of type = own form.Record record_origin ∷ caller names decls (length decls) type [] body_origin 1

  abbrev pub name_of : ℕ → List ℕ
  name_of type = unwrap_or (option_map (λ decl. name_at names decl.name) (slice_get decls type)) []

  abbrev pub list_of : ℕ → PlanList
  list_of type = record { name = name_of type; parts = parts_of type }

abbrev pub lists_of : Contents → List PlanList
lists_of m = map (list_of m.decls m.names) (types m.shape)

-- how many parts there are in all lists
abbrev pub size : List PlanList → ℕ
size lists = sum_by (λ list. length list.parts) lists

-- the most that a summary counts for
abbrev pub most : ℕ
most = 65536
