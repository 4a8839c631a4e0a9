-- Where types lead by several steps.
use Rattle.std.specs.Prelude.{ℕ, zero, suc, List, map}
use Rattle.pads_ast.specs.declared.decl.Decl.{Decl}
use Rattle.pads_base_names.specs.Names.{base_name}
use Rattle.pads_rules.specs.declared.declared.Declared.{Declared}
use Rattle.pads_rules.specs.declared.expr_sort.ExprSort.{ExprSort}
use Rattle.pads_rules.specs.declared.expr_sort.ExprSort.TheVariants as expr_sort
use Rattle.pads_rules.specs.declared.lead.Lead.{Lead}
use Rattle.pads_rules.specs.declared.lead.Lead.TheVariants as lead
use Rattle.pads_rules.specs.Resolving.{Sight, seen_from, named_number, wrap, lead_to, lead_in, lead_at, outline, declare, by_number}

-- What a type's name leads to.
abbrev pub name_lead : Sight → List ℕ → Lead
name_lead sight name = lead_to (base_name name) (named_number sight name)

-- Where a lead leads by what each type leads to.
abbrev pub onward : List Lead → Lead → Lead
onward leads (lead.Ends sort) = lead.Ends sort
onward leads (lead.Leads count to) = wrap count (lead_at leads to)

unfoldable pub all_onward : List Lead → List Lead → List Lead
all_onward leads from = map (onward leads) from

-- Where each type leads behind so many more steps.
unfoldable pub jumped : List Lead → ℕ → List Lead
jumped near zero = near
jumped near (suc steps) = all_onward (jumped near steps) near

-- The sort where the way has ended.
abbrev pub settled : Lead → ExprSort
settled (lead.Ends sort) = sort
settled (lead.Leads count to) = expr_sort.Unknown

-- What the sorts come from, by the names and marks of some types.
abbrev pub lead_by : List Declared → ℕ → Decl → Lead
lead_by types number d = lead_in (seen_from types number) d.body

unfoldable pub leads_among : List Declared → List Decl → List Lead
leads_among types decls = by_number (lead_by types) decls

-- The type with the sort to which its declaration leads.
abbrev pub far_outline : List Declared → List Lead → ℕ → Decl → Declared
far_outline types far number d = outline (settled (onward far (lead_by types number d))) d

unfoldable pub sorted_by : List Declared → List Lead → List Decl → List Declared
sorted_by types far decls = by_number (far_outline types far) decls

-- The type that a declaration declares, as it sees some types.
abbrev pub declare_by : List Declared → ℕ → Decl → Declared
declare_by types number d = declare (seen_from types number) d

unfoldable pub declared_by : List Declared → List Decl → List Declared
declared_by types decls = by_number (declare_by types) decls
