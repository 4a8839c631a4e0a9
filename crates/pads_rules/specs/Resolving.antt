-- What type names mean, and the declared types of a description.
use Rattle.std.specs.Prelude.{ℕ, zero, suc, ◌+◌, ◌-◌, ◌^◌, min, nat_lt, Bool, false, not, ◌&&◌, ◌||◌, if◌then◌else◌, List, [], length, map, flat_map, Option, Some, None, is_none, find, position, slice_get}
use Rattle.std.specs.List.{enumerate_from}
use Rattle.pads_ast.specs.declared.decl.Decl.{Decl}
use Rattle.pads_ast.specs.declared.decl.DeclBody.{DeclBody}
use Rattle.pads_ast.specs.declared.decl.DeclBody.TheVariants as decl
use Rattle.pads_ast.specs.declared.decl.Part.{Part}
use Rattle.pads_ast.specs.declared.name.Name.{Name}
use Rattle.pads_ast.specs.declared.types.Branch.{Branch}
use Rattle.pads_ast.specs.declared.types.Param.{Param}
use Rattle.pads_ast.specs.declared.types.Type.{«Type»}
use Rattle.pads_base_names.specs.declared.meaning.BaseName.{BaseName}
use Rattle.pads_base_names.specs.Names.{base_name}
use Rattle.pads_rules.specs.declared.sort.Form.TheVariants as form
use Rattle.pads_rules.specs.declared.declared.Content.{Content}
use Rattle.pads_rules.specs.declared.declared.Content.TheVariants as content
use Rattle.pads_rules.specs.declared.declared.Declared.{Declared}
use Rattle.pads_rules.specs.declared.declared.Named.{Named}
use Rattle.pads_rules.specs.declared.expr_sort.ExprSort.{ExprSort}
use Rattle.pads_rules.specs.declared.expr_sort.ExprSort.TheVariants as expr_sort
use Rattle.pads_rules.specs.declared.lead.Lead.{Lead}
use Rattle.pads_rules.specs.declared.lead.Lead.TheVariants as lead
use Rattle.pads_rules.specs.Sorts.{plain, optional, optional_by, base_sort}
use Rattle.pads_rules.specs.Texts.{same_text}
use Rattle.pads_ast.specs.Trees.{is_empty, written, name_of, params_of, named_part, branches_of, is_precord, is_precursive}

-- Declared types, as they are seen from the declaration of a number, from 0.
pub record Sight : Type 0 where
  pub types : List Declared
  pub number : ℕ

-- What a type name means where it stands: a base type; else a declared type that may be named there.
pub data Meaning : Type 0 where
  Base : BaseName → Meaning
  Known : Declared → Meaning
  Undeclared : Meaning

abbrev pub declared_as : List Declared → List ℕ → Option Declared
declared_as env name = find (λ declared. same_text declared.name name) env

-- Types as the declaration of a number sees them.
abbrev pub seen_from : List Declared → ℕ → Sight
seen_from types number = record { types = types; number = number }

abbrev pub is_precursive_type : Option Declared → Bool
is_precursive_type (Some declared) = is_precursive declared.mark
is_precursive_type None = false

-- The type of a number may be named: it is declared before, or it is marked `Precursive`.
abbrev pub may_be_named : Sight → ℕ → Bool
may_be_named sight number = nat_lt number sight.number || is_precursive_type (slice_get sight.types number)

-- The number of the first type of a name.
abbrev pub first_of : List Declared → List ℕ → Option ℕ
first_of types name = position (λ declared. same_text declared.name name) types

abbrev pub if_may : Sight → Option ℕ → Option ℕ
if_may sight (Some number) = if may_be_named sight number then Some number else None
if_may sight None = None

-- The number of the type that a name names: the first earlier one of that name, and where there is none the first one
-- from this declaration on, which is the first of all; if it may be named.
abbrev pub named_number : Sight → List ℕ → Option ℕ
named_number sight name = if_may sight (first_of sight.types name)

abbrev pub type_at : List Declared → Option ℕ → Option Declared
type_at types (Some number) = slice_get types number
type_at types None = None

abbrev pub named_type : Sight → List ℕ → Option Declared
named_type sight name = type_at sight.types (named_number sight name)

abbrev pub of_declared : Option Declared → Meaning
of_declared (Some declared) = Known declared
of_declared None = Undeclared

abbrev pub unless_base : Option BaseName → Option Declared → Meaning
unless_base (Some base) declared = Base base
unless_base None declared = of_declared declared

unfoldable pub meaning : Sight → List ℕ → Meaning
meaning sight name = unless_base (base_name name) (named_type sight name)

-- The sort that a meaning has; none is known where the name names no type that may be named there.
abbrev pub meaning_sort : Meaning → ExprSort
meaning_sort (Base base) = base_sort base
meaning_sort (Known declared) = declared.sort
meaning_sort Undeclared = expr_sort.Unknown

abbrev pub behind_popt : Option ℕ → ExprSort → ExprSort
behind_popt (Some place) sort = optional sort
behind_popt None sort = sort

-- The sort of a type.
abbrev pub type_sort : Sight → «Type» → ExprSort
type_sort sight t = behind_popt t.optional (meaning_sort (meaning sight t.name.text))

abbrev pub is_precord_type : Meaning → Bool
is_precord_type (Base base) = false
is_precord_type (Known declared) = is_precord declared.mark
is_precord_type Undeclared = false

abbrev pub is_record_list_type : Meaning → Bool
is_record_list_type (Base base) = false
is_record_list_type (Known declared) = declared.record_list
is_record_list_type Undeclared = false

-- The type of a name that isn't behind `Popt`.
abbrev pub plain_meaning : Sight → «Type» → Meaning
plain_meaning sight t = by_popt t.optional (meaning sight t.name.text)
  where
    by_popt : Option ℕ → Meaning → Meaning
    by_popt (Some place) m = Undeclared
    by_popt None m = m

-- A record list: an array that isn't marked `Precord` or `Precursive`, of a `Precord` type, with nothing else written to it.
abbrev pub is_record_list_body : Sight → DeclBody → Bool
is_record_list_body sight (decl.Array d) =
    is_empty (written d.params) && is_none d.size && is_empty d.options && is_none d.condition && is_precord_type (plain_meaning sight d.of)
is_record_list_body sight (decl.Struct d) = false
is_record_list_body sight (decl.Union d) = false
is_record_list_body sight (decl.Enum d) = false
is_record_list_body sight (decl.Typedef d) = false
is_record_list_body sight (decl.Opt d) = false

abbrev pub is_record_list : Sight → Decl → Bool
is_record_list sight d = not (is_precord d.mark || is_precursive d.mark) && is_record_list_body sight d.body

abbrev pub named : Sight → Name × «Type» → Named
named sight both = record { text = both.0.text; sort = type_sort sight both.1 }

abbrev pub branch_named : Sight → Branch → Named
branch_named sight branch = record { text = branch.name.text; sort = type_sort sight branch.of }

abbrev pub param_named : Sight → Param → Named
param_named sight param = record { text = param.name.text; sort = type_sort sight param.of }

-- The named parts of a struct.
abbrev pub fields : Sight → List Part → List Named
fields sight parts = map (named sight) (flat_map named_part parts)

abbrev pub content_in : Sight → DeclBody → Content
content_in sight (decl.Struct d) = content.Fields (fields sight d.parts)
content_in sight (decl.Union d) = content.Branches (map (branch_named sight) (branches_of d.body))
content_in sight (decl.Array d) = content.Element (type_sort sight d.of)
content_in sight (decl.Enum d) = content.Labels (map (λ label. label.name.text) d.labels)
content_in sight (decl.Typedef d) = content.Inner
content_in sight (decl.Opt d) = content.Inner

-- The sort of the type that a declaration declares. A typedef has the sort of its type, and an optional one more `Popt`.
abbrev pub sort_in : Sight → DeclBody → ExprSort
sort_in sight (decl.Struct d) = plain (form.Struct sight.number)
sort_in sight (decl.Union d) = plain (form.Union sight.number)
sort_in sight (decl.Array d) = plain (form.Array sight.number)
sort_in sight (decl.Enum d) = plain (form.Enum sight.number)
sort_in sight (decl.Typedef d) = type_sort sight d.of
sort_in sight (decl.Opt d) = optional (type_sort sight d.of)

-- Where the sort of a type comes from. More `Popt` may stand around it.
abbrev pub wrap : ℕ → Lead → Lead
wrap count (lead.Ends sort) = lead.Ends (optional_by count sort)
wrap count (lead.Leads inner to) = lead.Leads (min (count + inner) (2 ^ 64 - 1)) to

abbrev pub lead_to : Option BaseName → Option ℕ → Lead
lead_to (Some base) number = lead.Ends (base_sort base)
lead_to None (Some number) = lead.Leads 0 number
lead_to None None = lead.Ends expr_sort.Unknown

abbrev pub popts : Option ℕ → ℕ
popts (Some place) = 1
popts None = 0

abbrev pub type_lead : Sight → «Type» → Lead
type_lead sight t = wrap (popts t.optional) (lead_to (base_name t.name.text) (named_number sight t.name.text))

-- The sort of a typedef comes from its type, and that of an optional too, with one more `Popt`.
abbrev pub lead_in : Sight → DeclBody → Lead
lead_in sight (decl.Struct d) = lead.Ends (plain (form.Struct sight.number))
lead_in sight (decl.Union d) = lead.Ends (plain (form.Union sight.number))
lead_in sight (decl.Array d) = lead.Ends (plain (form.Array sight.number))
lead_in sight (decl.Enum d) = lead.Ends (plain (form.Enum sight.number))
lead_in sight (decl.Typedef d) = type_lead sight d.of
lead_in sight (decl.Opt d) = wrap 1 (type_lead sight d.of)

-- What stands at a number; nothing leads on from past the end.
abbrev pub or_unknown : Option Lead → Lead
or_unknown (Some found) = found
or_unknown None = lead.Ends expr_sort.Unknown

abbrev pub lead_at : List Lead → ℕ → Lead
lead_at leads number = or_unknown (slice_get leads number)

-- The sort that is found by at most so many steps from type to type; none is known where they don't come to an end.
abbrev pub sort_after : List Lead → ℕ → Lead → ExprSort
sort_after leads steps (lead.Ends sort) = sort
sort_after leads zero (lead.Leads count to) = expr_sort.Unknown
sort_after leads (suc steps) (lead.Leads count to) = optional_by count (sort_after leads steps (lead_at leads to))

-- A declared type as far as the type names of others ask for it: its name, its mark and its sort.
abbrev pub outline : ExprSort → Decl → Declared
outline sort d = record {
  name = (name_of d.body).text;
  mark = d.mark;
  record_list = false;
  params = [];
  sort = sort;
  content = content.Inner;
}

-- Each declaration with its number, from 0.
abbrev pub by_number : {A : Type 0} → (ℕ → Decl → A) → List Decl → List A
by_number f decls = map (λ numbered. f numbered.0 numbered.1) (enumerate_from 0 decls)

-- The types before any sort is known: their names tell where the sorts come from.
unfoldable pub unsorted : List Decl → List Declared
unsorted decls = map (outline expr_sort.Unknown) decls

abbrev pub lead_of : List Decl → ℕ → Decl → Lead
lead_of decls number d = lead_in (seen_from (unsorted decls) number) d.body

unfoldable pub leads : List Decl → List Lead
leads decls = by_number (lead_of decls) decls

-- The types with their sorts. A way through more types than there are comes back to itself. So a typedef or an optional
-- that leads through typedefs and optionals alone back to itself has the unknown sort.
unfoldable pub outlines : List Decl → List Declared
outlines decls = by_number (λ number d. outline (sort_after (leads decls) (suc (length decls)) (lead_of decls number d)) d) decls

-- The type that a declaration declares.
abbrev pub declare : Sight → Decl → Declared
declare sight d = record {
  name = (name_of d.body).text;
  mark = d.mark;
  record_list = is_record_list sight d;
  params = map (λ param. type_sort sight param.of) (params_of d.body);
  sort = sort_in sight d.body;
  content = content_in sight d.body;
}

-- The declared types, in the order of their declarations.
unfoldable pub declared : List Decl → List Declared
declared decls = by_number (λ number d. declare (seen_from (outlines decls) number) d) decls
