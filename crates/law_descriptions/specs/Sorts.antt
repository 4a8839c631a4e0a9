-- The sorts of the values of types and of declarations.
use Rattle.std.specs.Prelude.{ℕ, suc, if◌then◌else◌, List, unwrap_or, slice_get}
use Rattle.pads_base_names.specs.declared.meaning.BaseName.{BaseName}
use Rattle.pads_resolution.specs.Expressions.{sort_known}
use Rattle.pads_rules.specs.Sorts as rules
use Rattle.pads_rules.specs.declared.sort.Form.{Form}
use Rattle.pads_rules.specs.declared.sort.Form.TheVariants as form
use Rattle.pads_rules.specs.declared.sort.Sort.{Sort}
use Rattle.pads_resolution.specs.declared.decl.Computed.{Computed}
use Rattle.pads_resolution.specs.declared.decl.Computed.TheVariants as computed
use Rattle.pads_resolution.specs.declared.decl.DeclBody.{DeclBody}
use Rattle.pads_resolution.specs.declared.decl.DeclBody.TheVariants as body
use Rattle.pads_resolution.specs.declared.types.«Type».{«Type» as Typed}
use Rattle.pads_resolution.specs.declared.types.TypeName.{TypeName}
use Rattle.pads_resolution.specs.declared.types.TypeName.TheVariants as type_name

-- The sort of a form without `Popt`.
abbrev pub plain : Form → Sort
plain f = record { optional = 0; form = f }

abbrev pub num : Sort
num = plain form.Num

abbrev pub text : Sort
text = plain form.Text

abbrev pub truth : Sort
truth = plain form.Truth

-- One more `Popt` around a sort.
abbrev pub optional : Sort → Sort
optional sort = record { optional = suc sort.optional; form = sort.form }

-- The sort that the rules give a base type.
abbrev pub base_sort : BaseName → Sort
base_sort b = sort_known (rules.base_sort b)

abbrev pub computed_sort : Computed → Sort
computed_sort (computed.Int kind) = num
computed_sort computed.Text = text

-- where the declarations' values have these sorts
module _ (sorts : List Sort) where
  abbrev pub named_sort : TypeName → Sort
  named_sort (type_name.Base b) = base_sort b
  named_sort (type_name.Declared number) = unwrap_or (slice_get sorts number) num

  abbrev pub behind_popt : Typed → Sort → Sort
  behind_popt t sort = if t.optional then optional sort else sort

  abbrev pub type_sort : Typed → Sort
  type_sort t = behind_popt t (named_sort t.name)

  -- what the declaration of a number declares
  abbrev pub body_sort : ℕ → DeclBody → Sort
  body_sort number (body.Struct s) = plain (form.Struct number)
  body_sort number (body.Union u) = plain (form.Union number)
  body_sort number (body.Array a) = plain (form.Array number)
  body_sort number (body.Enum labels) = plain (form.Enum number)
  body_sort number (body.Typedef t) = type_sort t.of
  body_sort number (body.Opt inner) = optional (type_sort inner)
