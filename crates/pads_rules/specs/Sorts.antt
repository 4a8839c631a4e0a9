-- What is known of sorts.
use Rattle.std.specs.Prelude.{ℕ, zero, suc, ◌+◌, ◌-◌, ◌^◌, ◌==◌, min, Bool, true, false, ◌&&◌, List, [], ◌∷◌}
use Rattle.pads_rules.specs.declared.sort.Form.{Form}
use Rattle.pads_rules.specs.declared.sort.Form.TheVariants as form
use Rattle.pads_base_names.specs.declared.meaning.BaseName.{BaseName}
use Rattle.pads_base_names.specs.declared.meaning.BaseName.TheVariants as base
use Rattle.pads_rules.specs.declared.expr_sort.ExprSort.{ExprSort}
use Rattle.pads_rules.specs.declared.expr_sort.ExprSort.TheVariants as expr_sort
use Rattle.pads_rules.specs.declared.fault.CheckFault.{CheckFault}

-- The sort of a plain form, without `Popt`.
abbrev pub plain : Form → ExprSort
plain f = expr_sort.Known (record { optional = 0; form = f })

abbrev pub num : ExprSort
num = plain form.Num

abbrev pub text : ExprSort
text = plain form.Text

abbrev pub truth : ExprSort
truth = plain form.Truth

-- One more `Popt` around a sort. The count stands still at 2^64 - 1, which no description comes to.
abbrev pub optional : ExprSort → ExprSort
optional expr_sort.Unknown = expr_sort.Unknown
optional expr_sort.Nothing = expr_sort.Nothing
optional (expr_sort.Known sort) = expr_sort.Known (record { optional = min (sort.optional + 1) (2 ^ 64 - 1); form = sort.form })

-- So many more `Popt` around a sort.
unfoldable pub optional_by : ℕ → ExprSort → ExprSort
optional_by zero sort = sort
optional_by (suc count) sort = optional (optional_by count sort)

abbrev pub is_num_form : Form → Bool
is_num_form form.Num = true
is_num_form _ = false

abbrev pub is_text_form : Form → Bool
is_text_form form.Text = true
is_text_form _ = false

abbrev pub is_truth_form : Form → Bool
is_truth_form form.Truth = true
is_truth_form _ = false

abbrev pub is_array_form : Form → Bool
is_array_form (form.Array number) = true
is_array_form _ = false

-- A sort may be of a plain form that passes a test: an unknown sort may be of any, an optional is of none.
abbrev pub accepts : (Form → Bool) → ExprSort → Bool
accepts test expr_sort.Unknown = true
accepts test expr_sort.Nothing = false
accepts test (expr_sort.Known sort) = sort.optional == 0 && test sort.form

-- Two forms are the same; parts are where they are of one declaration.
abbrev pub same_form : Form → Form → Bool
same_form form.Num form.Num = true
same_form form.Text form.Text = true
same_form form.Truth form.Truth = true
same_form (form.Struct a) (form.Struct b) = a == b
same_form (form.Union a) (form.Union b) = a == b
same_form (form.Enum a) (form.Enum b) = a == b
same_form (form.Array a) (form.Array b) = a == b
same_form _ _ = false

-- Two sorts are the same, or one of them is unknown.
abbrev pub agree : ExprSort → ExprSort → Bool
agree expr_sort.Unknown b = true
agree a expr_sort.Unknown = true
agree expr_sort.Nothing expr_sort.Nothing = true
agree (expr_sort.Known a) (expr_sort.Known b) = (a.optional == b.optional) && same_form a.form b.form
agree _ _ = false

-- The sort of a base type: a text, a character and a class are texts, all others numbers.
abbrev pub base_sort : BaseName → ExprSort
base_sort (base.Until coding) = text
base_sort (base.Fixed coding) = text
base_sort (base.Class coding) = text
base_sort (base.Char coding) = text
base_sort (base.Int coding kind) = num
base_sort (base.IntFw coding kind) = num
base_sort (base.Bin kind) = num
base_sort (base.SizedBin order kind) = num
base_sort (base.Ip coding) = num
base_sort (base.Packed signed) = num
base_sort (base.Zoned signed) = num

-- The sort of what holds these violations: unknown where there are any.
abbrev pub unless_broken : List CheckFault → ExprSort → ExprSort
unless_broken [] sort = sort
unless_broken (violation ∷ violations) sort = expr_sort.Unknown
