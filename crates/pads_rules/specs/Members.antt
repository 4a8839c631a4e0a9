-- What a sort's fields, branches, labels and elements are, by the declared types of a description.
use Rattle.std.specs.Prelude.{ℕ, ◌-◌, ◌==◌, Bool, true, false, if◌then◌else◌, List, [], Option, Some, None, is_some, slice_get, codes}
use Rattle.pads_rules.specs.declared.sort.Form.{Form}
use Rattle.pads_rules.specs.declared.sort.Form.TheVariants as form
use Rattle.pads_rules.specs.declared.sort.Sort.{Sort}
use Rattle.pads_rules.specs.declared.declared.Content.{Content}
use Rattle.pads_rules.specs.declared.declared.Content.TheVariants as content
use Rattle.pads_rules.specs.declared.declared.Declared.{Declared}
use Rattle.pads_rules.specs.declared.declared.Named.{Named}
use Rattle.pads_rules.specs.declared.expr_sort.ExprSort.{ExprSort}
use Rattle.pads_rules.specs.declared.expr_sort.ExprSort.TheVariants as expr_sort
use Rattle.pads_rules.specs.Texts.{same_text, is_among, sort_of}

-- What a declared type is made of, by its number.
abbrev pub content_of : List Declared → ℕ → Content
content_of env number = found (slice_get env number)
  where
    found : Option Declared → Content
    found None = content.Inner
    found (Some declared) = declared.content

-- The fields or branches with their sorts.
abbrev pub names_in : Content → List Named
names_in (content.Fields fields) = fields
names_in (content.Branches branches) = branches
names_in (content.Element sort) = []
names_in (content.Labels labels) = []
names_in content.Inner = []

-- The branch or label names that `Pis` may ask for.
abbrev pub has_choice_in : Content → List ℕ → Bool
has_choice_in (content.Fields fields) name = false
has_choice_in (content.Branches branches) name = is_some (sort_of branches name)
has_choice_in (content.Element sort) name = false
has_choice_in (content.Labels labels) name = is_among labels name
has_choice_in content.Inner name = false

abbrev pub element_in : Content → ExprSort
element_in (content.Fields fields) = expr_sort.Unknown
element_in (content.Branches branches) = expr_sort.Unknown
element_in (content.Element sort) = sort
element_in (content.Labels labels) = expr_sort.Unknown
element_in content.Inner = expr_sort.Unknown

-- The two branches of an optional: `some` has the sort with one `Popt` less, `none` is taken by no operator.
abbrev pub optional_branch : Sort → List ℕ → Option ExprSort
optional_branch sort name =
    if same_text name (codes "some") then Some (expr_sort.Known (record { optional = sort.optional - 1; form = sort.form }))
    else if same_text name (codes "none") then Some expr_sort.Nothing
    else None

-- What a field of a struct or a branch of a union is.
abbrev pub plain_member : List Declared → Form → List ℕ → Option ExprSort
plain_member env (form.Struct number) name = sort_of (names_in (content_of env number)) name
plain_member env (form.Union number) name = sort_of (names_in (content_of env number)) name
plain_member env form.Num name = None
plain_member env form.Text name = None
plain_member env form.Truth name = None
plain_member env (form.Enum number) name = None
plain_member env (form.Array number) name = None

-- What `.name` gives of a sort, where it has such a field or branch. An unknown sort has every one.
abbrev pub member : List Declared → ExprSort → List ℕ → Option ExprSort
member env expr_sort.Unknown name = Some expr_sort.Unknown
member env expr_sort.Nothing name = None
member env (expr_sort.Known sort) name =
    if sort.optional == 0 then plain_member env sort.form name else optional_branch sort name

-- What an index gives of an array's sort.
abbrev pub plain_element : List Declared → Form → ExprSort
plain_element env (form.Array number) = element_in (content_of env number)
plain_element env form.Num = expr_sort.Unknown
plain_element env form.Text = expr_sort.Unknown
plain_element env form.Truth = expr_sort.Unknown
plain_element env (form.Struct number) = expr_sort.Unknown
plain_element env (form.Union number) = expr_sort.Unknown
plain_element env (form.Enum number) = expr_sort.Unknown

abbrev pub element : List Declared → ExprSort → ExprSort
element env expr_sort.Unknown = expr_sort.Unknown
element env expr_sort.Nothing = expr_sort.Unknown
element env (expr_sort.Known sort) = plain_element env sort.form

abbrev pub is_choice_form : Form → Bool
is_choice_form (form.Union number) = true
is_choice_form (form.Enum number) = true
is_choice_form form.Num = false
is_choice_form form.Text = false
is_choice_form form.Truth = false
is_choice_form (form.Struct number) = false
is_choice_form (form.Array number) = false

-- `Pis` may ask of a union, an enum and an optional.
abbrev pub may_choose : ExprSort → Bool
may_choose expr_sort.Unknown = true
may_choose expr_sort.Nothing = false
may_choose (expr_sort.Known sort) = if sort.optional == 0 then is_choice_form sort.form else true

abbrev pub plain_choice : List Declared → Form → List ℕ → Bool
plain_choice env (form.Union number) name = has_choice_in (content_of env number) name
plain_choice env (form.Enum number) name = has_choice_in (content_of env number) name
plain_choice env form.Num name = false
plain_choice env form.Text name = false
plain_choice env form.Truth name = false
plain_choice env (form.Struct number) name = false
plain_choice env (form.Array number) name = false

-- A sort that may be asked has a branch or label of that name. An unknown sort has every one.
abbrev pub has_choice : List Declared → ExprSort → List ℕ → Bool
has_choice env expr_sort.Unknown name = true
has_choice env expr_sort.Nothing name = false
has_choice env (expr_sort.Known sort) name =
    if sort.optional == 0 then plain_choice env sort.form name else is_some (optional_branch sort name)
