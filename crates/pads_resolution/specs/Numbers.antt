-- The numbers by which a resolved tree names declarations, fields, branches and labels.
use Rattle.std.specs.Prelude.{ℕ, min, ◌==◌, Bool, false, List, position, Option, Some, None, slice_get, codes, if◌then◌else◌}
use Rattle.pads_ast.specs.declared.decl.Decl.{Decl}
use Rattle.pads_ast.specs.declared.decl.DeclBody.{DeclBody}
use Rattle.pads_ast.specs.declared.decl.DeclBody.TheVariants as decl
use Rattle.pads_ast.specs.declared.decl.Part.{Part}
use Rattle.pads_ast.specs.declared.decl.Part.TheVariants as part
use Rattle.pads_rules.specs.declared.sort.Form.{Form}
use Rattle.pads_rules.specs.declared.sort.Form.TheVariants as form
use Rattle.pads_rules.specs.declared.declared.Content.{Content}
use Rattle.pads_rules.specs.declared.declared.Content.TheVariants as content
use Rattle.pads_rules.specs.declared.declared.Declared.{Declared}
use Rattle.pads_rules.specs.declared.declared.Named.{Named}
use Rattle.pads_rules.specs.declared.expr_sort.ExprSort.{ExprSort}
use Rattle.pads_rules.specs.declared.expr_sort.ExprSort.TheVariants as expr_sort
use Rattle.pads_rules.specs.Members.{content_of}
use Rattle.pads_rules.specs.Texts.{same_text}

-- A number in 16 bits. No accepted description comes to a greater one than 65,535.
abbrev pub short : ℕ → ℕ
short n = min n 65535

-- The number of what was found; what wasn't has number 0.
abbrev pub number_of : Option ℕ → ℕ
number_of None = 0
number_of (Some n) = short n

-- The number of the type that a name names: the first earlier one of that name, and where there is none the first one
-- from there on. So it is the first of that name among all types, earlier and later ones.
abbrev pub declared_number : List Declared → List ℕ → Option ℕ
declared_number types name = position (λ declared. same_text declared.name name) types

-- A part of a struct is named by a text.
abbrev pub has_name : List ℕ → Part → Bool
has_name text (part.Literal literal) = false
has_name text (part.Pcompute of name value) = same_text name.text text
has_name text (part.Field branch) = same_text branch.name.text text

-- A field by its number among all parts of a struct, literals counted.
unfoldable pub part_number : List Part → List ℕ → ℕ
part_number parts name = number_of (position (has_name name) parts)

abbrev pub field_in : DeclBody → List ℕ → ℕ
field_in (decl.Struct d) name = part_number d.parts name
field_in (decl.Union d) name = 0
field_in (decl.Array d) name = 0
field_in (decl.Enum d) name = 0
field_in (decl.Typedef d) name = 0
field_in (decl.Opt d) name = 0

-- A field of a declared struct.
unfoldable pub field_number : List Decl → ℕ → List ℕ → ℕ
field_number decls number name = found (slice_get decls number)
  where
    found : Option Decl → ℕ
    found None = 0
    found (Some d) = field_in d.body name

unfoldable pub branch_number : List Named → List ℕ → ℕ
branch_number branches name = number_of (position (λ branch. same_text branch.text name) branches)

unfoldable pub label_number : List (List ℕ) → List ℕ → ℕ
label_number labels name = number_of (position (λ label. same_text label name) labels)

-- A branch of a union or a label of an enum.
abbrev pub choice_in : Content → List ℕ → ℕ
choice_in (content.Branches branches) name = branch_number branches name
choice_in (content.Labels labels) name = label_number labels name
choice_in (content.Fields fields) name = 0
choice_in (content.Element sort) name = 0
choice_in content.Inner name = 0

-- A branch of an optional: `some` is number 0, `none` is number 1.
abbrev pub optional_number : List ℕ → ℕ
optional_number name = if same_text name (codes "none") then 1 else 0

abbrev pub plain_choice_number : List Declared → Form → List ℕ → ℕ
plain_choice_number env (form.Union number) name = choice_in (content_of env number) name
plain_choice_number env (form.Enum number) name = choice_in (content_of env number) name
plain_choice_number env form.Num name = 0
plain_choice_number env form.Text name = 0
plain_choice_number env form.Truth name = 0
plain_choice_number env (form.Struct number) name = 0
plain_choice_number env (form.Array number) name = 0

-- What `Pis` asks for: a branch of a union, a label of an enum or a branch of an optional.
unfoldable pub choice_number : List Declared → ExprSort → List ℕ → ℕ
choice_number env expr_sort.Unknown name = 0
choice_number env expr_sort.Nothing name = 0
choice_number env (expr_sort.Known sort) name =
    if sort.optional == 0 then plain_choice_number env sort.form name else optional_number name

abbrev pub plain_member_number : List Decl → List Declared → Form → List ℕ → ℕ
plain_member_number decls env (form.Struct number) name = field_number decls number name
plain_member_number decls env (form.Union number) name = choice_in (content_of env number) name
plain_member_number decls env form.Num name = 0
plain_member_number decls env form.Text name = 0
plain_member_number decls env form.Truth name = 0
plain_member_number decls env (form.Enum number) name = 0
plain_member_number decls env (form.Array number) name = 0

-- What `.name` names: a field of a struct, a branch of a union or of an optional.
unfoldable pub member_number : List Decl → List Declared → ExprSort → List ℕ → ℕ
member_number decls env expr_sort.Unknown name = 0
member_number decls env expr_sort.Nothing name = 0
member_number decls env (expr_sort.Known sort) name =
    if sort.optional == 0 then plain_member_number decls env sort.form name else optional_number name
