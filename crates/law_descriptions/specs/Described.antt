-- What resolved declarations are for the rules' declared types: each field, branch, label and element that the rules
-- know of is there, by its number and of its sort.
use Rattle.std.specs.Prelude.{◌≡◌, ⊤, ℕ, true, false, nat_eq, List, Some}
use lib.Pointwise.{pointwise}
use Rattle.pads_ast.specs.declared.decl.Decl.{Decl as WrittenDecl}
use Rattle.pads_resolution.specs.declared.decl.Decl.{Decl}
use Rattle.pads_resolution.specs.declared.decl.DeclBody.{DeclBody}
use Rattle.pads_resolution.specs.declared.expr.Expr.{Expr}
use Rattle.pads_resolution.specs.declared.visible.Known.{Known}
use Rattle.pads_resolution.specs.Expressions.{meaning_of}
use Rattle.pads_resolution.specs.Numbers.{field_number, branch_number, label_number}
use Rattle.pads_resolution.specs.Scopes.{NameScope as Names, known_in}
use Rattle.pads_rules.specs.Members.{content_of}
use Rattle.pads_rules.specs.Texts.{is_among, sort_of}
use Rattle.pads_rules.specs.declared.declared.Content.TheVariants as content
use Rattle.pads_rules.specs.declared.declared.Declared.{Declared}
use Rattle.pads_rules.specs.declared.declared.Named.{Named}
use Rattle.pads_rules.specs.declared.expr_sort.ExprSort.{ExprSort}
use Rattle.pads_rules.specs.declared.expr_sort.ExprSort.TheVariants as expr_sort
use Rattle.pads_rules.specs.declared.sort.Form.{Form}
use Rattle.pads_rules.specs.declared.sort.Form.TheVariants as form
use Rattle.pads_rules.specs.declared.sort.Sort.{Sort}
use Rattle.pads_trans.specs.Names.{at_sign}
use Rattle.law_descriptions.specs.Expressions.{SortScope, body_at, part_sort, union_branch, plain_choice, of_elements, meaning_sort, sort_in}
use Rattle.law_descriptions.specs.Sorts.{truth}
use Rattle.law_descriptions.specs.WellSorted.{Each}

-- No text of a description spells `@`.
abbrev pub IsSpelled : List ℕ → Type 0
IsSpelled name = pointwise nat_eq at_sign name ≡ false

abbrev pub AreSpelled : List (List ℕ) → Type 0
AreSpelled names = Each IsSpelled names

-- A declaration that is read.
abbrev pub IsRead : List Decl → ℕ → Type 0
IsRead decls k = (inner : DeclBody) × (body_at decls k ≡ Some inner)

-- A form of a declared type is that of what it is made of, and the declaration is read.
abbrev pub IsProper : List Declared → List Decl → Form → Type 0
IsProper env decls form.Num = ⊤
IsProper env decls form.Text = ⊤
IsProper env decls form.Truth = ⊤
IsProper env decls (form.Struct k) = (fields : List Named) × (content_of env k ≡ content.Fields fields) × IsRead decls k
IsProper env decls (form.Union k) = (branches : List Named) × (content_of env k ≡ content.Branches branches) × IsRead decls k
IsProper env decls (form.Enum k) = (labels : List (List ℕ)) × (content_of env k ≡ content.Labels labels) × IsRead decls k
IsProper env decls (form.Array k) = (elem : ExprSort) × (content_of env k ≡ content.Element elem) × IsRead decls k

-- A known sort, of which something holds.
abbrev pub IsKnown : List Declared → List Decl → (Sort → Type 0) → ExprSort → Type 0
IsKnown env decls P sort = (s : Sort) × (sort ≡ expr_sort.Known s) × IsProper env decls s.form × P s

pub record Describes (written : List WrittenDecl) (env : List Declared) (decls : List Decl) (sorts : List Sort) : Type 0 where
  pub field : (k : ℕ) (fields : List Named) (name : List ℕ) (sort : ExprSort) → content_of env k ≡ content.Fields fields → IsRead decls k → sort_of fields name ≡ Some sort
      → IsKnown env decls (λ s. part_sort decls sorts (field_number written k name) (form.Struct k) ≡ Some s) sort
  pub branch : (k : ℕ) (branches : List Named) (name : List ℕ) (sort : ExprSort) → content_of env k ≡ content.Branches branches → IsRead decls k → sort_of branches name ≡ Some sort
      → IsKnown env decls (λ s. union_branch decls sorts (branch_number branches name) (form.Union k) ≡ Some s) sort
  pub chosen : (k : ℕ) (branches : List Named) (name : List ℕ) (sort : ExprSort) → content_of env k ≡ content.Branches branches → IsRead decls k → sort_of branches name ≡ Some sort
      → plain_choice decls sorts (branch_number branches name) (form.Union k) ≡ Some truth
  pub label : (k : ℕ) (labels : List (List ℕ)) (name : List ℕ) → content_of env k ≡ content.Labels labels → IsRead decls k → is_among labels name ≡ true
      → plain_choice decls sorts (label_number labels name) (form.Enum k) ≡ Some truth
  pub element : (k : ℕ) (elem : ExprSort) → content_of env k ≡ content.Element elem → IsRead decls k
      → IsKnown env decls (λ s. of_elements decls sorts (form.Array k) ≡ Some s) elem

module _ (env : List Declared) (decls : List Decl) (sorts : List Sort) where
  -- An expression of a known sort is well-sorted and has it. One of the sort that no operator takes may be any.
  abbrev pub Typed : SortScope → Expr → ExprSort → Type 0
  Typed scope e expr_sort.Unknown = ⊥
  Typed scope e expr_sort.Nothing = ⊤
  Typed scope e (expr_sort.Known s) = IsProper env decls s.form × (sort_in decls sorts e scope ≡ Some s)

  -- What each name in scope stands for has its sort.
  abbrev pub Sees : Names → SortScope → Type 0
  Sees names scope = (name : List ℕ) (known : Known) → known_in names name ≡ Some known
      → IsKnown env decls (λ s. meaning_sort decls sorts (meaning_of name known.stands) scope ≡ Some s) known.sort
