-- The sort of an expression: none where a name isn't in scope, an operand has a sort that its operator doesn't
-- take, a part or a branch isn't there, or the sort that the tree tells is another one.
use Rattle.std.specs.Prelude.{ℕ, zero, suc, ◌==◌, nat_eq, nat_lt, ◌&&◌, if◌then◌else◌, List, [], ◌∷◌, ◌++◌, map, length, Option, Some, None, option_map, option_and_then, slice_get, find}
use lib.Pointwise.{pointwise}
use Rattle.pads_rules.specs.declared.sort.Form.{Form}
use Rattle.pads_rules.specs.declared.sort.Form.TheVariants as form
use Rattle.pads_rules.specs.declared.sort.Sort.{Sort}
use Rattle.pads_rules.specs.Sorts.{same_form}
use Rattle.pads_resolution.specs.declared.decl.Decl.{Decl}
use Rattle.pads_resolution.specs.declared.decl.DeclBody.{DeclBody}
use Rattle.pads_resolution.specs.declared.decl.DeclBody.TheVariants as body
use Rattle.pads_resolution.specs.declared.decl.Label.{Label}
use Rattle.pads_resolution.specs.declared.decl.Part.{Part}
use Rattle.pads_resolution.specs.declared.decl.Part.TheVariants as part
use Rattle.pads_resolution.specs.declared.decl.Role.{Role}
use Rattle.pads_resolution.specs.declared.decl.Role.TheVariants as role
use Rattle.pads_resolution.specs.declared.decl.Union.{Union}
use Rattle.pads_resolution.specs.declared.decl.Union.TheVariants as union
use Rattle.pads_expr.specs.declared.expr.BinOp.{BinOp}
use Rattle.pads_expr.specs.declared.expr.BinOp.TheVariants as operator
use Rattle.pads_resolution.specs.declared.expr.Expr.{Expr, Expr-F, fold-Expr}
use Rattle.pads_resolution.specs.declared.expr.NameUse.{NameUse}
use Rattle.pads_resolution.specs.declared.expr.NameUse.TheVariants as meaning
use Rattle.pads_resolution.specs.declared.types.Branch.{Branch}
use Rattle.pads_resolution.specs.declared.types.«Type».{«Type» as Typed}
use Rattle.pads_trans.specs.Names.{Name, at_sign}
use Rattle.law_descriptions.specs.Sorts.{num, text, truth, computed_sort, type_sort}

-- Names with the sorts of what they stand for, the latest binding first. `@` stands for the elements so far
-- of an array, and for the whole struct or array in its `Pwhere`.
abbrev pub SortScope : Type 0
SortScope = List (Name × Sort)

abbrev pub sort_in_scope : SortScope → Name → Option Sort
sort_in_scope scope name = option_map (λ bound. bound.1) (find (λ bound. pointwise nat_eq name bound.0) scope)

-- The sort that the tree tells is the one found.
abbrev pub if_told : Sort → Sort → Option Sort
if_told told found = if (told.optional == found.optional) && same_form told.form found.form then Some found else None

abbrev pub as_told : Sort → Option Sort → Option Sort
as_told told found = option_and_then (if_told told) found

-- What a form gives, where no `Popt` stands around it.
abbrev pub of_plain : (Form → Option Sort) → ℕ → Form → Option Sort
of_plain gives zero f = gives f
of_plain gives (suc n) f = None

abbrev pub plainly : (Form → Option Sort) → Sort → Option Sort
plainly gives sort = of_plain gives sort.optional sort.form

-- `+ - * / %` take numbers, and comparisons too.
abbrev pub of_numbers : BinOp → Option Sort
of_numbers operator.Or = None
of_numbers operator.And = None
of_numbers operator.Eq = Some truth
of_numbers operator.Ne = Some truth
of_numbers operator.Lt = Some truth
of_numbers operator.Le = Some truth
of_numbers operator.Gt = Some truth
of_numbers operator.Ge = Some truth
of_numbers operator.Add = Some num
of_numbers operator.Sub = Some num
of_numbers operator.Mul = Some num
of_numbers operator.Div = Some num
of_numbers operator.Rem = Some num

-- Texts are compared alone.
abbrev pub of_texts : BinOp → Option Sort
of_texts operator.Or = None
of_texts operator.And = None
of_texts operator.Eq = Some truth
of_texts operator.Ne = Some truth
of_texts operator.Lt = Some truth
of_texts operator.Le = Some truth
of_texts operator.Gt = Some truth
of_texts operator.Ge = Some truth
of_texts operator.Add = None
of_texts operator.Sub = None
of_texts operator.Mul = None
of_texts operator.Div = None
of_texts operator.Rem = None

-- `&& ||` take truths, and so do `== !=`.
abbrev pub of_truths : BinOp → Option Sort
of_truths operator.Or = Some truth
of_truths operator.And = Some truth
of_truths operator.Eq = Some truth
of_truths operator.Ne = Some truth
of_truths operator.Lt = None
of_truths operator.Le = None
of_truths operator.Gt = None
of_truths operator.Ge = None
of_truths operator.Add = None
of_truths operator.Sub = None
of_truths operator.Mul = None
of_truths operator.Div = None
of_truths operator.Rem = None

-- Both operands are numbers, texts or truths.
abbrev pub of_forms : BinOp → Form → Form → Option Sort
of_forms op form.Num form.Num = of_numbers op
of_forms op form.Text form.Text = of_texts op
of_forms op form.Truth form.Truth = of_truths op
of_forms op _ _ = None

abbrev pub binary_sort : BinOp → Sort → Sort → Option Sort
binary_sort op left right = plainly (λ a. plainly (of_forms op a) right) left

abbrev pub number_alone : Form → Option Sort
number_alone form.Num = Some num
number_alone _ = None

abbrev pub truth_alone : Form → Option Sort
truth_alone form.Truth = Some truth
truth_alone _ = None

abbrev pub length_sort : Form → Option Sort
length_sort form.Text = Some num
length_sort (form.Array number) = Some num
length_sort _ = None

-- The bounds are numbers and the body is a truth.
abbrev pub forall_sort : Sort → Sort → Sort → Option Sort
forall_sort low high inner =
    option_and_then (λ a. option_and_then (λ b. plainly truth_alone inner) (plainly number_alone high)) (plainly number_alone low)

-- The body of a declaration that is read: a source's isn't.
abbrev pub if_read : Role → DeclBody → Option DeclBody
if_read role.Part inner = Some inner
if_read role.Precord inner = Some inner
if_read role.Source inner = None

abbrev pub body_at : List Decl → ℕ → Option DeclBody
body_at decls number = option_and_then (λ d. if_read d.role d.body) (slice_get decls number)

abbrev pub parts_in : DeclBody → List Part
parts_in (body.Struct s) = s.parts
parts_in _ = []

abbrev pub if_default : Option Branch → List Branch
if_default None = []
if_default (Some f) = f ∷ []

abbrev pub union_branches : Union → List Branch
union_branches (union.Branches branches) = branches
union_branches (union.Pswitch s) = map (λ case. case.branch) s.cases ++ if_default s.default

abbrev pub branches_in : DeclBody → List Branch
branches_in (body.Union u) = union_branches u
branches_in _ = []

abbrev pub labels_in : DeclBody → List Label
labels_in (body.Enum labels) = labels
labels_in _ = []

abbrev pub element_in : DeclBody → Option Typed
element_in (body.Array a) = Some a.of
element_in _ = None

-- `some` of an optional has one `Popt` less. `none` is no operand.
abbrev pub optional_branch : ℕ → Sort → Option Sort
optional_branch zero some = Some some
optional_branch (suc n) some = None

-- of these declarations, whose values have these sorts
module _ (decls : List Decl) (sorts : List Sort) where
  -- A literal part has no value.
  abbrev pub value_of : Part → Option Sort
  value_of (part.Literal l) = None
  value_of (part.Pcompute of name value) = Some (computed_sort of)
  value_of (part.Field f) = Some (type_sort sorts f.of)

  abbrev pub part_of : ℕ → DeclBody → Option Sort
  part_of number inner = option_and_then value_of (slice_get (parts_in inner) number)

  abbrev pub part_sort : ℕ → Form → Option Sort
  part_sort number (form.Struct n) = option_and_then (part_of number) (body_at decls n)
  part_sort number _ = None

  abbrev pub branch_of : ℕ → DeclBody → Option Sort
  branch_of number inner = option_map (λ f. type_sort sorts f.of) (slice_get (branches_in inner) number)

  abbrev pub union_branch : ℕ → Form → Option Sort
  union_branch number (form.Union n) = option_and_then (branch_of number) (body_at decls n)
  union_branch number _ = None

  abbrev pub branch_by : ℕ → ℕ → Form → Option Sort
  branch_by number zero f = union_branch number f
  branch_by number (suc n) f = optional_branch number (record { optional = n; form = f })

  abbrev pub branch_sort : ℕ → Sort → Option Sort
  branch_sort number sort = branch_by number sort.optional sort.form

  -- A branch of a union or an optional, or a label of an enum, that there is.
  abbrev pub if_there : ℕ → ℕ → Option Sort
  if_there number count = if nat_lt number count then Some truth else None

  abbrev pub plain_choice : ℕ → Form → Option Sort
  plain_choice number (form.Union n) = option_and_then (λ inner. if_there number (length (branches_in inner))) (body_at decls n)
  plain_choice number (form.Enum n) = option_and_then (λ inner. if_there number (length (labels_in inner))) (body_at decls n)
  plain_choice number _ = None

  abbrev pub choice_by : ℕ → ℕ → Form → Option Sort
  choice_by number zero f = plain_choice number f
  choice_by number (suc n) f = if_there number 2

  abbrev pub choice_sort : ℕ → Sort → Option Sort
  choice_sort number sort = choice_by number sort.optional sort.form

  -- An index is a number.
  abbrev pub element_of : DeclBody → Option Sort
  element_of inner = option_map (type_sort sorts) (element_in inner)

  abbrev pub of_elements : Form → Option Sort
  of_elements (form.Array n) = option_and_then element_of (body_at decls n)
  of_elements _ = None

  abbrev pub element_sort : Sort → Sort → Option Sort
  element_sort array index = option_and_then (λ number. plainly of_elements array) (plainly number_alone index)

  abbrev pub meaning_sort : NameUse → SortScope → Option Sort
  meaning_sort (meaning.Variable name) scope = sort_in_scope scope name
  meaning_sort meaning.Elts scope = sort_in_scope scope at_sign
  meaning_sort meaning.Length scope = option_and_then (plainly length_sort) (sort_in_scope scope at_sign)
  meaning_sort (meaning.Field number) scope = option_and_then (plainly (part_sort number)) (sort_in_scope scope at_sign)

  -- one equation for each form
  abbrev pub expr_step : Expr-F (SortScope → Option Sort) → SortScope → Option Sort
  expr_step (Expr-F.Number number) scope = Some num
  expr_step (Expr-F.Word points) scope = Some text
  expr_step (Expr-F.Truth value) scope = Some truth
  expr_step (Expr-F.Name means sort) scope = as_told sort (meaning_sort means scope)
  expr_step (Expr-F.Part whole number sort) scope = as_told sort (option_and_then (plainly (part_sort number)) (whole scope))
  expr_step (Expr-F.Branch whole number sort) scope = as_told sort (option_and_then (branch_sort number) (whole scope))
  expr_step (Expr-F.Index array index sort) scope =
      as_told sort (option_and_then (λ a. option_and_then (element_sort a) (index scope)) (array scope))
  expr_step (Expr-F.Pis value number) scope = option_and_then (choice_sort number) (value scope)
  expr_step (Expr-F.Plen value) scope = option_and_then (plainly length_sort) (value scope)
  expr_step (Expr-F.Minus operand) scope = option_and_then (plainly number_alone) (operand scope)
  expr_step (Expr-F.Not operand) scope = option_and_then (plainly truth_alone) (operand scope)
  expr_step (Expr-F.Binary op left right) scope =
      option_and_then (λ a. option_and_then (binary_sort op a) (right scope)) (left scope)
  expr_step (Expr-F.Pforall variable low high inner) scope =
      option_and_then
      (λ a. option_and_then (λ b. option_and_then (forall_sort a b) (inner ((variable, num) ∷ scope))) (high scope))
      (low scope)

  unfoldable pub sort_in : Expr → SortScope → Option Sort
  sort_in = fold-Expr (SortScope → Option Sort) expr_step
