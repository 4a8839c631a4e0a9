-- Well-sorted modules: each expression has the sort that its use asks for, where each variable has its
-- term's or its parameter's sort. A named part is bound in the later parts of its struct, a binder in
-- its constraint, the elements so far in the condition of the last one, a parameter in its declaration's
-- body.
use Rattle.std.specs.Prelude.{◌≡◌, ℕ, Bool, true, false, ◌&&◌, ◌||◌, List, [], ◌∷◌, map, Option, Some, None, slice_get}
use Rattle.std.specs.List.{list_all}
use Rattle.pads_expr.specs.declared.expr.Expr.{Expr}
use Rattle.pads_dispatch.specs.declared.base.Base.{Base}
use Rattle.pads_dispatch.specs.declared.base.Base.TheVariants as base
use Rattle.pads_calc.specs.declared.decl.Decl.{Decl}
use Rattle.pads_calc.specs.declared.term.Arm.{Arm}
use Rattle.pads_calc.specs.declared.term.Case.{Case}
use Rattle.pads_calc.specs.declared.term.Key.{Key}
use Rattle.pads_calc.specs.declared.term.Key.TheVariants as key
use Rattle.pads_calc.specs.declared.term.Part.{Part}
use Rattle.pads_calc.specs.declared.term.ComputedForm.{ComputedForm}
use Rattle.pads_calc.specs.declared.term.ComputedForm.TheVariants as form
use Rattle.pads_calc.specs.declared.term.Seq.{Seq}
use Rattle.pads_calc.specs.declared.term.Term.{Term, Term-F, out-Term}
use Rattle.law_calculus.specs.Expressions.{SortScope, sort_in}
use Rattle.law_calculus.specs.Sorts.{Sort, Number, Text, Array, is_number, is_text, is_truth, sort_of, AreSorts}
use Rattle.law_calculus.specs.Terms.{terms_in}

-- the sort of an expression, where it has one, is such a sort
abbrev pub has : (Sort → Bool) → Option Sort → Bool
has wanted None = false
has wanted (Some sort) = wanted sort

abbrev pub no_argument : List (Option Sort) → Bool
no_argument [] = true
no_argument (first ∷ more) = false

abbrev pub one_number : List (Option Sort) → Bool
one_number [] = false
one_number (first ∷ more) = has is_number first && no_argument more

abbrev pub one_text : List (Option Sort) → Bool
one_text [] = false
one_text (first ∷ more) = has is_text first && no_argument more

-- the arguments that a base type takes
abbrev pub takes : Base → List (Option Sort) → Bool
takes (base.Int kind coding) sorts = no_argument sorts
takes (base.IntFw kind coding) sorts = one_number sorts
takes (base.Bin kind order) sorts = no_argument sorts || one_number sorts
takes (base.Until coding) sorts = one_text sorts
takes (base.UntilEor coding) sorts = no_argument sorts
takes (base.Fixed coding) sorts = one_number sorts
takes (base.Class coding) sorts = one_text sorts
takes (base.Char coding) sorts = no_argument sorts
takes (base.Ip coding) sorts = no_argument sorts
takes (base.Enum coding labels) sorts = no_argument sorts
takes (base.Packed signed) sorts = one_number sorts
takes (base.Zoned signed) sorts = one_number sorts

abbrev pub is_number_key : Option Key → Bool
is_number_key None = true
is_number_key (Some (key.Num number)) = true
is_number_key (Some (key.Text text)) = false

abbrev pub is_text_key : Option Key → Bool
is_text_key None = true
is_text_key (Some (key.Num number)) = false
is_text_key (Some (key.Text text)) = true

-- a number with keys that are numbers, or a text with keys that are texts
abbrev pub chooses : Option Sort → List (Option Key) → Bool
chooses sort keys = (has is_number sort && list_all is_number_key keys) || (has is_text sort && list_all is_text_key keys)

-- a parameter is a number or a text, and its argument has its sort
abbrev pub is_argument : Sort → Option Sort → Bool
is_argument Number sort = has is_number sort
is_argument Text sort = has is_text sort
is_argument _ sort = false

abbrev pub are_arguments : List Sort → List (Option Sort) → Bool
are_arguments [] [] = true
are_arguments [] (sort ∷ sorts) = false
are_arguments (param ∷ params) [] = false
are_arguments (param ∷ params) (sort ∷ sorts) = is_argument param sort && are_arguments params sorts

abbrev pub calls : Option (List Sort) → List (Option Sort) → Bool
calls None sorts = false
calls (Some params) sorts = are_arguments params sorts

abbrev pub computes : ComputedForm → Option Sort → Bool
computes (form.Range least greatest) sort = has is_number sort
computes form.Text sort = has is_text sort

-- The sorts of a module: that of each declaration's values, and those of its parameters.
pub record Sorts : Type 0 where
  pub declared : List Sort
  pub params : List (List Sort)

module _ (sorts : Sorts) where
  abbrev pub size_fits : Option Expr → SortScope → Bool
  size_fits None scope = true
  size_fits (Some size) scope = has is_number (sort_in sorts.declared size scope)

  abbrev pub last_fits : Option Expr → SortScope → Bool
  last_fits None scope = true
  last_fits (Some last) scope = has is_truth (sort_in sorts.declared last scope)

  abbrev pub sorts_in : List Expr → SortScope → List (Option Sort)
  sorts_in es scope = map (λ e. sort_in sorts.declared e scope) es

  -- the expressions of a term itself have the sorts that their uses ask for
  abbrev pub fits : SortScope → Term-F Term Arm Case Part Seq → Bool
  fits scope Term-F.Unit = true
  fits scope (Term-F.Base base args) = takes base (sorts_in args scope)
  fits scope (Term-F.Lit literal) = true
  fits scope Term-F.Eor = true
  fits scope (Term-F.Struct parts) = true
  fits scope (Term-F.Alt arms) = true
  fits scope (Term-F.Switch e cases) = chooses (sort_in sorts.declared e scope) (map (λ case. case.key) cases)
  fits scope (Term-F.Guard inner binder condition) =
      has is_truth (sort_in sorts.declared condition ((binder, sort_of sorts.declared inner) ∷ scope))
  fits scope (Term-F.Seq s) = size_fits s.size scope && last_fits s.last ((s.elts, Array s.elem) ∷ scope)
  fits scope (Term-F.Call number args) = calls (slice_get sorts.params number) (sorts_in args scope)
  fits scope (Term-F.Compute e form) = computes form (sort_in sorts.declared e scope)
  fits scope (Term-F.Absorb inner) = true
  fits scope (Term-F.Scan inner) = true

-- a term with the names that are bound where it stands
pub record Standing : Type 0 where
  pub scope : SortScope
  pub term : Term

abbrev pub stands : SortScope → Term → Standing
stands scope t = record { scope = scope; term = t }

abbrev pub bind_sort : Option ℕ → Sort → SortScope → SortScope
bind_sort None sort scope = scope
bind_sort (Some name) sort scope = (name, sort) ∷ scope

module _ (declared : List Sort) where
  abbrev pub parts_standing : SortScope → List Part → List Standing
  parts_standing scope [] = []
  parts_standing scope (part ∷ parts) =
      stands scope part.term ∷ parts_standing (bind_sort part.name (sort_of declared part.term) scope) parts

  -- the terms directly in a term, as they stand
  abbrev pub standing_in : SortScope → Term-F Term Arm Case Part Seq → List Standing
  standing_in scope (Term-F.Struct parts) = parts_standing scope parts
  standing_in scope layer = map (stands scope) (terms_in layer)

-- a term whose own expressions have the sorts that their uses ask for, and so for each term in it
pub data IsSorted (sorts : Sorts) : SortScope → Term → Type 0 where
  sorted : {scope : SortScope} {t : Term}
      → fits sorts scope (out-Term t) ≡ true
      → ((n : ℕ) (inner : Standing) → slice_get (standing_in sorts.declared scope (out-Term t)) n ≡ Some inner → IsSorted sorts inner.scope inner.term)
      → IsSorted sorts scope t

-- parameters bound to sorts, the last first
abbrev pub params_scope : List ℕ → List Sort → SortScope → SortScope
params_scope [] sorts scope = scope
params_scope (name ∷ names) [] scope = scope
params_scope (name ∷ names) (sort ∷ sorts) scope = params_scope names sorts ((name, sort) ∷ scope)

-- a declaration whose parameters have these sorts
abbrev pub IsSortedDecl : Sorts → Decl → List Sort → Type 0
IsSortedDecl sorts decl params = IsSorted sorts (params_scope decl.params params []) decl.body

-- Each parameter is a number or a text.
abbrev pub is_parameter : Sort → Bool
is_parameter Number = true
is_parameter Text = true
is_parameter _ = false

abbrev pub are_parameters : List ℕ → List Sort → Bool
are_parameters [] [] = true
are_parameters [] (sort ∷ sorts) = false
are_parameters (name ∷ names) [] = false
are_parameters (name ∷ names) (sort ∷ sorts) = is_parameter sort && are_parameters names sorts

-- with these sorts each expression of the module has the sort that its use asks for
pub record AreSorted (sorts : Sorts) (decls : List Decl) : Type 0 where
  pub declared : AreSorts sorts.declared decls
  pub bodies : (number : ℕ) (decl : Decl) → slice_get decls number ≡ Some decl
      → (params : List Sort) × (slice_get sorts.params number ≡ Some params) × (are_parameters decl.params params ≡ true) × IsSortedDecl sorts decl params

abbrev pub Sorted : List Decl → Type 0
Sorted decls = (sorts : Sorts) × AreSorted sorts decls
