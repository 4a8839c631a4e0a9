-- When a value, or what an expression is worth, has a sort. A part that is Missing has each sort.
use Rattle.std.specs.Prelude.{◌≡◌, ℕ, nat_lt, Bool, true, false, ◌&&◌, List, [], ◌∷◌, Option, Some, None, slice_get}
use Rattle.pads_value.specs.declared.value.Val.{Val, Val-F, out-Val, fold-Val}
use Rattle.pads_expr.specs.Value.{Pairs, found}
use Rattle.pads_expr.specs.Worth.{Worth, Answer, Is, Absent, Ill}
use Rattle.pads_expr.specs.Worth as worth
use Rattle.pads_calc.specs.declared.term.Part.{Part}
use Rattle.pads_calc.specs.declared.term.Term.{Term}
use Rattle.law_calculus.specs.Expressions.{SortScope, sort_named}
use Rattle.law_calculus.specs.Sorts.{Sort, Nothing, Labels, Struct, Choice, Array, is_number, is_text, is_truth, sort_of}

abbrev pub is_nothing : Sort → Bool
is_nothing Nothing = true
is_nothing _ = false

abbrev pub is_label : ℕ → Sort → Bool
is_label label (Labels count) = nat_lt label count
is_label label _ = false

-- whether a value has a sort
abbrev pub Sorting : Type 0
Sorting = Sort → Bool

-- where the declarations' values have these sorts
module _ (declared : List Sort) where
  -- as many values as parts, each of its part's sort
  abbrev pub each_part : List Sorting → List Part → Bool
  each_part [] [] = true
  each_part [] (part ∷ parts) = false
  each_part (value ∷ values) [] = false
  each_part (value ∷ values) (part ∷ parts) = value (sort_of declared part.term) && each_part values parts

  abbrev pub are_parts : List Sorting → Sort → Bool
  are_parts values (Struct parts) = each_part values parts
  are_parts values _ = false

  abbrev pub of_branch : Sorting → Option Term → Bool
  of_branch value None = false
  of_branch value (Some branch) = value (sort_of declared branch)

  abbrev pub is_branch : ℕ → Sorting → Sort → Bool
  is_branch number value (Choice branches) = of_branch value (slice_get branches number)
  is_branch number value _ = false

  abbrev pub each_element : List Sorting → Sort → Bool
  each_element [] sort = true
  each_element (value ∷ values) sort = value sort && each_element values sort

  abbrev pub are_elements : List Sorting → Sort → Bool
  are_elements values (Array elem) = each_element values (sort_of declared elem)
  are_elements values _ = false

  -- one equation for each form of value
  abbrev pub value_step : Val-F Sorting → Sorting
  value_step Val-F.Unit sort = is_nothing sort
  value_step Val-F.Missing sort = true
  value_step (Val-F.Num number) sort = is_number sort
  value_step (Val-F.Text text) sort = is_text sort
  value_step (Val-F.Enum label) sort = is_label label sort
  value_step (Val-F.Tuple parts) sort = are_parts parts sort
  value_step (Val-F.Branch number inner) sort = is_branch number inner sort
  value_step (Val-F.Array elements) sort = are_elements elements sort

-- a value has this sort or is Missing
unfoldable pub has_sort : List Sort → Val → Sort → Bool
has_sort declared = fold-Val Sorting (value_step declared)

-- what stands for itself in an expression, and is no number, no text and not Missing
abbrev pub is_whole : Val-F Val → Bool
is_whole Val-F.Unit = true
is_whole Val-F.Missing = false
is_whole (Val-F.Num number) = false
is_whole (Val-F.Text text) = false
is_whole (Val-F.Enum label) = true
is_whole (Val-F.Tuple parts) = true
is_whole (Val-F.Branch number inner) = true
is_whole (Val-F.Array elements) = true

abbrev pub worth_has : List Sort → Worth → Sort → Bool
worth_has declared (worth.Num number) sort = is_number sort
worth_has declared (worth.Text text) sort = is_text sort
worth_has declared (worth.Truth truth) sort = is_truth sort
worth_has declared (worth.Part value) sort = is_whole (out-Val value) && has_sort declared value sort

-- The value of an expression isn't ill-sorted, and where it has a worth, that has this sort.
abbrev pub answer_has : List Sort → Answer → Sort → Bool
answer_has declared (Is worth) sort = worth_has declared worth sort
answer_has declared Absent sort = true
answer_has declared Ill sort = false

-- In the environment each name that is bound stands for a value of its sort, or for Missing.
abbrev pub HasSorts : List Sort → SortScope → Pairs → Type 0
HasSorts declared scope env =
    (name : ℕ) (sort : Sort) (value : Val) → sort_named scope name ≡ Some sort → found env name ≡ Some value → has_sort declared value sort ≡ true
