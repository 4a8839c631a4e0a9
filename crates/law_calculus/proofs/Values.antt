-- The sorts of values, form by form.
use Rattle.std.proofs.Common.{◌≡◌, ◌∙◌, sym, ap, ℕ, ℤ, nat_lt, true, List, map, slice_get}
use Rattle.pads_value.specs.declared.value.Val.{Val, Val-F, roll-Val, out-roll-Val}
use Rattle.pads_value.specs.declared.value.Val.TheVariants as val
use Rattle.pads_calc.specs.declared.term.Part.{Part}
use Rattle.pads_calc.specs.declared.term.Term.{Term}
use Rattle.law_calculus.specs.Sorts.{Sort, Number, Text, Nothing, Labels, Struct, Choice, Array, sort_of}
use Rattle.law_calculus.specs.Values.{has_sort, each_part, each_element, of_branch}
use Rattle.law_calculus.proofs.Worths.{has-out, layer_has}

module _ (declared : List Sort) where
  has-roll : (layer : Val-F Val) (sort : Sort) → has_sort declared (roll-Val layer) sort ≡ layer_has declared layer sort
  has-roll layer sort = has-out declared (roll-Val layer) sort ∙ ap (λ layer. layer_has declared layer sort) (out-roll-Val layer)

  pub has-Unit : has_sort declared val.Unit Nothing ≡ true
  has-Unit = ap (λ value. has_sort declared value Nothing) (sym val.rolls-Unit) ∙ has-roll Val-F.Unit Nothing

  pub has-Missing : (sort : Sort) → has_sort declared val.Missing sort ≡ true
  has-Missing sort = ap (λ value. has_sort declared value sort) (sym val.rolls-Missing) ∙ has-roll Val-F.Missing sort

  pub has-Num : (number : ℤ) → has_sort declared (val.Num number) Number ≡ true
  has-Num number = ap (λ value. has_sort declared value Number) (sym (val.rolls-Num number)) ∙ has-roll (Val-F.Num number) Number

  pub has-Text : (text : List ℕ) → has_sort declared (val.Text text) Text ≡ true
  has-Text text = ap (λ value. has_sort declared value Text) (sym (val.rolls-Text text)) ∙ has-roll (Val-F.Text text) Text

  pub has-Enum : (label count : ℕ) → has_sort declared (val.Enum label) (Labels count) ≡ nat_lt label count
  has-Enum label count = ap (λ value. has_sort declared value (Labels count)) (sym (val.rolls-Enum label)) ∙ has-roll (Val-F.Enum label) (Labels count)

  pub has-Tuple : (values : List Val) (parts : List Part) → has_sort declared (val.Tuple values) (Struct parts) ≡ each_part declared (map (has_sort declared) values) parts
  has-Tuple values parts = ap (λ value. has_sort declared value (Struct parts)) (sym (val.rolls-Tuple values)) ∙ has-roll (Val-F.Tuple values) (Struct parts)

  pub has-Branch : (number : ℕ) (inner : Val) (branches : List Term)
      → has_sort declared (val.Branch number inner) (Choice branches) ≡ of_branch declared (has_sort declared inner) (slice_get branches number)
  has-Branch number inner branches =
      ap (λ value. has_sort declared value (Choice branches)) (sym (val.rolls-Branch number inner)) ∙ has-roll (Val-F.Branch number inner) (Choice branches)

  pub has-Array : (values : List Val) (elem : Term)
      → has_sort declared (val.Array values) (Array elem) ≡ each_element declared (map (has_sort declared) values) (sort_of declared elem)
  has-Array values elem = ap (λ value. has_sort declared value (Array elem)) (sym (val.rolls-Array values)) ∙ has-roll (Val-F.Array values) (Array elem)
