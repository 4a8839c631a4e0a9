-- Whether two values are the same, computed shape by shape.
use Rattle.std.specs.Prelude.{ℕ, ◌==◌, ◌&&◌, bytes_eq, ℤ, Bool, true, false, List, Option, Some, None}
use Rattle.std.specs.Ordering.{int_eq}
use Rattle.std.specs.Cmp.Lexicographic.{pointwise}
use Rattle.pads_value.specs.declared.value.Val.{Val, Val-F, out-Val, fold-Val}
use Rattle.pads_forms.specs.Shapes.{num_in, text_in, label_in, tuple_in, branch_in, array_in}

-- the test holds of what is there
abbrev pub holds_of : {A : Type 0} → (A → Bool) → Option A → Bool
holds_of test None = false
holds_of test (Some x) = test x

module _ {A : Type 0} where
  abbrev pub is_unit : Val-F A → Bool
  is_unit Val-F.Unit = true
  is_unit Val-F.Missing = false
  is_unit (Val-F.Num number) = false
  is_unit (Val-F.Text text) = false
  is_unit (Val-F.Enum label) = false
  is_unit (Val-F.Tuple parts) = false
  is_unit (Val-F.Branch number inner) = false
  is_unit (Val-F.Array elements) = false

  abbrev pub is_missing : Val-F A → Bool
  is_missing Val-F.Unit = false
  is_missing Val-F.Missing = true
  is_missing (Val-F.Num number) = false
  is_missing (Val-F.Text text) = false
  is_missing (Val-F.Enum label) = false
  is_missing (Val-F.Tuple parts) = false
  is_missing (Val-F.Branch number inner) = false
  is_missing (Val-F.Array elements) = false

-- as many tests as values, and each holds
abbrev pub each_holds : List (Val → Bool) → List Val → Bool
each_holds tests values = pointwise (λ test v. test v) tests values

-- the other value has this shape, with the same numbers and texts, and is the same in each part
abbrev pub same_shape : Val-F (Val → Bool) → Val-F Val → Bool
same_shape Val-F.Unit other = is_unit other
same_shape Val-F.Missing other = is_missing other
same_shape (Val-F.Num number) other = holds_of (int_eq number) (num_in other)
same_shape (Val-F.Text text) other = holds_of (bytes_eq text) (text_in other)
same_shape (Val-F.Enum label) other = holds_of (λ other. label == other) (label_in other)
same_shape (Val-F.Tuple parts) other = holds_of (each_holds parts) (tuple_in other)
same_shape (Val-F.Branch number inner) other = holds_of (λ branch. (number == branch.0) && inner branch.1) (branch_in other)
same_shape (Val-F.Array elements) other = holds_of (each_holds elements) (array_in other)

abbrev pub same_step : Val-F (Val → Bool) → Val → Bool
same_step layer other = same_shape layer (out-Val other)

-- both are the same value
unfoldable pub same : Val → Val → Bool
same = fold-Val (Val → Bool) same_step
