-- What a value is, shape by shape; none where it has another shape.
use Rattle.std.specs.Prelude.{ℕ, ℤ, List, Option, Some, None}
use Rattle.pads_value.specs.declared.value.Val.{Val-F}

module _ {A : Type 0} where
  abbrev pub num_in : Val-F A → Option ℤ
  num_in Val-F.Unit = None
  num_in Val-F.Missing = None
  num_in (Val-F.Num number) = Some number
  num_in (Val-F.Text text) = None
  num_in (Val-F.Enum label) = None
  num_in (Val-F.Tuple parts) = None
  num_in (Val-F.Branch number inner) = None
  num_in (Val-F.Array elements) = None

  abbrev pub text_in : Val-F A → Option (List ℕ)
  text_in Val-F.Unit = None
  text_in Val-F.Missing = None
  text_in (Val-F.Num number) = None
  text_in (Val-F.Text text) = Some text
  text_in (Val-F.Enum label) = None
  text_in (Val-F.Tuple parts) = None
  text_in (Val-F.Branch number inner) = None
  text_in (Val-F.Array elements) = None

  abbrev pub label_in : Val-F A → Option ℕ
  label_in Val-F.Unit = None
  label_in Val-F.Missing = None
  label_in (Val-F.Num number) = None
  label_in (Val-F.Text text) = None
  label_in (Val-F.Enum label) = Some label
  label_in (Val-F.Tuple parts) = None
  label_in (Val-F.Branch number inner) = None
  label_in (Val-F.Array elements) = None

  abbrev pub tuple_in : Val-F A → Option (List A)
  tuple_in Val-F.Unit = None
  tuple_in Val-F.Missing = None
  tuple_in (Val-F.Num number) = None
  tuple_in (Val-F.Text text) = None
  tuple_in (Val-F.Enum label) = None
  tuple_in (Val-F.Tuple parts) = Some parts
  tuple_in (Val-F.Branch number inner) = None
  tuple_in (Val-F.Array elements) = None

  abbrev pub branch_in : Val-F A → Option (ℕ × A)
  branch_in Val-F.Unit = None
  branch_in Val-F.Missing = None
  branch_in (Val-F.Num number) = None
  branch_in (Val-F.Text text) = None
  branch_in (Val-F.Enum label) = None
  branch_in (Val-F.Tuple parts) = None
  branch_in (Val-F.Branch number inner) = Some (number, inner)
  branch_in (Val-F.Array elements) = None

  abbrev pub array_in : Val-F A → Option (List A)
  array_in Val-F.Unit = None
  array_in Val-F.Missing = None
  array_in (Val-F.Num number) = None
  array_in (Val-F.Text text) = None
  array_in (Val-F.Enum label) = None
  array_in (Val-F.Tuple parts) = None
  array_in (Val-F.Branch number inner) = None
  array_in (Val-F.Array elements) = Some elements
