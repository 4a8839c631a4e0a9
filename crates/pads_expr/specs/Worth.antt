-- What an expression of a description is worth, by the sorts of the PADS profile: whole numbers, texts,
-- truth values and parts of a record's value.
use Rattle.std.specs.Prelude.{ℕ, ℤ, Bool, false, List, Option, Some, None}
use Rattle.pads_value.specs.declared.value.Val.{Val}

pub data Worth : Type 0 where
  -- a whole number of 128 bits, signed
  Num : ℤ → Worth
  -- a text, as its code points
  Text : List ℕ → Worth
  Truth : Bool → Worth
  -- a struct, union, optional, enum or array, as it was read
  Part : Val → Worth

-- The value of an expression. It is one of six: a number, a text, a truth value, a part, absent or
-- ill-sorted.
pub data Answer : Type 0 where
  Is : Worth → Answer
  -- there is none: a number of more than 128 bits, a zero divisor, a name without a value, something
  -- Missing, a branch that wasn't chosen, an index outside its array, too long a range
  Absent : Answer
  -- an operand has a sort that its operator doesn't take
  Ill : Answer

-- What is told of a value: the two without a worth are one.
abbrev pub worth_or_none : Answer → Option Worth
worth_or_none (Is worth) = Some worth
worth_or_none Absent = None
worth_or_none Ill = None

-- Whether it is told to be true: a condition without a value isn't met.
abbrev pub is_true : Option Worth → Bool
is_true None = false
is_true (Some (Num number)) = false
is_true (Some (Text text)) = false
is_true (Some (Truth truth)) = truth
is_true (Some (Part value)) = false

-- The truth value alone: what is told of `true && a`, by what is told of `a`.
abbrev pub truth_alone : Option Worth → Option Worth
truth_alone None = None
truth_alone (Some (Num number)) = None
truth_alone (Some (Text text)) = None
truth_alone (Some (Truth truth)) = Some (Truth truth)
truth_alone (Some (Part value)) = None

-- An operator on an operand: where the operand has no value, or is ill-sorted, so is the whole.
abbrev pub on : Answer → (Worth → Answer) → Answer
on (Is worth) operator = operator worth
on Absent operator = Absent
on Ill operator = Ill

-- A number where there is one, else no value.
abbrev pub number_or_absent : Option ℤ → Answer
number_or_absent (Some number) = Is (Num number)
number_or_absent None = Absent

-- A truth value where there is one; an operator that has none doesn't take its operands.
abbrev pub truth_or_ill : Option Bool → Answer
truth_or_ill (Some truth) = Is (Truth truth)
truth_or_ill None = Ill
