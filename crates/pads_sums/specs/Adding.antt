-- What one node more makes of a part's sum; for clauses of the code, which adds node by node. Counts stand
-- still at 2^64 - 1, and the sum of numbers at the bounds of 128 bits.
use Rattle.std.specs.Prelude.{ℕ, ℤ, ◌+◌, ◌+ℤ◌, ◌-◌, ◌^◌, min, nat_eq, nat_lt, Bool, true, false, ◌||◌, List, [], ◌∷◌, ◌++◌, length, filter, Option, Some, None, if◌then◌else◌}
use Rattle.std.specs.Int.{int_min, int_max, saturate_signed, w128}
use Rattle.std.specs.List.{list_any}
use Rattle.pads_sums.specs.declared.form.PartForm.{PartForm}
use Rattle.pads_sums.specs.Nodes.{Node, sample_of}
use Rattle.pads_sums.specs.Samples.{Sample, num, text, same}
use Rattle.pads_sums.specs.declared.part_sum.PartSum.{PartSum}

abbrev pub risen : ℕ → ℕ → ℕ
risen more count = min (count + more) (2 ^ 64 - 1)

abbrev pub next : ℕ → ℕ
next count = risen 1 count

abbrev pub is_num : Sample → Bool
is_num (num number) = true
is_num (text points) = false

abbrev pub is_text : Sample → Bool
is_text (num number) = false
is_text (text points) = true

abbrev pub Pairs : Type 0
Pairs = List (Sample × ℕ)

abbrev pub is_among : Sample → Pairs → Bool
is_among sample pairs = list_any (λ pair. same sample pair.0) pairs

-- so many occurrences more of a value
abbrev pub again : ℕ → Sample → Pairs → Pairs
again more sample [] = []
again more sample (pair ∷ pairs) = if same sample pair.0 then (pair.0, risen more pair.1) ∷ pairs else pair ∷ again more sample pairs

-- with a new value; numbers stand before texts
abbrev pub with_new : ℕ → Sample → Pairs → Pairs
with_new more (num number) pairs = filter (λ pair. is_num pair.0) pairs ++ (num number, more) ∷ filter (λ pair. is_text pair.0) pairs
with_new more (text points) pairs = pairs ++ (text points, more) ∷ []

-- whether so many values leave room for one more
abbrev pub has_room : Option ℕ → ℕ → Bool
has_room None count = true
has_room (Some room) count = nat_lt count room

-- among values of one kind; `free` where there is room for a new one
abbrev pub counted_where : Bool → ℕ → Sample → Pairs → Pairs
counted_where free more sample pairs = if is_among sample pairs then again more sample pairs else if free then pairs ++ (sample, more) ∷ [] else pairs

module _ (room : Option ℕ) where
  abbrev pub is_counted : Sample → Pairs → Bool
  is_counted sample pairs = is_among sample pairs || has_room room (length pairs)

  -- so many occurrences more of a value
  abbrev pub counted_by : ℕ → Sample → Pairs → Pairs
  counted_by more sample pairs = if is_among sample pairs then again more sample pairs else if has_room room (length pairs) then with_new more sample pairs else pairs

  abbrev pub counted : Sample → Pairs → Pairs
  counted sample pairs = counted_by 1 sample pairs

abbrev pub with_number : ℤ → PartSum → PartSum
with_number number sum = record sum {
  nums = next sum.nums;
  least = if nat_eq sum.nums 0 then number else int_min sum.least number;
  greatest = if nat_eq sum.nums 0 then number else int_max sum.greatest number;
  sum = saturate_signed w128 (sum.sum +ℤ number);
}

abbrev pub with_value : Option ℕ → Sample → PartSum → PartSum
with_value room sample sum = record sum {
  tracked = counted room sample sum.tracked;
  others = if is_counted room sample sum.tracked then sum.others else next sum.others;
}

abbrev pub with_sample : Option ℕ → Option Sample → PartSum → PartSum
with_sample room None sum = sum
with_sample room (Some (num number)) sum = with_value room (num number) (with_number number sum)
with_sample room (Some (text points)) sum = with_value room (text points) sum

abbrev pub with_class : Bool → PartSum → PartSum
with_class true sum = record sum { good = next sum.good }
with_class false sum = record sum { bad = next sum.bad }

abbrev pub with_node : Option ℕ → PartForm → PartSum → Node → PartSum
with_node room form sum node = with_sample room (sample_of form node) (with_class node.clean sum)
