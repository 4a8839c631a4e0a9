-- A conjunction over numbers, as far as it has come.
use Rattle.std.proofs.Common.{◌≡◌, ◌∙◌, ◌∷◌, sym, ap, refl, arith, add-one, zero-add, ℕ, zero, suc, ◌+◌, ◌-◌, ◌<◌, ℤ, pos, ◌+ℤ◌, nat_lt, if◌then◌else◌, FitsSigned, Bool, true, false, Option, Some, None}
use Rattle.std.proofs.lemmas.Int.{ints}
use Rattle.std.specs.Int.{w128}
use Rattle.pads_expr.specs.declared.expr.BinOp.TheVariants.{And}
use Rattle.pads_expr.specs.Operators.{between}
use Rattle.pads_expr.specs.Ranges.{conjunction, count_between, longest_range, range_size, over_range, for_all}
use Rattle.pads_value.specs.declared.value.Val.TheVariants as val
use Rattle.pads_expr.specs.declared.expr.Expr.{Expr}
use Rattle.pads_expr.specs.Value.{Pairs, value, at_number}
use Rattle.pads_expr.specs.Worth.{Worth, Num, Text, Truth, Part, Answer, Is, Absent, Ill, worth_or_none, is_true, truth_alone}

-- the numbers of a range are between its bounds, so they fit
pub in_range : (first last : ℤ) (step : ℕ) → FitsSigned w128 first → FitsSigned w128 last → step < count_between first last → FitsSigned w128 (first +ℤ pos step)
in_range first last step fits_first fits_last inside = grind (arith, ints)

pub in_range_size : (first last : ℤ) (step size : ℕ) → FitsSigned w128 first → FitsSigned w128 last → Some size ≡ range_size first last → step < size →
    FitsSigned w128 (first +ℤ pos step)
in_range_size first last step size fits_first fits_last is_size inside =
    let e : size ≡ count_between first last = size_is (nat_lt longest_range (count_between first last)) is_size in
    in_range first last step fits_first fits_last (rw (← e) inside)
  where
    size_is : {size count : ℕ} (b : Bool) → Some size ≡ (if b then None else Some count) → size ≡ count
    size_is true e = cc
    size_is false e = cc

-- where all that came before is true, what holds next decides
next : (a b : Answer) → worth_or_none a ≡ Some (Truth true) → worth_or_none (between And a b) ≡ truth_alone (worth_or_none b)
next (Is (Truth true)) (Is (Num _)) e = refl
next (Is (Truth true)) (Is (Text _)) e = refl
next (Is (Truth true)) (Is (Truth true)) e = refl
next (Is (Truth true)) (Is (Truth false)) e = refl
next (Is (Truth true)) (Is (Part _)) e = refl
next (Is (Truth true)) Absent e = refl
next (Is (Truth true)) Ill e = refl
next (Is (Truth false)) b e = cc
next (Is (Num _)) b e = cc
next (Is (Text _)) b e = cc
next (Is (Part _)) b e = cc
next Absent b e = cc
next Ill b e = cc

-- false, or no value: whatever comes after, it stays so
settles : Option Worth → Bool
settles None = true
settles (Some (Num _)) = false
settles (Some (Text _)) = false
settles (Some (Truth true)) = false
settles (Some (Truth false)) = true
settles (Some (Part _)) = false

stays : (a b : Answer) → settles (worth_or_none a) ≡ true → worth_or_none (between And a b) ≡ worth_or_none a
unfolding settles
stays (Is (Truth true)) b e = cc
stays (Is (Truth false)) b e = refl
stays (Is (Num _)) b e = cc
stays (Is (Text _)) b e = cc
stays (Is (Part _)) b e = cc
stays Absent b e = refl
stays Ill b e = refl

not_true_settles : (here : Option Worth) → is_true here ≡ false → settles (truth_alone here) ≡ true
unfolding settles
not_true_settles None e = refl
not_true_settles (Some (Num _)) e = refl
not_true_settles (Some (Text _)) e = refl
not_true_settles (Some (Truth true)) e = cc
not_true_settles (Some (Truth false)) e = refl
not_true_settles (Some (Part _)) e = refl

true_alone : (here : Option Worth) → is_true here ≡ true → truth_alone here ≡ Some (Truth true)
true_alone None e = cc
true_alone (Some (Num _)) e = cc
true_alone (Some (Text _)) e = cc
true_alone (Some (Truth true)) e = refl
true_alone (Some (Truth false)) e = cc
true_alone (Some (Part _)) e = cc

module _ (holds : ℤ → Answer) (first : ℤ) where
  -- one more that is true
  pub all_true : (count : ℕ) (here : Option Worth) → worth_or_none (conjunction holds first count) ≡ Some (Truth true) →
      here ≡ worth_or_none (holds (first +ℤ pos count)) → is_true here ≡ true → worth_or_none (conjunction holds first (count + 1)) ≡ Some (Truth true)
  all_true count here so_far e so = rw add-one (next (conjunction holds first count) _ so_far ∙ ap truth_alone (sym e) ∙ true_alone here so)

  settled_after : (count more : ℕ) → settles (worth_or_none (conjunction holds first count)) ≡ true →
      worth_or_none (conjunction holds first (more + count)) ≡ worth_or_none (conjunction holds first count)
  settled_after count zero e = rw zero-add refl
  settled_after count (suc more) e =
      let rest : worth_or_none (conjunction holds first (more + count)) ≡ worth_or_none (conjunction holds first count) = settled_after count more e in
      let again : settles (worth_or_none (conjunction holds first (more + count))) ≡ true = ap settles rest ∙ e in
      let n : suc more + count ≡ suc (more + count) = omega arith in
      rw n (stays (conjunction holds first (more + count)) _ again ∙ rest)

  -- the first that isn't true settles the whole
  pub settled : (last : ℤ) (count size : ℕ) (here : Option Worth) → worth_or_none (conjunction holds first count) ≡ Some (Truth true) →
      here ≡ worth_or_none (holds (first +ℤ pos count)) → is_true here ≡ false → Some size ≡ range_size first last → count < size →
      worth_or_none (over_range holds first last) ≡ truth_alone here
  settled last count size here so_far e so is_size below =
      let one : worth_or_none (conjunction holds first (suc count)) ≡ truth_alone here = next (conjunction holds first count) _ so_far ∙ ap truth_alone (sym e) in
      let n : size ≡ (size - suc count) + suc count = omega arith in
      let all : worth_or_none (conjunction holds first size) ≡ truth_alone here =
      rw n (settled_after (suc count) (size - suc count) (ap settles one ∙ not_true_settles here so) ∙ one) in
      rw (← is_size) all

  -- none is left
  pub all_done : (last : ℤ) (count size : ℕ) → worth_or_none (conjunction holds first count) ≡ Some (Truth true) → Some size ≡ range_size first last →
      count ≡ size → worth_or_none (over_range holds first last) ≡ Some (Truth true)
  all_done last count size so_far is_size done = rw (← is_size, ← done) so_far

-- the same of a body
pub cut_short : (body : Expr) (name : ℕ) (env bound : Pairs) (v w : Worth) (first last number : ℤ) (count size : ℕ) (here outcome : Option Worth) (so : Bool) →
    v ≡ Num first → w ≡ Num last → worth_or_none (conjunction (at_number (value body) name env) first count) ≡ Some (Truth true) →
    number ≡ first +ℤ pos count → bound ≡ (name, val.Num number) ∷ env → here ≡ worth_or_none (value body bound) →
    so ≡ is_true here → so ≡ false → Some size ≡ range_size first last → count < size →
    outcome ≡ truth_alone here → outcome ≡ worth_or_none (for_all (at_number (value body) name env) v w)
cut_short body name env bound v w first last number count size here outcome so is_first is_last
    so_far is_number is_bound is_here is_so not_so is_size below is_outcome =
    let e : here ≡ worth_or_none (at_number (value body) name env (first +ℤ pos count)) = is_here ∙ rw (is_bound, is_number) refl in
    rw (is_first, is_last)
    (is_outcome ∙ sym (settled (at_number (value body) name env) first last count size here so_far e (sym is_so ∙ not_so) is_size below))
