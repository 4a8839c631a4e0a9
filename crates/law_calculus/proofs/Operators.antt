-- Operators on operands of the sorts that they take.
use Rattle.std.proofs.Common.{◌≡◌, refl, ℕ, zero, suc, ℤ, pos, ◌+ℤ◌, Bool, true, false, if◌then◌else◌, List, Option, Some, None}
use Rattle.pads_expr.specs.declared.expr.BinOp.{BinOp}
use Rattle.pads_expr.specs.declared.expr.BinOp.TheVariants.{Or, And, Eq, Ne, Lt, Le, Gt, Ge, Add, Sub, Mul, Div, Rem}
use Rattle.pads_expr.specs.Numbers.{sum_of, difference_of, product_of, quotient_of, remainder_of, opposite_of}
use Rattle.pads_expr.specs.Operators.{on_numbers, on_texts, on_truths, operate, decides, between}
use Rattle.pads_expr.specs.Parts.{minus, negation}
use Rattle.pads_expr.specs.Ranges.{conjunction, over_range, for_all, range_size}
use Rattle.pads_expr.specs.Worth.{Worth, Answer, Is, Absent, Ill, number_or_absent, on}
use Rattle.pads_expr.specs.Worth as worth
use Rattle.law_calculus.specs.Expressions.{of_numbers, of_texts, of_truths, operator_sort, minus_sort, negation_sort}
use Rattle.law_calculus.specs.Sorts.{Sort, Number, Text, Truth}
use Rattle.law_calculus.specs.Values.{worth_has, answer_has}
use Rattle.law_calculus.proofs.Worths.{number-is, text-is, truth-is}

module _ (declared : List Sort) where
  abbrev pub Has : Answer → Sort → Type 0
  Has a sort = answer_has declared a sort ≡ true

  -- an operator on an answer
  pub on-has : (a : Answer) (sort asked : Sort) (operator : Worth → Answer) → Has a sort → ((w : Worth) → worth_has declared w sort ≡ true → Has (operator w) asked)
      → Has (on a operator) asked
  on-has (Is w) sort asked operator h f = f w h
  on-has Absent sort asked operator h f = refl
  on-has Ill sort asked operator h f = cc

  number-has : (n : Option ℤ) → Has (number_or_absent n) Number
  number-has None = refl
  number-has (Some n) = refl

  numbers-have : (op : BinOp) (a b : ℤ) (asked : Sort) → of_numbers op ≡ Some asked → Has (on_numbers op a b) asked
  numbers-have Or a b asked is = cc
  numbers-have And a b asked is = cc
  numbers-have Eq a b asked is = let same : Truth ≡ asked = cc in rw (← same) refl
  numbers-have Ne a b asked is = let same : Truth ≡ asked = cc in rw (← same) refl
  numbers-have Lt a b asked is = let same : Truth ≡ asked = cc in rw (← same) refl
  numbers-have Le a b asked is = let same : Truth ≡ asked = cc in rw (← same) refl
  numbers-have Gt a b asked is = let same : Truth ≡ asked = cc in rw (← same) refl
  numbers-have Ge a b asked is = let same : Truth ≡ asked = cc in rw (← same) refl
  numbers-have Add a b asked is = let same : Number ≡ asked = cc in rw (← same) (number-has (sum_of a b))
  numbers-have Sub a b asked is = let same : Number ≡ asked = cc in rw (← same) (number-has (difference_of a b))
  numbers-have Mul a b asked is = let same : Number ≡ asked = cc in rw (← same) (number-has (product_of a b))
  numbers-have Div a b asked is = let same : Number ≡ asked = cc in rw (← same) (number-has (quotient_of a b))
  numbers-have Rem a b asked is = let same : Number ≡ asked = cc in rw (← same) (number-has (remainder_of a b))

  texts-have : (op : BinOp) (a b : List ℕ) (asked : Sort) → of_texts op ≡ Some asked → Has (on_texts op a b) asked
  texts-have Or a b asked is = cc
  texts-have And a b asked is = cc
  texts-have Eq a b asked is = let same : Truth ≡ asked = cc in rw (← same) refl
  texts-have Ne a b asked is = let same : Truth ≡ asked = cc in rw (← same) refl
  texts-have Lt a b asked is = let same : Truth ≡ asked = cc in rw (← same) refl
  texts-have Le a b asked is = let same : Truth ≡ asked = cc in rw (← same) refl
  texts-have Gt a b asked is = let same : Truth ≡ asked = cc in rw (← same) refl
  texts-have Ge a b asked is = let same : Truth ≡ asked = cc in rw (← same) refl
  texts-have Add a b asked is = cc
  texts-have Sub a b asked is = cc
  texts-have Mul a b asked is = cc
  texts-have Div a b asked is = cc
  texts-have Rem a b asked is = cc

  truths-have : (op : BinOp) (a b : Bool) (asked : Sort) → of_truths op ≡ Some asked → Has (on_truths op a b) asked
  truths-have Or a b asked is = let same : Truth ≡ asked = cc in rw (← same) refl
  truths-have And a b asked is = let same : Truth ≡ asked = cc in rw (← same) refl
  truths-have Eq a b asked is = let same : Truth ≡ asked = cc in rw (← same) refl
  truths-have Ne a b asked is = let same : Truth ≡ asked = cc in rw (← same) refl
  truths-have Lt a b asked is = cc
  truths-have Le a b asked is = cc
  truths-have Gt a b asked is = cc
  truths-have Ge a b asked is = cc
  truths-have Add a b asked is = cc
  truths-have Sub a b asked is = cc
  truths-have Mul a b asked is = cc
  truths-have Div a b asked is = cc
  truths-have Rem a b asked is = cc

  -- a left operand that decides is a truth, and so is the whole
  of_truths-truth : (op : BinOp) (asked : Sort) → of_truths op ≡ Some asked → Truth ≡ asked
  of_truths-truth Or asked is = cc
  of_truths-truth And asked is = cc
  of_truths-truth Eq asked is = cc
  of_truths-truth Ne asked is = cc
  of_truths-truth Lt asked is = cc
  of_truths-truth Le asked is = cc
  of_truths-truth Gt asked is = cc
  of_truths-truth Ge asked is = cc
  of_truths-truth Add asked is = cc
  of_truths-truth Sub asked is = cc
  of_truths-truth Mul asked is = cc
  of_truths-truth Div asked is = cc
  of_truths-truth Rem asked is = cc

  no_number : (op : BinOp) (n : ℤ) → decides op (worth.Num n) ≡ true → ⊥
  no_number Or n is = cc
  no_number And n is = cc
  no_number Eq n is = cc
  no_number Ne n is = cc
  no_number Lt n is = cc
  no_number Le n is = cc
  no_number Gt n is = cc
  no_number Ge n is = cc
  no_number Add n is = cc
  no_number Sub n is = cc
  no_number Mul n is = cc
  no_number Div n is = cc
  no_number Rem n is = cc

  no_text : (op : BinOp) (text : List ℕ) → decides op (worth.Text text) ≡ true → ⊥
  no_text Or text is = cc
  no_text And text is = cc
  no_text Eq text is = cc
  no_text Ne text is = cc
  no_text Lt text is = cc
  no_text Le text is = cc
  no_text Gt text is = cc
  no_text Ge text is = cc
  no_text Add text is = cc
  no_text Sub text is = cc
  no_text Mul text is = cc
  no_text Div text is = cc
  no_text Rem text is = cc

  -- both operands, by the sort of the two
  abbrev Operated : BinOp → Answer → Answer → Sort → Type 0
  Operated op left right asked = Has (between op left right) asked

  either-has : (b : Bool) (x y : Answer) (asked : Sort) → (b ≡ true → Has x asked) → Has y asked → Has (if b then x else y) asked
  either-has true x y asked h k = h refl
  either-has false x y asked h k = k

  of-numbers : (op : BinOp) (left right : Answer) (asked : Sort) → Has left Number → Has right Number → of_numbers op ≡ Some asked → Operated op left right asked
  of-numbers op left right asked h k is = on-has left Number asked _ h (λ a at.
      let x = number-is declared a at in
      rw x.1 (either-has (decides op (worth.Num x.0)) (Is (worth.Num x.0)) (on right (operate op (worth.Num x.0))) asked
      (λ decided. absurd (no_number op x.0 decided))
      (on-has right Number asked _ k (λ b bt. let y = number-is declared b bt in rw y.1 (numbers-have op x.0 y.0 asked is)))))

  of-texts : (op : BinOp) (left right : Answer) (asked : Sort) → Has left Text → Has right Text → of_texts op ≡ Some asked → Operated op left right asked
  of-texts op left right asked h k is = on-has left Text asked _ h (λ a at.
      let x = text-is declared a at in
      rw x.1 (either-has (decides op (worth.Text x.0)) (Is (worth.Text x.0)) (on right (operate op (worth.Text x.0))) asked
      (λ decided. absurd (no_text op x.0 decided))
      (on-has right Text asked _ k (λ b bt. let y = text-is declared b bt in rw y.1 (texts-have op x.0 y.0 asked is)))))

  of-truths : (op : BinOp) (left right : Answer) (asked : Sort) → Has left Truth → Has right Truth → of_truths op ≡ Some asked → Operated op left right asked
  of-truths op left right asked h k is = on-has left Truth asked _ h (λ a at.
      let x = truth-is declared a at in
      rw x.1 (either-has (decides op (worth.Truth x.0)) (Is (worth.Truth x.0)) (on right (operate op (worth.Truth x.0))) asked
      (λ decided. rw (← of_truths-truth op asked is) refl)
      (on-has right Truth asked _ k (λ b bt. let y = truth-is declared b bt in rw y.1 (truths-have op x.0 y.0 asked is)))))

  pub operator-has : (op : BinOp) (left right : Answer) (l r asked : Sort) → Has left l → Has right r → operator_sort op l r ≡ Some asked → Operated op left right asked
  operator-has op left right Number Number asked h k is = of-numbers op left right asked h k is
  operator-has op left right Text Text asked h k is = of-texts op left right asked h k is
  operator-has op left right Truth Truth asked h k is = of-truths op left right asked h k is
  operator-has op left right _ _ asked h k is = cc

  pub minus-has : (w : Worth) (sort asked : Sort) → worth_has declared w sort ≡ true → minus_sort sort ≡ Some asked → Has (minus w) asked
  minus-has w Number asked h is =
      let n = number-is declared w h in
      let same : Number ≡ asked = cc in
      rw (n.1, ← same) (number-has (opposite_of n.0))
  minus-has w _ asked h is = cc

  pub negation-has : (w : Worth) (sort asked : Sort) → worth_has declared w sort ≡ true → negation_sort sort ≡ Some asked → Has (negation w) asked
  negation-has w Truth asked h is =
      let t = truth-is declared w h in
      let same : Truth ≡ asked = cc in
      rw (t.1, ← same) refl
  negation-has w _ asked h is = cc

  -- a conjunction over a range
  conjunction-has : (holds : ℤ → Answer) (first : ℤ) (count : ℕ) → ((n : ℤ) → Has (holds n) Truth) → Has (conjunction holds first count) Truth
  conjunction-has holds first zero h = refl
  conjunction-has holds first (suc count) h =
      of-truths And (conjunction holds first count) (holds (first +ℤ pos count)) Truth (conjunction-has holds first count h) (h (first +ℤ pos count)) refl

  range-has : (holds : ℤ → Answer) (first last : ℤ) → ((n : ℤ) → Has (holds n) Truth) → Has (over_range holds first last) Truth
  range-has holds first last h = by_size (range_size first last) refl
    where
      by_size : (size : Option ℕ) → range_size first last ≡ size → Has (over_range holds first last) Truth
      by_size None is = rw is refl
      by_size (Some count) is = rw is (conjunction-has holds first count h)

  pub forall-has : (holds : ℤ → Answer) (a b : Worth) → worth_has declared a Number ≡ true → worth_has declared b Number ≡ true → ((n : ℤ) → Has (holds n) Truth)
      → Has (for_all holds a b) Truth
  forall-has holds a b h k f =
      let x = number-is declared a h in
      let y = number-is declared b k in
      rw (x.1, y.1) (range-has holds x.0 y.0 f)
