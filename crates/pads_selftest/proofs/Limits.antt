-- What is too much still is too much with more of it.
use Rattle.std.proofs.Common.{◌≡◌, ◌+◌, ℕ, nat_lt, true, List, ◌++◌, length, length-append, sum_by, arith}
use Rattle.std.proofs.lemmas.Bool.{lt-ltb, ltb-true}
use Rattle.std.proofs.lemmas.List.Sums.{sum_by-append}

-- items, and the sizes of all of them
pub above-still : {A : Type 0} (size : A → ℕ) (most : ℕ) (xs ys : List A) → nat_lt most (length xs + sum_by size xs) ≡ true → nat_lt most (length (xs ++ ys) + sum_by size (xs ++ ys)) ≡ true
above-still size most xs ys over =
    let above = ltb-true most (length xs + sum_by size xs) over in
    lt-ltb most (length (xs ++ ys) + sum_by size (xs ++ ys)) (omega (arith, above, length-append xs ys, sum_by-append size xs ys))
