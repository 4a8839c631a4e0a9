-- Lists told from their last item on.
use Rattle.std.proofs.Common.{◌≡◌, ◌∙◌, sym, ap, ℕ, ◌-◌, List, ◌++◌, length, take, drop, reverse, length-drop, arith, length-append}
use Rattle.std.proofs.lemmas.List.{reverse-append, length-reverse, take-append-drop}
use Rattle.std.proofs.Math.Seq.{drop-append_seam}

-- the first n items, told from their last on
pub reverse-take : {A : Type 0} (n : ℕ) (xs : List A) → reverse (take n xs) ≡ drop (length xs - n) (reverse xs)
reverse-take {A = A} n xs =
    let whole : reverse xs ≡ reverse (drop n xs) ++ reverse (take n xs) =
    ap reverse (sym (take-append-drop n xs)) ∙ reverse-append (take n xs) (drop n xs) in
    let len : length xs - n ≡ length (reverse (drop n xs)) = sym (length-reverse (drop n xs) ∙ length-drop n xs) in
    sym (rw (whole, len) (drop-append_seam (reverse (drop n xs)) (reverse (take n xs))))

-- what came later is cut off again
pub drop-later : {A : Type 0} (later kept : List A) → drop (length (later ++ kept) - length kept) (later ++ kept) ≡ kept
drop-later later kept =
    let n : length (later ++ kept) - length kept ≡ length later = omega (arith, length-append later kept) in
    rw n (drop-append_seam later kept)
