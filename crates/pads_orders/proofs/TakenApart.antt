-- A list that isn't empty, as a pattern takes it apart.
use Rattle.std.proofs.Common.{◌≡◌, ◌-◌, ◌≤◌, List, [], ◌∷◌, length, take, drop, get_or, sym, ap, ◌∙◌, arith}
use Rattle.std.proofs.lemmas.List.{take_rest}

pub taken_apart : {X : Type 0} (xs : List X) (x : X) → 1 ≤ length xs → x ≡ get_or xs 0 x → xs ≡ x ∷ take (length xs - 1) (drop 1 xs)
taken_apart [] x h e = absurd (omega arith)
taken_apart (y ∷ xs) x h e = ap (λ z. z ∷ xs) (sym e) ∙ ap (λ l. x ∷ l) (sym (take_rest (y ∷ xs) 1))
