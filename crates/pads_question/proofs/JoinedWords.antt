-- Pieces that are put one behind another.
use Rattle.std.proofs.Common.{◌≡◌, ℕ, List, ◌++◌, ◌∙◌, ap, append_assoc}

pub two : (line l l' a b : List ℕ) → l ≡ line ++ a → l' ≡ l ++ b → l' ≡ line ++ (a ++ b)
two line l l' a b first second = second ∙ (ap (λ x. x ++ b) first ∙ append_assoc line a b)
