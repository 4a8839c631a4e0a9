-- What it says that two texts are the same.
use Rattle.std.proofs.Common.{◌≡◌, ℕ, true, List}
use Rattle.std.proofs.lemmas.Slice.Eq.{bytes_eq-Decides}
use Rattle.pads_rules.specs.Texts.{same_text}

pub same-is : (a b : List ℕ) → same_text a b ≡ true → a ≡ b
unfolding same_text
same-is a b h = (bytes_eq-Decides a b).0 h

pub is-same : (a b : List ℕ) → a ≡ b → same_text a b ≡ true
unfolding same_text
is-same a b is = (bytes_eq-Decides a b).1 is
