-- A text is one of a class where the class is well formed and has each of its code points.
use Rattle.std.proofs.Common.{◌≡◌, ℕ, Bool, true, false, ◌&&◌, not, cond, List, [], ◌∷◌, Some, None, refl, sym, ap, ◌∙◌, nat_eq, length}
use Rattle.std.specs.Option.{unwrap_or}
use Rattle.std.specs.List.{list_all}
use Rattle.std.proofs.Math.Bool.{and-false}

pub has : (well_formed inside : Bool) → unwrap_or (cond well_formed (Some inside) None) false ≡ (well_formed && inside)
has true inside = refl
has false inside = refl

pub all_has : (p : ℕ → Bool) (well_formed : Bool) (text : List ℕ) → (not (nat_eq (length text) 0) && list_all (λ x. well_formed && p x) text) ≡ (well_formed && (not (nat_eq (length text) 0) && list_all p text))
all_has p true text = refl
all_has p false [] = refl
all_has p false (x ∷ text) = and-false (not (nat_eq (length (x ∷ text)) 0))

pub has_all : (p : ℕ → Bool) (well_formed : Bool) (text : List ℕ) → nat_eq (length text) 0 ≡ false → list_all (λ x. well_formed && p x) text ≡ (well_formed && (not (nat_eq (length text) 0) && list_all p text))
has_all p well_formed text some = sym (ap (λ b. not b && list_all (λ x. well_formed && p x) text) some) ∙ all_has p well_formed text
