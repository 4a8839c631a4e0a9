-- Where instructions stand in code.
use Rattle.std.proofs.Common.{◌≡◌, ◌∙◌, sym, ap, arith, ℕ, zero, suc, ◌+◌, List, [], ◌∷◌, ◌++◌, length, append_assoc, drop, Some, slice_get, add-one}
use Rattle.pads_image.specs.declared.op.Op.{Op}

-- these instructions stand from an address on
pub record StandsAt (code : List Op) (p : ℕ) (ops : List Op) : Type 0 where
  pub rest : List Op
  pub is : drop p code ≡ ops ++ rest

got : {A : Type 0} (xs : List A) (p : ℕ) (x : A) (rest : List A) → drop p xs ≡ x ∷ rest → slice_get xs p ≡ Some x
got [] zero x rest is = cc
got [] (suc p) x rest is = cc
got (y ∷ xs) zero x rest is = let same : y ≡ x = cc in ap (λ z. Some z) same
got (y ∷ xs) (suc p) x rest is = got xs p x rest is

dropped : {A : Type 0} (xs : List A) (p : ℕ) (x : A) (rest : List A) → drop p xs ≡ x ∷ rest → drop (suc p) xs ≡ rest
dropped [] zero x rest is = cc
dropped [] (suc p) x rest is = cc
dropped (y ∷ xs) zero x rest is = cc
dropped (y ∷ xs) (suc p) x rest is = dropped xs p x rest is

module _ (code : List Op) where
  pub first-there : (p : ℕ) (instruction : Op) (ops : List Op) → StandsAt code p (instruction ∷ ops) → slice_get code p ≡ Some instruction
  first-there p instruction ops h = got code p instruction (ops ++ h.rest) h.is

  pub rest-there : (p : ℕ) (instruction : Op) (ops : List Op) → StandsAt code p (instruction ∷ ops) → StandsAt code (p + 1) ops
  rest-there p instruction ops h = record { rest = h.rest; is = rw (add-one) (dropped code p instruction (ops ++ h.rest) h.is) }

  pub left-there : (p : ℕ) (xs ys : List Op) → StandsAt code p (xs ++ ys) → StandsAt code p xs
  left-there p xs ys h = record { rest = ys ++ h.rest; is = h.is ∙ append_assoc xs ys h.rest }

  pub right-there : (p : ℕ) (xs ys : List Op) (q : ℕ) → p + length xs ≡ q → StandsAt code p (xs ++ ys) → StandsAt code q ys
  right-there p [] ys q same h =
      let e : p ≡ q = omega (arith, same) in
      record { rest = h.rest; is = ap (λ p. drop p code) (sym e) ∙ h.is }
  right-there p (x ∷ xs) ys q same h = right-there (p + 1) xs ys q (omega (arith, same)) (rest-there p x (xs ++ ys) h)
