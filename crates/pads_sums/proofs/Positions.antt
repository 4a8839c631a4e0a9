-- The first item that passes a test, of a list with one more item at its head.
use Rattle.std.proofs.Common.{◌≡◌, ◌∙◌, sym, ap, refl, ℕ, suc, ◌+◌, nat_lt, Bool, true, false, cond, List, [], ◌∷◌, ◌++◌, length, position, Option, Some, None, lt-ltb, le-ltb, ltb-true, ltb-false, arith}
use Rattle.std.specs.List.{position_or_len}
use Rattle.std.specs.Option.{option_map, option_or}

module _ {X : Type 0} (test : X → Bool) where
  later-test : (n l : ℕ) (b : Bool) → nat_lt n l ≡ b → nat_lt (1 + n) (suc l) ≡ b
  later-test n l true below = lt-ltb (1 + n) (suc l) (let h = ltb-true n l below in omega arith)
  later-test n l false above = le-ltb (1 + n) (suc l) (let h = ltb-false n l above in omega arith)

  later : (n l : ℕ) (b : Bool) → nat_lt n l ≡ b → cond (nat_lt (1 + n) (suc l)) (Some (1 + n)) None ≡ option_map suc (cond b (Some n) None)
  later n l true below = rw (later-test n l true below) (ap Some (omega arith))
  later n l false above = rw (later-test n l false above) refl

  shift : (n l : ℕ) → cond (nat_lt (1 + n) (suc l)) (Some (1 + n)) None ≡ option_map suc (cond (nat_lt n l) (Some n) None)
  shift n l = later n l (nat_lt n l) refl

  cons-step : (x : X) (xs : List X) (b : Bool) → test x ≡ b
      → position test (x ∷ xs) ≡ cond b (Some 0) (option_map suc (position test xs))
  cons-step x xs true is = rw is (ap (λ b. cond b (Some 0) None) (lt-ltb 0 (suc (length xs)) (omega arith)))
  cons-step x xs false is = rw is (shift (position_or_len test xs) (length xs))

  pub position_cons : (x : X) (xs : List X) → position test (x ∷ xs) ≡ cond (test x) (Some 0) (option_map suc (position test xs))
  position_cons x xs = cons-step x xs (test x) refl

  -- of a list with one more item at its end
  snoc-step : (x : X) (xs : List X) (y : X) (b : Bool)
      → position test (xs ++ y ∷ []) ≡ option_or (position test xs) (cond (test y) (Some (length xs)) None)
      → cond b (Some 0) (option_map suc (position test (xs ++ y ∷ []))) ≡ option_or (cond b (Some 0) (option_map suc (position test xs))) (cond (test y) (Some (suc (length xs))) None)
  snoc-step x xs y true rest = refl
  snoc-step x xs y false rest = ap (option_map suc) rest ∙ raised (position test xs) (test y)
    where
      raised : (o : Option ℕ) (b : Bool) → option_map suc (option_or o (cond b (Some (length xs)) None)) ≡ option_or (option_map suc o) (cond b (Some (suc (length xs))) None)
      raised None true = refl
      raised None false = refl
      raised (Some n) b = refl

  pub position_snoc : (xs : List X) (y : X) → position test (xs ++ y ∷ []) ≡ option_or (position test xs) (cond (test y) (Some (length xs)) None)
  position_snoc [] y = position_cons y [] ∙ one (test y)
    where
      one : (b : Bool) → cond b (Some 0) (option_map suc (position test [])) ≡ option_or (position test []) (cond b (Some 0) None)
      one true = refl
      one false = refl
  position_snoc (x ∷ xs) y =
      position_cons x (xs ++ y ∷ [])
      ∙ snoc-step x xs y (test x) (position_snoc xs y)
      ∙ ap (λ o. option_or o (cond (test y) (Some (suc (length xs))) None)) (sym (position_cons x xs))
