-- How far the run before a terminator reaches.
use Rattle.std.proofs.Common.{◌≡◌, ℕ, zero, suc, ◌+◌, ◌<◌, ◌≤◌, true, false, cond, eqb, List, [], ◌∷◌, ◌++◌, length, get_or, replicate, refl, ap, inl, inr, arith, add-one}
use Rattle.std.proofs.lemmas.Bool.{cases_Bool, eqb-true, eq-eqb}
use Rattle.pads_frame.specs.Extents.{run}

pub run_le : (t : ℕ) (xs : List ℕ) → run t xs ≤ length xs
run_le t [] = omega arith
run_le t (x ∷ xs) =
    elim (cases_Bool (eqb x t)) [ inl e ↦ rw e (omega arith) | inr e ↦ rw e (omega (arith, run_le t xs)) ]

-- a run that a terminator closes stays, whatever comes
pub run-append_closed : (t : ℕ) (xs ys : List ℕ) → run t xs < length xs → run t (xs ++ ys) ≡ run t xs
run-append_closed t [] ys h = absurd (omega arith)
run-append_closed t (x ∷ xs) ys h =
    elim (cases_Bool (eqb x t)) [
      | inl e ↦ rw e refl
      | inr e ↦ let g : cond (eqb x t) 0 (run t xs + 1) < suc (length xs) = h in
          let k : run t xs + 1 < suc (length xs) = rw e at g in
          rw e (ap (λ (n : ℕ). n + 1) (run-append_closed t xs ys (omega arith)))
    ]

-- a run with no terminator goes on
pub run-append_open : (t : ℕ) (xs ys : List ℕ) → run t xs ≡ length xs → run t (xs ++ ys) ≡ length xs + run t ys
run-append_open t [] ys h = omega arith
run-append_open t (x ∷ xs) ys h =
    elim (cases_Bool (eqb x t)) [
      | inl e ↦ let g : cond (eqb x t) 0 (run t xs + 1) ≡ suc (length xs) = h in
          let k : 0 ≡ suc (length xs) = rw e at g in
          absurd (omega arith)
      | inr e ↦ let g : cond (eqb x t) 0 (run t xs + 1) ≡ suc (length xs) = h in
          let k : run t xs + 1 ≡ suc (length xs) = rw e at g in
          rw e (omega (arith, run-append_open t xs ys (omega arith)))
    ]

pub run-replicate : (t f n : ℕ) → eqb f t ≡ false → run t (replicate n f) ≡ n
run-replicate t f zero h = refl
run-replicate t f (suc n) h = rw h (omega (arith, run-replicate t f n h))

-- no place has the terminator
pub run_none : (t : ℕ) (xs : List ℕ) → ((k : ℕ) → k < length xs → eqb (get_or xs k 0) t ≡ true → ⊥) → run t xs ≡ length xs
run_none t [] h = refl
run_none t (x ∷ xs) h =
    elim (cases_Bool (eqb x t)) [
      | inl e ↦ absurd (h 0 (omega arith) e)
      | inr e ↦ rw e (omega (arith, run_none t xs (λ k l. h (suc k) (omega arith))))
    ]

-- the first place that has it
pub run_first : (t : ℕ) (xs : List ℕ) (n : ℕ) → n < length xs → ((k : ℕ) → k < n → eqb (get_or xs k 0) t ≡ true → ⊥) → eqb (get_or xs n 0) t ≡ true → run t xs ≡ n
run_first t [] n l h e = absurd (omega arith)
run_first t (x ∷ xs) zero l h e = rw e refl
run_first t (x ∷ xs) (suc n) l h e =
    elim (cases_Bool (eqb x t)) [
      | inl hit ↦ absurd (h 0 (omega arith) hit)
      | inr miss ↦ rw miss (omega (arith, run_first t xs n (omega arith) (λ k m. h (suc k) (omega arith)) e))
    ]

-- at the end of a run that stops early stands the terminator, and before it none
pub run_hit : (t : ℕ) (xs : List ℕ) → run t xs < length xs → get_or xs (run t xs) 0 ≡ t
run_hit t [] h = absurd (omega arith)
run_hit t (x ∷ xs) h =
    elim (cases_Bool (eqb x t)) [
      | inl e ↦ rw e (eqb-true x t e)
      | inr e ↦
          let g : cond (eqb x t) 0 (run t xs + 1) < suc (length xs) = h in
          let k : run t xs + 1 < suc (length xs) = rw e at g in
          rw (e, add-one) (run_hit t xs (omega arith))
    ]

pub run_miss : (t : ℕ) (xs : List ℕ) (k : ℕ) → k < run t xs → get_or xs k 0 ≡ t → ⊥
run_miss t [] k h e = omega arith
run_miss t (x ∷ xs) zero h e =
    let hit : eqb x t ≡ true = eq-eqb x t e in
    let g : 0 < cond (eqb x t) 0 (run t xs + 1) = h in
    let l : 0 < 0 = rw hit at g in omega arith
run_miss t (x ∷ xs) (suc k) h e =
    elim (cases_Bool (eqb x t)) [
      | inl hit ↦
          let g : suc k < cond (eqb x t) 0 (run t xs + 1) = h in
          let l : suc k < 0 = rw hit at g in omega arith
      | inr miss ↦
          let g : suc k < cond (eqb x t) 0 (run t xs + 1) = h in
          let l : suc k < run t xs + 1 = rw miss at g in
          run_miss t xs k (omega arith) e
    ]
