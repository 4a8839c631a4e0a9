-- Needs, instruction by instruction.
use Rattle.std.proofs.Common.{◌≡◌, ◌∙◌, sym, ap, refl, arith, ℕ, zero, suc, ◌+◌, ◌<◌, max, Bool, true, false, if◌then◌else◌, List, [], ◌∷◌, ◌++◌, length, drop, get_or, append_assoc, Some}
use Rattle.pads_calc.proofs.Lists.{drop-next, drop-past'}
use Rattle.pads_image.specs.declared.op.Op.{Op}
use Rattle.pads_image.specs.Heights.{Deeper, needs_from, needs_over, needs, later_arities, next_arity, height_after, entries_at}
use Rattle.pads_image.specs.Variables.{is_return}

pub later-drop : (xs : List ℕ) (n : ℕ) → later_arities (drop n xs) ≡ drop (suc n) xs
later-drop [] zero = refl
later-drop [] (suc n) = refl
later-drop (x ∷ xs) zero = refl
later-drop (x ∷ xs) (suc n) = later-drop xs n

pub next-drop : (xs : List ℕ) (n : ℕ) → next_arity (drop n xs) ≡ get_or xs n 0
next-drop [] zero = refl
next-drop [] (suc n) = refl
next-drop (x ∷ xs) zero = refl
next-drop (x ∷ xs) (suc n) = next-drop xs n

module _ (deeper : Deeper) where
  pub needs-none : (later : List ℕ) (h most : ℕ) → needs_from deeper later h most [] ≡ []
  unfolding needs_from
  needs-none later h most = refl

  pub needs-cons : (later : List ℕ) (h most : ℕ) (instruction : Op) (code : List Op) → needs_from deeper later h most (instruction ∷ code)
      ≡ (if is_return instruction
      then max most h ∷ needs_from deeper (later_arities later) (next_arity later) 0 code
      else needs_from deeper later (height_after instruction h) (max most (entries_at deeper instruction h)) code)
  unfolding needs_from
  needs-cons later h most instruction code = refl

  pub needs-start : (code : List Op) (arities : List ℕ) → needs_over deeper code arities ≡ [] ++ needs_from deeper (drop (0 + 1) arities) (get_or arities 0 0) 0 (drop 0 code)
  needs-start code [] = refl
  needs-start code (arity ∷ arities) = refl

  module _ (arities : List ℕ) (code : List Op) (whole done : List ℕ) (i number h most : ℕ) (instruction : Op) (more : i < length code) (here : instruction ≡ get_or code i instruction) where
    abbrev from : ℕ → ℕ → ℕ → ℕ → List ℕ
    from n h most i = needs_from deeper (drop n arities) h most (drop i code)

    here-first : drop i code ≡ instruction ∷ drop (i + 1) code
    here-first = drop-next code i instruction more ∙ ap (λ first. first ∷ drop (i + 1) code) (sym here)

    step : from (number + 1) h most i ≡ (if is_return instruction
        then max most h ∷ needs_from deeper (later_arities (drop (number + 1) arities)) (next_arity (drop (number + 1) arities)) 0 (drop (i + 1) code)
        else from (number + 1) (height_after instruction h) (max most (entries_at deeper instruction h)) (i + 1))
    step = ap (λ rest. needs_from deeper (drop (number + 1) arities) h most rest) here-first ∙ needs-cons (drop (number + 1) arities) h most instruction (drop (i + 1) code)

    next-number : suc (number + 1) ≡ number + 1 + 1
    next-number = omega arith

    pub needs-return : whole ≡ done ++ from (number + 1) h most i → is_return instruction ≡ true →
        whole ≡ (done ++ max most h ∷ []) ++ from (number + 1 + 1) (get_or arities (number + 1) 0) 0 (i + 1)
    needs-return so ends =
        so
        ∙ ap (λ rest. done ++ rest) (step
        ∙ ap (λ (b : Bool). if b
        then max most h ∷ needs_from deeper (later_arities (drop (number + 1) arities)) (next_arity (drop (number + 1) arities)) 0 (drop (i + 1) code)
        else from (number + 1) (height_after instruction h) (max most (entries_at deeper instruction h)) (i + 1)) ends
        ∙ ap (λ later. max most h ∷ needs_from deeper later (next_arity (drop (number + 1) arities)) 0 (drop (i + 1) code)) (later-drop arities (number + 1) ∙ ap (λ n. drop n arities) next-number)
        ∙ ap (λ next. max most h ∷ needs_from deeper (drop (number + 1 + 1) arities) next 0 (drop (i + 1) code)) (next-drop arities (number + 1)))
        ∙ sym (append_assoc done (max most h ∷ []) (from (number + 1 + 1) (get_or arities (number + 1) 0) 0 (i + 1)))

    pub needs-on : whole ≡ done ++ from (number + 1) h most i → is_return instruction ≡ false →
        whole ≡ done ++ from (number + 1) (height_after instruction h) (max most (entries_at deeper instruction h)) (i + 1)
    needs-on so ends =
        so
        ∙ ap (λ rest. done ++ rest) (step
        ∙ ap (λ (b : Bool). if b
        then max most h ∷ needs_from deeper (later_arities (drop (number + 1) arities)) (next_arity (drop (number + 1) arities)) 0 (drop (i + 1) code)
        else from (number + 1) (height_after instruction h) (max most (entries_at deeper instruction h)) (i + 1)) ends)

  pub needs-end : (arities : List ℕ) (code : List Op) (whole done : List ℕ) (n h most : ℕ) → whole ≡ done ++ needs_from deeper (drop n arities) h most (drop (length code) code) → done ≡ whole
  needs-end arities code whole done n h most so =
      sym (so ∙ ap (λ rest. done ++ needs_from deeper (drop n arities) h most rest) (drop-past' code (length code) (omega arith))
      ∙ ap (λ rest. done ++ rest) (needs-none (drop n arities) h most) ∙ append-none done)
    where
      append-none : (xs : List ℕ) → xs ++ [] ≡ xs
      append-none [] = refl
      append-none (x ∷ xs) = ap (λ rest. x ∷ rest) (append-none xs)

-- one call deeper
pub needs-next : (code : List Op) (arities : List ℕ) (depth : ℕ) → needs code arities (depth + 1) ≡ needs_over (Some (needs code arities depth)) code arities
unfolding needs
needs-next code arities depth = let more : depth + 1 ≡ suc depth = omega arith in ap (λ k. needs code arities k) more
