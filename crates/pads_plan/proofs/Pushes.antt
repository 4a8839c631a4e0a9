-- What is put on the stack, kid by kid from the last one.
use Rattle.std.proofs.Common.{◌≡◌, ◌∙◌, sym, ap, refl, ℕ, zero, suc, ◌+◌, ◌<◌, true, false, List, [], ◌∷◌, ◌++◌, length, map, drop, get_or, reverse, arith, Some, None, if◌then◌else◌}
use Rattle.std.proofs.lemmas.List.{append_assoc, reverse-append}
use Rattle.pads_calc.specs.declared.term.Arm.{Arm}
use Rattle.pads_calc.specs.declared.term.Part.{Part}
use Rattle.pads_calc.specs.declared.term.Term.{out-Term}
use Rattle.pads_forms.specs.Terms.{name_at}
use Rattle.pads_plan.specs.declared.part.Step.{Step}
use Rattle.pads_plan.specs.declared.part.Step.TheVariants as step
use Rattle.pads_plan.specs.Expansion.{Numbered, Listed, Branch, Named, expand, if_named, by_name, parts_below, branches_below}
use Rattle.pads_plan.specs.Pending.{named_of, branch_of, is_unit}
use Rattle.pads_plan.specs.Ways.{from, named_below}
use Rattle.pads_plan.proofs.Rolls.{unit_out}

-- the item at a place, then those behind it
drop-next : {A B : Type 0} (g : A → B) (xs : List A) (k : ℕ) (x : A) → k < length xs → x ≡ get_or xs k x → drop k (map g xs) ≡ g x ∷ drop (suc k) (map g xs)
drop-next g [] k x h is = absurd (omega (arith, h))
drop-next g (y ∷ xs) zero x h is = ap (λ y. g y ∷ map g xs) (sym is)
drop-next g (y ∷ xs) (suc k) x h is = drop-next g xs k x (omega (arith, h)) is

-- put on the stack: what there was, then the kids from one on, then the one before it
put-before : (initial old new here more all : List Numbered) → old ≡ initial ++ reverse more → new ≡ old ++ reverse here → here ++ more ≡ all
    → new ≡ initial ++ reverse all
put-before initial old new here more all so_far put is =
    put ∙ ap (λ old. old ++ reverse here) so_far ∙ append_assoc initial (reverse more) (reverse here)
    ∙ ap (λ all. initial ++ all) (sym (reverse-append here more)) ∙ ap (λ all. initial ++ reverse all) is

-- the same, kid by kid: what stands below from number k on is that of kid k, then that of the later ones
kid-put : {A B : Type 0} (g : A → B) (below : ℕ → List B → List Numbered)
    → ((k : ℕ) (y : B) (ys : List B) → below k (y ∷ []) ++ below (k + 1) ys ≡ below k (y ∷ ys))
    → (xs : List A) (k before : ℕ) (x : A) (initial old new : List Numbered)
    → k + 1 ≡ before → k < length xs → x ≡ get_or xs k x
    → old ≡ initial ++ reverse (below before (drop before (map g xs)))
    → new ≡ old ++ reverse (below k (g x ∷ []))
    → new ≡ initial ++ reverse (below k (drop k (map g xs)))
kid-put g below first xs k before x initial old new next h is so_far put =
    let later : suc k ≡ k + 1 = omega arith in
    put-before initial old new (below k (g x ∷ [])) (below before (drop before (map g xs))) (below k (drop k (map g xs))) so_far put
    (ap (λ n. below k (g x ∷ []) ++ below n (drop n (map g xs))) (sym next)
    ∙ first k (g x) (drop (k + 1) (map g xs))
    ∙ ap (λ n. below k (g x ∷ drop n (map g xs))) (sym later)
    ∙ ap (below k) (sym (drop-next g xs k x h is)))

module _ (names : List (List ℕ)) (way : List ℕ) (above : Step) (place : List ℕ) (up : ℕ) where
  parts-first : (k : ℕ) (y : Named) (ys : List Named)
      → parts_below names way above place up k (y ∷ []) ++ parts_below names way above place up (k + 1) ys ≡ parts_below names way above place up k (y ∷ ys)
  parts-first k y ys = append_assoc (if_named y.name (λ name. by_name names way above place up (step.Part k) name y.node.listed)) [] (parts_below names way above place up (k + 1) ys)

  branches-first : (k : ℕ) (y : Branch) (ys : List Branch)
      → branches_below names way above place up k (y ∷ []) ++ branches_below names way above place up (k + 1) ys ≡ branches_below names way above place up k (y ∷ ys)
  branches-first k y ys =
      append_assoc (if y.node.is_unit then [] else by_name names way above place up (step.Branch k) y.name y.node.listed ∷ []) [] (branches_below names way above place up (k + 1) ys)

  pub part_put : {A : Type 0} (g : A → Named) (xs : List A) (k before : ℕ) (x : A) (initial old new : List Numbered)
      → k + 1 ≡ before → k < length xs → x ≡ get_or xs k x
      → old ≡ initial ++ reverse (parts_below names way above place up before (drop before (map g xs)))
      → new ≡ old ++ reverse (parts_below names way above place up k (g x ∷ []))
      → new ≡ initial ++ reverse (parts_below names way above place up k (drop k (map g xs)))
  part_put g xs k before x initial old new next h is so_far put =
      kid-put g (parts_below names way above place up) parts-first xs k before x initial old new next h is so_far put

  pub branch_put : {A : Type 0} (g : A → Branch) (xs : List A) (k before : ℕ) (x : A) (initial old new : List Numbered)
      → k + 1 ≡ before → k < length xs → x ≡ get_or xs k x
      → old ≡ initial ++ reverse (branches_below names way above place up before (drop before (map g xs)))
      → new ≡ old ++ reverse (branches_below names way above place up k (g x ∷ []))
      → new ≡ initial ++ reverse (branches_below names way above place up k (drop k (map g xs)))
  branch_put g xs k before x initial old new next h is so_far put =
      kid-put g (branches_below names way above place up) branches-first xs k before x initial old new next h is so_far put

  -- a branch that is nothing, and any other
  pub nothing_below : (call : ℕ → Listed) (k : ℕ) (arm : Arm) → is_unit (out-Term arm.term) ≡ true
      → branches_below names way above place up k (branch_of names call arm ∷ []) ≡ []
  nothing_below call k arm is = rw (unit_out names call arm.term, is) refl

  pub branch_below : (call : ℕ → Listed) (k : ℕ) (arm : Arm) → is_unit (out-Term arm.term) ≡ false
      → branches_below names way above place up k (branch_of names call arm ∷ [])
      ≡ (expand names call arm.term).listed way (from up (step.Branch k) (named_below above place (name_at names arm.name))) ∷ []
  branch_below call k arm is = rw (unit_out names call arm.term, is) refl

  -- a part without a name, and one with a name
  pub unnamed_below : (call : ℕ → Listed) (k : ℕ) (part : Part) → part.name ≡ None
      → parts_below names way above place up k (named_of names call part ∷ []) ≡ []
  unnamed_below call k part is = rw is refl

  pub part_below : (call : ℕ → Listed) (k : ℕ) (part : Part) (name : ℕ) → part.name ≡ Some name
      → parts_below names way above place up k (named_of names call part ∷ [])
      ≡ (expand names call part.term).listed way (from up (step.Part k) (named_below above place (name_at names name))) ∷ []
  part_below call k part name is = rw is refl
