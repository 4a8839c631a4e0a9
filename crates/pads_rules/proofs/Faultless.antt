-- What it says that there are no violations.
use Rattle.std.proofs.Common.{◌≡◌, refl, ℕ, Bool, true, false, not, List, [], ◌∷◌, ◌++◌}
use Rattle.std.proofs.lemmas.Bool.{not-false}
use Rattle.pads_rules.specs.declared.sort.Form.{Form}
use Rattle.pads_rules.specs.Faults.{when}
use Rattle.pads_rules.specs.Judging.{Judged, judgement, too_high, wrong_sort, no_truth}
use Rattle.pads_rules.specs.Sorts.{accepts, is_truth_form, unless_broken}
use Rattle.pads_rules.specs.declared.expr_sort.ExprSort.{ExprSort}
use Rattle.pads_rules.specs.declared.fault.CheckFault.{CheckFault}

pub none-left : {A : Type 0} (xs ys : List A) → xs ++ ys ≡ [] → xs ≡ []
none-left [] ys e = refl
none-left (x ∷ xs) ys e = cc

pub none-right : {A : Type 0} (xs ys : List A) → xs ++ ys ≡ [] → ys ≡ []
none-right [] ys e = e
none-right (x ∷ xs) ys e = cc

pub not-one : {A : Type 0} (xs : List A) (x : A) (zs : List A) → (xs ++ x ∷ []) ++ zs ≡ [] → ⊥
not-one [] x zs e = cc
not-one (y ∷ ys) x zs e = cc

pub not-when : (holds : Bool) (fault : CheckFault) → when holds fault ≡ [] → holds ≡ false
not-when true fault e = cc
not-when false fault e = refl

pub is-taken : (takes : Form → Bool) (operand : Judged) → wrong_sort takes operand ≡ [] → accepts takes operand.sort ≡ true
is-taken takes operand e = not-false (accepts takes operand.sort) (not-when (not (accepts takes operand.sort)) _ e)

pub is-truth : (condition : Judged) → no_truth condition ≡ [] → accepts is_truth_form condition.sort ≡ true
is-truth condition e = not-false (accepts is_truth_form condition.sort) (not-when (not (accepts is_truth_form condition.sort)) _ e)

-- without violations a form has its own sort, and its parts hold no violations
unbroken : (all : List CheckFault) (sort : ExprSort) → all ≡ [] → sort ≡ unless_broken all sort
unbroken [] sort e = refl
unbroken (x ∷ xs) sort e = cc

pub own-sort : (first height : ℕ) (sort : ExprSort) (faults : List CheckFault) → (judgement first height sort faults).faults ≡ [] → sort ≡ (judgement first height sort faults).sort
own-sort first height sort faults e = unbroken (faults ++ too_high first height) sort e

pub inner-faults : (first height : ℕ) (sort : ExprSort) (faults : List CheckFault) → (judgement first height sort faults).faults ≡ [] → faults ≡ []
inner-faults first height sort faults e = none-left faults (too_high first height) e
