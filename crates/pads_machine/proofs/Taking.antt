-- Bindings that are taken back one by one, the latest first.
use Rattle.std.proofs.Common.{◌≡◌, ◌∙◌, sym, ap, refl, arith, ℕ, ◌+◌, ◌-◌, ◌<◌, ◌≤◌, List, ◌∷◌, ◌++◌, length, take, drop, reverse, length-drop}
use Rattle.std.proofs.lemmas.List.{length_push, length-reverse, reverse-append, take-append-drop, take_at}
use Rattle.pads_value.specs.declared.value.Val.{Val}
use Rattle.pads_expr.specs.Value.{Pairs}
use Rattle.pads_machine.specs.Shown.{Homes, TakenOne, above, below, put_back}
use Rattle.pads_machine.proofs.Homes.{above-next, below-next, above-all, below-all, reverse-push}

-- what is left to take back gives the values that all of them give
pub record Taking (base : ℕ) (bindings_all : Pairs) (homes_all : Homes) (values_first : List Val) (bindings : Pairs) (homes : Homes) (values : List Val) : Type 0 where
  pub each : length homes ≡ length bindings
  pub values_are : put_back (above base (reverse homes)) (above base (reverse bindings)) values ≡ put_back (above base (reverse homes_all)) (above base (reverse bindings_all)) values_first
  pub bindings_are : below base (reverse bindings) ≡ below base (reverse bindings_all)
  pub homes_are : below base (reverse homes) ≡ below base (reverse homes_all)

pub taking-start : (base : ℕ) (bindings : Pairs) (homes : Homes) (values : List Val) → length homes ≡ length bindings → Taking base bindings homes values bindings homes values
taking-start base bindings homes values each = record { each = each; values_are = refl; bindings_are = refl; homes_are = refl }

module _ (base : ℕ) (bindings_all : Pairs) (homes_all : Homes) (values_first : List Val) (bindings : Pairs) (homes : Homes) (values : List Val)
    (h : Taking base bindings_all homes_all values_first bindings homes values) where
  pub taking-next : (bindings' : Pairs) (homes' : Homes) (values' : List Val) → base < length bindings → TakenOne bindings homes values bindings' homes' values'
      → Taking base bindings_all homes_all values_first bindings' homes' values'
  taking-next bindings' homes' values' more one =
      let bs = reverse bindings' in
      let hs = reverse homes' in
      let b = one.binding in
      let home = one.home in
      let size : length bindings ≡ length bindings' + 1 = ap length one.bindings_are ∙ length_push bindings' b in
      let size' : length homes ≡ length homes' + 1 = ap length one.homes_are ∙ length_push homes' home in
      let within : base ≤ length bs = omega (arith, more, size, length-reverse bindings') in
      let within' : base ≤ length hs = omega (arith, more, size, size', h.each, length-reverse homes') in
      let bs_are : reverse bindings ≡ b ∷ bs = ap reverse one.bindings_are ∙ reverse-push bindings' b in
      let hs_are : reverse homes ≡ home ∷ hs = ap reverse one.homes_are ∙ reverse-push homes' home in
      let above_bs : above base (reverse bindings) ≡ b ∷ above base bs = ap (λ xs. above base xs) bs_are ∙ above-next base b bs within in
      let above_hs : above base (reverse homes) ≡ home ∷ above base hs = ap (λ xs. above base xs) hs_are ∙ above-next base home hs within' in
      let below_bs : below base (reverse bindings) ≡ below base bs = ap (λ xs. below base xs) bs_are ∙ below-next base b bs within in
      let below_hs : below base (reverse homes) ≡ below base hs = ap (λ xs. below base xs) hs_are ∙ below-next base home hs within' in
      record {
        each = omega (arith, size, size', h.each);
        values_are = ap (λ vs. put_back (above base hs) (above base bs) vs) one.values_are
            ∙ sym (ap (λ xs. put_back xs (above base (reverse bindings)) values) above_hs ∙ ap (λ xs. put_back (home ∷ above base hs) xs values) above_bs)
            ∙ h.values_are;
        bindings_are = sym below_bs ∙ h.bindings_are;
        homes_are = sym below_hs ∙ h.homes_are;
      }

  module _ (none : length bindings ≤ base) where
    pub taken-values : values ≡ put_back (above base (reverse homes_all)) (above base (reverse bindings_all)) values_first
    taken-values =
        let none' : length (reverse homes) ≤ base = omega (arith, none, h.each, length-reverse homes) in
        sym (ap (λ xs. put_back xs (above base (reverse bindings)) values) (above-all base (reverse homes) none')) ∙ h.values_are

    pub taken-bindings : reverse bindings ≡ below base (reverse bindings_all)
    taken-bindings = let over : length (reverse bindings) ≤ base = omega (arith, none, length-reverse bindings) in sym (below-all base (reverse bindings) over) ∙ h.bindings_are

    pub taken-homes : reverse homes ≡ below base (reverse homes_all)
    taken-homes = let over : length (reverse homes) ≤ base = omega (arith, none, h.each, length-reverse homes) in sym (below-all base (reverse homes) over) ∙ h.homes_are

-- lists told from their last item on
pub reverse-drop : {A : Type 0} (n : ℕ) (xs : List A) → reverse (drop n xs) ≡ take (length xs - n) (reverse xs)
reverse-drop {A = A} n xs =
    let whole : reverse xs ≡ reverse (drop n xs) ++ reverse (take n xs) = ap reverse (sym (take-append-drop n xs)) ∙ reverse-append (take n xs) (drop n xs) in
    let size : length (reverse (drop n xs)) ≡ length xs - n = length-reverse (drop n xs) ∙ length-drop n xs in
    sym (ap (λ ys. take (length xs - n) ys) whole ∙ take_at (reverse (drop n xs)) (reverse (take n xs)) (length xs - n) size)
