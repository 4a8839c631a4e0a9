-- The first option of an array that gives something, from a place on.
use Rattle.std.proofs.Common.{◌≡◌, ◌∙◌, sym, ap, ℕ, suc, ◌+◌, ◌<◌, List, ◌∷◌, ◌≤◌, length, drop, get_or, drop-cons, Option, None, Some, arith}
use Rattle.std.proofs.Math.ListN.{drop_of_length-le}
use Rattle.std.specs.Option.{option_or}
use Rattle.pads_resolution.specs.declared.decl.ArrayOption.{ArrayOption}
use Rattle.pads_trans.specs.Terms.{first}

pub first-from : {A : Type 0} (gives : ArrayOption → Option A) (options : List ArrayOption) (i : ℕ) (option : ArrayOption)
    → i < length options → option ≡ get_or options i option
    → first gives (drop i options) ≡ option_or (gives option) (first gives (drop (i + 1) options))
unfolding first
first-from gives options i option more here =
    let on : suc i ≡ i + 1 = omega arith in
    ap (first gives) (drop-cons options i option more ∙ ap (λ n. get_or options i option ∷ drop n options) on) ∙ ap (λ (o : ArrayOption). option_or (gives o) (first gives (drop (i + 1) options))) (sym here)

-- it is the whole's, if none before gives something and this option does
pub first-here : {A : Type 0} (gives : ArrayOption → Option A) (options : List ArrayOption) (i : ℕ) (option : ArrayOption) (value : A)
    → first gives options ≡ first gives (drop i options) → i < length options → option ≡ get_or options i option → Some value ≡ gives option
    → Some value ≡ first gives options
first-here gives options i option value so_far more here given =
    ap (λ o. option_or o (first gives (drop (i + 1) options))) given ∙ sym (so_far ∙ first-from gives options i option more here)

-- and none yet, if this option gives nothing either
pub first-later : {A : Type 0} (gives : ArrayOption → Option A) (options : List ArrayOption) (i : ℕ) (option : ArrayOption)
    → first gives options ≡ first gives (drop i options) → i < length options → option ≡ get_or options i option → None ≡ gives option
    → first gives options ≡ first gives (drop (i + 1) options)
first-later gives options i option so_far more here given =
    so_far ∙ first-from gives options i option more here ∙ ap (λ o. option_or o (first gives (drop (i + 1) options))) (sym given)

-- and none at all, at the end
pub first-ends : {A : Type 0} (gives : ArrayOption → Option A) (options : List ArrayOption) (i : ℕ)
    → first gives options ≡ first gives (drop i options) → length options ≤ i → None ≡ first gives options
unfolding first
first-ends gives options i so_far past = sym (so_far ∙ ap (first gives) (drop_of_length-le options past))
