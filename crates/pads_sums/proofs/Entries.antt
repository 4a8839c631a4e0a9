-- Entries of a map as pairs of samples and counts.
use Rattle.std.proofs.Common.{◌≡◌, ◌∙◌, sym, ap, refl, ℕ, zero, suc, Bool, true, false, cond, ◌||◌, true≢false, List, [], ◌∷◌, ◌++◌, map, position, Option, Some, None, is_some, unwrap_or, slice_get, arith}
use Rattle.std.specs.Option.{option_map}
use Rattle.std.specs.Map.{keys_of, values_of, lookup}
use Rattle.indexmap.specs.IndexMap.{insert_entry, set_value_at}
use Rattle.pads_sums.specs.Samples.{Sample, same}
use Rattle.pads_sums.specs.Adding.{is_among, again, risen}
use Rattle.pads_sums.proofs.Positions.{position_cons}

-- a key stands for a sample
abbrev pub entry_pair : {K : Type 0} → (K → Sample) → K × ℕ → Sample × ℕ
entry_pair view entry = (view entry.0, entry.1)

-- a test finds the key that is the same as a sample
module _ {K : Type 0} (view : K → Sample) (sample : Sample) (test : K → Bool) (finds : (k : K) → same sample (view k) ≡ test k) where
  among-step : (e : K × ℕ) (es : List (K × ℕ)) (b : Bool) → test e.0 ≡ b → is_among sample (map (entry_pair view) es) ≡ is_some (lookup test es)
      → (b || is_among sample (map (entry_pair view) es)) ≡ is_some (cond b (Some e.1) (lookup test es))
  among-step e es true is rest = refl
  among-step e es false is rest = rest

  pub among_lookup : (es : List (K × ℕ)) → is_among sample (map (entry_pair view) es) ≡ is_some (lookup test es)
  among_lookup [] = refl
  among_lookup (e ∷ es) =
      ap (λ b. b || is_among sample (map (entry_pair view) es)) (finds e.0) ∙ among-step e es (test e.0) refl (among_lookup es)

  -- so many occurrences more
  module _ (more : ℕ) where
    none-step : (e : K × ℕ) (es : List (K × ℕ)) (b : Bool) → same sample (view e.0) ≡ b → (b || is_among sample (map (entry_pair view) es)) ≡ false
        → (is_among sample (map (entry_pair view) es) ≡ false → again more sample (map (entry_pair view) es) ≡ map (entry_pair view) es)
        → again more sample (map (entry_pair view) (e ∷ es)) ≡ map (entry_pair view) (e ∷ es)
    none-step e es true is none rest = absurd (true≢false none)
    none-step e es false is none rest = rw is (ap (λ pairs. entry_pair view e ∷ pairs) (rest none))

    -- where the value isn't there, nothing changes
    pub again_none : (es : List (K × ℕ)) → is_among sample (map (entry_pair view) es) ≡ false → again more sample (map (entry_pair view) es) ≡ map (entry_pair view) es
    again_none [] none = refl
    again_none (e ∷ es) none = none-step e es (same sample (view e.0)) refl none (again_none es)

    found-rest : (e : K × ℕ) (es : List (K × ℕ)) (count : ℕ) (at : Option ℕ)
        → ((i : ℕ) → at ≡ Some i → slice_get (values_of es) i ≡ Some count → map (entry_pair view) (set_value_at es i (risen more count)) ≡ again more sample (map (entry_pair view) es))
        → (i : ℕ) → option_map suc at ≡ Some i → slice_get (values_of (e ∷ es)) i ≡ Some count
        → map (entry_pair view) (set_value_at (e ∷ es) i (risen more count)) ≡ entry_pair view e ∷ again more sample (map (entry_pair view) es)
    found-rest e es count None rest i at value = absurd (true≢false (sym (ap is_some at)))
    found-rest e es count (Some j) rest zero at value = let same_at = ap (λ o. unwrap_or o 0) at in absurd (omega (arith, same_at))
    found-rest e es count (Some j) rest (suc i) at value =
        let same_at = ap (λ o. unwrap_or o 0) at in
        ap (λ pairs. entry_pair view e ∷ pairs) (rest i (ap Some (omega (arith, same_at))) value)

    found-here : (e : K × ℕ) (es : List (K × ℕ)) (count : ℕ) → same sample (view e.0) ≡ true
        → (i : ℕ) → Some 0 ≡ Some i → slice_get (values_of (e ∷ es)) i ≡ Some count
        → map (entry_pair view) (set_value_at (e ∷ es) i (risen more count)) ≡ again more sample (map (entry_pair view) (e ∷ es))
    found-here e es count is zero at value = rw is (ap (λ n. (view e.0, risen more n) ∷ map (entry_pair view) es) (sym (ap (λ o. unwrap_or o 0) value)))
    found-here e es count is (suc i) at value = let same_at = ap (λ o. unwrap_or o 0) at in absurd (omega (arith, same_at))

    found-step : (e : K × ℕ) (es : List (K × ℕ)) (count : ℕ) (b : Bool) → test e.0 ≡ b
        → ((i : ℕ) → position test (keys_of es) ≡ Some i → slice_get (values_of es) i ≡ Some count → map (entry_pair view) (set_value_at es i (risen more count)) ≡ again more sample (map (entry_pair view) es))
        → (i : ℕ) → cond b (Some 0) (option_map suc (position test (keys_of es))) ≡ Some i → slice_get (values_of (e ∷ es)) i ≡ Some count
        → map (entry_pair view) (set_value_at (e ∷ es) i (risen more count)) ≡ again more sample (map (entry_pair view) (e ∷ es))
    found-step e es count true is rest i at value = found-here e es count (finds e.0 ∙ is) i at value
    found-step e es count false is rest i at value = rw (finds e.0, is) (found-rest e es count (position test (keys_of es)) rest i at value)

    -- where it is, its count rises
    pub again_at : (es : List (K × ℕ)) (i count : ℕ) → position test (keys_of es) ≡ Some i → slice_get (values_of es) i ≡ Some count
        → map (entry_pair view) (set_value_at es i (risen more count)) ≡ again more sample (map (entry_pair view) es)
    again_at [] i count at value = absurd (true≢false (sym (ap is_some at)))
    again_at (e ∷ es) i count at value =
        found-step e es count (test e.0) refl (λ i. again_at es i count) i (sym (position_cons test e.0 (keys_of es)) ∙ at) value

-- a key that isn't there is inserted last
module _ {K : Type 0} (view : K → Sample) (eq : K → K → Bool) (key : K) (finds : (k : K) → same (view key) (view k) ≡ eq key k) (count : ℕ) where
  insert-step : (e : K × ℕ) (es : List (K × ℕ)) (b : Bool) → eq key e.0 ≡ b → (b || is_among (view key) (map (entry_pair view) es)) ≡ false
      → (is_among (view key) (map (entry_pair view) es) ≡ false → map (entry_pair view) (insert_entry eq es key count) ≡ map (entry_pair view) es ++ (view key, count) ∷ [])
      → map (entry_pair view) (insert_entry eq (e ∷ es) key count) ≡ map (entry_pair view) (e ∷ es) ++ (view key, count) ∷ []
  insert-step e es true is none rest = absurd (true≢false none)
  insert-step e es false is none rest = rw is (ap (λ pairs. entry_pair view e ∷ pairs) (rest none))

  pub insert_new : (es : List (K × ℕ)) → is_among (view key) (map (entry_pair view) es) ≡ false
      → map (entry_pair view) (insert_entry eq es key count) ≡ map (entry_pair view) es ++ (view key, count) ∷ []
  insert_new [] none = refl
  insert_new (e ∷ es) none =
      insert-step e es (eq key e.0) refl (ap (λ b. b || is_among (view key) (map (entry_pair view) es)) (sym (finds e.0)) ∙ none) (insert_new es)
