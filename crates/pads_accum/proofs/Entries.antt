-- Tables of entries: rows made longer, written into and added.
use Rattle.std.proofs.Common.{◌≡◌, ◌∙◌, sym, ap, refl, ℕ, zero, suc, nat_eq, Bool, true, false, ◌&&◌, List, [], ◌∷◌, ◌++◌, Option, Some, None, slice_get, slice_set, option_and_then, if◌then◌else◌, eqb-true}
use Rattle.std.proofs.lemmas.Bool.{eqb-false}
use Rattle.std.specs.Option.{option_or}
use Rattle.pads_accum.specs.Routes.{Row, entry, in_row, in_table}
use Rattle.pads_accum.proofs.Indexed.{get_set_same, get_set_other}

-- an empty entry is as good as none
pub entry_padded : (xs : List (Option ℕ)) (k : ℕ) → entry (slice_get (xs ++ None ∷ []) k) ≡ entry (slice_get xs k)
entry_padded [] zero = refl
entry_padded [] (suc k) = refl
entry_padded (x ∷ xs) zero = refl
entry_padded (x ∷ xs) (suc k) = entry_padded xs k

-- a table of empty rows has nothing
in-empty : (row : Row) (k : ℕ) → row.items ≡ [] → in_row row k ≡ None
in-empty row k empty = ap (λ xs. entry (slice_get xs k)) empty

pub empty_next : (table : List Row) (row : Row) → row.items ≡ [] → ((up k : ℕ) → in_table table up k ≡ None) → (up k : ℕ) → in_table (table ++ row ∷ []) up k ≡ None
empty_next [] row empty none zero k = in-empty row k empty
empty_next [] row empty none (suc up) k = refl
empty_next (r ∷ table) row empty none zero k = none zero k
empty_next (r ∷ table) row empty none (suc up) k = empty_next table row empty (λ up. none (suc up)) up k

-- one row written
module _ (table : List Row) (u : ℕ) (old new : Row) (at part : ℕ) (there : slice_get table u ≡ Some old)
    (put : (k : ℕ) → in_row new k ≡ (if nat_eq k at then option_or (in_row old k) (Some part) else in_row old k)) where
  row-step : (up k : ℕ) (b : Bool) → nat_eq up u ≡ b
      → in_table (slice_set table u new) up k ≡ (if b && nat_eq k at then option_or (in_table table up k) (Some part) else in_table table up k)
  row-step up k true is =
      let same : up ≡ u = eqb-true up u is in
      let now : in_table (slice_set table u new) u k ≡ in_row new k = ap (λ o. option_and_then (λ row. in_row row k) o) (get_set_same table u new old there) in
      let before : in_table table u k ≡ in_row old k = ap (λ o. option_and_then (λ row. in_row row k) o) there in
      rw same (now ∙ put k ∙ ap (λ o. if nat_eq k at then option_or o (Some part) else o) (sym before))
  row-step up k false is =
      ap (λ o. option_and_then (λ row. in_row row k) o) (get_set_other table u up new (eqb-false up u is))

  pub row_set : (up k : ℕ) → in_table (slice_set table u new) up k ≡ (if nat_eq up u && nat_eq k at then option_or (in_table table up k) (Some part) else in_table table up k)
  row_set up k = row-step up k (nat_eq up u) refl
