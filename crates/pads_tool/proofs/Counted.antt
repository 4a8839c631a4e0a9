-- Whether a test holds of all records, with one row more, or with those of another piece.
use Rattle.std.proofs.Common.{◌≡◌, Bool, ◌&&◌, List, [], ◌∷◌, ◌++◌, refl, ap, ◌∙◌}
use Rattle.std.proofs.Math.Bool.{and-true}
use Rattle.std.proofs.lemmas.List.Folds.{list_all-append}
use Rattle.std.specs.List.{list_all}
use Rattle.pads_value.specs.declared.row.Row.{Row}

pub counted-more : (test : Row → Bool) (row : Row) (old new : Bool) → new ≡ (old && test row) → (before : List Row) → old ≡ list_all test before → new ≡ list_all test (before ++ row ∷ [])
counted-more test row old new e before is =
    let all : list_all test (before ++ row ∷ []) ≡ (list_all test before && test row) =
    list_all-append test before (row ∷ []) ∙ ap (λ b. list_all test before && b) (and-true (test row)) in
    rw (e, is, all) refl

pub counted-both : (test : Row → Bool) (before rows : List Row) (old share new : Bool) → new ≡ (old && share) → old ≡ list_all test before → share ≡ list_all test rows → new ≡ list_all test (before ++ rows)
counted-both test before rows old share new e is came = rw (e, is, came, list_all-append test before rows) refl
