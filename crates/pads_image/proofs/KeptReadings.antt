-- What is looked up where values are erased, and what is left where all are kept.
use Rattle.std.proofs.Common.{◌≡◌, ◌∙◌, ap, refl, ℕ, Bool, true, false, List, Some, None, if◌then◌else◌}
use Rattle.std.proofs.lemmas.List.Folds.{list_all-map}
use Rattle.pads_value.specs.declared.value.Val.{Val}
use Rattle.pads_erase.specs.declared.skeleton.Keeping.{Keeping}
use Rattle.pads_erase.specs.Erasing.{keeps_all}
use Rattle.pads_erase.proofs.AllKept.{all-kept}
use Rattle.pads_calc.specs.declared.reading.Reading.{Reading}
use Rattle.pads_calc.specs.Rows.{deepest, kept_by}
use Rattle.pads_image.specs.declared.entry.Entry.{Entry}
use Rattle.pads_image.specs.Skeletons.{all_set, erasing_in, kept_in}

keeps-keepings : (entries : List Entry) → all_set entries ≡ true → keeps_all (kept_in entries) ≡ true
keeps-keepings entries keeps =
    list_all-map (λ (keeping : Keeping). keeping.set) (λ (entry : Entry). record { set = entry.set; skeleton = entry.skeleton }) entries ∙ keeps

abbrev with_value : Reading → Val → Reading
with_value r v = record r { value = v }

-- a reading of declarations that keep all their values is left as it is
pub kept-same : (entries : List Entry) → all_set entries ≡ true → (number : ℕ) (r : Reading) → kept_by (kept_in entries) number r ≡ r
kept-same entries keeps number r = ap (with_value r) (all-kept (kept_in entries) (keeps-keepings entries keeps) deepest number r.value)

none-by : (all : Bool) (keepings : List Keeping) → (if all then None else Some keepings) ≡ None → all ≡ true
none-by true keepings none = refl
none-by false keepings none = absurd cc

-- nothing is looked up where all values are kept
pub erasing-none : (entries : List Entry) → erasing_in entries ≡ None → all_set entries ≡ true
erasing-none entries none = none-by (all_set entries) (kept_in entries) none
