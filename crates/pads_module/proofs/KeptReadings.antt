-- What is looked up where values are erased, and what is left where all are kept.
use Rattle.std.proofs.Common.{◌≡◌, ◌∙◌, sym, ap, refl, ℕ, Bool, true, false, List, Option, Some, None, if◌then◌else◌}
use Rattle.std.specs.List.{list_all}
use Rattle.std.proofs.lemmas.List.Folds.{list_all-map}
use Rattle.pads_value.specs.declared.value.Val.{Val}
use Rattle.pads_erase.specs.declared.skeleton.Keeping.{Keeping}
use Rattle.pads_erase.specs.Erasing.{keeps_all}
use Rattle.pads_erase.proofs.AllKept.{all-kept}
use Rattle.pads_calc.specs.declared.decl.Decl.{Decl}
use Rattle.pads_calc.specs.declared.reading.Reading.{Reading}
use Rattle.pads_calc.specs.Rows.{deepest, kept_by}
use Rattle.pads_calc.specs.Skeletons.{KeepsAll, all_set, erasing_of, keeping_of, keepings_of}

keeps-keepings : (decls : List Decl) → KeepsAll decls → keeps_all (keepings_of decls) ≡ true
keeps-keepings decls keeps = list_all-map (λ (keeping : Keeping). keeping.set) keeping_of decls ∙ keeps

-- a value of declarations that keep all theirs is left as it is
pub kept-value : (decls : List Decl) → KeepsAll decls → (number : ℕ) (r : Reading) → (kept_by (keepings_of decls) number r).value ≡ r.value
kept-value decls keeps number r = all-kept (keepings_of decls) (keeps-keepings decls keeps) deepest number r.value

abbrev with_value : Reading → Val → Reading
with_value r v = record r { value = v }

pub kept-same : (decls : List Decl) → KeepsAll decls → (number : ℕ) (r : Reading) → kept_by (keepings_of decls) number r ≡ r
kept-same decls keeps number r = ap (with_value r) (kept-value decls keeps number r)

abbrev erasing_by : Bool → List Keeping → Option (List Keeping)
erasing_by all keepings = if all then None else Some keepings

none-by : (all : Bool) (keepings : List Keeping) → erasing_by all keepings ≡ None → all ≡ true
none-by true keepings none = refl
none-by false keepings none = absurd cc

some-by : (all : Bool) (keepings found : List Keeping) → erasing_by all keepings ≡ Some found → found ≡ keepings
some-by true keepings found is = absurd cc
some-by false keepings found is = cc

-- nothing is looked up where all values are kept, and else what the declarations keep
pub erasing-none : (decls : List Decl) → erasing_of decls ≡ None → KeepsAll decls
erasing-none decls none = none-by (all_set decls) (keepings_of decls) none

pub erasing-some : (decls : List Decl) (keepings : List Keeping) → erasing_of decls ≡ Some keepings → keepings ≡ keepings_of decls
erasing-some decls keepings is = some-by (all_set decls) (keepings_of decls) keepings is
