-- The options of an array, one by one.
use Rattle.std.proofs.Common.{List, [], ◌∷◌, Option, Some, None}
use Rattle.pads_resolution.specs.declared.decl.ArrayOption.{ArrayOption}
use Rattle.pads_trans.specs.Terms.{first}
use Rattle.law_descriptions.specs.WellSorted.{Each, IfThere}

-- what holds of all options that give something holds of the first
pub first-holds : {A : Type 0} (P : A → Type 0) (gives : ArrayOption → Option A) (options : List ArrayOption) → Each (λ o. IfThere P (gives o)) options → IfThere P (first gives options)
unfolding first
first-holds P gives [] all = tt
first-holds P gives (o ∷ options) all = by (gives o) all.0 (first-holds P gives options all.1)
  where
    by : (given : Option _) → IfThere P given → IfThere P (first gives options) → IfThere P (Rattle.std.specs.Option.option_or given (first gives options))
    by None here later = later
    by (Some x) here later = here
