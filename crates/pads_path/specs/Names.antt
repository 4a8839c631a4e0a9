-- Parts and branches by their names.
use Rattle.std.specs.Prelude.{ℕ, Bool, false, List, Option, Some, None}
use Rattle.std.specs.Str.{bytes_eq}
use Rattle.pads_calc.specs.declared.term.Arm.{Arm}
use Rattle.pads_calc.specs.declared.term.Case.{Case}
use Rattle.pads_calc.specs.declared.term.Part.{Part}
use Rattle.pads_forms.specs.Terms.{name_at}

-- By the names of the module, and the name that is looked for.
module _ (names : List (List ℕ)) (text : List ℕ) where
  abbrev pub is_name : ℕ → Bool
  is_name number = bytes_eq (name_at names number) text

  abbrev pub is_part_name : Option ℕ → Bool
  is_part_name None = false
  is_part_name (Some number) = is_name number

  abbrev pub is_part : Part → Bool
  is_part part = is_part_name part.name

  abbrev pub is_arm : Arm → Bool
  is_arm arm = is_name arm.name

  abbrev pub is_case : Case → Bool
  is_case case = is_arm case.arm
