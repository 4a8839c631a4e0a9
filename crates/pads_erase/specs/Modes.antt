-- The modes of declarations: what is checked, what is kept, and which declaration has which mode.
use Rattle.std.specs.Prelude.{ℕ, Bool, true, false, List, Option, option_map, unwrap_or, find}
use Rattle.std.specs.Str.{bytes_eq}
use Rattle.pads_erase.specs.declared.mode.Mode.{Mode}
use Rattle.pads_erase.specs.declared.mode.Mode.TheVariants as mode
use Rattle.pads_erase.specs.declared.mask.Mask.{Mask}
use Rattle.pads_erase.specs.declared.mask.NamedMode.{NamedMode}

-- whether the constraints of a declaration's own body are checked
abbrev pub checks : Mode → Bool
checks mode.Both = true
checks mode.Check = true
checks mode.Set = false
checks mode.None = false

-- whether the values of a declaration's own body are kept
abbrev pub keeps : Mode → Bool
keeps mode.Both = true
keeps mode.Check = false
keeps mode.Set = true
keeps mode.None = false

-- the mode that the first item of a name gives
abbrev pub named_mode : List NamedMode → List ℕ → Option Mode
named_mode named name = option_map (λ one. one.mode) (find (λ one. bytes_eq one.name name) named)

-- the mode of the declaration of a name: its own, else that of all others
abbrev pub mode_for : Mask → List ℕ → Mode
mode_for mask name = unwrap_or (named_mode mask.named name) mask.all
