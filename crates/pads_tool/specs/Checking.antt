-- What the command `check` does: it tells how many declarations an accepted description has, whose module has an image. It
-- reads no source.
use Rattle.std.specs.Prelude.{ℕ, List, [], ◌∷◌, ◌++◌, Option, codes, decimal}
use Rattle.pads_code.specs.declared.Coding.{Coding}
use Rattle.pads_module.specs.Modules.{Contents}
use Rattle.pads_tool.specs.Images.{IsReadIn}
use Rattle.pads_tool.specs.Texts.{IsAcceptedIn}

-- the line for so many declarations
abbrev pub accepted_line : ℕ → List ℕ
accepted_line count = codes "accepted " ++ decimal count ++ 10 ∷ []

-- The description in a file is accepted, its module has an image, and this is done with the line that tells it.
abbrev pub Accepts : Option (List ℕ) → Coding → (List ℕ → Type 0) → Type 0
Accepts content coding Does = (count : ℕ) × IsAcceptedIn content count × ((made : Contents) × IsReadIn content coding made) × Does (accepted_line count)
