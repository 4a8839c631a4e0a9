-- Tables of needs that stay below a number.
use Rattle.std.specs.Prelude.{ℕ, ◌≤◌, Some, None, get_or}
use Rattle.pads_image.specs.Heights.{Deeper}

abbrev pub AreBelow : ℕ → Deeper → Type 0
AreBelow most None = Unit {0}
AreBelow most (Some needs) = (number : ℕ) → get_or needs number 0 ≤ most
