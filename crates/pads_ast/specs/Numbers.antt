-- The numbers of trees.
use Rattle.std.specs.Prelude.{ℕ, ℤ, pos, negsuc}

-- A number that isn't below 0.
abbrev pub natural : ℤ → ℕ
natural (pos n) = n
natural (negsuc n) = 0
