-- How many bytes a reading takes.
use Rattle.std.specs.Prelude.{ℕ}
use Rattle.pads_value.specs.declared.reading.Read.{Read}
use Rattle.pads_value.specs.declared.reading.Read.TheVariants.{Good, Soft, Hard}

abbrev pub taken : {X : Type 0} → Read X → ℕ
taken (Good size value) = size
taken (Soft size cause) = size
taken (Hard cause) = 0
