-- How many nodes of a descriptor have a cause of their own, the node itself counted.
use Rattle.std.specs.Prelude.{ℕ, ◌+◌, sum, Option, None, Some}
use Rattle.pads_value.specs.declared.cause.Cause.{Cause}
use Rattle.pads_value.specs.declared.descriptor.Pd.{Pd, Pd-F, fold-Pd}

abbrev own_count : Option Cause → ℕ
own_count None = 0
own_count (Some cause) = 1

abbrev pub node_causes : Pd-F ℕ → ℕ
node_causes node = own_count node.cause + sum node.kids

abbrev pub causes : Pd → ℕ
causes = fold-Pd ℕ node_causes
