-- What code has of nodes; for private clauses.
use Rattle.std.specs.Prelude.{List, map}
use Rattle.std.specs.Borrow.{Bor}
use Rattle.pads_value.specs.declared.descriptor.Pd.{Pd}
use Rattle.pads_value.specs.declared.value.Val.{Val}
use Rattle.pads_nodes.specs.Nodes.{Node}
use Rattle.pads_nodes.specs.declared.nodes.Found.{Found}

-- A node that the code has found.
abbrev pub seen : Found → Node
seen found = (found.value.now, found.pd.now)

abbrev pub all_seen : List Found → List Node
all_seen found = map seen found

-- A node as it is handed out.
abbrev pub lent : Bor Val × Bor Pd → Node
lent both = (both.0.now, both.1.now)
