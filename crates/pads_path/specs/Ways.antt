-- What code has of ways and forms; for private clauses.
use Rattle.std.specs.Prelude.{List, ◌++◌, Result, Ok, Err}
use Rattle.pads_nodes.specs.declared.step.Step.{Step}
use Rattle.pads_path.specs.declared.fault.PathFault.{PathFault}
use Rattle.pads_path.specs.declared.way.Way.{Way as CodeWay}
use Rattle.pads_path.specs.Resolving.{Way, way_to}

-- The way that the code has found.
abbrev pub way_seen : CodeWay → Way
way_seen found = way_to found.step found.term.now

-- Steps that were found, before the others.
abbrev pub behind : List Step → Result (List Step) PathFault → Result (List Step) PathFault
behind found (Ok steps) = Ok (found ++ steps)
behind found (Err fault) = Err fault
