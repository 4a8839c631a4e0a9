use Rattle.std.proofs.Common.{◌≡◌, ◌++◌, length}
use Rattle.pads_module.specs.Modules.{contents}
use Rattle.pads_tool.specs.Querying.{lines_of}
use Rattle.pads_tool.proofs.query.put_lines.Given as goal

abbrev pub invariant-nodes : goal.invariant-nodes
invariant-nodes l =
    (l.output.out ++ lines_of (contents l.command.reader.module) l.command.asked l.number l.cursor ≡ l.fn.output.out ++ lines_of (contents l.command.reader.module) l.command.asked l.number l.fn.cursor)
    × (l.output.notes ≡ l.fn.output.notes)

abbrev pub decreases-nodes : goal.decreases-nodes
decreases-nodes l = length l.cursor
