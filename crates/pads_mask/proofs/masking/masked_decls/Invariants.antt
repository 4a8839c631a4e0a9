use Rattle.std.proofs.Common.{◌≡◌, ◌++◌}
use Rattle.std.specs.Vec.Iter.{into_iter_items}
use Rattle.pads_mask.specs.Masks.{masked_decls}
use Rattle.pads_mask.proofs.masking.masked_decls.Given as goal

abbrev pub invariant-loop-decl : goal.invariant-loop-decl
invariant-loop-decl l = masked_decls l.names l.mask l.fn.decls.items ≡ l.made ++ masked_decls l.names l.mask (into_iter_items l.decl-iterator)
