use Rattle.std.proofs.Common.{◌≡◌, map, take}
use Rattle.pads_trans.specs.Terms.{decl_of}
use Rattle.pads_trans.proofs.decl.decls.Given as goal

abbrev pub invariant-loop-one : goal.invariant-loop-one
invariant-loop-one l = l.made ≡ map (decl_of l.names l.ambient) (take l.one-index l.decls)
