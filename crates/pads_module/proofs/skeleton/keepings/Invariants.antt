use Rattle.std.proofs.Common.{◌≡◌, take}
use Rattle.pads_calc.specs.Skeletons.{keepings_of}
use Rattle.pads_module.proofs.skeleton.keepings.Given as goal

abbrev pub invariant-loop-decl : goal.invariant-loop-decl
invariant-loop-decl l = l.made ≡ keepings_of (take l.decl-index l.decls)
