use Rattle.std.proofs.Common.{◌≡◌, take}
use Rattle.pads_erase.proofs.skeleton.+copy.Given as goal

abbrev pub invariant-copy_each-loop-skeleton : goal.invariant-copy_each-loop-skeleton
invariant-copy_each-loop-skeleton l = l.copied ≡ take l.skeleton-index l.skeletons
