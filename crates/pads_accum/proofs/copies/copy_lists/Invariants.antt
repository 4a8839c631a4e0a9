use Rattle.std.proofs.Common.{◌≡◌, take}
use Rattle.pads_accum.proofs.copies.copy_lists.Given as goal

abbrev pub invariant-lists : goal.invariant-lists
invariant-lists l = l.copied ≡ take l.list-index l.lists
