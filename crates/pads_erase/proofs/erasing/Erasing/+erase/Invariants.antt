use Rattle.std.proofs.Common.{◌≡◌, ◌+◌, ◌*◌, map, take, drop, ◌++◌}
use denote.Param.Weighed.{most}
use Rattle.pads_erase.specs.declared.skeleton.Skeleton.{size-Skeleton}
use Rattle.pads_erase.specs.Erasing.{each_part, erase}
use Rattle.pads_erase.proofs.Weights.{weight}
use Rattle.pads_erase.proofs.erasing.Erasing.+erase.Given as goal

abbrev pub decreases-skeleton : goal.decreases-skeleton
decreases-skeleton l = l.self.now.depth * weight l.self.now.keepings.now + 4 * size-Skeleton l.skeleton.now

abbrev pub decreases-list : goal.decreases-list
decreases-list l = l.self.now.depth * weight l.self.now.keepings.now + (4 * most size-Skeleton l.parts.now + 2)

abbrev pub decreases-parts : goal.decreases-parts
decreases-parts l = l.self.now.depth * weight l.self.now.keepings.now + (4 * most size-Skeleton l.parts.now + 1)

abbrev pub decreases-branch : goal.decreases-branch
decreases-branch l = l.self.now.depth * weight l.self.now.keepings.now + (4 * most size-Skeleton l.arms.now + 2)

abbrev pub decreases-arm : goal.decreases-arm
decreases-arm l = l.self.now.depth * weight l.self.now.keepings.now + (4 * most size-Skeleton l.arms.now + 1)

abbrev pub decreases-array : goal.decreases-array
decreases-array l = l.self.now.depth * weight l.self.now.keepings.now + (4 * size-Skeleton l.element.now + 2)

abbrev pub decreases-elements : goal.decreases-elements
decreases-elements l = l.self.now.depth * weight l.self.now.keepings.now + (4 * size-Skeleton l.element.now + 1)

abbrev pub decreases-call : goal.decreases-call
decreases-call l = l.self.now.depth * weight l.self.now.keepings.now

abbrev pub invariant-parts-loop-at : goal.invariant-parts-loop-at
invariant-parts-loop-at l =
    l.left.items ≡ each_part (take l.at (map (erase l.self.keepings.now l.self.depth l.self.set) l.parts)) l.fn.values.items

abbrev pub invariant-elements-loop-at : goal.invariant-elements-loop-at
invariant-elements-loop-at l =
    let f = erase l.self.keepings.now l.self.depth l.self.set l.element in
    l.left.items ≡ map f (take l.at l.fn.values.items) ++ drop l.at l.fn.values.items
