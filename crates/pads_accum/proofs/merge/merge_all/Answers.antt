use Rattle.std.proofs.Common.{◌∙◌, sym, ap}
use Rattle.pads_accum.specs.Feeding.{lists_within}
use Rattle.pads_accum.specs.Merging.{lists_fit}
use Rattle.pads_accum.proofs.ListFeeding.{lists_grown}
use Rattle.pads_accum.proofs.MergeFitting.{merged_within}
use Rattle.pads_accum.proofs.merge.merge_all.Goals as goal

pub returns-in_ok-merge_items-in-Ok-clause-within : goal.returns-in_ok-merge_items-in-Ok-clause-within
returns-in_ok-merge_items-in-Ok-clause-within c =
    let next = c.in-Ok.next in
    let fits = (λ i. lists_fit next (sym c.as_slice.ensures.items i) (sym c.as_slice-2.ensures.items i)) ∙ c.in-Ok.ensures.fits in
    ap (lists_within next) c.in_ok-merge_items-in-Ok.ensures.merged
    ∙ merged_within c.args.room next c.args.lists.now c.args.later (lists_grown c.args.bound next c.in-Ok.ensures.grows c.args.lists.now c.requires.within) fits
