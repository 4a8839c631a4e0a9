use Rattle.std.proofs.Common.{◌∙◌, sym, ap, List, map}
use Rattle.pads_accum.specs.Feeding.{lists_fed}
use Rattle.pads_accum.specs.Guides.{plan_of}
use Rattle.pads_accum.specs.Limits.{limit_of, most}
use Rattle.pads_accum.specs.declared.guide.Guide.{Guide}
use Rattle.pads_accum.proofs.ListFeeding.{lists_grown, row_added}
use Rattle.pads_accum.proofs.sums.Sums.add.Goals as goal

pub returns-in-Ok-clause-added : goal.returns-in-Ok-clause-added
returns-in-Ok-clause-added c =
    let old = c.args.self.now in
    let guides = c.as_slice.ensures.items in
    λ rows were.
    row_added old.room (map plan_of old.guides) old.lists c.add_to_lists.new.lists rows c.args.row.now
    (lists_grown old.bound most old.small old.lists (old.within c.requires.unspent))
    (ap (λ (gs : List Guide). limit_of (map plan_of gs) old.lists c.args.row.now) (sym guides) ∙ c.in-Ok.ensures.none)
    (c.in-Ok.ensures.fed ∙ ap (λ (gs : List Guide). lists_fed old.room (map plan_of gs) old.lists c.args.row.now) guides)
    were
