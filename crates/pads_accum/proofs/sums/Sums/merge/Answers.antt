use Rattle.std.proofs.Common.{◌∙◌, ap, length, map, arith}
use Rattle.pads_accum.specs.Guides.{plan_of}
use Rattle.pads_accum.proofs.ChunkLaws.{rows_merged}
use Rattle.pads_accum.proofs.FewLists.{length_merged}
use Rattle.pads_accum.proofs.sums.Sums.merge.Goals as goal

pub invariant_of-self-clause-few_lists : goal.invariant_of-self-clause-few_lists
invariant_of-self-clause-few_lists c =
    let old = c.args.self.now in
    let longer = ap length c.in-Ok.ensures.merged ∙ length_merged old.room old.lists c.args.later.lists in
    let few = old.few_lists c.requires.unspent in
    λ unspent. omega (arith, longer, few)

pub returns-in-Ok-clause-merged : goal.returns-in-Ok-clause-merged
returns-in-Ok-clause-merged c =
    let old = c.args.self.now in
    λ rows more were came.
    rows_merged old.room (map plan_of old.guides) old.lists c.args.later.lists c.merge_all.new.lists rows more c.in-Ok.ensures.none c.in-Ok.ensures.merged were came
