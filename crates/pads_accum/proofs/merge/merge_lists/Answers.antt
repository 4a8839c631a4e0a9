use Rattle.pads_accum.specs.Merging.{list_merged, lists_merged}
use Rattle.pads_accum.proofs.Turns.{last_turn, turn}
use Rattle.pads_accum.proofs.merge.merge_lists.Goals as goal

pub lists-preserved : goal.lists-preserved
lists-preserved c =
    turn (list_merged c.args.room) c.lists.lists c.merge_list_at.new.lists (lists_merged c.args.room c.args.lists.now c.args.later) c.lists.rest c.pop.new.self c.len.result c.in-Some.list
    c.in_ok-merge_list_at.ensures.merged c.len.ensures.length c.in-Some.ensures.last c.lists.invariant

pub returns : goal.returns
returns c = record {
  merged = last_turn (list_merged c.args.room) c.lists.lists (lists_merged c.args.room c.args.lists.now c.args.later) c.lists.rest c.in_default.ensures.empty c.lists.invariant;
}
