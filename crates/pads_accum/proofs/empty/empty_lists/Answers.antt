use Rattle.std.proofs.Common.{◌∙◌, [], length, arith}
use Rattle.pads_accum.specs.Summaries.{list_summed}
use Rattle.pads_accum.proofs.EmptyLaws.{map_more, map_all, empty_lists}
use Rattle.pads_accum.proofs.empty.empty_lists.Goals as goal

pub lists-preserved : goal.lists-preserved
lists-preserved c =
    λ room.
    c.in_ok-push.ensures.ok
    ∙ map_more (λ list. list_summed room list []) c.args.plan.now c.lists.list-index c.list-item.result c.lists.lists c.in_ok-empty_list.field-0
    (omega (arith, c.lists-test.true)) c.list-item.is (c.lists.invariant room) (c.in_ok-empty_list.ensures.none room)

pub returns : goal.returns
returns c = record {
  none =
      λ room.
      c.lists.invariant room
      ∙ map_all (λ list. list_summed room list []) c.args.plan.now c.lists.list-index c.lists-test.false
      ∙ empty_lists room (length c.args.plan.now) 0 c.args.plan.now;
}
