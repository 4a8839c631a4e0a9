use Rattle.pads_sums.specs.Merging.{merged}
use Rattle.pads_accum.specs.Merging.{parts_merged}
use Rattle.pads_accum.proofs.Turns.{last_turn, turn}
use Rattle.pads_accum.proofs.merge.merge_parts.Goals as goal

pub parts-preserved : goal.parts-preserved
parts-preserved c =
    turn (merged c.args.room) c.parts.sums c.merge_part.new.sums (parts_merged c.args.room c.args.sums.now c.args.later) c.parts.rest c.pop.new.self c.len.result c.in-Some.sum
    c.in_ok-merge_part.ensures.merged c.len.ensures.length c.in-Some.ensures.last c.parts.invariant

pub returns : goal.returns
returns c = record {
  merged = last_turn (merged c.args.room) c.parts.sums (parts_merged c.args.room c.args.sums.now c.args.later) c.parts.rest c.in_default.ensures.empty c.parts.invariant;
}
