use Rattle.std.proofs.Common.{◌∙◌, sym, pos}
use Rattle.pads_sums.proofs.SumLaws.{tracked_none}
use Rattle.pads_sums.proofs.part_sum.PartSum.new.Goals as goal

pub returns : goal.returns
returns c = record {
  none =
      λ room form i. record {
        place = c.args.place;
        good = 0;
        bad = 0;
        nums = 0;
        least = pos 0;
        greatest = pos 0;
        sum = pos 0;
        tracked = (c.new.ensures.empty ∙ sym (tracked_none room)) i;
        others = 0;
      };
}
