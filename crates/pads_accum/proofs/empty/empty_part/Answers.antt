use Rattle.std.proofs.Common.{◌∙◌, ap, []}
use Rattle.pads_sums.specs.Sums.{part_sum}
use Rattle.pads_accum.proofs.empty.empty_part.Goals as goal

pub returns : goal.returns
returns c = record {
  none =
      λ room.
      c.new.ensures.none room c.args.part.now.form
      ∙ ap (λ place. part_sum room place c.args.part.now.form []) (c.in_ok-place.ensures.same ∙ c.as_slice.ensures.items);
}
