use Rattle.std.proofs.Common.{◌∙◌, ◌++◌}
use Rattle.pads_sums.proofs.Copies.{numbers_copied, texts_copied}
use Rattle.pads_sums.proofs.tracked.Tracked.copy.Goals as goal

pub returns : goal.returns
returns c = record {
  equal =
      (λ i.
      numbers_copied c.self.inside.numbers.entries c.in_ok-clone.field-0.entries c.in_ok-clone.ensures.cases i
      ++ texts_copied c.self.inside.texts.entries c.in_ok-clone-2.field-0.entries c.in_ok-clone-2.ensures.cases i)
      ∙ c.self.view_is;
}
