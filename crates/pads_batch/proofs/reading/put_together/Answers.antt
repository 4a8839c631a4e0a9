use Rattle.std.proofs.Common.{◌∷◌, ◌++◌, ap, sym, ◌∙◌}
use Rattle.pads_batch.proofs.Wholes.{front-more, front-none, front-whole}
use Rattle.pads_batch.proofs.reading.put_together.Goals as goal

pub parts-init : goal.parts-init
parts-init g c = front-none _ _ _ (c.into_iter-part-iterator.ensures.into_iter_gives.0 ∙ c.into_vec-part-items.ensures.same) c.new-whole.ensures.items

pub parts-preserved : goal.parts-preserved
parts-preserved g c =
    let is = c.in-Some.ensures.steps.0 ∙ ap (λ part. part ∷ c.next.new.self.rest.items) c.in_ok-items.was in
    front-more _ _ _ _ _ _ is (c.in_ok-append.ensures.items ∙ ap (λ items. c.parts.whole.items ++ items) c.into_vec.ensures.same) c.parts.invariant

pub returns : goal.returns
returns g c = record {
  whole = rw c.from_vec.ensures.same (front-whole _ _ _ (sym c.parts.part-iterator.rest.ok.0 ∙ c.in-None.ensures.steps.0) c.parts.invariant);
}
