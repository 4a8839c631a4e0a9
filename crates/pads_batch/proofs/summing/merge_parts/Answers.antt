use Rattle.std.proofs.Common.{◌∙◌, subst, sym}
use Rattle.pads_batch.proofs.Merging.{Merged, merged-all, merged-more, merged-none, merged-refused, next-fits}
use Rattle.pads_batch.proofs.summing.merge_parts.Goals as goal

pub parts-init : goal.parts-init
parts-init c = merged-none _ _ _ (c.into_iter-part-iterator.ensures.into_iter_gives.0 ∙ c.into_vec-part-items.ensures.same)

pub take_part-requires : goal.take_part-requires
take_part-requires c =
    let (plan, rows, empty, given) = c.requires.fits in
    record {
      fits = next-fits plan rows c.in-Some.part c.next.new.self.rest.items c.parts.whole
          (subst (λ l. Merged plan rows l c.parts.whole) c.in-Some.ensures.steps.0 (c.parts.invariant plan rows empty given));
    }

pub returns-in-Err : goal.returns-in-Err
returns-in-Err c = record {
  sums = λ plan rows empty given. merged-refused plan rows c.in-Some.part c.next.new.self.rest.items c.parts.whole c.in-Err.refusal
      (subst (λ l. Merged plan rows l c.parts.whole) c.in-Some.ensures.steps.0 (c.parts.invariant plan rows empty given)) c.in-Err.ensures.takes;
}

pub parts-preserved : goal.parts-preserved
parts-preserved c = λ plan rows empty given. merged-more plan rows c.in-Some.part c.next.new.self.rest.items c.parts.whole c.take_part.new.whole
    (subst (λ l. Merged plan rows l c.parts.whole) c.in-Some.ensures.steps.0 (c.parts.invariant plan rows empty given)) c.in_default.ensures.takes

pub returns : goal.returns
returns c = record {
  sums = λ plan rows empty given. merged-all plan rows _ _ (sym c.parts.part-iterator.rest.ok.0 ∙ c.in-None.ensures.steps.0) (c.parts.invariant plan rows empty given);
}
