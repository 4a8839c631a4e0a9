use Rattle.std.proofs.Common.{◌∙◌, ◌++◌, sym, ap, append_assoc, arith}
use Rattle.pads_selftest.specs.Records.{bar_before, event, events}
use Rattle.pads_selftest.proofs.Made.{events-more}
use Rattle.pads_selftest.proofs.making.put_events.Goals as goal

pub events-preserved : goal.events-preserved
events-preserved c =
    let i = c.args.number in
    let j = c.events.event_number in
    record {
      put = c.put_event.ensures.put ∙ ap (λ l. l ++ event i j) (c.put_bar.ensures.put ∙ ap (λ l. l ++ bar_before j) c.events.invariant.put)
          ∙ ap (λ l. l ++ event i j) (append_assoc c.args.line.now.items (events i j) (bar_before j))
          ∙ append_assoc c.args.line.now.items (events i j ++ bar_before j) (event i j) ∙ ap (λ l. c.args.line.now.items ++ l) (sym (events-more i j));
      grown = omega (arith, c.put_event.ensures.grown, c.put_bar.ensures.grown, c.events.invariant.grown);
    }
