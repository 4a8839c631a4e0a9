use Rattle.std.proofs.Common.{sym}
use Rattle.pads_orders.proofs.Pieces.{too_many}
use Rattle.pads_orders.proofs.mask.item_in.Goals as goal

pub returns-in-Some : goal.returns-in-Some
returns-in-Some c = record {
  item =
      rw (c.cut_at-named.ensures.cut, c.in_ok-named.was, c.cut_at-moded.ensures.cut, c.in-Some.is)
      (sym (too_many c.cut_at-named.result.front.now c.cut_at-moded.result.front.now c.in-Some.field-0.now));
}
