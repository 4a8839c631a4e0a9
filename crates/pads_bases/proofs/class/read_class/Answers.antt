use Rattle.std.proofs.Common.{sym, ◌∙◌}
use Rattle.pads_bases.proofs.StringLemmas.{if_ok_same}
use Rattle.pads_bases.proofs.ClassLemmas.{class_malformed, class_none, class_some}
use Rattle.pads_bases.proofs.class.read_class.Goals as goal

pub returns-then-not-is_class : goal.returns-then-not-is_class
returns-then-not-is_class c = record { reading = class_malformed _ _ _ (sym c.is_class.ensures.class ∙ c.if-not-is_class.true) }

pub returns-then-is_empty : goal.returns-then-is_empty
returns-then-is_empty c =
    record { reading = class_none c.args.coding c.args.class.now c.args.bytes.now _ _ (sym c.is_class.ensures.class ∙ c.if-not-is_class.false) c.class_run.ensures.run c.split_at.ensures.front (sym c.is_empty.ensures ∙ c.if-is_empty.true) }

pub returns : goal.returns
returns c =
    record {
      reading = if_ok_same _ _ _
          (class_some c.args.coding c.args.class.now c.args.bytes.now _ _ (sym c.is_class.ensures.class ∙ c.if-not-is_class.false) c.class_run.ensures.run c.split_at.ensures.front (sym c.is_empty.ensures ∙ c.if-is_empty.false))
          c.read_all.ensures.reading;
    }
