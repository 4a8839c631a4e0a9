use Rattle.pads_bases.proofs.StringLemmas.{if_ok_same, text_until, text_to_end}
use Rattle.pads_bases.proofs.text.read_until.Goals as goal

pub returns-in-None : goal.returns-in-None
returns-in-None c = record { reading = rw c.in-None.is (if_ok_same _ _ _ (text_to_end c.args.coding c.args.bytes.now) c.read_all.ensures.reading) }

pub returns-in-Some : goal.returns-in-Some
returns-in-Some c =
    record { reading = rw c.in-Some.is (if_ok_same _ _ _ (text_until c.args.coding c.in-Some.stop c.args.bytes.now _ _ c.stop_at.ensures.stop c.stop_at.ensures.within c.split_at.ensures.front) c.read_all-in-Some.ensures.reading) }
