use Rattle.std.proofs.Common.{sym, ◌∙◌}
use Rattle.pads_bases.proofs.StringLemmas.{if_ok_same, char_missing, char_there}
use Rattle.pads_bases.proofs.text.read_char.Goals as goal

pub returns-then-is_empty : goal.returns-then-is_empty
returns-then-is_empty c = record { reading = char_missing _ _ (sym c.is_empty.ensures ∙ c.if-is_empty.true) }

pub returns : goal.returns
returns c =
    record {
      reading = if_ok_same _ _ _
          (char_there c.args.coding c.args.bytes.now _ (sym c.is_empty.ensures ∙ c.if-is_empty.false) c.split_at.ensures.front)
          c.read_all.ensures.reading;
    }
