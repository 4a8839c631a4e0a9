use Rattle.std.proofs.Common.{◌∙◌, sym, ap, not}
use Rattle.pads_int.proofs.ReadingLemmas.{numeral_some, numeral_none}
use Rattle.pads_int.proofs.digits.is_numeral.Goals as goal

pub returns-then-not-is_empty : goal.returns-then-not-is_empty
returns-then-not-is_empty c =
    record { numeral = c.all_digits.ensures.all ∙ numeral_some c.args.coding c.args.bytes.now (sym c.is_empty.ensures ∙ c.if-not-is_empty.true) }

pub returns-else-not-is_empty : goal.returns-else-not-is_empty
returns-else-not-is_empty c =
    record { numeral = ap not c.if-not-is_empty.false ∙ numeral_none c.args.coding c.args.bytes.now (sym c.is_empty.ensures ∙ c.if-not-is_empty.false) }
