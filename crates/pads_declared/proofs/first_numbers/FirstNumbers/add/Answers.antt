use Rattle.std.proofs.Common.{◌∙◌, sym}
use Rattle.pads_declared.proofs.NumberLemmas.{numbers-kept, numbers-added}
use Rattle.pads_declared.proofs.first_numbers.FirstNumbers.add.Goals as goal

pub returns-then-contains_key : goal.returns-then-contains_key
returns-then-contains_key c = record { numbered = numbers-kept c.args.self.now c.args.name.now c.args.number (sym c.contains_key.ensures ∙ c.if-contains_key.true) }

pub returns : goal.returns
returns c = record {
  numbered =
      numbers-added c.args.self.now (record { numbers = c.insert.new.self }) c.args.name.now c.in_ok-from_slice.field-0 c.args.number c.in_ok-from_slice.ensures.items
      (sym c.contains_key.ensures ∙ c.if-contains_key.false) c.in_ok-insert.ensures.entries;
}
