use Rattle.std.proofs.Common.{◌∙◌, sym, ap, drop}
use Rattle.pads_int.proofs.ReadingLemmas.{FindsText, field_of_other_form, field_with_digits}
use Rattle.pads_int.proofs.reading.read_field.Goals as goal

pub returns-then-not-is_numeral : goal.returns-then-not-is_numeral
returns-then-not-is_numeral c =
    let found : FindsText c.args.kind c.args.coding c.args.field.now c.split_at.result.1.now c.split_at-2.result.1.now =
    record {
      skipped = c.split_at.ensures.back ∙ ap (λ n. drop n c.args.field.now) c.blank_run.ensures.run;
      behind = c.split_at-2.ensures.back ∙ ap (λ n. drop n c.split_at.result.1.now) c.sign_len.ensures.size;
    } in
    record { reading = field_of_other_form _ _ _ _ _ found (sym c.is_numeral.ensures.numeral ∙ c.if-not-is_numeral.true) }

pub returns : goal.returns
returns c =
    let found : FindsText c.args.kind c.args.coding c.args.field.now c.split_at.result.1.now c.split_at-2.result.1.now =
    record {
      skipped = c.split_at.ensures.back ∙ ap (λ n. drop n c.args.field.now) c.blank_run.ensures.run;
      behind = c.split_at-2.ensures.back ∙ ap (λ n. drop n c.split_at.result.1.now) c.sign_len.ensures.size;
    } in
    record {
      reading = c.ranged.ensures.range
          ∙ rw (c.has_minus-negative.ensures.negative, c.magnitude.ensures.number) (field_with_digits _ _ _ _ _ found (sym c.is_numeral.ensures.numeral ∙ c.if-not-is_numeral.false));
    }
