use Rattle.std.proofs.Common.{◌∙◌, ◌+◌, [], ◌∷◌, ◌++◌, map, refl, subst, arith}
use Rattle.std.proofs.lemmas.List.{take_all}
use Rattle.pads_value.specs.Cuts.{cut_of_kept}
use Rattle.pads_batch.specs.Reading.{AreRows, IsRead}
use Rattle.pads_batch.proofs.Rows.{rows-more}
use Rattle.pads_batch.proofs.There.{refused-rows}
use Rattle.pads_batch.proofs.summing.sum_records.Goals as goal

pub frames-init : goal.frames-init
frames-init g c = record { counted = omega arith; roomy = c.in-Ok.ensures.room; summed = ([], tt, c.in-Ok-blank.ensures.empty) }

pub add_row-requires : goal.add_row-requires
add_row-requires g c = let (rows, are, is) = c.frames.invariant.summed in record { fits = (g.S.Blanks.plan c.args.summary.now, rows, is) }

pub returns-in-Err : goal.returns-in-Err
returns-in-Err g c =
    let so_far = c.frames.invariant in
    let (rows, are, is) = so_far.summed in
    let plan = g.S.Blanks.plan c.args.summary.now in
    let row = c.in-Ok-read_record.row in
    let more = rows-more (IsRead c.args.image.now) c.args.first_no c.frames.number c.frames.kept-index c.args.frames.now
    c.kept-item.result _ _ _ row c.frames-test.true c.kept-item.is so_far.counted c.lend.ensures.same are
    (record { answer = c.in-Ok-read_record.ensures.answer; row_is = c.in-Ok-read_record.ensures.row }) refl in
    record { sums = refused-rows c.args.image.now plan c.args.first_no (c.frames.kept-index + 1) c.args.frames.now (rows ++ row ∷ []) more c.in-Err.refusal (c.in-Err.ensures.takes plan rows is) }

pub frames-preserved : goal.frames-preserved
frames-preserved g c =
    let so_far = c.frames.invariant in
    let (rows, are, is) = so_far.summed in
    let counted = so_far.counted in
    let row = c.in-Ok-read_record.row in
    record {
      counted = omega arith;
      roomy = c.read_record.ensures.room ∙ so_far.roomy;
      summed = (
        rows ++ row ∷ [],
        rows-more (IsRead c.args.image.now) c.args.first_no c.frames.number c.frames.kept-index c.args.frames.now
            c.kept-item.result _ _ _ row c.frames-test.true c.kept-item.is counted c.lend.ensures.same are
            (record { answer = c.in-Ok-read_record.ensures.answer; row_is = c.in-Ok-read_record.ensures.row }) refl,
        c.in_default-add_row.ensures.takes (g.S.Blanks.plan c.args.summary.now) rows is,
      );
    }

pub returns : goal.returns
returns g c =
    let (rows, are, is) = c.frames.invariant.summed in
    let all = subst (λ l. AreRows (IsRead c.args.image.now) c.args.first_no (map cut_of_kept l) rows) (take_all c.frames.kept-index c.args.frames.now c.frames-test.false) are in
    record { sums = (rows, all, is) }
