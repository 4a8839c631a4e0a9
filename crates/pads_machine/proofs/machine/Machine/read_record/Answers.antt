use Rattle.std.proofs.Common.{◌≡◌, ◌∙◌, ap, arith, List}
use Rattle.std.proofs.lemmas.Result.{IfOk-weaker}
use Rattle.pads_value.specs.Cuts.{cut_of_frame}
use Rattle.pads_value.specs.declared.row.Row.{Row}
use Rattle.pads_calc.specs.declared.decl.Decl.{Decl}
use Rattle.pads_calc.specs.Rows.{kept_by, row_by, row_of}
use Rattle.pads_image.specs.Answers.{Answers, StandsFor}
use Rattle.pads_image.specs.Skeletons.{kept_in}
use Rattle.pads_machine.proofs.Answered.{answers-so, answers-unread, halting, row-so, row-unread}
use Rattle.pads_machine.proofs.machine.Machine.read_record.Goals as goal

pub returns-in-Some-clause-answer : goal.returns-in-Some-clause-answer
returns-in-Some-clause-answer c = answers-unread c.args.image.now c.args.record_no (cut_of_frame c.args.frame.now) c.in-Some.row c.in-Some.ensures.row

pub returns-in-Some-clause-row : goal.returns-in-Some-clause-row
returns-in-Some-clause-row c = row-unread c.args.image.now c.args.record_no (cut_of_frame c.args.frame.now) c.in-Some.row c.in-Some.ensures.row

pub read_body-requires : goal.read_body-requires
read_body-requires c =
    let view : c.self.inside.state.room ≡ c.args.self.now = c.self.view_is in
    (omega (arith, c.requires.room, view), (c.self.invariant, halting c.args.image.now c.args.record_no (cut_of_frame c.args.frame.now)))

pub returns-clause-row : goal.returns-clause-row
returns-clause-row c =
    let image = c.args.image.now in
    let cut = cut_of_frame c.args.frame.now in
    let number = c.args.record_no in
    let body = c.in_ok-body.body in
    let left = c.in_ok-left.left in
    IfOk-weaker c.row_over.result (λ (row : Row). row ≡ row_by cut.mark number cut left)
    (λ (row : Row). (decls : List Decl) → StandsFor image.code image.entries image.shape image.need decls → row ≡ row_of decls image.shape image.scan number cut)
    (λ row is_row. row-so image number cut body left row
    (λ r h. c.in_ok-body.ensures.body r h)
    (c.in_ok-left.ensures.kept ∙ ap (λ n. kept_by (kept_in image.entries) n body) c.type_of-number.ensures.number) is_row)
    c.row_over.ensures.row

pub returns-clause-answer : goal.returns-clause-answer
returns-clause-answer c =
    let image = c.args.image.now in
    let cut = cut_of_frame c.args.frame.now in
    let number = c.args.record_no in
    let body = c.in_ok-body.body in
    let left = c.in_ok-left.left in
    IfOk-weaker c.row_over.result (λ (row : Row). row ≡ row_by cut.mark number cut left) (λ (row : Row). Answers image.code image.entries image.shape image.scan image.need number cut row)
    (λ row is_row. answers-so image number cut body left row
    (λ r h. c.in_ok-body.ensures.body r h)
    (c.in_ok-left.ensures.kept ∙ ap (λ n. kept_by (kept_in image.entries) n body) c.type_of-number.ensures.number) is_row)
    c.row_over.ensures.row
