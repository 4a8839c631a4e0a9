use Rattle.std.proofs.Common.{◌≡◌, ◌∙◌, ap, arith, subst, sym, ◌≤◌, List, [], length, slice_get}
use Rattle.std.specs.List.{list_all}
use Rattle.pads_value.specs.Cuts.{cut_of_frame}
use Rattle.pads_calc.specs.Leaves.{unit_of}
use Rattle.pads_calc.specs.Rows.{subject_of_cut, type_of}
use Rattle.pads_image.specs.declared.entry.Entry.{Entry}
use Rattle.pads_image.specs.declared.op.Op.{Op}
use Rattle.pads_image.specs.Answers.{first_of, start}
use Rattle.pads_image.specs.Heights.{inside}
use Rattle.law_images.proofs.ToldDecls.{decls-of}
use Rattle.pads_machine.specs.Known.{AreCounted}
use Rattle.pads_machine.specs.Ran.{labels_stand}
use Rattle.pads_machine.specs.Shown.{shown}
use Rattle.pads_machine.proofs.Answered.{are-counted, code-short, labels-there}
use Rattle.pads_machine.proofs.Halts.{halting-there, halts-there}
use Rattle.pads_machine.proofs.Shows.{own-room}
use Rattle.pads_machine.proofs.machine.read_body.Goals as goal

pub run-requires : goal.run-requires
run-requires g c =
    let image = c.args.image.now in
    let subject = subject_of_cut image.scan (cut_of_frame c.args.frame.now) in
    let number = type_of image.shape c.args.record_no in
    let state = c.start.new.self in
    let starts : shown state ≡ start image.entries subject number =
    c.start.ensures.start
    ∙ ap (λ p. record { at_ = p; last = unit_of subject.origin 0; depth = inside; bindings = []; nodes = []; marks = []; callers = [] })
    (c.first-address.ensures.first ∙ ap (λ (es : List Entry). first_of (slice_get es c.type_of-number.result)) c.as_slice.ensures.items
    ∙ ap (λ n. first_of (slice_get image.entries n)) c.type_of-number.ensures.number) in
    let less : image.need ≤ state.room = omega (arith, c.requires.0, c.start.ensures.roomy.room_is) in
    let halts =
    halting-there image.code c.as_slice-2.result.now image.entries c.as_slice-3.result.now subject image.need state.room g.steps (start image.entries subject number) (shown state)
    c.as_slice-2.ensures.items c.as_slice-3.ensures.items starts less c.requires.1.1 in
    let counted : AreCounted c.as_slice-2.result.now c.as_slice-3.result.now =
    subst (λ (code : List Op). AreCounted code c.as_slice-3.result.now) (sym c.as_slice-2.ensures.items)
    (subst (λ (es : List Entry). AreCounted image.code es) (sym c.as_slice-3.ensures.items) (are-counted image.code image.entries image.shape image.valid)) in
    let declared = decls-of image.code image.entries image.shape image.valid in (
      omega (arith, code-short image.code image.entries image.shape image.valid, ap length c.as_slice-2.ensures.items),
      (
        counted,
        (
          ap (λ (code : List Op). list_all labels_stand code) c.as_slice-2.ensures.items ∙ labels-there image.code image.entries image.shape image.valid,
          (
            c.start.ensures.placed (length c.args.frame.now.bytes.now) (omega arith),
            (
              halts,
              (
                own-room c.args.state.now.room state c.start.ensures.roomy,
                (
                  c.start.ensures.held,
                  (declared.0, record { code_is = c.as_slice-2.ensures.items ∙ declared.1.code_is; entries_are = c.as_slice-3.ensures.items ∙ declared.1.entries_are }),
                ),
              ),
            ),
          ),
        ),
      ),
    )

pub returns-clause-body : goal.returns-clause-body
returns-clause-body g c r h =
    let image = c.args.image.now in
    let subject = subject_of_cut image.scan (cut_of_frame c.args.frame.now) in
    let number = type_of image.shape c.args.record_no in
    let state = c.start.new.self in
    let starts : shown state ≡ start image.entries subject number =
    c.start.ensures.start
    ∙ ap (λ p. record { at_ = p; last = unit_of subject.origin 0; depth = inside; bindings = []; nodes = []; marks = []; callers = [] })
    (c.first-address.ensures.first ∙ ap (λ (es : List Entry). first_of (slice_get es c.type_of-number.result)) c.as_slice.ensures.items
    ∙ ap (λ n. first_of (slice_get image.entries n)) c.type_of-number.ensures.number) in
    let less : image.need ≤ state.room = omega (arith, c.requires.0, c.start.ensures.roomy.room_is) in
    c.take_last.ensures.last
    ∙ c.in_ok-run.ensures.ran r
    (halts-there image.code c.as_slice-2.result.now image.entries c.as_slice-3.result.now subject image.need state.room (start image.entries subject number) (shown state) r
    c.as_slice-2.ensures.items c.as_slice-3.ensures.items starts less h)
