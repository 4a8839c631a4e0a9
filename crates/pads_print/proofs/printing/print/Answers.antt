use Rattle.std.proofs.Common.{◌≡◌, ◌∙◌, sym, true, false, Some, None}
use Rattle.pads_module.specs.Modules.{contents}
use Rattle.pads_frame.specs.Cutting.{records}
use Rattle.pads_frame.specs.Framed.{framed}
use Rattle.pads_frame.specs.OnlyFrame.{only}
use Rattle.pads_print.specs.Printing.{canonical}
use Rattle.pads_print.specs.ReadBack.{is_back}
use Rattle.pads_print.specs.Reads.{Reads}
use Rattle.pads_print.specs.Same.{holds_of}
use Rattle.pads_print.proofs.Answering.{answer-unframed, answer-framed, answer-otherwise}
use Rattle.pads_print.proofs.printing.print.Goals as goal

pub returns-in_default-2-clause-printed : goal.returns-in_default-2-clause-printed
returns-in_default-2-clause-printed c =
    let m = contents c.args.rules.now in
    let there : canonical m c.args.record_no c.args.value.now ≡ Some c.in-Some.bytes = sym c.in_ok-bytes.ensures.canonical ∙ c.in-Some.is in
    let none : framed c.args.discipline c.in-Some.bytes ≡ None = rw c.as_slice.ensures.items at (sym c.in_ok-input.ensures.framed ∙ c.in_default-2.is) in
    rw c.new-rows.ensures.empty (answer-unframed m c.args.discipline c.args.max c.args.record_no c.args.value.now c.in-Some.bytes there none)

pub returns-then-branch-clause-printed : goal.returns-then-branch-clause-printed
returns-then-branch-clause-printed c =
    let m = contents c.args.rules.now in
    let reads : Reads c.args.image.now m = record { stands = c.requires.stands; shape = c.requires.shape; scan = c.requires.scan } in
    let there : canonical m c.args.record_no c.args.value.now ≡ Some c.in-Some.bytes = sym c.in_ok-bytes.ensures.canonical ∙ c.in-Some.is in
    let input : framed c.args.discipline c.in-Some.bytes ≡ Some c.in-Some-2.input = rw c.as_slice.ensures.items at (sym c.in_ok-input.ensures.framed ∙ c.in-Some-2.is) in
    let holds : holds_of (is_back m c.args.record_no c.in-Some.bytes c.args.value.now) (only (records c.args.discipline c.args.max c.in-Some-2.input)) ≡ true =
    rw (c.as_slice-2.ensures.items, c.as_slice-3.ensures.items) at (sym (c.in_ok-reads_as.ensures.back m reads) ∙ c.if-branch.true) in
    answer-framed m c.args.discipline c.args.max c.args.record_no c.args.value.now c.in-Some.bytes there c.in-Some-2.input input holds

pub returns-clause-printed : goal.returns-clause-printed
returns-clause-printed c =
    let m = contents c.args.rules.now in
    let reads : Reads c.args.image.now m = record { stands = c.requires.stands; shape = c.requires.shape; scan = c.requires.scan } in
    let there : canonical m c.args.record_no c.args.value.now ≡ Some c.in-Some.bytes = sym c.in_ok-bytes.ensures.canonical ∙ c.in-Some.is in
    let input : framed c.args.discipline c.in-Some.bytes ≡ Some c.in-Some-2.input = rw c.as_slice.ensures.items at (sym c.in_ok-input.ensures.framed ∙ c.in-Some-2.is) in
    let fails : holds_of (is_back m c.args.record_no c.in-Some.bytes c.args.value.now) (only (records c.args.discipline c.args.max c.in-Some-2.input)) ≡ false =
    rw (c.as_slice-2.ensures.items, c.as_slice-3.ensures.items) at (sym (c.in_ok-reads_as.ensures.back m reads) ∙ c.if-branch.false) in
    let rows = rw c.as_slice-4.ensures.items at (c.in_ok-rows.ensures.rows m reads) in
    answer-otherwise m c.args.discipline c.args.max c.args.record_no c.args.value.now c.in-Some.bytes there c.in-Some-2.input c.in_ok-rows.rows input fails rows
