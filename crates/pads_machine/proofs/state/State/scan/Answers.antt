use Rattle.std.proofs.Common.{◌≡◌, ◌∙◌, ap, sym, arith, ◌+◌, true, false, Some, List, ◌∷◌, drop, map, reverse}
use Rattle.pads_value.specs.declared.cause.Cause.{Cause}
use Rattle.pads_calc.specs.declared.reading.Reading.{Reading}
use Rattle.pads_calc.specs.Readings.{blame, fails, is_ok}
use Rattle.pads_image.specs.States as states
use Rattle.pads_image.specs.Steps.{Goes, back_to, began, cause_or, is_last_place, scan_step}
use Rattle.pads_steps.specs.Records.{subject_of}
use Rattle.pads_machine.specs.declared.node.Mark.{Mark}
use Rattle.pads_machine.specs.Shown.{mark_shown, shown}
use Rattle.pads_machine.proofs.Homes.{reverse-push}
use Rattle.pads_idle.proofs.Scanning.{ends-there, goes-there, scan-ends, scan-on}
use Rattle.pads_machine.proofs.Tops.{marks-are, rest-there}
use Rattle.pads_machine.proofs.state.State.scan.Goals as goal

pub returns-then-last_place-at-clause-scan : goal.returns-then-last_place-at-clause-scan
returns-then-last_place-at-clause-scan c =
    let m = c.args.self.now in
    let s = shown m in
    let from = c.args.from.now in
    let subject = subject_of from in
    let mark = c.mark-mark.result in
    let left = reverse c.pop.new.self.items in
    let rest : left ≡ drop 1 (reverse m.marks.items) =
    rest-there m.marks.items c.pop.new.self.items _ mark c.mark-mark.ensures.mark (omega (arith, m.marks.ok.0)) c.pop.ensures.rest in
    let at_ = c.began-at.ensures.began in
    let bad : is_ok s.last ≡ false = sym c.if-is_ok.ensures.ok in
    let kept : c.kept-cause.result ≡ cause_or mark.cause (blame s.last) = c.kept-cause.ensures.kept ∙ ap (λ found. cause_or mark.cause found) c.blame.ensures.blame in
    let over : is_last_place subject mark.place (began subject.origin s.last) ≡ true = ends-there subject mark.place (began subject.origin s.last) (omega (arith, c.if-last_place-at.true, c.last_place.ensures.last, at_)) in
    ap (λ (marks : List states.Mark). scan_step subject c.args.to s marks) (marks-are m mark c.mark-mark.ensures.mark)
    ∙ scan-ends subject c.args.to s (mark_shown mark) (map mark_shown (drop 1 (reverse m.marks.items))) bad over
    ∙ ap (λ (marks : List Mark). Goes (record s { at_ = s.at_ + 1; last = fails subject.origin (cause_or mark.cause (blame s.last)) mark.place; marks = map mark_shown marks })) (sym rest)
    ∙ ap (λ (cause : Cause). Goes (record s { at_ = s.at_ + 1; last = fails subject.origin cause mark.place; marks = map mark_shown left })) (sym kept)
    ∙ ap (λ (r : Reading). Goes (record s { at_ = s.at_ + 1; last = r; marks = map mark_shown left })) (sym c.fails.ensures.fails)

pub returns-clause-scan : goal.returns-clause-scan
returns-clause-scan c =
    let m = c.args.self.now in
    let s = shown m in
    let from = c.args.from.now in
    let subject = subject_of from in
    let mark = c.mark-mark.result in
    let left = reverse c.pop.new.self.items in
    let rest : left ≡ drop 1 (reverse m.marks.items) =
    rest-there m.marks.items c.pop.new.self.items _ mark c.mark-mark.ensures.mark (omega (arith, m.marks.ok.0)) c.pop.ensures.rest in
    let at_ = c.began-at.ensures.began in
    let bad : is_ok s.last ≡ false = sym c.if-is_ok.ensures.ok in
    let kept : c.kept-cause.result ≡ cause_or mark.cause (blame s.last) = c.kept-cause.ensures.kept ∙ ap (λ found. cause_or mark.cause found) c.blame.ensures.blame in
    let more : is_last_place subject mark.place (began subject.origin s.last) ≡ false = goes-there subject mark.place (began subject.origin s.last) (omega (arith, c.if-last_place-at.false, c.last_place.ensures.last, at_)) in
    let on : Cause → List Mark → states.State = λ cause marks. record s {
      at_ = c.args.to;
      last = back_to (began subject.origin s.last + 1) s.last;
      marks = map mark_shown ((record { place = mark.place; cause = Some cause }) ∷ marks);
    } in
    ap (λ (marks : List states.Mark). scan_step subject c.args.to s marks) (marks-are m mark c.mark-mark.ensures.mark)
    ∙ scan-on subject c.args.to s (mark_shown mark) (map mark_shown (drop 1 (reverse m.marks.items))) bad more
    ∙ ap (λ (marks : List Mark). Goes (on (cause_or mark.cause (blame s.last)) marks)) (sym rest)
    ∙ ap (λ (cause : Cause). Goes (on cause left)) (sym kept)
    ∙ ap (λ (marks : List Mark). Goes (record s { at_ = c.args.to; last = back_to (began subject.origin s.last + 1) s.last; marks = map mark_shown marks }))
    (sym (ap reverse c.push_reserved.ensures.items ∙ reverse-push c.pop.new.self.items _))
    ∙ ap (λ k. Goes (record s { at_ = c.args.to; last = back_to (k + 1) s.last; marks = map mark_shown (reverse c.push_reserved.new.self.items) })) (sym at_)
