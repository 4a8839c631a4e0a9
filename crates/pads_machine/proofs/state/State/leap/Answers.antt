use Rattle.std.proofs.Common.{◌≡◌, sym, subst, arith, ◌+◌, ◌-◌, ◌≤◌, length, refl, suc}
use Rattle.pads_calc.specs.declared.reading.Reading.{Reading}
use Rattle.pads_calc.specs.Wrappers.{last_place}
use Rattle.pads_image.specs.Answers.{Reaches}
use Rattle.pads_image.specs.Steps.{back_to}
use Rattle.pads_steps.specs.Records.{subject_of}
use Rattle.pads_machine.specs.Shown.{shown}
use Rattle.pads_machine.proofs.Leaps.{leaps}
use Rattle.pads_machine.proofs.Tops.{mark-placed, searched-from, searching-some}
use Rattle.pads_machine.proofs.state.State.leap.Goals as goal

pub returns-then-self-next-clause-leap : goal.returns-then-self-next-clause-leap
returns-then-self-next-clause-leap c =
    let m = c.args.self.now in
    let s = shown m in
    let program = c.args.program.now in
    let code = program.code.now in
    let entries = program.entries.now in
    let subject = subject_of program.record in
    let next = c.next_place-next.result in
    let found = c.if-not-is_searching.ensures.searching refl in
    let mark = c.mark.result in
    let ends : next ≤ last_place subject mark.place = subst (λ k. next ≤ k) c.last_place-last.ensures.last c.next_place-next.ensures.high in
    let high : next ≤ last_place subject found.0 = subst (λ k. next ≤ last_place subject k) (searched-from m found mark c.mark.ensures.mark) ends in
    let d = next - m.last.place - 1 in
    let there : next ≡ m.last.place + suc d = omega (arith, c.if-self-next.true) in
    subst (λ (r : Reading). Reaches code entries subject m.room s (record s { last = back_to next r })) (sym c.fails.ensures.fails)
    (leaps code entries subject m.room c.in-Some.literal.now found.0 found.1 found.2 d s next there high
    (record { search_ = c.in-Some.ensures.sought; marks = found.3; fits = c.requires.within }) c.next_place-next.ensures.before)

pub mark-requires : goal.mark-requires
mark-requires c = searching-some c.args.self.now (c.if-not-is_searching.ensures.searching refl)

pub last_place-last-requires : goal.last_place-last-requires
last_place-last-requires c = (mark-placed c.args.self.now (length c.args.program.now.record.bytes.now) c.mark.result c.requires.placed c.mark.ensures.mark).0
