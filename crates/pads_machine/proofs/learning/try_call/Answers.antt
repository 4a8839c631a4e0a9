use Rattle.std.proofs.Common.{◌≡◌, ◌∙◌, ap, sym, arith, ◌≤◌, List, [], length, get_or, Option, Some, slice_get}
use Rattle.std.proofs.lemmas.Result.{IfOk-weaker}
use Rattle.pads_dispatch.specs.declared.base.Arg.{Arg}
use Rattle.pads_calc.specs.declared.reading.Reading.{Reading}
use Rattle.pads_calc.specs.Arguments.{bound_to}
use Rattle.pads_image.specs.Answers.{HaltsWith}
use Rattle.pads_image.specs.Heights.{inside, needs}
use Rattle.pads_image.specs.Validity.{arities_of}
use Rattle.pads_steps.specs.Records.{subject_of}
use Rattle.pads_machine.specs.declared.learning.Tried.{Tried}
use Rattle.pads_machine.specs.declared.learning.Tried.TheVariants as tried
use Rattle.pads_machine.specs.Known.{HasRead, begun_at, reading_of}
use Rattle.pads_machine.specs.Shown.{shown}
use Rattle.pads_machine.proofs.Calling.{params-fit, runs-call}
use Rattle.pads_machine.proofs.learning.try_call.Goals as goal

pub start_call-requires-clause-room : goal.start_call-requires-clause-room
start_call-requires-clause-room c =
    let code = c.args.program.now.code.now in
    let entries = c.args.program.now.entries.now in
    let subject = subject_of c.args.program.now.record in
    let call = c.args.call.now in
    let m = c.args.spare.now in
    let entry = c.in-Some.entry.now in
    let there : slice_get entries call.number ≡ Some entry = sym c.in-Some.ensures.entry in
    let few : call.depth ≤ inside = omega (arith, c.if-call-gt-INSIDE.false) in
    let within : call.place ≤ length subject.bytes = omega (arith, c.if-call-program.false) in
    let fits : get_or (needs code (arities_of entries) inside) call.number 0 ≤ m.room = c.requires.spare.room call.number in
    let copied : c.in_ok-args.args ≡ call.args = c.in_ok-args.ensures.equal ∙ c.as_slice.ensures.items in
    omega (arith, params-fit code entries subject c.requires.code.0 c.requires.code.1 m.room call entry there few within fits, ap length copied)

pub try_run-requires-clause-halts : goal.try_run-requires-clause-halts
try_run-requires-clause-halts c =
    let code = c.args.program.now.code.now in
    let entries = c.args.program.now.entries.now in
    let subject = subject_of c.args.program.now.record in
    let call = c.args.call.now in
    let m = c.start_call.new.self in
    let entry = c.in-Some.entry.now in
    let there : slice_get entries call.number ≡ Some entry = sym c.in-Some.ensures.entry in
    let few : call.depth ≤ inside = omega (arith, c.if-call-gt-INSIDE.false) in
    let within : call.place ≤ length subject.bytes = omega (arith, c.if-call-program.false) in
    let fits : get_or (needs code (arities_of entries) inside) call.number 0 ≤ m.room = omega (arith, c.requires.spare.room call.number, c.start_call.ensures.roomy.room_is) in
    let copied : c.in_ok-args.args ≡ call.args = c.in_ok-args.ensures.equal ∙ c.as_slice.ensures.items in
    let begun : shown m ≡ begun_at subject entry call =
    c.start_call.ensures.start ∙ ap (λ (args : List Arg). record (begun_at subject entry call) { bindings = bound_to entry.params args [] }) copied in
    let halts = runs-call code entries subject c.requires.code.0 c.requires.code.1 m.room call entry (shown m) begun there few within fits in
    (halts.reached.steps, (reading_of c.requires.code.0 subject call, halts, omega arith))

pub returns-clause-read : goal.returns-clause-read
returns-clause-read c =
    let code = c.args.program.now.code.now in
    let entries = c.args.program.now.entries.now in
    let subject = subject_of c.args.program.now.record in
    let call = c.args.call.now in
    let m = c.start_call.new.self in
    let entry = c.in-Some.entry.now in
    let there : slice_get entries call.number ≡ Some entry = sym c.in-Some.ensures.entry in
    let few : call.depth ≤ inside = omega (arith, c.if-call-gt-INSIDE.false) in
    let within : call.place ≤ length subject.bytes = omega (arith, c.if-call-program.false) in
    let fits : get_or (needs code (arities_of entries) inside) call.number 0 ≤ m.room = omega (arith, c.requires.spare.room call.number, c.start_call.ensures.roomy.room_is) in
    let copied : c.in_ok-args.args ≡ call.args = c.in_ok-args.ensures.equal ∙ c.as_slice.ensures.items in
    let begun : shown m ≡ begun_at subject entry call =
    c.start_call.ensures.start ∙ ap (λ (args : List Arg). record (begun_at subject entry call) { bindings = bound_to entry.params args [] }) copied in
    IfOk-weaker c.try_run.result
    (λ (found : Option Tried). (r : Reading) → HaltsWith code entries subject m.room (shown m) r → found ≡ Some tried.Ends → c.try_run.new.self.last ≡ r)
    (λ (found : Option Tried). found ≡ Some tried.Ends → HasRead code entries subject call c.try_run.new.self)
    (λ found ran is decls code_is.
    ran (reading_of decls subject call) (runs-call code entries subject decls code_is m.room call entry (shown m) begun there few within fits) is)
    c.try_run.ensures.ran
