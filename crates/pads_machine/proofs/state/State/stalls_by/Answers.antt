use Rattle.std.proofs.Common.{◌≡◌, arith, refl, ◌+◌, inr, false}
use Rattle.pads_steps.specs.Records.{subject_of}
use Rattle.pads_machine.specs.Known.{HasOutcome}
use Rattle.pads_machine.proofs.state.State.stalls_by.Goals as goal

pub returns : goal.returns
returns c =
    let m = c.args.self.now in
    let program = c.args.program.now in
    let call = c.args.call.now in
    let outcome = c.in_ok-outcome.outcome in
    let known : HasOutcome program.code.now program.entries.now (subject_of program.record) call outcome =
    c.in_ok-outcome.ensures.outcome program.code.now program.entries.now (subject_of program.record) c.requires.knows in
    let stays_well : outcome.failed ≡ false = c.if-outcome.false in
    let stays : outcome.place ≡ call.place = omega (arith, c.if-outcome-call.false) in
    record {
      stalled = record {
        standing = c.requires.standing;
        behind = m.address + 2;
        element = inr ((call, outcome, c.requires.call, known, stays_well, stays), refl);
        elem = c.in_ok-end.ensures.elem;
        shut = c.if-not-shuts.ensures.shut refl;
      };
    }
