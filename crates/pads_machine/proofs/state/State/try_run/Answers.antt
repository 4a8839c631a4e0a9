use Rattle.std.proofs.Common.{◌≡◌, ◌∙◌, sym, subst, arith, Some, length, slice_get}
use Rattle.pads_image.specs.Answers.{HaltsWith, Reaches}
use Rattle.pads_image.specs.Steps.{Step, does}
use Rattle.law_images.proofs.ReadBack.{all-there}
use Rattle.law_images.proofs.Reaching.{join}
use Rattle.pads_steps.specs.Records.{subject_of}
use Rattle.pads_machine.specs.declared.searches.Past.{Past}
use Rattle.pads_machine.specs.declared.state.State.{State}
use Rattle.pads_machine.specs.declared.step.Next.{Next}
use Rattle.pads_machine.specs.Held.{Held, Placed, Roomy}
use Rattle.pads_machine.specs.Ran.{Advances, GoesWithin, Halting, Leads, labels_stand}
use Rattle.pads_machine.specs.Searched.{Remembered}
use Rattle.pads_machine.specs.Shown.{shown}
use Rattle.pads_machine.proofs.Halts.{address-there, at-op, counted-there, fits-here, goes-within, halted, moved-there, some-below}
use Rattle.pads_machine.proofs.state.State.try_run.Goals as goal
use Rattle.pads_machine.proofs.state.State.try_run.Goals.{in-Goes, in-Searches}

pub try_step-requires-clause-labels : goal.try_step-requires-clause-labels
try_step-requires-clause-labels c =
    let there : slice_get c.args.program.now.code.now c.run.self.address ≡ Some c.in-Some.op.now = sym c.in-Some.ensures.op in
    all-there labels_stand c.args.program.now.code.now c.run.self.address c.in-Some.op.now c.requires.labels there

pub try_step-requires-clause-address : goal.try_step-requires-clause-address
try_step-requires-clause-address c =
    let there : slice_get c.args.program.now.code.now c.run.self.address ≡ Some c.in-Some.op.now = sym c.in-Some.ensures.op in
    omega (arith, some-below c.args.program.now.code.now c.run.self.address c.in-Some.op.now there, c.requires.short)

pub try_step-requires-clause-within : goal.try_step-requires-clause-within
try_step-requires-clause-within c =
    let code = c.args.program.now.code.now in
    let entries = c.args.program.now.entries.now in
    let subject = subject_of c.args.program.now.record in
    let room = c.args.self.now.room in
    let s = shown c.run.self in
    let op = c.in-Some.op.now in
    let there : slice_get code s.at_ ≡ Some op = sym c.in-Some.ensures.op in
    let counted = c.run.invariant.counted.1 in
    subst (λ room. GoesWithin room (does entries subject op s)) (sym c.run.invariant.roomy.room_is)
    (subst (λ (x : Step). GoesWithin room x) (at-op code entries subject room s op there) (goes-within code entries subject room s counted.0 counted.1))

pub try_step-requires-clause-halts : goal.try_step-requires-clause-halts
try_step-requires-clause-halts c =
    let code = c.args.program.now.code.now in
    let entries = c.args.program.now.entries.now in
    let subject = subject_of c.args.program.now.record in
    let steps = c.run.invariant.counted.0 in (
      steps,
      subst (λ room. Halting code entries subject room steps (shown c.run.self)) (sym c.run.invariant.roomy.room_is) c.run.invariant.counted.1,
    )

pub leap-requires-clause-address : goal.leap-requires-clause-address
leap-requires-clause-address c =
    let code = c.args.program.now.code.now in
    let entries = c.args.program.now.entries.now in
    let subject = subject_of c.args.program.now.record in
    let room = c.args.self.now.room in
    let s = shown c.run.self in
    let t = shown c.try_step.new.self in
    let steps = c.run.invariant.counted.0 in
    let counted = c.run.invariant.counted.1 in
    let told = subst (λ (n : Next). Advances code entries subject c.run.self.room n s t) c.in-Searches.is c.in_ok-try_step.ensures.advance in
    let led = subst (λ room. Leads code entries subject room s t) c.run.invariant.roomy.room_is told in
    omega (arith, address-there code entries subject room steps t (counted-there code entries subject room steps s led.next_ t led.goes led.more counted), c.requires.short)

pub leap-requires-clause-within : goal.leap-requires-clause-within
leap-requires-clause-within c =
    let code = c.args.program.now.code.now in
    let entries = c.args.program.now.entries.now in
    let subject = subject_of c.args.program.now.record in
    let room = c.args.self.now.room in
    let s = shown c.run.self in
    let t = shown c.try_step.new.self in
    let steps = c.run.invariant.counted.0 in
    let counted = c.run.invariant.counted.1 in
    let told = subst (λ (n : Next). Advances code entries subject c.run.self.room n s t) c.in-Searches.is c.in_ok-try_step.ensures.advance in
    let led = subst (λ room. Leads code entries subject room s t) c.run.invariant.roomy.room_is told in
    omega (
      arith,
      fits-here code entries subject room steps t (counted-there code entries subject room steps s led.next_ t led.goes led.more counted),
      c.try_step.ensures.roomy.room_is,
      c.run.invariant.roomy.room_is,
    )

pub returns-in-Halts-clause-ran : goal.returns-in-Halts-clause-ran
returns-in-Halts-clause-ran c r from is =
    let code = c.args.program.now.code.now in
    let entries = c.args.program.now.entries.now in
    let subject = subject_of c.args.program.now.record in
    let room = c.args.self.now.room in
    let s = shown c.run.self in
    let t = shown c.try_step.new.self in
    let led = subst (λ (n : Next). Advances code entries subject c.run.self.room n s t) c.in-Halts.is c.in_ok-try_step.ensures.advance in
    led.1 ∙ halted code entries subject room s r led.0 (c.run.invariant.halts r from)

pub run-preserved : goal.run-preserved
run-preserved c =
    let code = c.args.program.now.code.now in
    let bytes = c.args.program.now.record.bytes.now in
    let entries = c.args.program.now.entries.now in
    let subject = subject_of c.args.program.now.record in
    let room = c.args.self.now.room in
    let s = shown c.run.self in
    let t = shown c.try_step.new.self in
    let steps = c.run.invariant.counted.0 in
    let counted = c.run.invariant.counted.1 in
    let kept = c.run.invariant.halts in
    elim c.match-branch-2.branch [
      | in-Goes w ↦
          let told = subst (λ (n : Next). Advances code entries subject c.run.self.room n s t) w.in-Goes.is c.in_ok-try_step.ensures.advance in
          let led = subst (λ room. Leads code entries subject room s t) c.run.invariant.roomy.room_is told in
          let back = sym w.self-is in
          record {
            placed = subst (λ (m : State). Placed (length bytes) m) back c.in_ok-try_step.ensures.placed;
            counted = (steps, subst (λ (m : State). Halting code entries subject room steps (shown m)) back (counted-there code entries subject room steps s led.next_ t led.goes led.more counted));
            halts = λ r from. subst (λ (m : State). HaltsWith code entries subject room (shown m) r) back (moved-there code entries subject room steps s led.next_ t led.goes led.more counted r (kept r from));
            held = subst (λ (m : State). Held m) back c.in_ok-try_step.ensures.held;
            roomy = subst (λ (m : State). Roomy room m) back (subst (λ room. Roomy room c.try_step.new.self) c.run.invariant.roomy.room_is c.try_step.ensures.roomy);
            remembered = subst (λ (past : Past). Remembered code bytes past) (sym w.past-is) c.run.invariant.remembered;
          }
      | in-Searches w ↦
          let told = subst (λ (n : Next). Advances code entries subject c.run.self.room n s t) w.in-Searches.is c.in_ok-try_step.ensures.advance in
          let led = subst (λ room. Leads code entries subject room s t) c.run.invariant.roomy.room_is told in
          let u = shown w.leap.new.self in
          let same = c.try_step.ensures.roomy.room_is ∙ c.run.invariant.roomy.room_is in
          let leapt = subst (λ room. Reaches code entries subject room t u) same w.leap.ensures.leap in
          let more = join code entries subject room led.next_ t u led.more leapt in
          let back = sym w.self-is in
          record {
            placed = subst (λ (m : State). Placed (length bytes) m) back w.leap.ensures.placed;
            counted = (steps, subst (λ (m : State). Halting code entries subject room steps (shown m)) back (counted-there code entries subject room steps s led.next_ u led.goes more counted));
            halts = λ r from. subst (λ (m : State). HaltsWith code entries subject room (shown m) r) back (moved-there code entries subject room steps s led.next_ u led.goes more counted r (kept r from));
            held = subst (λ (m : State). Held m) back w.leap.ensures.held;
            roomy = subst (λ (m : State). Roomy room m) back (subst (λ room. Roomy room w.leap.new.self) same w.leap.ensures.roomy);
            remembered = subst (λ (past : Past). Remembered code bytes past) (sym w.past-is) w.leap.ensures.remembered;
          }
    ]
