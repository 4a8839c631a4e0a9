use Rattle.std.proofs.Common.{◌≡◌, ◌∙◌, sym, ap, subst, arith, Some, None, slice_get}
use Rattle.pads_image.specs.Answers.{HaltsWith, Reaches}
use Rattle.pads_image.specs.States.{State}
use Rattle.pads_image.specs.Steps.{Step, does}
use Rattle.law_images.proofs.ReadBack.{all-there}
use Rattle.law_images.proofs.Reaching.{join}
use Rattle.pads_steps.specs.Records.{subject_of}
use Rattle.pads_machine.specs.declared.step.Next.{Next}
use Rattle.pads_machine.specs.Held.{Roomy}
use Rattle.pads_machine.specs.Ran.{Advances, GoesWithin, Halting, Leads, labels_stand}
use Rattle.pads_machine.specs.Shown.{shown}
use Rattle.std.specs.Bool.{◌==◌}
use Rattle.pads_machine.proofs.Halts.{address-there, at-op, counted-there, fewer-asking, fewer-left, fits-here, goes-within, halted, moved-there, never-past, quiet-then, some-below, steps_left}
use Rattle.pads_machine.proofs.Passing.{asked}
use Rattle.pads_machine.proofs.state.State.run.Goals as goal

pub run-init : goal.run-init
run-init g c = record {
  placed = c.requires.1.1.1.0;
  counted = c.requires.1.1.1.1.0;
  halts = λ r from. from;
  held = c.requires.1.1.1.1.1.1.0;
  roomy = c.requires.1.1.1.1.1.0;
  remembered = c.new-past.ensures.remembered _ _;
  knows = c.new-known.ensures.knows _ _ _;
  spare = λ spare is. let never = is in absurd cc;
}

pub advance-requires-clause-labels : goal.advance-requires-clause-labels
advance-requires-clause-labels g c =
    let there : slice_get c.args.program.now.code.now c.run.self.address ≡ Some c.in-Some.op.now = sym c.in-Some.ensures.op in
    all-there labels_stand c.args.program.now.code.now c.run.self.address c.in-Some.op.now c.requires.1.1.0 there

pub advance-requires-clause-address : goal.advance-requires-clause-address
advance-requires-clause-address g c =
    let there : slice_get c.args.program.now.code.now c.run.self.address ≡ Some c.in-Some.op.now = sym c.in-Some.ensures.op in
    omega (arith, some-below c.args.program.now.code.now c.run.self.address c.in-Some.op.now there, c.requires.0)

pub advance-requires-clause-within : goal.advance-requires-clause-within
advance-requires-clause-within g c =
    let code = c.args.program.now.code.now in
    let entries = c.args.program.now.entries.now in
    let subject = subject_of c.args.program.now.record in
    let room = c.args.self.now.room in
    let s = shown c.run.self in
    let op = c.in-Some.op.now in
    let there : slice_get code s.at_ ≡ Some op = sym c.in-Some.ensures.op in
    let counted = c.run.invariant.counted in
    subst (λ room. GoesWithin room (does entries subject op s)) (sym c.run.invariant.roomy.room_is)
    (subst (λ (x : Step). GoesWithin room x) (at-op code entries subject room s op there) (goes-within code entries subject room s counted.0 counted.1))

pub advance-requires-clause-halts : goal.advance-requires-clause-halts
advance-requires-clause-halts g c =
    let code = c.args.program.now.code.now in
    let entries = c.args.program.now.entries.now in
    let subject = subject_of c.args.program.now.record in (
      g.steps,
      subst (λ room. Halting code entries subject room g.steps (shown c.run.self)) (sym c.run.invariant.roomy.room_is) c.run.invariant.counted,
    )

pub leap-requires-clause-address : goal.leap-requires-clause-address
leap-requires-clause-address g c =
    let code = c.args.program.now.code.now in
    let entries = c.args.program.now.entries.now in
    let subject = subject_of c.args.program.now.record in
    let room = c.args.self.now.room in
    let s = shown c.run.self in
    let t = shown c.advance.new.self in
    let counted = c.run.invariant.counted in
    let told = subst (λ (n : Next). Advances code entries subject c.run.self.room n s t) c.in-Searches.is c.in_ok-advance.ensures.advance in
    let led = subst (λ room. Leads code entries subject room s t) c.run.invariant.roomy.room_is told in
    omega (arith, address-there code entries subject room g.steps t (counted-there code entries subject room g.steps s led.next_ t led.goes led.more counted), c.requires.0)

pub leap-requires-clause-within : goal.leap-requires-clause-within
leap-requires-clause-within g c =
    let code = c.args.program.now.code.now in
    let entries = c.args.program.now.entries.now in
    let subject = subject_of c.args.program.now.record in
    let room = c.args.self.now.room in
    let s = shown c.run.self in
    let t = shown c.advance.new.self in
    let counted = c.run.invariant.counted in
    let told = subst (λ (n : Next). Advances code entries subject c.run.self.room n s t) c.in-Searches.is c.in_ok-advance.ensures.advance in
    let led = subst (λ room. Leads code entries subject room s t) c.run.invariant.roomy.room_is told in
    omega (
      arith,
      fits-here code entries subject room g.steps t (counted-there code entries subject room g.steps s led.next_ t led.goes led.more counted),
      c.advance.ensures.roomy.room_is,
      c.run.invariant.roomy.room_is,
    )

pub returns-in-Halts-clause-ran : goal.returns-in-Halts-clause-ran
returns-in-Halts-clause-ran g c r from =
    let code = c.args.program.now.code.now in
    let entries = c.args.program.now.entries.now in
    let subject = subject_of c.args.program.now.record in
    let room = c.args.self.now.room in
    let s = shown c.run.self in
    let t = shown c.advance.new.self in
    let counted = c.run.invariant.counted in
    let led = subst (λ (n : Next). Advances code entries subject c.run.self.room n s t) c.in-Halts.is c.in_ok-advance.ensures.advance in
    led.1 ∙ halted code entries subject room s r led.0 (c.run.invariant.halts r from)

pub run-smaller-in-Goes : goal.run-smaller-in-Goes
run-smaller-in-Goes g c =
    let code = c.args.program.now.code.now in
    let entries = c.args.program.now.entries.now in
    let subject = subject_of c.args.program.now.record in
    let room = c.args.self.now.room in
    let s = shown c.run.self in
    let t = shown c.advance.new.self in
    let counted = c.run.invariant.counted in
    let told = subst (λ (n : Next). Advances code entries subject c.run.self.room n s t) c.in-Goes.is c.in_ok-advance.ensures.advance in
    let led = subst (λ room. Leads code entries subject room s t) c.run.invariant.roomy.room_is told in
    fewer-asking _ _ _ _ (fewer-left code entries subject room g.steps s led.next_ t led.goes led.more counted)

pub run-preserved-in-Goes : goal.run-preserved-in-Goes
run-preserved-in-Goes g c =
    let code = c.args.program.now.code.now in
    let entries = c.args.program.now.entries.now in
    let subject = subject_of c.args.program.now.record in
    let room = c.args.self.now.room in
    let s = shown c.run.self in
    let t = shown c.advance.new.self in
    let counted = c.run.invariant.counted in
    let told = subst (λ (n : Next). Advances code entries subject c.run.self.room n s t) c.in-Goes.is c.in_ok-advance.ensures.advance in
    let led = subst (λ room. Leads code entries subject room s t) c.run.invariant.roomy.room_is told in
    record {
      placed = c.in_ok-advance.ensures.placed;
      counted = counted-there code entries subject room g.steps s led.next_ t led.goes led.more counted;
      halts = λ r from. moved-there code entries subject room g.steps s led.next_ t led.goes led.more counted r (c.run.invariant.halts r from);
      held = c.in_ok-advance.ensures.held;
      roomy = subst (λ room. Roomy room c.advance.new.self) c.run.invariant.roomy.room_is c.advance.ensures.roomy;
      remembered = c.run.invariant.remembered;
      knows = c.run.invariant.knows;
      spare = c.run.invariant.spare;
    }

pub run-smaller-in-Searches : goal.run-smaller-in-Searches
run-smaller-in-Searches g c =
    let code = c.args.program.now.code.now in
    let entries = c.args.program.now.entries.now in
    let subject = subject_of c.args.program.now.record in
    let room = c.args.self.now.room in
    let s = shown c.run.self in
    let t = shown c.advance.new.self in
    let counted = c.run.invariant.counted in
    let told = subst (λ (n : Next). Advances code entries subject c.run.self.room n s t) c.in-Searches.is c.in_ok-advance.ensures.advance in
    let led = subst (λ room. Leads code entries subject room s t) c.run.invariant.roomy.room_is told in
    let u = shown c.leap.new.self in
    let leapt = subst (λ room. Reaches code entries subject room t u) (c.advance.ensures.roomy.room_is ∙ c.run.invariant.roomy.room_is) c.leap.ensures.leap in
    let more = join code entries subject room led.next_ t u led.more leapt in
    fewer-asking _ _ _ _ (fewer-left code entries subject room g.steps s led.next_ u led.goes more counted)

pub run-preserved-in-Searches : goal.run-preserved-in-Searches
run-preserved-in-Searches g c =
    let code = c.args.program.now.code.now in
    let entries = c.args.program.now.entries.now in
    let subject = subject_of c.args.program.now.record in
    let room = c.args.self.now.room in
    let s = shown c.run.self in
    let t = shown c.advance.new.self in
    let counted = c.run.invariant.counted in
    let told = subst (λ (n : Next). Advances code entries subject c.run.self.room n s t) c.in-Searches.is c.in_ok-advance.ensures.advance in
    let led = subst (λ room. Leads code entries subject room s t) c.run.invariant.roomy.room_is told in
    let u = shown c.leap.new.self in
    let leapt = subst (λ room. Reaches code entries subject room t u) (c.advance.ensures.roomy.room_is ∙ c.run.invariant.roomy.room_is) c.leap.ensures.leap in
    let more = join code entries subject room led.next_ t u led.more leapt in
    record {
      placed = c.leap.ensures.placed;
      counted = counted-there code entries subject room g.steps s led.next_ u led.goes more counted;
      halts = λ r from. moved-there code entries subject room g.steps s led.next_ u led.goes more counted r (c.run.invariant.halts r from);
      held = c.leap.ensures.held;
      roomy = subst (λ room. Roomy room c.leap.new.self) (c.advance.ensures.roomy.room_is ∙ c.run.invariant.roomy.room_is) c.leap.ensures.roomy;
      remembered = c.leap.ensures.remembered;
      knows = c.run.invariant.knows;
      spare = c.run.invariant.spare;
    }

pub run-smaller : goal.run-smaller
run-smaller g c =
    let code = c.args.program.now.code.now in
    let entries = c.args.program.now.entries.now in
    let subject = subject_of c.args.program.now.record in
    let room = c.args.self.now.room in
    let s = shown c.run.self in
    let t = shown c.advance.new.self in
    let same = subst (λ (n : Next). Advances code entries subject c.run.self.room n s t) c.in-Asks.is c.in_ok-advance.ensures.advance in
    let left = ap (λ (s : State). steps_left code entries subject room g.steps s) same in
    omega (arith, left, asked (c.run.quiet == 0) _ c.in-Asks.is c.in_ok-advance.ensures.asking, quiet-then _ c.in_ok-quiet-in-Asks.ensures.quiet)

pub run-preserved : goal.run-preserved
run-preserved g c =
    let code = c.args.program.now.code.now in
    let entries = c.args.program.now.entries.now in
    let subject = subject_of c.args.program.now.record in
    let room = c.args.self.now.room in
    let s = shown c.run.self in
    let t = shown c.advance.new.self in
    let same : t ≡ s = subst (λ (n : Next). Advances code entries subject c.run.self.room n s t) c.in-Asks.is c.in_ok-advance.ensures.advance in
    record {
      placed = c.in_ok-advance.ensures.placed;
      counted = subst (λ (s : State). Halting code entries subject room g.steps s) (sym same) c.run.invariant.counted;
      halts = λ r from. subst (λ (s : State). HaltsWith code entries subject room s r) (sym same) (c.run.invariant.halts r from);
      held = c.in_ok-advance.ensures.held;
      roomy = subst (λ room. Roomy room c.advance.new.self) c.run.invariant.roomy.room_is c.advance.ensures.roomy;
      remembered = c.run.invariant.remembered;
      knows = c.in_ok-quiet-in-Asks.ensures.knows;
      spare = c.in_ok-quiet-in-Asks.ensures.spare;
    }

pub unreachable-requires : goal.unreachable-requires
unreachable-requires g c =
    let code = c.args.program.now.code.now in
    let entries = c.args.program.now.entries.now in
    let subject = subject_of c.args.program.now.record in
    let room = c.args.self.now.room in
    let s = shown c.run.self in
    let none : slice_get code s.at_ ≡ None = sym c.in_default.ensures.op in
    let counted = c.run.invariant.counted in
    never-past code entries subject room s counted.0 none counted.1 {A = ⊥}
