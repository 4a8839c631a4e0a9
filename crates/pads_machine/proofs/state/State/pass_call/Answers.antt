use Rattle.std.proofs.Common.{◌≡◌, ◌∙◌, ap, sym, subst, arith, ◌+◌, ◌≤◌, false, length, drop, map, reverse}
use Rattle.std.proofs.lemmas.List.{length-reverse}
use Rattle.pads_calc.specs.declared.reading.Reading.{Reading}
use Rattle.pads_calc.specs.Readings.{is_ok}
use Rattle.pads_steps.specs.Records.{subject_of}
use Rattle.pads_image.specs.States.{seen}
use Rattle.law_images.proofs.Called.{behind_call, called, largest, runs-by}
use Rattle.pads_machine.specs.declared.known.Outcome.{Outcome}
use Rattle.pads_machine.specs.Known.{behind_constraint, reading_of}
use Rattle.pads_machine.specs.Ran.{Leads}
use Rattle.pads_machine.specs.Shown.{mark_shown, shown}
use Rattle.pads_machine.proofs.Branches.{floor-held, left-at-once, rests}
use Rattle.pads_idle.proofs.Walking.{join}
use Rattle.pads_machine.proofs.Calling.{call-is}
use Rattle.pads_machine.proofs.Fitting.{walked}
use Rattle.pads_machine.proofs.Tops.{mark-placed, marks-are}
use Rattle.pads_machine.proofs.state.State.pass_call.Goals as goal

pub leaf-requires-clause-begin : goal.leaf-requires-clause-begin
leaf-requires-clause-begin c =
    let m = c.args.self.now in
    let here = (mark-placed m (length c.args.program.now.record.bytes.now) c.mark-place.result c.requires.placed c.mark-place.ensures.mark).0 in
    omega (arith, here)

pub leaf-requires-clause-place : goal.leaf-requires-clause-place
leaf-requires-clause-place c =
    let m = c.args.self.now in
    let here = (mark-placed m (length c.args.program.now.record.bytes.now) c.mark-place.result c.requires.placed c.mark-place.ensures.mark).0 in
    omega (arith, here)

pub returns-clause-leads : goal.returns-clause-leads
returns-clause-leads c =
    let m = c.args.self.now in
    let s = shown m in
    let program = c.args.program.now in
    let code = program.code.now in
    let entries = program.entries.now in
    let subject = subject_of program.record in
    let mark = c.mark-place.result in
    let call = c.args.call.now in
    let decls = c.requires.code.0 in
    let here = c.requires.branch.call_is in
    let halts = c.requires.halts in
    let sized : length s.bindings ≡ length m.bindings.items = length-reverse m.bindings.items in
    let q = called decls subject call.number here.args s in
    let r = behind_constraint code call.constraint q in
    let same : q ≡ reading_of decls subject call = call-is decls subject call here.args (seen s) s.depth s.last.place here.depth here.place here.worth in
    let bad : is_ok r ≡ false =
    ap (λ (q : Reading). is_ok (behind_constraint code call.constraint q)) same ∙ sym (ap (λ (o : Outcome). o.clean) (c.requires.outcome decls c.requires.code.1)) ∙ c.requires.unclean in
    let e = behind_call decls subject call.number here.args s in
    let run = runs-by decls subject call.number here.args s code entries c.requires.code.1 here.there
    (omega (arith, sized, here.sane)) (floor-held m c.requires.held) c.requires.placed.last in
    let walk =
    join code entries subject s e (record s { at_ = c.args.end; last = r }) (walked code entries subject (largest decls subject call.number here.args s) s e run)
    (rests code entries subject m q (m.address + 1) c.args.end call.constraint c.requires.branch.rest) in
    let led = left-at-once code entries subject m.room s (mark_shown mark) (map mark_shown (drop 1 (reverse m.marks.items))) (marks-are m mark c.mark-place.ensures.mark)
    c.args.end c.requires.end.tries halts.1.0 r bad walk halts.1.1 in
    subst (λ (x : Reading). Leads code entries subject m.room s (record s { at_ = c.args.end + 1; last = x })) (sym c.leaf.ensures.leaf) led

pub returns-clause-placed : goal.returns-clause-placed
returns-clause-placed c =
    let m = c.args.self.now in
    let here = (mark-placed m (length c.args.program.now.record.bytes.now) c.mark-place.result c.requires.placed c.mark-place.ensures.mark).0 in
    record {
      last = subst (λ (r : Reading). r.place ≤ length c.args.program.now.record.bytes.now) (sym c.leaf.ensures.leaf) here;
      marks = c.requires.placed.marks;
    }
