use Rattle.std.proofs.Common.{◌≡◌, sym, subst, arith, ◌+◌, ◌≤◌, length, drop, map, reverse}
use Rattle.std.proofs.lemmas.List.{length-reverse}
use Rattle.pads_calc.specs.declared.reading.Reading.{Reading}
use Rattle.pads_steps.specs.Records.{subject_of}
use Rattle.pads_machine.specs.Ran.{Leads}
use Rattle.pads_machine.specs.Shown.{mark_shown, shown}
use Rattle.pads_machine.proofs.Branches.{branch-leads, floor-held}
use Rattle.pads_machine.proofs.Tops.{mark-placed, marks-are}
use Rattle.pads_machine.proofs.state.State.pass_branch.Goals as goal

pub leaf-requires-clause-begin : goal.leaf-requires-clause-begin
leaf-requires-clause-begin c =
    let m = c.args.self.now in
    let here = (mark-placed m (length c.args.program.now.record.bytes.now) c.mark-place.result c.requires.placed c.mark-place.ensures.mark).0 in
    omega (arith, here)

pub leaf-requires-clause-place : goal.leaf-requires-clause-place
leaf-requires-clause-place c =
    let m = c.args.self.now in
    let here = (mark-placed m (length c.args.program.now.record.bytes.now) c.mark-place.result c.requires.placed c.mark-place.ensures.mark).0 in
    omega (arith, here)

pub returns-clause-leads : goal.returns-clause-leads
returns-clause-leads c =
    let m = c.args.self.now in
    let s = shown m in
    let program = c.args.program.now in
    let code = program.code.now in
    let entries = program.entries.now in
    let subject = subject_of program.record in
    let mark = c.mark-place.result in
    let hopeless = c.requires.hopeless in
    let missing = hopeless.missing in
    let halts = c.requires.halts in
    let sized : length s.bindings ≡ length m.bindings.items = length-reverse m.bindings.items in
    let led = branch-leads code entries subject m.room c.requires.code.0 c.requires.code.1 s c.args.number c.requires.there.0 missing.1.0 missing.0
    (mark_shown mark) (map mark_shown (drop 1 (reverse m.marks.items))) c.args.end halts.1.0 c.requires.there.1 missing.1.1 missing.1.2 missing.2 (marks-are m mark c.mark-place.ensures.mark)
    c.requires.end (omega (arith, sized, hopeless.sane)) (floor-held m c.requires.held) c.requires.placed.last halts.1.1 in
    subst (λ (r : Reading). Leads code entries subject m.room s (record s { at_ = c.args.end + 1; last = r })) (sym c.leaf.ensures.leaf) led

pub returns-clause-placed : goal.returns-clause-placed
returns-clause-placed c =
    let m = c.args.self.now in
    let here = (mark-placed m (length c.args.program.now.record.bytes.now) c.mark-place.result c.requires.placed c.mark-place.ensures.mark).0 in
    record {
      last = subst (λ (r : Reading). r.place ≤ length c.args.program.now.record.bytes.now) (sym c.leaf.ensures.leaf) here;
      marks = c.requires.placed.marks;
    }
