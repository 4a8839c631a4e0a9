use Rattle.std.proofs.Common.{◌≡◌, ◌∙◌, sym, ap, subst, arith, ◌+◌, ◌-◌, ◌≤◌, length}
use Rattle.std.proofs.lemmas.List.{length-reverse}
use Rattle.pads_calc.specs.declared.reading.Reading.{Reading}
use Rattle.pads_steps.specs.Records.{subject_of}
use Rattle.pads_image.specs.States as states
use Rattle.pads_image.specs.Steps.{close_step, return_step}
use Rattle.pads_machine.specs.Ran.{GoesWithin}
use Rattle.pads_machine.specs.Shown.{shown}
use Rattle.pads_machine.proofs.Dooming.{close-within, closes-here, doom-of, ended, goes-same, leads-here, return-within, returns-here, shut, told-goes, told-of}
use Rattle.pads_machine.proofs.Tops.{mark-placed, placed-same}
use Rattle.pads_machine.proofs.state.State.pass_struct.Goals as goal

pub close-requires-clause-within : goal.close-requires-clause-within
close-requires-clause-within c =
    let m = c.args.self.now in
    let s = shown m in
    let program = c.args.program.now in
    let code = program.code.now in
    let es = program.entries.now in
    let subject = subject_of program.record in
    let doomed = c.requires.doomed in
    let named = doomed.names_are in
    let d = doom-of m code es subject c.args.doomed c.mark-place.result c.requires.halts.1.0 doomed c.requires.held c.requires.placed c.mark-place.ensures.mark c.requires.halts.1.1 in
    let t = told-of c.requires.code.0 code es subject m.room s c.requires.code.1 d in
    let names : c.args.doomed.names ≡ length s.bindings - doomed.node.base = omega (arith, named, length-reverse m.bindings.items) in
    subst (λ k. GoesWithin m.room (close_step subject.origin k s s.nodes)) (sym names) (close-within code es subject m.room s d t)

pub end-requires-clause-within : goal.end-requires-clause-within
end-requires-clause-within c =
    let m = c.args.self.now in
    let s = shown m in
    let program = c.args.program.now in
    let code = program.code.now in
    let es = program.entries.now in
    let subject = subject_of program.record in
    let doomed = c.requires.doomed in
    let named = doomed.names_are in
    let d = doom-of m code es subject c.args.doomed c.mark-place.result c.requires.halts.1.0 doomed c.requires.held c.requires.placed c.mark-place.ensures.mark c.requires.halts.1.1 in
    let t = told-of c.requires.code.0 code es subject m.room s c.requires.code.1 d in
    let names : c.args.doomed.names ≡ length s.bindings - doomed.node.base = omega (arith, named, length-reverse m.bindings.items) in
    let k = shown c.close.new.self in
    let k_is = goes-same k (shut code es subject m.room s d t) (sym c.close.ensures.close ∙ (ap (λ k. close_step subject.origin k s s.nodes) names ∙ closes-here code es subject m.room s d t)) in
    subst (λ room. GoesWithin room (return_step k k.callers)) (sym c.close.ensures.roomy.room_is)
    (subst (λ (x : states.State). GoesWithin m.room (return_step x x.callers)) (sym k_is) (return-within code es subject m.room s d t))

pub leaf-requires-clause-begin : goal.leaf-requires-clause-begin
leaf-requires-clause-begin c =
    let m = c.args.self.now in
    let here = (mark-placed m (length c.args.program.now.record.bytes.now) c.mark-place.result c.requires.placed c.mark-place.ensures.mark).0 in
    omega (arith, here)

pub leaf-requires-clause-place : goal.leaf-requires-clause-place
leaf-requires-clause-place c =
    let m = c.args.self.now in
    let here = (mark-placed m (length c.args.program.now.record.bytes.now) c.mark-place.result c.requires.placed c.mark-place.ensures.mark).0 in
    omega (arith, here)

pub returns-clause-leads : goal.returns-clause-leads
returns-clause-leads c =
    let m = c.args.self.now in
    let s = shown m in
    let program = c.args.program.now in
    let code = program.code.now in
    let es = program.entries.now in
    let subject = subject_of program.record in
    let doomed = c.requires.doomed in
    let named = doomed.names_are in
    let d = doom-of m code es subject c.args.doomed c.mark-place.result c.requires.halts.1.0 doomed c.requires.held c.requires.placed c.mark-place.ensures.mark c.requires.halts.1.1 in
    let t = told-of c.requires.code.0 code es subject m.room s c.requires.code.1 d in
    let names : c.args.doomed.names ≡ length s.bindings - doomed.node.base = omega (arith, named, length-reverse m.bindings.items) in
    let k = shown c.close.new.self in
    let k_is = goes-same k (shut code es subject m.room s d t) (sym c.close.ensures.close ∙ (ap (λ k. close_step subject.origin k s s.nodes) names ∙ closes-here code es subject m.room s d t)) in
    let e = shown c.end.new.self in
    let u = ended code es subject m.room s d t in
    let e_is = told-goes c.end.result (return_step k k.callers) k e u c.end.ensures.end (ap (λ (x : states.State). return_step x x.callers) k_is ∙ returns-here code es subject m.room s d t) in
    leads-here code es subject m.room s d t (record e { at_ = c.args.doomed.end + 1; last = c.leaf.result })
    (ap (λ (x : states.State). record x { at_ = c.args.doomed.end + 1; last = c.leaf.result }) e_is ∙ ap (λ (r : Reading). record u { at_ = c.args.doomed.end + 1; last = r }) c.leaf.ensures.leaf)

pub returns-clause-placed : goal.returns-clause-placed
returns-clause-placed c =
    let m = c.args.self.now in
    let most = length c.args.program.now.record.bytes.now in
    let here = (mark-placed m most c.mark-place.result c.requires.placed c.mark-place.ensures.mark).0 in
    let there = c.end.ensures.placed most (placed-same m c.close.new.self c.close.ensures.place c.close.ensures.marks most c.requires.placed) in
    record {
      last = subst (λ (r : Reading). r.place ≤ most) (sym c.leaf.ensures.leaf) here;
      marks = there.marks;
    }
