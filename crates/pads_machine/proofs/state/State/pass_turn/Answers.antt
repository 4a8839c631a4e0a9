use Rattle.std.proofs.Common.{◌≡◌, ◌∙◌, ap, sym, subst, arith, ℕ, ◌≤◌, inl, inr, false, nat_eq, List, length}
use Rattle.std.proofs.lemmas.Bool.{ne_eqb}
use Rattle.std.proofs.lemmas.List.{length-reverse}
use Rattle.pads_steps.specs.Records.{subject_of}
use Rattle.pads_calc.specs.declared.decl.Decl.{Decl}
use Rattle.pads_calc.specs.Readings.{Subject}
use Rattle.pads_image.specs.declared.entry.Entry.{Entry}
use Rattle.pads_image.specs.declared.op.Op.{Op}
use Rattle.pads_image.specs.declared.op.Op.TheVariants as op
use Rattle.pads_image.specs.Code.{IsCodeOf}
use Rattle.pads_image.specs.States as states
use Rattle.pads_image.specs.Steps.{Step, does}
use Rattle.pads_machine.specs.declared.state.State.{State}
use Rattle.pads_machine.specs.Ran.{GoesWithin, Tells}
use Rattle.pads_machine.specs.Shown.{shown}
use Rattle.pads_machine.proofs.Fitting.{room-there}
use Rattle.pads_machine.proofs.Passing.{asks-nothing}
use Rattle.pads_machine.specs.Stalled.{TakesNone}
use Rattle.pads_machine.proofs.Undone.{Element, idle-element, known-element, shut-within, stall-advances}
use Rattle.pads_machine.proofs.Tops.{below_top, nodes-are, nodes-first, top_shown}
use Rattle.pads_machine.proofs.state.State.pass_turn.Goals as goal

-- the element takes no byte, whether the code shows it or it is known
taken : (code : List Op) (of_entries : List Entry) (subject : Subject) (most : ℕ) (m : State) (n : states.Node) (nodes : List states.Node) (behind : ℕ) (decls : List Decl)
    → IsCodeOf decls code of_entries → n.base ≤ length (shown m).bindings → m.last.place ≤ length subject.bytes → TakesNone code of_entries subject behind m
    → Element code of_entries subject most (shown m) n nodes behind
taken code of_entries subject most m n nodes behind decls is alone within (inl idles) = idle-element code of_entries subject most (shown m) n nodes behind alone idles
taken code of_entries subject most m n nodes behind decls is alone within (inr known) =
    let next = known.0.2 in
    subst (λ (behind : ℕ). Element code of_entries subject most (shown m) n nodes behind) (sym known.1)
    (known-element code of_entries subject most (shown m) n nodes decls is known.0.0 next.args known.0.1 next.there next.worth next.depth next.place
    (omega (arith, next.sane, length-reverse m.bindings.items)) alone within known.0.3 known.0.4 known.0.5)

pub step-requires-clause-within : goal.step-requires-clause-within
step-requires-clause-within c =
    let m = c.args.self.now in
    let s = shown m in
    let program = c.args.program.now in
    let entries = program.entries.now in
    let subject = subject_of program.record in
    let n = c.requires.stalled.standing.node in
    let nodes_are = nodes-are m n c.requires.stalled.standing.latest in
    let alone : n.base ≡ length s.bindings = omega (arith, c.requires.stalled.standing.alone, length-reverse m.bindings.items) in
    let fits = room-there program.code.now entries subject m.room s c.requires.halts.1.0 c.requires.halts.1.1 in
    let within = shut-within program.record.origin c.args.to m.last.place m.room s (top_shown m n) (below_top m n) nodes_are alone fits in
    let is = c.in-Some.ensures.op ∙ c.requires.stalled.shut in
    let same : c.in-Some.shut.now ≡ op.Shut = cc in
    let here = subst (λ (t : states.State). GoesWithin m.room (does entries subject op.Shut t)) (sym c.undo.ensures.undo) within in
    let there = subst (λ (o : Op). GoesWithin m.room (does entries subject o (shown c.undo.new.self))) (sym same) here in
    subst (λ room. GoesWithin room (does entries subject c.in-Some.shut.now (shown c.undo.new.self))) (sym c.undo.ensures.roomy.room_is) there

pub returns-clause-advance : goal.returns-clause-advance
returns-clause-advance c =
    let m = c.args.self.now in
    let s = shown m in
    let program = c.args.program.now in
    let code = program.code.now in
    let entries = program.entries.now in
    let subject = subject_of program.record in
    let stalled = c.requires.stalled in
    let n = stalled.standing.node in
    let nodes_are = nodes-are m n stalled.standing.latest in
    let first : nat_eq (length n.values.items) 0 ≡ false = ne_eqb (length n.values.items) 0 (λ none. absurd (omega (arith, none, stalled.standing.later))) in
    let alone : n.base ≡ length s.bindings = omega (arith, stalled.standing.alone, length-reverse m.bindings.items) in
    let above : n.base ≤ length s.bindings = omega (arith, alone) in
    let is = c.in-Some.ensures.op ∙ stalled.shut in
    let same : c.in-Some.shut.now ≡ op.Shut = cc in
    let next = c.in_ok-next.next in
    let u = shown c.step.new.self in
    let k = shown c.undo.new.self in
    let done = ap (λ (o : Op). does entries subject o k) same ∙ ap (λ (t : states.State). does entries subject op.Shut t) c.undo.ensures.undo in
    let told = subst (λ (made : Step). Tells next made k u) done c.in_ok-next.ensures.step in
    let element = taken code entries subject m.room m (top_shown m n) (below_top m n) stalled.behind c.requires.code.0 c.requires.code.1 above c.requires.placed.last stalled.element in
    stall-advances code entries subject m.room s (top_shown m n) (below_top m n) nodes_are (nodes-first m n false first)
    c.requires.there.0 stalled.behind c.args.to stalled.elem.0 c.requires.there.1 element stalled.elem.1 stalled.shut
    next k u c.requires.halts.1.0 told alone c.requires.halts.1.1

pub returns-clause-asks : goal.returns-clause-asks
returns-clause-asks c = asks-nothing c.in_ok-next.next _ _ _ c.in_ok-next.ensures.step
