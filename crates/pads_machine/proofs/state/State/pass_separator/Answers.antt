use Rattle.std.proofs.Common.{◌≡◌, ◌∙◌, ap, refl, sym, subst, arith, ◌+◌, false, nat_eq, List, length, map, reverse}
use Rattle.std.proofs.lemmas.Bool.{ne_eqb}
use Rattle.std.proofs.lemmas.List.{length-map, length-reverse}
use Rattle.pads_steps.specs.Records.{subject_of}
use Rattle.pads_machine.specs.declared.node.Mark.{Mark}
use Rattle.pads_machine.specs.Ran.{Leads}
use Rattle.pads_machine.specs.Shown.{mark_shown, shown}
use Rattle.pads_machine.proofs.Continuing.{separator-leads, separator-room}
use Rattle.pads_machine.proofs.Homes.{reverse-push}
use Rattle.pads_machine.proofs.Tops.{below_top, nodes-are, nodes-first, nodes-full, top_shown}
use Rattle.pads_machine.proofs.state.State.pass_separator.Goals as goal

pub push_reserved-requires : goal.push_reserved-requires
push_reserved-requires c =
    let m = c.args.self.now in
    let program = c.args.program.now in
    let more = c.requires.more in
    let n = more.node in
    let there = c.requires.there in
    let first : nat_eq (length n.values.items) 0 ≡ false = ne_eqb (length n.values.items) 0 (λ none. absurd (omega (arith, none, more.later))) in
    let room = separator-room program.code.now program.entries.now (subject_of program.record) m.room (shown m) (top_shown m n) (below_top m n) (nodes-are m n more.latest) (nodes-first m n false first)
    (nodes-full m n (length n.values.items) refl ∙ more.unfilled) more.on there.0 there.1 there.2 c.args.edge more.goes_on c.requires.halts.1.0 c.requires.halts.1.1 c.args.reading c.requires.separated in
    omega (arith, room, length-map (reverse m.marks.items) mark_shown, length-reverse m.marks.items, c.requires.roomy.marks, m.marks.ok.0)

pub returns-clause-leads : goal.returns-clause-leads
returns-clause-leads c =
    let m = c.args.self.now in
    let s = shown m in
    let program = c.args.program.now in
    let code = program.code.now in
    let entries = program.entries.now in
    let subject = subject_of program.record in
    let more = c.requires.more in
    let n = more.node in
    let first : nat_eq (length n.values.items) 0 ≡ false = ne_eqb (length n.values.items) 0 (λ none. absurd (omega (arith, none, more.later))) in
    let there = c.requires.there in
    let led = separator-leads code entries subject m.room s (top_shown m n) (below_top m n) (nodes-are m n more.latest) (nodes-first m n false first)
    (nodes-full m n (length n.values.items) refl ∙ more.unfilled) more.on there.0 there.1 there.2 c.args.edge more.goes_on c.requires.halts.1.0 c.requires.halts.1.1 c.args.reading c.requires.separated in
    subst (λ (marks : List Mark). Leads code entries subject m.room s (record s { at_ = c.args.edge + 5; last = c.args.reading; marks = map mark_shown marks }))
    (sym (ap reverse c.push_reserved.ensures.items ∙ reverse-push m.marks.items _)) led
