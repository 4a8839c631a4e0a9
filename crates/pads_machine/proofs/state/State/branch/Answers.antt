use Rattle.std.proofs.Common.{◌≡◌, ◌∙◌, ap, sym, subst, arith, ◌≤◌, false, Bool, if◌then◌else◌, List, length, map, drop, reverse}
use Rattle.pads_calc.specs.declared.reading.Reading.{Reading}
use Rattle.pads_calc.specs.Choices.{branch_of}
use Rattle.pads_calc.specs.Leaves.{unit_of}
use Rattle.pads_calc.specs.Readings.{is_ok}
use Rattle.pads_image.specs.States as states
use Rattle.pads_image.specs.Steps.{Goes, reads, try_step}
use Rattle.pads_machine.specs.Shown.{mark_shown, shown}
use Rattle.pads_machine.proofs.Tops.{mark-placed, marks-are}
use Rattle.pads_machine.proofs.state.State.branch.Goals as goal

pub returns-then-not-is_ok-clause-branch : goal.returns-then-not-is_ok-clause-branch
returns-then-not-is_ok-clause-branch c =
    let m = c.args.self.now in
    let s = shown m in
    let mark = c.mark-mark.result in
    let bad : is_ok m.last ≡ false = sym c.if-not-is_ok.ensures.ok in
    ap (λ (marks : List states.Mark). try_step c.args.from.now.origin c.args.number c.args.to s marks) (marks-are m mark c.mark-mark.ensures.mark)
    ∙ ap (λ (b : Bool).
    if b then Goes (record s { at_ = c.args.to; last = branch_of c.args.from.now.origin c.args.number m.last mark.place; marks = map mark_shown (drop 1 (reverse m.marks.items)) })
    else reads (unit_of c.args.from.now.origin mark.place) s) bad
    ∙ ap (λ (r : Reading). reads r s) (sym c.leaf.ensures.leaf)

pub leaf-requires-clause-begin : goal.leaf-requires-clause-begin
leaf-requires-clause-begin c =
    let here = (mark-placed c.args.self.now (length c.args.from.now.bytes.now) c.mark-mark.result c.requires.placed c.mark-mark.ensures.mark).0 in
    omega (arith, here)

pub leaf-requires-clause-place : goal.leaf-requires-clause-place
leaf-requires-clause-place c =
    let here = (mark-placed c.args.self.now (length c.args.from.now.bytes.now) c.mark-mark.result c.requires.placed c.mark-mark.ensures.mark).0 in
    omega (arith, here)

pub returns-then-not-is_ok-clause-placed : goal.returns-then-not-is_ok-clause-placed
returns-then-not-is_ok-clause-placed c =
    let here = (mark-placed c.args.self.now (length c.args.from.now.bytes.now) c.mark-mark.result c.requires.placed c.mark-mark.ensures.mark).0 in
    record {
      last = subst (λ (r : Reading). r.place ≤ length c.args.from.now.bytes.now) (sym c.leaf.ensures.leaf) here;
      marks = c.requires.placed.marks;
    }
