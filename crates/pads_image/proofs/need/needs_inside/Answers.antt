use Rattle.std.proofs.Common.{◌∙◌, sym, ap, arith, get_or, ◌<◌, length, Some}
use Rattle.std.proofs.lemmas.Bool.{leb-true}
use Rattle.pads_image.specs.Heights.{needs, needs_over}
use Rattle.pads_image.specs.Validity.{arities_of, longest}
use Rattle.pads_image.proofs.Bounded.{entries-few, needs-small}
use Rattle.pads_image.proofs.Needs.{needs-next}
use Rattle.pads_image.proofs.need.needs_inside.Goals as goal

pub loop-depth-init : goal.loop-depth-init
unfolding needs
loop-depth-init c = c.in_ok-table.ensures.needs

pub needs_over-requires-in-loop-depth-clause-deeper : goal.needs_over-requires-in-loop-depth-clause-deeper
needs_over-requires-in-loop-depth-clause-deeper c number =
    let code = c.args.code.now in
    let arities = arities_of c.args.entries.now in
    let deep : c.loop-depth.depth < 127 = omega arith in
    omega (
      arith,
      needs-small code arities (entries-few c.args.entries.now c.requires.few) (leb-true (length code) longest c.requires.short) c.loop-depth.depth deep number,
      ap (λ table. get_or table number 0) c.loop-depth.invariant,
    )

pub loop-depth-preserved : goal.loop-depth-preserved
loop-depth-preserved c =
    let code = c.args.code.now in
    let arities = arities_of c.args.entries.now in
    c.in_ok-table-2.ensures.needs ∙ ap (λ table. needs_over (Some table) code arities) c.loop-depth.invariant
    ∙ sym (needs-next code arities c.loop-depth.depth)
