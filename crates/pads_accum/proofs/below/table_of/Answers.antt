use Rattle.std.proofs.Common.{◌∙◌, sym, ap, ◌&&◌, nat_eq, Some, if◌then◌else◌, arith}
use Rattle.std.specs.Option.{option_or}
use Rattle.pads_accum.specs.Routes.{is_number, number_of}
use Rattle.pads_accum.specs.Placed.{form_at}
use Rattle.pads_accum.proofs.Routing.{below_next}
use Rattle.pads_accum.proofs.below.table_of.Goals as goal

pub parts-preserved : goal.parts-preserved
parts-preserved c =
    let part = c.index-parts-i.result in
    record {
      rows = c.in_ok-note.ensures.rows;
      noted =
          λ up k.
          c.in_ok-note.ensures.noted up k
          ∙ ap (λ o. if nat_eq up part.up && is_number (number_of (form_at c.args.parts.now part.up) part.step) k then option_or o (Some c.parts.i) else o) (c.parts.invariant.noted up k)
          ∙ sym (below_next c.args.parts.now c.parts.i part (omega (arith, c.parts-test.true)) c.index-parts-i.is up k);
    }
