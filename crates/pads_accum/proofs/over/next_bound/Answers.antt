use Rattle.std.proofs.Common.{◌∙◌, sym, ap, ◌+◌, map}
use Rattle.std.proofs.lemmas.List.{length-map}
use Rattle.pads_accum.specs.Feeding.{fits_from}
use Rattle.pads_accum.specs.Walks.{found_seen}
use Rattle.pads_accum.proofs.Fitting.{fits_grown, fits_none}
use Rattle.pads_accum.proofs.over.next_bound.Goals as goal

pub returns-then-more-bound-clause-fits : goal.returns-then-more-bound-clause-fits
returns-then-more-bound-clause-fits c =
    let placed = map found_seen c.args.nodes.now in
    ap (λ n. fits_from (c.args.bound + n) 0 c.args.sums.now placed) (sym (length-map c.args.nodes.now found_seen))
    ∙ fits_grown c.args.bound placed 0 c.args.sums.now c.requires.within

pub returns-in-None-clause-fits : goal.returns-in-None-clause-fits
returns-in-None-clause-fits c = fits_none c.args.before 0 c.args.sums.now (map found_seen c.args.nodes.now) (sym c.in-None.ensures.over)
