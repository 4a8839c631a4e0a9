use Rattle.std.proofs.Common.{◌∙◌}
use Rattle.pads_piece_rules.proofs.Steps.{none-lesser}
use Rattle.pads_violations.proofs.DescriptionLaws.{told-first, told-step, told-end, names-none}
use Rattle.pads_violations.proofs.description.in_decls.Goals as goal

pub loop-number-init : goal.loop-number-init
loop-number-init c = record {
  told = none-lesser _ ∙ told-first c.args.decls.now;
  names = c.new-names.ensures.empty ∙ names-none c.args.decls.now;
}

pub loop-number-preserved : goal.loop-number-preserved
loop-number-preserved c = record {
  told =
      rw (c.lesser-best.ensures.least, c.in_ok-at_site.ensures.told, c.in_ok-types.ensures.declared)
      (told-step c.args.decls.now c.loop-number.number c.index-decls-number.result c.loop-number.best c.loop-number-test.true c.index-decls-number.is ∙ c.loop-number.invariant.told);
  names = c.in_ok-at_site.ensures.met;
}

pub returns : goal.returns
returns c = record { told = told-end c.args.decls.now c.loop-number.number c.loop-number.best c.loop-number-test.false c.loop-number.invariant.told }
