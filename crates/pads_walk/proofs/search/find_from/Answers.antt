use Rattle.std.proofs.Common.{◌∙◌, sym, ap}
use Rattle.pads_calc.specs.Readings.{is_ok}
use Rattle.pads_steps.specs.Records.{subject_of}
use Rattle.pads_calc.proofs.Scans.{scan-here}
use Rattle.pads_walk.specs.Literals.{literal_reader}
use Rattle.pads_walk.proofs.search.find_from.Goals as goal

pub returns-then-is_ok-clause-found : goal.returns-then-is_ok-clause-found
returns-then-is_ok-clause-found c env =
    let from = c.args.from.now in
    let ok = ap is_ok (sym c.literal-here.ensures.literal) ∙ sym c.is_ok.ensures.ok ∙ c.if-is_ok.true in
    c.literal-here.ensures.literal ∙ sym (scan-here (subject_of from) (literal_reader from c.args.literal.now) env c.args.place ok)
