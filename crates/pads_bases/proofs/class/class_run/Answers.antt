use Rattle.std.proofs.Common.{arith, rules, sym, ◌∙◌}
use Rattle.pads_code.specs.CodePage.{point}
use Rattle.pads_code.proofs.RunLemmas.{run_ends, run_is_all}
use Rattle.pads_bases.specs.Classes.{has_point}
use Rattle.pads_bases.proofs.class.class_run.Goals as goal

pub returns-then-not-has_point-clause-run : goal.returns-then-not-has_point-clause-run
returns-then-not-has_point-clause-run c =
    run_ends (point c.args.coding) (has_point c.args.class.now) c.args.bytes.now c.loop-place.place c.loop-place.invariant (omega arith)
    (rw c.decode.ensures.code_page at (sym c.has_point.ensures.has ∙ c.if-not-has_point.true))

pub returns-clause-run : goal.returns-clause-run
returns-clause-run c = run_is_all (point c.args.coding) (has_point c.args.class.now) c.args.bytes.now _ (search rules) (search rules)
