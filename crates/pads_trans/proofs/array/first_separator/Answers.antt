use Rattle.pads_trans.specs.Terms.{separator}
use Rattle.pads_trans.proofs.Firsts.{first-here, first-later, first-ends}
use Rattle.pads_trans.proofs.array.first_separator.Goals as goal

pub returns-in-Some : goal.returns-in-Some
returns-in-Some c = record {
  first = first-here separator c.args.options.now c.loop-option.option-index c.option-item.result c.in-Some.points.now
      c.loop-option.invariant c.loop-option-test.true c.option-item.is c.in-Some.ensures.separator;
}

pub loop-option-preserved : goal.loop-option-preserved
loop-option-preserved c =
    first-later separator c.args.options.now c.loop-option.option-index c.option-item.result
    c.loop-option.invariant c.loop-option-test.true c.option-item.is c.in_default.ensures.separator

pub returns : goal.returns
returns c = record {
  first = first-ends separator c.args.options.now c.loop-option.option-index c.loop-option.invariant c.loop-option-test.false;
}
