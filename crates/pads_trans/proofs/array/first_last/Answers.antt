use Rattle.pads_trans.specs.Terms.{last}
use Rattle.pads_trans.proofs.Firsts.{first-here, first-later, first-ends}
use Rattle.pads_trans.proofs.array.first_last.Goals as goal

pub returns-in-Some : goal.returns-in-Some
returns-in-Some c = record {
  first = first-here last c.args.options.now c.loop-option.option-index c.option-item.result c.in-Some.condition.now
      c.loop-option.invariant c.loop-option-test.true c.option-item.is c.in-Some.ensures.last;
}

pub loop-option-preserved : goal.loop-option-preserved
loop-option-preserved c =
    first-later last c.args.options.now c.loop-option.option-index c.option-item.result
    c.loop-option.invariant c.loop-option-test.true c.option-item.is c.in_default.ensures.last

pub returns : goal.returns
returns c = record {
  first = first-ends last c.args.options.now c.loop-option.option-index c.loop-option.invariant c.loop-option-test.false;
}
