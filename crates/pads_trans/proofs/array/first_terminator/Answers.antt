use Rattle.pads_trans.specs.Terms.{terminator}
use Rattle.pads_trans.proofs.Firsts.{first-here, first-later, first-ends}
use Rattle.pads_trans.proofs.array.first_terminator.Goals as goal

pub returns-in-Some : goal.returns-in-Some
returns-in-Some c = record {
  first = first-here terminator c.args.options.now c.loop-option.option-index c.option-item.result c.in-Some.literal.now
      c.loop-option.invariant c.loop-option-test.true c.option-item.is c.in-Some.ensures.terminator;
}

pub loop-option-preserved : goal.loop-option-preserved
loop-option-preserved c =
    first-later terminator c.args.options.now c.loop-option.option-index c.option-item.result
    c.loop-option.invariant c.loop-option-test.true c.option-item.is c.in_default.ensures.terminator

pub returns : goal.returns
returns c = record {
  first = first-ends terminator c.args.options.now c.loop-option.option-index c.loop-option.invariant c.loop-option-test.false;
}
