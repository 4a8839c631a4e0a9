use Rattle.std.proofs.Common.{◌∙◌, sym}
use Rattle.pads_syntax_path.proofs.PathLaws.{reach_large, reach_end}
use Rattle.pads_syntax_path.proofs.whole.reach.Goals as goal

pub returns-then-is_large : goal.returns-then-is_large
returns-then-is_large c = record {
  reach = reach_large c.args.tokens.now c.in-Some.front.now c.in-Some.field-0-0.now c.index-front-at.result c.loop-at.at (sym c.as_slice.ensures.items ∙ c.in-Some.ensures.cases.0)
      c.loop-at-test.true c.index-front-at.is c.loop-at.invariant (sym c.is_large.ensures.large ∙ c.if-is_large.true);
}

pub returns : goal.returns
returns c = record {
  reach = reach_end c.args.tokens.now c.in-Some.front.now c.in-Some.field-0-0.now c.loop-at.at (sym c.as_slice.ensures.items ∙ c.in-Some.ensures.cases.0)
      c.requires.ends c.loop-at-test.false c.loop-at.invariant;
}
