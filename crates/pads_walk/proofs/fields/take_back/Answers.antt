use Rattle.std.proofs.Common.{◌≡◌, ◌∙◌, ◌-◌, suc, arith}
use Rattle.pads_walk.specs.Fields.{values_of}
use Rattle.pads_walk.proofs.TakenBack.{stage-start, stage-next}
use Rattle.pads_walk.proofs.fields.take_back.Goals as goal

pub back-init : goal.back-init
back-init c = record {
  count = c.requires;
  within = omega arith;
  stage = λ done outer are. stage-start done outer c.args.parts.now c.args.values.now.items c.args.env.now.pairs are;
}

pub back-preserved : goal.back-preserved
back-preserved c =
    let one : c.back.at ≡ suc (c.back.at - 1) = omega (arith, c.back-test.true) in
    record {
      count = c.put_back.ensures.len ∙ c.back.invariant.count;
      within = omega (arith, c.back.invariant.within);
      stage = λ done outer are. stage-next (values_of done) outer c.back.at (c.back.at - 1) c.index-parts-at.result c.args.parts.now c.back.values.items c.put_back.new.values.items c.back.env.pairs c.put_back.new.env.pairs
          one (c.back.invariant.stage done outer are) c.index-parts-at.is c.put_back.ensures.back;
    }
