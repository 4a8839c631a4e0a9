use Rattle.std.proofs.Common.{subst}
use Rattle.pads_declared.specs.Numbered.{is_text, NumbersThing}
use Rattle.pads_declared.proofs.NumberLemmas.{numbered-step}
use Rattle.pads_declared.proofs.member_numbers.number_labels.Goals as goal

pub loop-number-preserved : goal.loop-number-preserved
loop-number-preserved c =
    numbered-step is_text c.args.labels.now c.loop-number.number c.index-labels-number.result c.loop-number.numbers c.add.new.self
    c.loop-number-test.true c.index-labels-number.is c.loop-number.invariant (subst (λ text. NumbersThing is_text c.loop-number.numbers text c.loop-number.number c.add.new.self) c.as_slice.ensures.items c.in_ok-add.ensures.numbered)
