use Rattle.std.proofs.Common.{◌∙◌, sym, ap, subst}
use Rattle.pads_rules.specs.declared.declared.Named.{Named}
use Rattle.pads_declared.specs.Numbered.{is_text, has_text, NumbersThing}
use Rattle.pads_declared.proofs.NumberLemmas.{numbered-step}
use Rattle.pads_declared.proofs.member_numbers.number_named.Goals as goal

pub loop-number-preserved : goal.loop-number-preserved
loop-number-preserved c =
    numbered-step has_text c.args.named.now c.loop-number.number c.index-named-number.result c.loop-number.numbers c.add.new.self
    c.loop-number-test.true c.index-named-number.is c.loop-number.invariant (subst (λ text. NumbersThing is_text c.loop-number.numbers text c.loop-number.number c.add.new.self) (c.as_slice.ensures.items ∙ sym (ap (λ (one : Named). one.text) c.index-named-number.is)) c.in_ok-add.ensures.numbered)
