use Rattle.std.proofs.Common.{◌≤◌, ◌∙◌, ap, length, map, Bor}
use Rattle.std.proofs.lemmas.List.{length-map}
use Rattle.pads_ast.specs.declared.name.Name.{Name}
use Rattle.pads_rules.specs.declared.rule.Rule.TheVariants as rule
use Rattle.pads_rules.specs.DeclRules.{same_name}
use Rattle.pads_rules.specs.Faults.{breaks}
use Rattle.pads_rules.specs.DifferentNames.{with_name}
use Rattle.pads_rules.specs.Texts.{is_among}
use Rattle.pads_violations.specs.Repeats.{names_again_told}
use Rattle.pads_piece_rules.proofs.Steps.{none-lesser, again-step, again-end}
use Rattle.pads_piece_rules.proofs.MetNames.{has-more}
use Rattle.pads_violations.proofs.repeats.names_again.Goals as goal

pub loop-name-init : goal.loop-name-init
loop-name-init c = record { told = none-lesser _; met = λ t. ap (λ names. is_among names t) c.new-met.ensures.empty }

pub loop-name-preserved : goal.loop-name-preserved
loop-name-preserved c = record {
  told =
      rw (c.lesser-best.ensures.least, c.fault_if.ensures.least, c.in_ok-again.ensures.again, c.as_slice.ensures.items, c.loop-name.invariant.met)
      (again-step same_name (λ name. breaks rule.NameAgain name.at) (λ (name : Bor Name). name.now) c.args.names.now c.loop-name.name-index c.name-item.result c.loop-name.best
      c.loop-name-test.true c.name-item.is ∙ c.loop-name.invariant.told);
  met = has-more (λ (name : Bor Name). name.now.text) _ _ c.args.names.now c.loop-name.name-index c.name-item.result c.loop-name-test.true c.name-item.is (c.in_ok-again.ensures.ok ∙ ap (with_name c.loop-name.met) c.as_slice.ensures.items) c.loop-name.invariant.met;
}

pub returns : goal.returns
unfolding names_again_told
returns c =
    let over : length (map (λ (name : Bor Name). name.now) c.args.names.now) ≤ c.loop-name.name-index = rw (length-map c.args.names.now (λ (name : Bor Name). name.now)) c.loop-name-test.false in
    record { told = again-end same_name (λ name. breaks rule.NameAgain name.at) (map (λ (name : Bor Name). name.now) c.args.names.now) c.loop-name.name-index c.loop-name.best _ over c.loop-name.invariant.told }
