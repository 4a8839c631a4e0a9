use Rattle.std.proofs.Common.{rules, ◌∙◌, ap, sym, FitsSigned}
use Rattle.pads_expr.specs.Seen.{seen}
use Rattle.std.specs.Int.{w128}
use Rattle.std.proofs.lemmas.Int.{to_z-of_z}
use Rattle.pads_expr.proofs.Bindings.{bound_in}
use Rattle.pads_expr.proofs.Conjunctions.{cut_short}
use Rattle.pads_expr.proofs.Places.{if_some_by, var_stands, part_stands, arm_stands, element_stands}
use Rattle.pads_expr.proofs.Steps.{of_operands, told-between}
use Rattle.pads_expr.specs.Worth.{truth_alone, worth_or_none}
use Rattle.pads_expr.proofs.evaluation.+evaluate.Goals as goal

pub for_all-returns-then-not-is_true : goal.for_all-returns-then-not-is_true
for_all-returns-then-not-is_true t c =
    let fits : FitsSigned w128 c.number_at-number.result = search rules in
    let fits_first : FitsSigned w128 c.in-Num-Num.first = search rules in
    let fits_last : FitsSigned w128 c.in-Num-Num.last = search rules in
    record {
      value =
          cut_short _ _ _ _ _ _ c.in-Num-Num.first c.in-Num-Num.last c.number_at-number.result _ _ _ _ _ (ap seen c.in-Num-Num.is-0) (ap seen c.in-Num-Num.is-1)
          (simp to_z-of_z at c.loop-step.invariant) (simp to_z-of_z at c.number_at-number.ensures.number) (bound_in _ _ _ fits) c.evaluate-holds.ensures.value
          c.is_true.ensures.truth c.if-not-is_true.true (simp to_z-of_z at c.in_ok-length.ensures.length) c.loop-step-test.true c.truth_alone.ensures.truth;
    }

pub binary-returns-in_ok-evaluate : goal.binary-returns-in_ok-evaluate
binary-returns-in_ok-evaluate t c = record {
  value =
      c.apply.ensures.value
      ∙ sym (told-between c.args.op _ _ _ _ c.in_ok-left.ensures.value (sym c.is_decided.ensures.decided ∙ c.if-is_decided.false) c.in_ok-evaluate.ensures.value);
}

pub holds-returns-in-Bin : goal.holds-returns-in-Bin
holds-returns-in-Bin t c = record {
  truth = c.condition.ensures.truth ∙ ap (λ a. truth_alone (worth_or_none a)) (of_operands _ _ _ _ _ _ _ c.in-Bin.is c.get.ensures.value c.get-in-Bin.ensures.value);
}

pub place-returns-in-Var : goal.place-returns-in-Var
place-returns-in-Var t c = record {
  place = if_some_by c.bound.result c.bound.ensures.bound c.bound.ensures.bound (λ _ is_found _. var_stands _ _ _ _ c.in-Var.is is_found);
}

pub place-returns-in_ok-place-in-Part : goal.place-returns-in_ok-place-in-Part
place-returns-in_ok-place-in-Part t c = record {
  place =
      if_some_by c.part_of.result c.part_of.ensures.part c.part_of.ensures.whole
      (λ _ is is_part. part_stands _ _ _ _ _ _ _ c.in-Part.is c.get.ensures.value c.in_ok-place-in-Part.ensures.place is is_part);
}

pub place-returns-in_ok-place-in-Arm : goal.place-returns-in_ok-place-in-Arm
place-returns-in_ok-place-in-Arm t c = record {
  place =
      if_some_by c.arm_of.result c.arm_of.ensures.arm c.arm_of.ensures.whole
      (λ _ is is_part. arm_stands _ _ _ _ _ _ _ c.in-Arm.is c.get-in-Arm.ensures.value c.in_ok-place-in-Arm.ensures.place is is_part);
}

pub place-returns-in_ok-evaluate-in-Elem : goal.place-returns-in_ok-evaluate-in-Elem
place-returns-in_ok-evaluate-in-Elem t c = record {
  place =
      if_some_by c.element_of.result c.element_of.ensures.element c.element_of.ensures.whole
      (λ _ is is_part. element_stands _ _ _ _ _ _ _ _ _ c.in-Elem.is c.get-in-Elem.ensures.value c.get-in-Elem-2.ensures.value
      c.in_ok-whole-in-Elem.ensures.place c.in_ok-evaluate-in-Elem.ensures.value is is_part);
}
