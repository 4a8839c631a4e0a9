use Rattle.std.proofs.Common.{◌∙◌, sym, ap, [], None, length, arith}
use Rattle.std.proofs.lemmas.List.{length-map}
use Rattle.pads_accum.specs.Feeding.{lists_within}
use Rattle.pads_accum.specs.Guides.{plan_of}
use Rattle.pads_accum.proofs.EmptyLaws.{zero_within}
use Rattle.pads_accum.proofs.FewLists.{length_summed}
use Rattle.pads_accum.proofs.sums.Sums.new.Goals as goal

pub invariant_of-result : goal.invariant_of-result
invariant_of-result c =
    let few = c.requires.few in
    let guided = sym (length-map c.in_ok-guides.guides plan_of) ∙ ap length c.in_ok-guides.ensures.plan in
    let listed = ap length (c.in_ok-lists.ensures.none None) ∙ length_summed None c.as_slice.result.now [] ∙ ap length c.as_slice.ensures.items in
    record {
      few = omega (arith, few, guided);
      few_lists = λ unspent. omega (arith, few, listed);
      small = omega arith;
      within = λ unspent. ap (lists_within 0) (c.in_ok-lists.ensures.none None) ∙ zero_within None c.as_slice.result.now;
    }
