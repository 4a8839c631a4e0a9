use Rattle.std.proofs.Common.{◌≡◌, ◌∙◌, sym, ap, ℕ, Some, None, Result, Ok, Err, Option, map}
use Rattle.std.proofs.lemmas.List.{length-map}
use Rattle.std.proofs.lemmas.Result.{on_ok_weaker}
use Rattle.pads_value.specs.Refusals.{OnFault}
use Rattle.pads_value.specs.declared.memory.Refusal.{Refusal}
use Rattle.pads_value.specs.declared.memory.Refusal.TheVariants as refusal
use Rattle.pads_accum.specs.Guides.{plan_of}
use Rattle.pads_accum.specs.Limits.{most}
use Rattle.pads_accum.specs.Summaries.{fed}
use Rattle.pads_accum.specs.declared.limit.Limit.{Limit}
use Rattle.pads_accum.proofs.ListFeeding.{limit_at, lists_grown}
use Rattle.pads_accum.proofs.add.add_to_lists.Goals as goal

-- another way to say of which limit a fault tells
on-fault : (r : Result ℕ (Refusal Limit)) (a b : Option Limit) → a ≡ b → OnFault r (λ limit. b ≡ Some limit) → OnFault r (λ limit. a ≡ Some limit)
on-fault (Ok next) a b same h = tt
on-fault (Err (refusal.Fault limit)) a b same h = same ∙ h
on-fault (Err refusal.Memory) a b same h = tt

pub returns-in-None-clause-none : goal.returns-in-None-clause-none
returns-in-None-clause-none c =
    let plan = map plan_of c.args.guides.now in
    let within = lists_grown c.args.bound most c.requires.small c.args.lists.now c.requires.within in
    let at = c.fed-at.ensures.fed ∙ ap (λ n. fed n c.args.row.now.number) (sym (length-map c.args.guides.now plan_of)) in
    limit_at plan c.args.lists.now c.args.row.now c.fed-at.result None at c.in-None.ensures.plan within

pub returns-in-Some-clause-none : goal.returns-in-Some-clause-none
returns-in-Some-clause-none c =
    let plan = map plan_of c.args.guides.now in
    let within = lists_grown c.args.bound most c.requires.small c.args.lists.now c.requires.within in
    let at = c.fed-at.ensures.fed ∙ ap (λ n. fed n c.args.row.now.number) (sym (length-map c.args.guides.now plan_of)) in
    let limit = limit_at plan c.args.lists.now c.args.row.now c.fed-at.result (Some c.in-Some.guide.now.plan) at c.in-Some.ensures.plan within in
    on_ok_weaker c.add_in.result (λ h. limit ∙ h) c.add_in.ensures.none

pub returns-in-Some-clause-limit : goal.returns-in-Some-clause-limit
returns-in-Some-clause-limit c =
    let plan = map plan_of c.args.guides.now in
    let within = lists_grown c.args.bound most c.requires.small c.args.lists.now c.requires.within in
    let at = c.fed-at.ensures.fed ∙ ap (λ n. fed n c.args.row.now.number) (sym (length-map c.args.guides.now plan_of)) in
    let limit = limit_at plan c.args.lists.now c.args.row.now c.fed-at.result (Some c.in-Some.guide.now.plan) at c.in-Some.ensures.plan within in
    on-fault c.add_in.result _ _ limit c.add_in.ensures.limit
