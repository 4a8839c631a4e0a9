-- The plan of guides; for private clauses.
use Rattle.pads_plan.specs.declared.part.PlanList.{PlanList}
use Rattle.pads_accum.specs.declared.guide.Guide.{Guide}

abbrev pub plan_of : Guide → PlanList
plan_of guide = guide.plan
