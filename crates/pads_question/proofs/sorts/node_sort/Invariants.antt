use Rattle.std.proofs.Common.{◌≡◌, take}
use Rattle.std.specs.List.{fold}
use Rattle.pads_question.specs.Filters.{step_sort, record_sort}
use Rattle.pads_question.proofs.sorts.node_sort.Given as goal

abbrev pub invariant-steps : goal.invariant-steps
invariant-steps l = l.sort ≡ fold (step_sort l.env) (record_sort l.env l.record_type) (take l.step-index l.path.steps)
