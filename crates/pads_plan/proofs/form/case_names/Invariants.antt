use Rattle.std.proofs.Common.{◌≡◌, take}
use Rattle.pads_plan.specs.Pending.{case_names}
use Rattle.pads_plan.proofs.form.case_names.Given as goal

-- the names so far
abbrev pub invariant-cases : goal.invariant-cases
invariant-cases l = l.names ≡ case_names l.terms.names.now (take l.case-index l.cases)
