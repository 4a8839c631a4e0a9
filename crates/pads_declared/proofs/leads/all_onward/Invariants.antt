use Rattle.std.proofs.Common.{◌≡◌, map, take}
use Rattle.pads_declared.specs.Leads.{onward}
use Rattle.pads_declared.proofs.leads.all_onward.Given as goal

abbrev pub invariant-loop-lead : goal.invariant-loop-lead
invariant-loop-lead l = l.all ≡ map (onward l.leads) (take l.lead-index l.from)
