use Rattle.law_canonical.proofs.FittingRows.{unit-fits, end-fits, scan-fits, absorb-fits, struct-fits, call-fits, switch-fits, compute-fits, constraint, no_literal, too_many, terminator_kept, other_branch}
use Rattle.law_canonical.proofs.rows.values_fit_by_the_rules.Goals as goal

pub returns : goal.returns
returns c = record { unit = unit-fits; end = end-fits; scan = scan-fits; absorb = absorb-fits; struct_ = struct-fits; call = call-fits; switch = switch-fits; compute = compute-fits; constraint = constraint; no_literal = no_literal; too_many = too_many; terminator = terminator_kept; other_branch = other_branch }
