-- The header rule computed on small nodes.
use Rattle.std.proofs.Common.{◌≡◌, ◌-◌, ◌^◌, true, false, [], ◌∷◌, None, Some}
use Rattle.pads_value.specs.declared.cause.Cause.TheVariants as cause
use Rattle.pads_value.specs.declared.descriptor.Class.TheVariants as class
use Rattle.pads_value.specs.declared.descriptor.Span.{Span}
use Rattle.pads_value.specs.declared.descriptor.Pd.{Pd, out-Pd, roll-Pd, out-roll-Pd, fold-roll-Pd}
use Rattle.pads_value.specs.Header.{head}
use Rattle.pads_value.specs.CauseCount.{causes}

-- `x` of `300,4`: a number out of range
span : Span
span = record { begin = 0; end = 3 }

abbrev out_of_range : Pd
out_of_range = head (Some (record { cause = cause.Range; fails = false })) span []

abbrev clean : Pd
clean = head None span []

clean_is_ok : (out-Pd clean).class ≡ class.Ok
clean_is_ok = simp out-roll-Pd

clean_counts_none : (out-Pd clean).nerr ≡ 0
clean_counts_none = simp out-roll-Pd

a_fault_counts_one : (out-Pd out_of_range).nerr ≡ 1
a_fault_counts_one = simp out-roll-Pd

a_soft_fault_is_err : (out-Pd out_of_range).class ≡ class.Err
a_soft_fault_is_err = simp out-roll-Pd

-- the struct over a faulty and a clean field has the fault's count and class, and no cause of its own
abbrev pair : Pd
pair = head None span (out_of_range ∷ clean ∷ [])

a_parent_sums : (out-Pd pair).nerr ≡ 1
a_parent_sums = simp out-roll-Pd

a_parent_of_a_fault_is_err : (out-Pd pair).class ≡ class.Err
a_parent_of_a_fault_is_err = simp out-roll-Pd

a_parent_has_no_cause : (out-Pd pair).cause ≡ None
a_parent_has_no_cause = simp out-roll-Pd

-- a node that fails has class Fail whatever its kids are, and counts itself once
abbrev failed : Pd
failed = head (Some (record { cause = cause.MissingLiteral; fails = true })) span (out_of_range ∷ [])

a_failed_node : (out-Pd failed).class ≡ class.Fail
a_failed_node = simp out-roll-Pd

a_failed_node_counts_itself : (out-Pd failed).nerr ≡ 2
a_failed_node_counts_itself = simp out-roll-Pd

-- the count stands still at its end
abbrev full : Pd
full = roll-Pd (record { nerr = 2 ^ 64 - 1; class = class.Err; cause = None; span = span; kids = [] })

a_count_stands_still : (out-Pd (head (Some (record { cause = cause.Skipped; fails = false })) span (full ∷ []))).nerr ≡ 2 ^ 64 - 1
a_count_stands_still = simp out-roll-Pd

-- one node of the pair has a cause of its own
a_pair_with_one_cause : causes pair ≡ 1
a_pair_with_one_cause = simp fold-roll-Pd
