use Rattle.law_canonical.proofs.CanonicalRows.{unit-row, no-unit-row, end-row, scan-row, struct-row, short-row, missing-row, range-row, array-row, empty-row, no-array-row, branch-row, no-branch-row, switch-row, other-case-row, no-case-row, compute-row, computed-range-row, constraint-row, forgotten-row, call-row, too-deep-row, record-type-row, undeclared-row}
use Rattle.law_canonical.proofs.rows.canonical_bytes_by_the_rules.Goals as goal

pub returns : goal.returns
returns c = record {
  unit = unit-row;
  no_unit = no-unit-row;
  end = end-row;
  scan = scan-row;
  struct_ = struct-row;
  short = short-row;
  missing = missing-row;
  out_of_range = range-row;
  array = array-row;
  empty_array = empty-row;
  no_array = no-array-row;
  branch = branch-row;
  no_branch = no-branch-row;
  switch = switch-row;
  other_case = other-case-row;
  no_case = no-case-row;
  compute = compute-row;
  computed_out_of_range = computed-range-row;
  constraint = constraint-row;
  forgotten = forgotten-row;
  call = call-row;
  too_deep = too-deep-row;
  record_type = record-type-row;
  undeclared = undeclared-row;
}
