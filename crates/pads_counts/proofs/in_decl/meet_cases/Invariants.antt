use Rattle.std.proofs.Common.{◌≡◌, take, flat_map}
use Rattle.pads_ast.specs.declared.decl.Case.{Case}
use Rattle.pads_ast.specs.NameTokens.{names_in_branch}
use Rattle.pads_counts.specs.Met.{met}
use Rattle.pads_counts.proofs.in_decl.meet_cases.Given as goal

abbrev pub invariant-loop-case : goal.invariant-loop-case
invariant-loop-case l = l.names ≡ met l.fn.names (flat_map (λ (case : Case). names_in_branch case.branch) (take l.case-index l.cases))
