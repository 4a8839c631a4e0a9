-- The scope that a name makes which hides others.
use Rattle.std.proofs.Common.{◌≡◌, ◌∙◌, sym, ap, ℕ, List, Bor}
use Rattle.pads_rules.specs.declared.expr_sort.ExprSort.{ExprSort}
use Rattle.pads_rules.specs.Judging as judging
use Rattle.pads_rules.specs.Judging.{hiding}
use Rattle.pads_judge.specs.declared.scope.Scope.{Scope, Scope-F, fold-roll-Scope}
use Rattle.pads_judge.specs.declared.scope.Scope.TheVariants as scope
use Rattle.pads_judge.specs.Scopes.{names_in_scope, scope_step}

pub in_hiding : (name : Bor (List ℕ)) (sort : ExprSort) (outer : Bor Scope) → names_in_scope (scope.Hiding name sort outer) ≡ hiding name.now sort (names_in_scope outer.now)
in_hiding name sort outer = ap names_in_scope (sym (scope.rolls-Hiding name sort outer)) ∙ fold-roll-Scope judging.Scope scope_step (Scope-F.Hiding name sort outer)
