-- The names that each form of scope stands for.
use Rattle.std.proofs.Common.{◌≡◌, ◌∙◌, sym, ap, ℕ, List, Bor}
use Rattle.pads_rules.specs.declared.expr_sort.ExprSort.{ExprSort}
use Rattle.pads_resolution.specs.declared.visible.Stands.{Stands}
use Rattle.pads_resolution.specs.declared.visible.Visible.{Visible}
use Rattle.pads_resolution.specs.Scopes as scopes
use Rattle.pads_resolution.specs.Scopes.{hiding}
use Rattle.pads_resolve_expr.specs.declared.scope.NameScope.{NameScope, NameScope-F, fold-roll-NameScope}
use Rattle.pads_resolve_expr.specs.declared.scope.NameScope.TheVariants as scope
use Rattle.pads_resolve_expr.specs.Scopes.{names_in_scope, scope_step}

pub in-names : (visible : Bor (List Visible)) → names_in_scope (scope.Names visible) ≡ visible.now
in-names visible = ap names_in_scope (sym (scope.rolls-Names visible)) ∙ fold-roll-NameScope scopes.NameScope scope_step (NameScope-F.Names visible)

pub in-hiding : (name : Bor (List ℕ)) (stands : Stands) (sort : ExprSort) (outer : Bor NameScope) →
    names_in_scope (scope.Hiding name stands sort outer) ≡ hiding name.now stands sort (names_in_scope outer.now)
in-hiding name stands sort outer =
    ap names_in_scope (sym (scope.rolls-Hiding name stands sort outer)) ∙ fold-roll-NameScope scopes.NameScope scope_step (NameScope-F.Hiding name stands sort outer)

pub ruleset scope_rules = (in-names, in-hiding)
