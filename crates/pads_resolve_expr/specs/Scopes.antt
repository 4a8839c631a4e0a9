-- The names in scope that a scope on the stack stands for.
use Rattle.pads_resolution.specs.Scopes as scopes
use Rattle.pads_resolution.specs.Scopes.{hiding}
use Rattle.pads_resolve_expr.specs.declared.scope.NameScope.{NameScope, NameScope-F, fold-NameScope}

abbrev pub scope_step : NameScope-F scopes.NameScope → scopes.NameScope
scope_step (NameScope-F.Names visible) = visible.now
scope_step (NameScope-F.Hiding name stands sort outer) = hiding name.now stands sort outer.now

abbrev pub names_in_scope : NameScope → scopes.NameScope
names_in_scope = fold-NameScope scopes.NameScope scope_step
