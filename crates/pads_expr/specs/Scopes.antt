-- The environment that a scope on the stack stands for.
use Rattle.std.specs.Prelude.{◌∷◌, reverse}
use Rattle.pads_value.specs.declared.value.Val.TheVariants as val
use Rattle.pads_expr.specs.declared.evaluation.OpenBindings.{OpenBindings, OpenBindings-F, fold-OpenBindings}
use Rattle.pads_expr.specs.Value.{Pairs}

abbrev pub scope_step : OpenBindings-F Pairs → Pairs
scope_step (OpenBindings-F.Base bindings) = reverse bindings.now
scope_step (OpenBindings-F.Names bindings) = reverse bindings.now
scope_step (OpenBindings-F.Lent name value outer) = (name, value.now) ∷ outer.now
scope_step (OpenBindings-F.Bind name number outer) = (name, val.Num number) ∷ outer.now

abbrev pub pairs_of : OpenBindings → Pairs
pairs_of = fold-OpenBindings Pairs scope_step
