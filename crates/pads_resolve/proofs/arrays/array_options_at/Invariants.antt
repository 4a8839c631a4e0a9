use Rattle.std.proofs.Common.{◌≡◌, map, take}
use Rattle.pads_resolve.specs.Borrowed.{stands}
use Rattle.pads_resolution.specs.Bodies.{array_option_at}
use Rattle.pads_resolve_expr.specs.Scopes.{names_in_scope}
use Rattle.pads_resolve.proofs.arrays.array_options_at.Given as goal

abbrev pub invariant-loop-option : goal.invariant-loop-option
invariant-loop-option l = l.made ≡ map (array_option_at (stands l.site) (names_in_scope l.scope)) (take l.option-index l.options)
