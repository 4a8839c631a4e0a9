use Rattle.std.proofs.Common.{◌≡◌, flat_map, take}
use Rattle.pads_resolution.specs.Types.{arg_exprs}
use Rattle.pads_resolve_expr.specs.Scopes.{names_in_scope}
use Rattle.pads_resolve.proofs.types.args.Given as goal

abbrev pub invariant-loop-arg : goal.invariant-loop-arg
invariant-loop-arg l = l.made ≡ flat_map (arg_exprs l.site.decls.now l.site.env.now (names_in_scope l.scope)) (take l.arg-index l.written)
