use Rattle.std.proofs.Common.{◌≡◌, fold, take}
use Rattle.pads_resolution.specs.Chains.{linked, stepped}
use Rattle.pads_resolve_expr.specs.Scopes.{names_in_scope}
use Rattle.pads_resolve_expr.proofs.resolving.+resolve.Given as goal

abbrev pub invariant-chain-loop-link : goal.invariant-chain-loop-link
invariant-chain-loop-link l =
    l.left ≡ fold (linked l.types.decls.now l.types.env.now (names_in_scope l.scope)) l.fn.first (take l.link-index l.links)

abbrev pub invariant-post-loop-next : goal.invariant-post-loop-next
invariant-post-loop-next l =
    l.whole ≡ fold (stepped l.types.decls.now l.types.env.now (names_in_scope l.scope)) l.fn.base (take l.next-index l.steps)
