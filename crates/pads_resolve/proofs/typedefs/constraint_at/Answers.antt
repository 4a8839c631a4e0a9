use Rattle.std.proofs.Common.{refl}
use Rattle.pads_resolution.specs.Bodies.{constraint_at}
use Rattle.pads_resolve_expr.proofs.ScopeLemmas.{in-names, in-hiding}
use Rattle.pads_resolve.proofs.typedefs.constraint_at.Goals as goal

pub returns : goal.returns
unfolding constraint_at
returns c = record {
  made =
      rw (c.in_ok-condition.ensures.made, in-hiding, in-names, c.type_sort-sort.ensures.sort, c.seen_types.ensures.types, c.in_ok-text.ensures.same, c.as_slice-name.ensures.items) refl;
}
