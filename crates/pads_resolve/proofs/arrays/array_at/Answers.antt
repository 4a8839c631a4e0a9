use Rattle.std.proofs.Common.{refl}
use Rattle.pads_resolution.specs.Bodies.{array_at}
use Rattle.pads_resolve_expr.proofs.ScopeLemmas.{in-names, in-hiding}
use Rattle.pads_resolve.proofs.arrays.array_at.Goals as goal

pub returns : goal.returns
unfolding array_at
returns c = record {
  made =
      rw (c.in_ok-of.ensures.made, c.in_ok-size.ensures.made, c.in_ok-options.ensures.made, c.in_ok-condition.ensures.made, in-hiding, in-hiding, in-names, c.plain-array.ensures.plain, c.plain-num.ensures.plain, c.as_slice.ensures.items)
      refl;
}
