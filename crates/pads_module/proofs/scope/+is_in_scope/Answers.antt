use Rattle.std.proofs.Common.{refl}
use Rattle.pads_module.proofs.ScopeRolls.{scope-Parts, bound-parts}
use Rattle.pads_module.proofs.scope.+is_in_scope.Goals as goal

pub returns-then-is_part : goal.returns-then-is_part
returns-then-is_part t c = record {
  bound = rw (c.in-Parts.is, scope-Parts, bound-parts, ← c.is_part.ensures.named, c.if-is_part.true) refl;
}

pub returns-else-is_part : goal.returns-else-is_part
returns-else-is_part t c = record {
  bound = rw (c.in-Parts.is, scope-Parts, bound-parts, ← c.is_part.ensures.named, c.if-is_part.false) c.is_in_scope-else-is_part.ensures.bound;
}
