-- One token decides at each place of a path.
use Rattle.std.proofs.Common.{Bool, ◌||◌, refl}
use Rattle.pads_grammar.specs.declared.kind.Kind.{Kind}
use Rattle.pads_grammar.specs.declared.kind.Kind.TheVariants as kind
use Rattle.pads_grammar.specs.Kinds.{is}
use Rattle.pads_grammar.specs.Grammar.{many, begins, ahead, Decides}
use Rattle.pads_grammar.proofs.Disjoint.{apart_by}
use Rattle.pads_syntax_path.specs.Paths.{start, named, bracketed, step, path}

start_ok : (F : Kind → Bool) → Decides start F
unfolding start
start_ok F = (refl, refl, refl, apart_by _ _ refl)

named_ok : (F : Kind → Bool) → Decides named F
named_ok F = (refl, refl)

bracketed_ok : (F : Kind → Bool) → Decides bracketed F
bracketed_ok F = ((refl, (refl, refl, refl, apart_by _ _ refl)), refl)

step_ok : (F : Kind → Bool) → Decides step F
unfolding step
step_ok F = (named_ok F, bracketed_ok F, refl, apart_by _ _ refl)

-- Nothing follows a path but its end.
pub path_ok : Decides path (is kind.End)
unfolding start step
path_ok = (start_ok (ahead (many step) (is kind.End)), (step_ok (λ j. begins step j || is kind.End j), refl, apart_by (begins step) (is kind.End) refl, refl))
