-- The names in scope that a scope on the stack stands for; for private clauses.
use Rattle.std.specs.Prelude.{[], ◌∷◌}
use Rattle.pads_question.specs.Filters.{it}
use Rattle.pads_question.specs.Levels.{Names}
use Rattle.pads_question.specs.declared.levels.Levels.{Levels, Levels-F, fold-Levels}

abbrev pub scope_step : Levels-F Names → Names
scope_step Levels-F.It = it ∷ []
scope_step (Levels-F.Inside name outer) = name.now ∷ outer.now

abbrev pub names_of : Levels → Names
names_of = fold-Levels Names scope_step
