use Rattle.law_calculus.proofs.Expressions.{never-ill, worth-sorted}
use Rattle.law_calculus.proofs.sort_laws.sorted_expressions_keep_their_sorts.Goals as goal

pub returns : goal.returns
returns c = record { never_ill = never-ill; worth = worth-sorted }
