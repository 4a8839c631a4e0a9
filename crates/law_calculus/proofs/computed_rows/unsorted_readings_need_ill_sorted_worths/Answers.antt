use Rattle.law_calculus.proofs.IllSorted.{ill_worth-agrees, constraint-own, constraint-with, text-own, text-with, width-own, width-with, chooser-own, chooser-with, size-own, size-with, last-own, last-with, argument-own, argument-with}
use Rattle.law_calculus.proofs.computed_rows.unsorted_readings_need_ill_sorted_worths.Goals as goal

pub returns : goal.returns
returns c = record {
  others = ill_worth-agrees;
  constraint = constraint-own;
  constraint_met = constraint-with;
  text = text-own;
  text_computed = text-with;
  width = width-own;
  width_told = width-with;
  chooser = chooser-own;
  chooser_told = chooser-with;
  size = size-own;
  size_told = size-with;
  last = last-own;
  last_met = last-with;
  argument = argument-own;
  argument_told = argument-with;
}
