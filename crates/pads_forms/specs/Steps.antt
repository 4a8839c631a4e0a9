-- The steps from a node to its kids: to a named part of a struct or to a branch by its name, to a part
-- without a name and to an element by their numbers.
use Rattle.std.specs.Prelude.{ℕ, List}
use Rattle.pads_forms.specs.declared.step.Step.{Step as CodeStep}
use Rattle.pads_forms.specs.declared.step.Step.TheVariants as code

-- from a node to one of its kids
pub data Step : Type 0 where
  named : List ℕ → Step
  unnamed : ℕ → Step
  element : ℕ → Step

-- the step that the code has gone
abbrev pub step_seen : CodeStep → Step
step_seen (code.Named name) = named name.now
step_seen (code.Unnamed number) = unnamed number
step_seen (code.Element number) = element number
