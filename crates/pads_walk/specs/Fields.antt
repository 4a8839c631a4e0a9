-- The parts of a struct that were read, and where their values are meanwhile.
use Rattle.std.specs.Prelude.{ℕ, ◌≡◌, List, [], ◌∷◌, ◌++◌, Option, Some, None}
use Rattle.pads_calc.specs.declared.term.Part.{Part}
use Rattle.pads_calc.specs.Structs.{bind}
use Rattle.pads_expr.specs.Value.{Pairs}
use Rattle.pads_value.specs.declared.value.Val.{Val}
use Rattle.pads_value.specs.declared.value.Val.TheVariants as val

-- a part and the value that it read as
pub record Done : Type 0 where
  pub part : Part
  pub value : Val

-- what stands for a part's value among the values: itself, or a stand-in while it is in the environment
abbrev pub kept : Option ℕ → Val → Val
kept None value = value
kept (Some name) value = val.Missing

-- of the parts that were read, the latest first: themselves, their values and what stands for these, in
-- the order of the record, and the environment behind them
abbrev pub parts_of : List Done → List Part
parts_of [] = []
parts_of (d ∷ done) = parts_of done ++ d.part ∷ []

abbrev pub values_of : List Done → List Val
values_of [] = []
values_of (d ∷ done) = values_of done ++ d.value ∷ []

abbrev pub kept_of : List Done → List Val
kept_of [] = []
kept_of (d ∷ done) = kept_of done ++ kept d.part.name d.value ∷ []

abbrev pub env_of : List Done → Pairs → Pairs
env_of [] outer = outer
env_of (d ∷ done) outer = bind d.part.name d.value (env_of done outer)

-- these are the parts, what is kept of them and the environment behind them, over an outer one
pub record AreDone (done : List Done) (outer : Pairs) (parts : List Part) (values : List Val) (env : Pairs) : Type 0 where
  pub parts_are : parts ≡ parts_of done
  pub values_are : values ≡ kept_of done
  pub env_is : env ≡ env_of done outer
