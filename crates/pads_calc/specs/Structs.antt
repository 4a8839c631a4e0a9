-- Structs: the parts in turn, whatever the earlier ones gave. A named part's value is in the environment
-- of the later parts.
use Rattle.std.specs.Prelude.{ℕ, List, [], ◌∷◌, Option, Some, None}
use Rattle.pads_value.specs.declared.value.Val.{Val}
use Rattle.pads_value.specs.declared.value.Val.TheVariants as val
use Rattle.pads_expr.specs.Value.{Pairs}
use Rattle.pads_calc.specs.declared.reading.Reading.{Reading}
use Rattle.pads_calc.specs.Readings.{Reader, node, values, pds, end_of}

-- what a part reads as, and the name of its value
pub record Named : Type 0 where
  pub name : Option ℕ
  pub reader : Reader

abbrev pub bind : Option ℕ → Val → Pairs → Pairs
bind None value env = env
bind (Some name) value env = (name, value) ∷ env

-- the readings of the parts, one after another
abbrev pub in_turn : List Named → Pairs → ℕ → List Reading
in_turn [] env i = []
in_turn (part ∷ parts) env i =
    let r = part.reader env i in r ∷ in_turn parts (bind part.name r.value env) r.place

-- the environment behind parts that read so
abbrev pub env_after : List Named → List Reading → Pairs → Pairs
env_after [] readings env = env
env_after (part ∷ parts) [] env = env
env_after (part ∷ parts) (r ∷ readings) env = env_after parts readings (bind part.name r.value env)

-- one kid and one entry for each part, literals included
abbrev pub struct_of : ℕ → List Reading → ℕ → Reading
struct_of origin readings i = node origin None (val.Tuple (values readings)) i (end_of i readings) (pds readings)
