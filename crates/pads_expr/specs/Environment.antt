-- An environment as its callers see it.
use Rattle.std.specs.Prelude.{ℕ, refl}
use Rattle.std.specs.Coded.{Coded, code_by, coded×, coded_list, coded_ℕ}
use Rattle.pads_value.specs.contracts.value.Val as val
use Rattle.pads_expr.specs.Value.{Pairs}

pub record Environment : Type 0 where
  -- the bindings, the latest first
  pub pairs : Pairs
  -- how many bindings it takes without more memory
  pub room : ℕ

-- It is stored as the pair of its fields.
abbrev pub environment_code : Coded Environment
environment_code =
    code_by (Pairs × ℕ) (coded× (coded_list (coded× coded_ℕ val.the_row.coded)) coded_ℕ) (λ env. (env.pairs, env.room))
    (λ fields. record { pairs = fields.0; room = fields.1 }) (λ _. refl)
