-- Where a literal stands in a record.
use Rattle.std.specs.Prelude.{◌≡◌, ℕ, ◌≤◌, ◌<◌, nat_eq, Bool, true, false, List, drop}
use Rattle.std.specs.List.{starts_with}

-- its bytes stand at a place
abbrev pub stands_at : List ℕ → List ℕ → ℕ → Bool
stands_at bytes literal j = starts_with nat_eq (drop j bytes) literal

-- and at no place from one up to another
abbrev pub StandsNowhere : List ℕ → List ℕ → ℕ → ℕ → Type 0
StandsNowhere bytes literal from to = (k : ℕ) → from ≤ k → k < to → stands_at bytes literal k ≡ false

-- the first place from `from` to `last` at which it stands
pub record IsFirst (bytes literal : List ℕ) (from last at_ : ℕ) : Type 0 where
  pub low : from ≤ at_
  pub high : at_ ≤ last
  pub here : stands_at bytes literal at_ ≡ true
  pub before : StandsNowhere bytes literal from at_
