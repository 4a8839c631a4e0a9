-- What a call moves between memory and the outside world, where the bytes there are known.
use Rattle.std.specs.Prelude.{◌≡◌, ◌≢◌, ℕ, ◌<◌, ◌≤◌, List, [], length, take, drop, Option, Result, IfOk, IfSome}
use Rattle.std.specs.Io.KnownBytes.{Appends}

-- a sink that answers `Ok(n)` took a byte, where there was one to take
abbrev pub TakesSome : {E : Type 0} → Result ℕ E → List ℕ → Type 0
TakesSome r piece = IfOk r (λ n. piece ≢ [] → 0 < n)

-- the known bytes grew by a prefix of these
abbrev pub AppendsPrefix : Option (List ℕ) → Option (List ℕ) → List ℕ → Type 0
AppendsPrefix old new bytes = (n : ℕ) × Appends old new (take n bytes)

-- `Ok(n)`: the first n bytes of the buffer are those of the known content from this offset on
abbrev pub GivesFrom : {E : Type 0} → Option (List ℕ) → ℕ → Result ℕ E → List ℕ → Type 0
GivesFrom content at r into = IfOk r (λ n. IfSome content (λ bytes. take n into ≡ take n (drop at bytes)))

-- `Ok(0)` comes only at or past the end of the known content, or where the buffer has no room
abbrev pub EndsAt : {E : Type 0} → Option (List ℕ) → ℕ → Result ℕ E → List ℕ → Type 0
EndsAt content at r into = IfOk r (λ n. IfSome content (λ bytes. n ≡ 0 → 0 < length into → length bytes ≤ at))
