-- Names by number, in the order in which they first came.
use Rattle.std.specs.Prelude.{◌≡◌, ℕ, List, [], ◌∷◌, ◌++◌, length, map, position, nat_eq, MatchOption}
use lib.Pointwise.{pointwise}
use Rattle.std.specs.declared.vec.Vec.{Vec}
use Rattle.std.specs.declared.alloc.Global.{Global}

abbrev pub texts : List (Vec ℕ Global) → List (List ℕ)
texts names = map (λ name. name.items) names

-- a name that is there has the number of its place and changes nothing; a new one goes last
abbrev pub NumbersName : (old : List (List ℕ)) (name : List ℕ) (number : ℕ) (new : List (List ℕ)) → Type 0
NumbersName old name number new =
    MatchOption (position (λ other. pointwise nat_eq name other) old)
    ((number ≡ length old) × (new ≡ old ++ name ∷ []))
    (λ place. (number ≡ place) × (new ≡ old))
