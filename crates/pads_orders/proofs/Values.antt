-- The values of an option, and the arguments, from the left.
use Rattle.std.proofs.Common.{◌≡◌, ℕ, ◌≤◌, ◌<◌, true, false, not, nat_lt, List, [], ◌∷◌, Some, None, length, slice_get, refl, arith}
use Rattle.std.proofs.lemmas.Bool.{lt-ltb}
use Rattle.std.specs.List.{list_any}
use Rattle.pads_orders.specs.Options.{values, behind, arguments, is_option, once}
use Rattle.pads_orders.specs.Orders.{name_in}

some_there : (xs : List (List ℕ)) (x : List ℕ) → slice_get xs 0 ≡ Some x → 0 < length xs
some_there [] x h = cc
some_there (y ∷ xs) x h = omega arith

none_there : (xs : List (List ℕ)) → slice_get xs 0 ≡ None → xs ≡ []
none_there [] h = refl
none_there (y ∷ xs) h = cc

-- an option with another beginning has no value
pub passed_by : (beginning : List ℕ) (words more : List (List ℕ)) (word : List ℕ) → words ≡ word ∷ more → behind beginning word ≡ None
    → values beginning more ≡ values beginning words
passed_by beginning words more word whole none = rw (whole, none) refl

pub found_first : (beginning : List ℕ) (words more : List (List ℕ)) (word value : List ℕ) → words ≡ word ∷ more → behind beginning word ≡ Some value
    → slice_get (values beginning words) 0 ≡ Some value
found_first beginning words more word value whole found = rw (whole, found) refl

pub found_again : (beginning : List ℕ) (words more : List (List ℕ)) (word value other : List ℕ) → words ≡ word ∷ more → behind beginning word ≡ Some value
    → slice_get (values beginning more) 0 ≡ Some other → nat_lt 1 (length (values beginning words)) ≡ true
found_again beginning words more word value other whole found again = rw (whole, found) (lt-ltb 1 _ (omega (arith, some_there (values beginning more) other again)))

pub found_once : (beginning : List ℕ) (words more : List (List ℕ)) (word value : List ℕ) → words ≡ word ∷ more → behind beginning word ≡ Some value
    → slice_get (values beginning more) 0 ≡ None → nat_lt 1 (length (values beginning words)) ≡ false
found_once beginning words more word value whole found none = rw (whole, found, none_there (values beginning more) none) refl

-- the value of an option, by how often it is given and its first value
pub once_none : (usual : List ℕ) (given : List (List ℕ)) → slice_get given 0 ≡ None → once usual given ≡ Some usual
once_none usual [] none = refl
once_none usual (v ∷ given) none = cc

pub once_found : (usual : List ℕ) (given : List (List ℕ)) (value : List ℕ) → slice_get given 0 ≡ Some value → length given ≤ 1 → once usual given ≡ Some value
once_found usual [] value found few = cc
once_found usual (v ∷ []) value found few = cc
once_found usual (v ∷ w ∷ given) value found few = absurd (omega arith)

pub once_again : (usual : List ℕ) (given : List (List ℕ)) → 1 < length given → once usual given ≡ None
once_again usual [] many = absurd (omega arith)
once_again usual (v ∷ []) many = absurd (omega arith)
once_again usual (v ∷ w ∷ given) many = refl

-- an option is no argument
pub option_passed : (words more : List (List ℕ)) (word : List ℕ) → words ≡ word ∷ more → is_option word ≡ true → arguments more ≡ arguments words
option_passed words more word whole is = rw (whole, is) refl

-- a name isn't empty
pub named : (word : List ℕ) → 0 < length word → name_in word ≡ Some word
named [] some = absurd (omega arith)
named (letter ∷ name) some = refl
