-- Parameters bound one after another.
use Rattle.std.proofs.Common.{◌≡◌, ℕ, ◌+◌, ◌<◌, List, [], ◌∷◌, length, drop, get_or, Some, None, slice_get, refl}
use Rattle.pads_dispatch.specs.declared.base.Arg.{Arg}
use Rattle.pads_expr.specs.Value.{Pairs}
use Rattle.pads_calc.specs.Arguments.{bound_to, value_of_arg}
use Rattle.pads_calc.proofs.Lists.{drop-there, drop-past, drop-next}

pub bound-next : (names : List ℕ) (args : List Arg) (env : Pairs) (i : ℕ) (arg : Arg) → i < length names → slice_get args i ≡ Some arg
    → bound_to (drop i names) (drop i args) env ≡ bound_to (drop (i + 1) names) (drop (i + 1) args) ((get_or names i 0, value_of_arg arg) ∷ env)
bound-next names args env i arg more there = rw (drop-next names i 0 more, drop-there args i arg there) refl

pub bound-none : (names : List ℕ) (env : Pairs) → bound_to names [] env ≡ env
bound-none [] env = refl
bound-none (name ∷ names) env = refl

pub bound-past : (names : List ℕ) (args : List Arg) (env : Pairs) (i : ℕ) → slice_get args i ≡ None → bound_to (drop i names) (drop i args) env ≡ env
bound-past names args env i past = rw (drop-past args i past) (bound-none (drop i names) env)
