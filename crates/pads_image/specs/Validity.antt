-- Whether code, entries and shape make an image: a test that reads the code once, from the left.
use Rattle.std.specs.Prelude.{ℕ, Bool, false, ◌&&◌, nat_eq, nat_le, List, map, length, Option, Some, None}
use Rattle.std.specs.List.{list_all}
use lib.Pointwise.{pointwise}
use Rattle.pads_calc.specs.declared.decl.Shape.{Shape}
use Rattle.pads_module.specs.Counts.{few}
use Rattle.pads_module.specs.Scopes.{shape_there}
use Rattle.pads_calc.specs.Skeletons.{skeleton_of}
use Rattle.pads_image.specs.declared.entry.Entry.{Entry}
use Rattle.pads_image.specs.declared.op.Op.{Op}
use Rattle.pads_image.specs.Opened.{Body}
use Rattle.pads_image.specs.Reads.{bodies_of}
use Rattle.pads_image.specs.Skeletons.{same_skeleton}
use Rattle.pads_image.specs.Variables.{code_stands, next_params, later_params}

-- the most instructions of an image
abbrev pub longest : ℕ
longest = 1048576

-- the entries are those of these bodies
abbrev pub begin_at : Option (List Body) → List Entry → Bool
begin_at None entries = false
begin_at (Some bodies) entries = pointwise nat_eq (map (λ body. body.first) bodies) (map (λ entry. entry.first) entries)

-- and keep values where these bodies have them
abbrev pub keep_of : Option (List Body) → List Entry → Bool
keep_of None entries = false
keep_of (Some bodies) entries = pointwise same_skeleton (map (λ body. skeleton_of body.term) bodies) (map (λ entry. entry.skeleton) entries)

abbrev pub params_of : List Entry → List (List ℕ)
params_of entries = map (λ entry. entry.params) entries

abbrev pub arities_of : List Entry → List ℕ
arities_of entries = map (λ entry. length entry.params) entries

abbrev pub variables_stand : List Op → List Entry → Bool
variables_stand code entries =
    code_stands (arities_of entries) (later_params (params_of entries)) (next_params (params_of entries)) code

abbrev pub is_valid : List Op → List Entry → Shape → Bool
is_valid code entries shape =
    nat_le (length code) longest && begin_at (bodies_of code) entries && keep_of (bodies_of code) entries && variables_stand code entries
    && list_all (λ entry. few entry.params) entries && shape_there (length entries) shape
