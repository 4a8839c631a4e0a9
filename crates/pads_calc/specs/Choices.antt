-- Unions: the first branch that reads without a fault, or the case that a value chooses.
use Rattle.std.specs.Prelude.{ℕ, ◌+◌, Bool, false, List, [], ◌∷◌, Option, Some, None, position, slice_get, nat_eq, is_none, if◌then◌else◌}
use Rattle.std.specs.Option.{option_or}
use Rattle.std.specs.Ordering.{int_eq}
use lib.Pointwise.{pointwise}
use Rattle.pads_value.specs.declared.cause.Cause.TheVariants as cause
use Rattle.pads_value.specs.declared.value.Val.TheVariants as val
use Rattle.pads_dispatch.specs.declared.base.Arg.{Arg}
use Rattle.pads_dispatch.specs.declared.base.Arg.TheVariants as arg
use Rattle.pads_calc.specs.declared.reading.Reading.{Reading}
use Rattle.pads_calc.specs.declared.term.Key.{Key}
use Rattle.pads_calc.specs.declared.term.Key.TheVariants as key
use Rattle.pads_calc.specs.Readings.{Reader, node, fails, is_ok}

-- branch `number`, from the place where the union stands
abbrev pub branch_of : ℕ → ℕ → Reading → ℕ → Reading
branch_of origin number r i = node origin None (val.Branch number r.value) i r.place (r.pd ∷ [])

-- the first of the branches from `number` on that reads without a fault; each is tried here
abbrev pub alt_from : ℕ → ℕ → List Reader → Reader
alt_from origin number [] env i = fails origin cause.UnionMatch i
alt_from origin number (branch ∷ branches) env i =
    if is_ok (branch env i) then branch_of origin number (branch env i) i
    else alt_from origin (number + 1) branches env i

-- what a case reads as, and the value that chooses it
pub record Keyed : Type 0 where
  pub key : Option Key
  pub reader : Reader

abbrev pub is_key : Arg → Key → Bool
is_key (arg.Num number) (key.Num wanted) = int_eq number wanted
is_key (arg.Num number) (key.Text wanted) = false
is_key (arg.Text text) (key.Num wanted) = false
is_key (arg.Text text) (key.Text wanted) = pointwise nat_eq text wanted

abbrev pub has_key : Arg → Option Key → Bool
has_key found None = false
has_key found (Some wanted) = is_key found wanted

abbrev pub has_no_key : Option Key → Bool
has_no_key wanted = is_none wanted

-- the first case with this key, else the first without a key
abbrev pub chosen : Option Arg → List (Option Key) → Option ℕ
chosen None keys = None
chosen (Some found) keys = option_or (position (has_key found) keys) (position has_no_key keys)

-- the case of this number, whatever class its reading has
abbrev pub case_at : ℕ → ℕ → Option Reader → Reader
case_at origin number None env i = fails origin cause.Switch i
case_at origin number (Some reader) env i = branch_of origin number (reader env i) i

abbrev pub switch_of : ℕ → Option ℕ → List Reader → Reader
switch_of origin None readers env i = fails origin cause.Switch i
switch_of origin (Some number) readers env i = case_at origin number (slice_get readers number) env i
