-- A list of violations of which none is told first is empty.
use Rattle.std.proofs.Common.{◌≡◌, refl, Bool, true, false, if◌then◌else◌, List, [], ◌∷◌, Option, Some, None}
use Rattle.pads_rules.specs.declared.fault.CheckFault.{CheckFault}
use Rattle.pads_rules.specs.Faults.{is_before, lesser, least}

some-lesser : (x : CheckFault) (other : Option CheckFault) → lesser (Some x) other ≡ None → ⊥
unfolding lesser
some-lesser x None e = cc
some-lesser x (Some y) e = by_order (is_before y x) e
  where
    by_order : (t : Bool) → (if t then Some y else Some x) ≡ None → ⊥
    by_order true e = cc
    by_order false e = cc

pub none-least : (violations : List CheckFault) (told : Option CheckFault) → told ≡ least violations → told ≡ None → violations ≡ []
none-least [] told is none = refl
none-least (x ∷ xs) told is none = absurd (some-lesser x (least xs) cc)
