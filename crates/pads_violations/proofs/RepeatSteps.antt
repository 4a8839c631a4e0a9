-- A step of the search for what comes again.
use Rattle.std.proofs.Common.{◌≡◌, ℕ, ◌+◌, ◌<◌, Bool, List, [], ◌∷◌, ◌++◌, length, take, drop, get_or, Option}
use Rattle.std.specs.List.{list_any}
use Rattle.pads_rules.specs.declared.fault.CheckFault.{CheckFault}
use Rattle.pads_rules.specs.Faults.{when, again, lesser, least}
use Rattle.pads_rules.proofs.Least.{lesser_assoc, least-append}
use Rattle.pads_declared.proofs.Lists.{taken, left}

pub plain-step : {Y : Type 0} (same : Y → Y → Bool) (violation : Y → CheckFault) (xs : List Y) (i : ℕ) (x : Y) (best : Option CheckFault) → i < length xs → x ≡ get_or xs i x →
    lesser (lesser best (least (when (list_any (same x) (take i xs)) (violation x)))) (least (again same violation (take (i + 1) xs) (drop (i + 1) xs)))
    ≡ lesser best (least (again same violation (take i xs) (drop i xs)))
plain-step same violation xs i x best there is =
    let next = again same violation (take i xs ++ x ∷ []) (drop (i + 1) xs) in
    rw (left xs i x there is, taken xs i x there is, least-append (when (list_any (same x) (take i xs)) (violation x)) next)
    (lesser_assoc best (least (when (list_any (same x) (take i xs)) (violation x))) (least next))
