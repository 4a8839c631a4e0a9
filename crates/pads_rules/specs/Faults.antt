-- Violations of the rules of descriptions: a rule and a place. They are told by place, then by the rule's number.
use Rattle.std.specs.Prelude.{ℕ, ◌==◌, nat_lt, Bool, ◌&&◌, ◌||◌, if◌then◌else◌, List, [], ◌∷◌, ◌++◌, Option, Some, None}
use Rattle.std.specs.List.{list_any}
use Rattle.pads_rules.specs.declared.fault.CheckFault.{CheckFault}
use Rattle.pads_rules.specs.declared.rule.Rule.{Rule}
use Rattle.pads_rules.specs.Rules.{number}

-- A rule, broken at a place.
abbrev pub breaks : Rule → ℕ → CheckFault
breaks rule at = record { at = at; rule = rule }

-- A violation where something holds.
abbrev pub when : Bool → CheckFault → List CheckFault
when holds violation = if holds then violation ∷ [] else []

-- The violations of each of some things.
abbrev pub each : {A : Type 0} → (A → List CheckFault) → List A → List CheckFault
each rule [] = []
each rule (x ∷ xs) = rule x ++ each rule xs

-- A violation for each thing that is the same as one before it; `earlier` are those that stand before the
-- list.
abbrev pub again : {A : Type 0} → (A → A → Bool) → (A → CheckFault) → List A → List A → List CheckFault
again same violation earlier [] = []
again same violation earlier (x ∷ xs) =
    when (list_any (same x) earlier) (violation x) ++ again same violation (earlier ++ x ∷ []) xs

-- The order in which violations are told: by place, then by the rule's number.
abbrev pub is_before : CheckFault → CheckFault → Bool
is_before a b = nat_lt a.at b.at || (a.at == b.at && nat_lt (number a.rule) (number b.rule))

-- The one of two violations that is told first, where there are any.
unfoldable pub lesser : Option CheckFault → Option CheckFault → Option CheckFault
lesser None b = b
lesser (Some a) None = Some a
lesser (Some a) (Some b) = if is_before b a then Some b else Some a

-- The one of a list that is told first.
abbrev pub least : List CheckFault → Option CheckFault
least [] = None
least (x ∷ xs) = lesser (Some x) (least xs)
