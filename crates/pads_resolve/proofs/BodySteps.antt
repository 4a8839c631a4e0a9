-- Steps of loops over what a body holds.
use Rattle.std.proofs.Common.{◌≡◌, ◌∙◌, sym, ap, ℕ, ◌+◌, ◌<◌, ◌≤◌, List, [], ◌∷◌, ◌++◌, length, drop, get_or, append_assoc, add-one}
use Rattle.std.proofs.lemmas.List.{append-nil, drop_all}
use Rattle.pads_ast.specs.declared.decl.Part.{Part as WrittenPart}
use Rattle.pads_resolution.specs.declared.decl.Part.{Part}
use Rattle.pads_rules.specs.Pieces.{Site, sight}
use Rattle.pads_resolution.specs.Bodies.{part_at, parts_at}
use Rattle.pads_resolution.specs.Scopes.{NameScope, names_after}
use Rattle.pads_declared.proofs.Lists.{left}

pub parts-step : (site : Site) (names : NameScope) (made : List Part) (parts : List WrittenPart) (i : ℕ) (p : WrittenPart) → i < length parts → p ≡ get_or parts i p →
    (made ++ part_at site names p ∷ []) ++ parts_at site (names_after (sight site) names p) (drop (i + 1) parts) ≡ made ++ parts_at site names (drop i parts)
parts-step site names made parts i p there is =
    rw (left parts i p there is) (append_assoc made (part_at site names p ∷ []) (parts_at site (names_after (sight site) names p) (drop (i + 1) parts)))

pub parts-end : (site : Site) (names : NameScope) (made : List Part) (parts : List WrittenPart) (i : ℕ) (whole : List Part) → length parts ≤ i →
    made ++ parts_at site names (drop i parts) ≡ whole → made ≡ whole
parts-end site names made parts i whole over e = sym (append-nil made) ∙ sym (ap (λ ps. made ++ parts_at site names ps) (drop_all i parts over)) ∙ e
