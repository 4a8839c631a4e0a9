-- Steps of loops over what a declaration holds.
use Rattle.std.proofs.Common.{◌≡◌, ◌∙◌, sym, ap, ℕ, ◌+◌, ◌<◌, ◌≤◌, List, ◌++◌, length, map, drop, get_or, add-one}
use Rattle.std.proofs.lemmas.List.{append-nil, drop_all}
use Rattle.pads_ast.specs.declared.decl.Part.{Part as WrittenPart}
use Rattle.pads_rules.specs.Resolving.{Sight}
use Rattle.pads_ast.specs.Trees.{named_part}
use Rattle.pads_resolution.specs.Scopes.{NameScope, field, fields_after}
use Rattle.pads_declared.proofs.Lists.{left}

pub ruleset nothing_more = (append-nil)

pub fields-step : (types : Sight) (names : NameScope) (parts : List WrittenPart) (i : ℕ) (p : WrittenPart) → i < length parts → p ≡ get_or parts i p →
    fields_after types (names ++ map (field types i) (named_part p)) (i + 1) (drop (i + 1) parts) ≡ fields_after types names i (drop i parts)
fields-step types names parts i p there is =
    rw (left parts i p there is) (ap (λ (n : ℕ). fields_after types (names ++ map (field types i) (named_part p)) n (drop (i + 1) parts)) (add-one i))

pub fields-end : (types : Sight) (names : NameScope) (parts : List WrittenPart) (i : ℕ) (whole : NameScope) → length parts ≤ i →
    fields_after types names i (drop i parts) ≡ whole → names ≡ whole
fields-end types names parts i whole over e = sym (ap (fields_after types names i) (drop_all i parts over)) ∙ e
