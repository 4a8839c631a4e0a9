-- Steps of loops over what a declaration holds.
use Rattle.std.proofs.Common.{◌≡◌, ◌∙◌, sym, ap, refl, ℕ, ◌+◌, ◌<◌, List, [], ◌∷◌, ◌++◌, length, take, map, flat_map, get_or, Option, None, Some, Bor, append_assoc, ◌≤◌}
use Rattle.std.proofs.lemmas.List.{append-nil, map-append, take_all}
use Rattle.std.proofs.lemmas.List.Folds.{flat_map-map}
use Rattle.std.proofs.lemmas.List.Concat.{flat_map-append}
use Rattle.pads_rules.specs.Faults.{lesser}
use Rattle.pads_rules.proofs.Least.{lesser_assoc, lesser-none}
use Rattle.pads_ast.specs.declared.decl.Array.{Array}
use Rattle.pads_ast.specs.declared.decl.Constraint.{Constraint}
use Rattle.pads_ast.specs.declared.types.Branch.{Branch}
use Rattle.pads_ast.specs.declared.types.Type.{«Type»}
use Rattle.pads_rules.specs.Judging.{hiding}
use Rattle.pads_rules.specs.Resolving.{Sight, type_sort}
use Rattle.pads_rules.specs.declared.declared.Named.{Named}
use Rattle.pads_rules.specs.Pieces.{Site, Piece, Used, Condition, constraint_pieces, scope_of, sizes, conditions, option_pieces, array_scope, array_pieces}
use Rattle.pads_piece_rules.specs.Told.{piece_told}
use Rattle.pads_violations.specs.InBodies.{pieces_told, in_elements_told, constraint_told}
use Rattle.pads_violations.proofs.WalkLemmas.{told-both, told-one, told-more}
use Rattle.pads_declared.proofs.Lists.{taken}

pub made-step : {X : Type 0} (site : Site) (made : X → List Piece) (xs : List X) (i : ℕ) (x : X) → i < length xs → x ≡ get_or xs i x →
    lesser (pieces_told site (flat_map made (take i xs))) (pieces_told site (made x)) ≡ pieces_told site (flat_map made (take (i + 1) xs))
made-step site made xs i x there is =
    rw (taken xs i x there is, flat_map-append made (take i xs) (x ∷ []), append-nil (made x), told-both site (flat_map made (take i xs)) (made x)) refl

pub mapped-step : {X : Type 0} (site : Site) (made : X → Piece) (xs : List X) (i : ℕ) (x : X) → i < length xs → x ≡ get_or xs i x →
    lesser (pieces_told site (map made (take i xs))) (piece_told site (made x)) ≡ pieces_told site (map made (take (i + 1) xs))
mapped-step site made xs i x there is =
    rw (taken xs i x there is, map-append made (take i xs) (x ∷ []), told-both site (map made (take i xs)) (made x ∷ []), told-one site (made x)) refl

pub branches-end : (site : Site) (made : Branch → List Piece) (branches : List (Bor Branch)) (i : ℕ) → length branches ≤ i →
    pieces_told site (flat_map (λ (b : Bor Branch). made b.now) (take i branches)) ≡ pieces_told site (flat_map made (map (λ (b : Bor Branch). b.now) branches))
branches-end site made branches i over = rw (take_all i branches over, flat_map-map made (λ (b : Bor Branch). b.now) branches) refl

-- An array's type and size, and then what sees its elements.
pub told-array : (site : Site) (number : ℕ) (params : List Named) (d : Array) →
    pieces_told site (array_pieces number params d)
    ≡ lesser (lesser (piece_told site (Used (scope_of params) d.of)) (pieces_told site (sizes (scope_of params) d.size))) (in_elements_told site (array_scope params number) d)
told-array site number params d =
    let scope = array_scope params number in
    let options = flat_map (option_pieces scope) d.options in
    let condition = conditions scope d.condition in
    let size = sizes (scope_of params) d.size in
    told-more site (Used (scope_of params) d.of) (size ++ options ++ condition)
    ∙ ap (lesser (piece_told site (Used (scope_of params) d.of))) (ap (pieces_told site) (append_assoc size options condition) ∙ told-both site size (options ++ condition))
    ∙ sym (lesser_assoc (piece_told site (Used (scope_of params) d.of)) (pieces_told site size) (pieces_told site (options ++ condition)))

pub told-typedef : (site : Site) (types : Sight) (params : List Named) (t : «Type») (own : Option Constraint) →
    pieces_told site (Used (scope_of params) t ∷ constraint_pieces types params t own) ≡ lesser (piece_told site (Used (scope_of params) t)) (constraint_told site params (type_sort types t) own)
told-typedef site types params t None = told-one site (Used (scope_of params) t) ∙ sym (lesser-none (piece_told site (Used (scope_of params) t)))
told-typedef site types params t (Some own) =
    told-more site (Used (scope_of params) t) (constraint_pieces types params t (Some own))
    ∙ ap (lesser (piece_told site (Used (scope_of params) t))) (told-one site (Condition (hiding own.variable.text (type_sort types t) (scope_of params)) own.condition))

pub ruleset body_rules = (told-array, told-typedef)
