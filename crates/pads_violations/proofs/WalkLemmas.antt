-- What is told of some pieces, one after the other.
use Rattle.std.proofs.Common.{◌≡◌, ◌∙◌, sym, ap, refl, ℕ, ◌+◌, ◌<◌, ◌≤◌, Bor, List, [], ◌∷◌, ◌++◌, length, drop, map, flat_map, get_or, append_assoc, Option, Some, None}
use Rattle.std.proofs.lemmas.List.{append-nil, map-append, drop_all}
use Rattle.pads_ast.specs.declared.decl.Part.{Part}
use Rattle.pads_ast.specs.declared.decl.Part.TheVariants as part
use Rattle.pads_ast.specs.declared.name.Word.{Word}
use Rattle.pads_ast.specs.declared.name.Name.{Name}
use Rattle.pads_ast.specs.declared.decl.Label.{Label}
use Rattle.pads_ast.specs.declared.types.Literal.{Literal}
use Rattle.pads_ast.specs.declared.types.Literal.TheVariants as literal
use Rattle.pads_judge.specs.declared.scope.Scope.{Scope-F, fold-roll-Scope}
use Rattle.pads_judge.specs.declared.scope.Scope.TheVariants as scope
use Rattle.pads_judge.specs.Scopes.{names_in_scope, scope_step}
use Rattle.pads_rules.specs.declared.declared.Named.{Named}
use Rattle.pads_rules.specs.declared.fault.CheckFault.{CheckFault}
use Rattle.pads_rules.specs.Faults.{each, lesser, least}
use Rattle.pads_rules.specs.Judging as judging
use Rattle.pads_rules.specs.Pieces.{Site, Piece, Spelled, literal_pieces, label_pieces, part_pieces, parts_pieces, texts_of_parts, names_after, names_after_all}
use Rattle.pads_rules.specs.Resolving.{Sight, named}
use Rattle.pads_ast.specs.Trees.{named_part}
use Rattle.pads_rules.proofs.Least.{least-append, each-append, lesser-none, lesser_assoc}
use Rattle.pads_judge.proofs.ScopeLemmas.{in_hiding}
use Rattle.pads_rules.specs.SiteFaults.{piece_faults}
use Rattle.pads_piece_rules.specs.Told.{piece_told, spelled_told}
use Rattle.pads_piece_rules.proofs.PieceLemmas.{told-Spelled}
use Rattle.pads_piece_rules.proofs.Steps.{none-lesser}
use Rattle.pads_violations.specs.InBodies.{pieces_told, literal_told, spelling_told, label_told, labels_told, first_pieces, last_pieces}
use Rattle.pads_declared.proofs.Lists.{left}

pub in-names : (visible : Bor (List Named)) (parts : Bor (List Part)) → names_in_scope (scope.Names visible parts) ≡ record { visible = visible.now; later = texts_of_parts parts.now }
in-names visible parts = ap names_in_scope (sym (scope.rolls-Names visible parts)) ∙ fold-roll-Scope judging.Scope scope_step (Scope-F.Names visible parts)

pub told-none : (site : Site) → pieces_told site [] ≡ None
unfolding pieces_told
told-none site = refl

pub told-one : (site : Site) (p : Piece) → pieces_told site (p ∷ []) ≡ piece_told site p
unfolding pieces_told piece_told
told-one site p = ap least (append-nil (piece_faults site p))

pub told-more : (site : Site) (p : Piece) (ps : List Piece) → pieces_told site (p ∷ ps) ≡ lesser (piece_told site p) (pieces_told site ps)
unfolding pieces_told piece_told
told-more site p ps = least-append (piece_faults site p) (each (piece_faults site) ps)

pub told-both : (site : Site) (ps qs : List Piece) → pieces_told site (ps ++ qs) ≡ lesser (pieces_told site ps) (pieces_told site qs)
unfolding pieces_told
told-both site ps qs = ap least (each-append (piece_faults site) ps qs) ∙ least-append (each (piece_faults site) ps) (each (piece_faults site) qs)

pub told-word : (site : Site) (word : Word) → pieces_told site (Spelled word ∷ []) ≡ spelled_told word
told-word site word = told-one site (Spelled word) ∙ told-Spelled site word

pub told-literal : (site : Site) (l : Literal) → pieces_told site (literal_pieces l) ≡ literal_told l
told-literal site (literal.Word word) = told-word site word
told-literal site (literal.Peor at) = told-none site

told-spelling : (site : Site) (name : Name) (spelling : Option Word) → pieces_told site (label_pieces (record { name = name; spelling = spelling })) ≡ spelling_told spelling
told-spelling site name None = told-none site
told-spelling site name (Some word) = told-word site word

pub told-labels : (site : Site) (labels : List Label) → pieces_told site (flat_map label_pieces labels) ≡ labels_told labels
unfolding labels_told
told-labels site [] = told-none site
told-labels site (label ∷ labels) =
    told-both site (label_pieces label) (flat_map label_pieces labels) ∙ ap (λ x. lesser x (pieces_told site (flat_map label_pieces labels))) (told-spelling site label.name label.spelling)
    ∙ ap (lesser (label_told label)) (told-labels site labels)

pub labels-step : (labels : List Label) (i : ℕ) (x : Label) (best : Option CheckFault) → i < length labels → x ≡ get_or labels i x →
    lesser (lesser best (label_told x)) (labels_told (drop (i + 1) labels)) ≡ lesser best (labels_told (drop i labels))
unfolding labels_told
labels-step labels i x best there is = rw (left labels i x there is) (lesser_assoc best (label_told x) (labels_told (drop (i + 1) labels)))

pub labels-end : (labels : List Label) (i : ℕ) (best whole : Option CheckFault) → length labels ≤ i → lesser best (labels_told (drop i labels)) ≡ whole → best ≡ whole
unfolding labels_told
labels-end labels i best whole over e = sym (lesser-none best) ∙ sym (ap (λ ls. lesser best (labels_told ls)) (drop_all i labels over)) ∙ e

pub ruleset walk_rules = (in-names, in_hiding, told-none, told-one, told-more, told-both, told-word, told-literal, told-labels, none-lesser)

-- A part's pieces are those that don't see its name and those that do.
pub told-part : (site : Site) (types : Sight) (names : List Named) (later : List (List ℕ)) (p : Part) →
    pieces_told site (part_pieces types names later p) ≡ lesser (pieces_told site (first_pieces names later p)) (pieces_told site (last_pieces (names_after types names p) later p))
told-part site types names later (part.Literal l) = sym (ap (lesser (pieces_told site (first_pieces names later (part.Literal l)))) (told-none site) ∙ lesser-none _)
told-part site types names later (part.Pcompute of name value) = sym (ap (lesser (pieces_told site (first_pieces names later (part.Pcompute of name value)))) (told-none site) ∙ lesser-none _)
told-part site types names later (part.Field branch) = told-both site (first_pieces names later (part.Field branch)) (last_pieces (names_after types names (part.Field branch)) later (part.Field branch))

pub ruleset part_rules = (told-part)

pub parts-step : (site : Site) (types : Sight) (names : List Named) (parts : List Part) (i : ℕ) (p : Part) (best : Option CheckFault) → i < length parts → p ≡ get_or parts i p →
    lesser (lesser best (pieces_told site (part_pieces types names (texts_of_parts (drop i parts)) p))) (pieces_told site (parts_pieces types (names_after types names p) (drop (i + 1) parts)))
    ≡ lesser best (pieces_told site (parts_pieces types names (drop i parts)))
parts-step site types names parts i p best there is =
    rw (left parts i p there is, told-both site (part_pieces types names (texts_of_parts (p ∷ drop (i + 1) parts)) p) (parts_pieces types (names_after types names p) (drop (i + 1) parts)))
    (lesser_assoc best (pieces_told site (part_pieces types names (texts_of_parts (p ∷ drop (i + 1) parts)) p)) (pieces_told site (parts_pieces types (names_after types names p) (drop (i + 1) parts))))

pub parts-end : (site : Site) (types : Sight) (names : List Named) (parts : List Part) (i : ℕ) (best whole : Option CheckFault) → length parts ≤ i →
    lesser best (pieces_told site (parts_pieces types names (drop i parts))) ≡ whole → best ≡ whole
parts-end site types names parts i best whole over e =
    sym (lesser-none best) ∙ sym (ap (λ ps. lesser best (pieces_told site (parts_pieces types names ps))) (drop_all i parts over) ∙ ap (lesser best) (told-none site)) ∙ e

pub names-step : (types : Sight) (names : List Named) (parts : List Part) (i : ℕ) (p : Part) → i < length parts → p ≡ get_or parts i p →
    names_after_all types (names_after types names p) (drop (i + 1) parts) ≡ names_after_all types names (drop i parts)
names-step types names parts i p there is =
    rw (left parts i p there is, map-append (named types) (named_part p) (flat_map named_part (drop (i + 1) parts)))
    (append_assoc names (map (named types) (named_part p)) (map (named types) (flat_map named_part (drop (i + 1) parts))))

pub names-end : (types : Sight) (names : List Named) (parts : List Part) (i : ℕ) (whole : List Named) → length parts ≤ i → names_after_all types names (drop i parts) ≡ whole → names ≡ whole
names-end types names parts i whole over e =
    sym (append-nil names) ∙ sym (ap (λ ps. names_after_all types names ps) (drop_all i parts over)) ∙ e
