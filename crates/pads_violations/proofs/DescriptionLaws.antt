-- The violations of all declarations, one declaration after the other.
use Rattle.std.proofs.Common.{◌≡◌, ◌∙◌, sym, ap, refl, ℕ, ◌+◌, ◌<◌, ◌≤◌, List, [], ◌∷◌, ◌++◌, length, take, drop, flat_map, get_or, Option, Some, append-nil, add-one}
use Rattle.std.specs.List.{enumerate_from, slice_get}
use Rattle.std.proofs.lemmas.List.Concat.{flat_map-append}
use Rattle.std.proofs.lemmas.Option.{get_or_from_slice_get, slice_get_within}
use Rattle.pads_ast.specs.declared.decl.Ast.{Ast}
use Rattle.pads_ast.specs.declared.decl.Decl.{Decl}
use Rattle.pads_rules.specs.declared.fault.CheckFault.{CheckFault}
use Rattle.pads_rules.specs.DeclRules.{token_count, too_much}
use Rattle.pads_rules.specs.Faults.{lesser, least, each}
use Rattle.pads_ast.specs.NameTokens.{Names, names_in_decl}
use Rattle.pads_rules.specs.DifferentNames.{with_names}
use Rattle.pads_rules.specs.Pieces.{Site}
use Rattle.pads_rules.specs.Resolving.{declared}
use Rattle.pads_rules.specs.Violations.{violations}
use Rattle.pads_rules.proofs.Least.{each-map}
use Rattle.pads_rules.proofs.PartLaws.{least-violations}
use Rattle.pads_piece_rules.proofs.Steps.{enumerated-step, enumerated-end}
use Rattle.pads_counts.specs.Met.{met}
use Rattle.pads_counts.proofs.MetLaws.{met-append}
use Rattle.pads_violations.specs.AtDeclaration as joined
use Rattle.pads_violations.proofs.DeclarationLemmas.{told-all}
use Rattle.pads_violations.specs.InDescription.{faults_at, site_told, decls_told, record_told, names_up_to}
use Rattle.pads_declared.proofs.Lists.{taken}

-- A declaration where it stands, by its number.
abbrev pub site_of : List Decl → ℕ × Decl → Site
site_of decls numbered = record { decls = decls; env = declared decls; number = numbered.0; decl = numbered.1 }

abbrev pub faults_of : List Decl → ℕ × Decl → List CheckFault
faults_of decls numbered = faults_at (site_of decls numbered)

-- What is still to be told from a declaration on.
unfoldable pub told_from : List Decl → ℕ → Option CheckFault
told_from decls number = least (each (faults_of decls) (enumerate_from number (drop number decls)))

pub told-first : (decls : List Decl) → told_from decls 0 ≡ decls_told decls
unfolding told_from decls_told
told-first decls = ap least (sym (each-map faults_at (site_of decls) (enumerate_from 0 decls)))

pub told-step : (decls : List Decl) (number : ℕ) (d : Decl) (best : Option CheckFault) → number < length decls → d ≡ get_or decls number d →
    lesser (lesser best (site_told (site_of decls (number, d)))) (told_from decls (number + 1)) ≡ lesser best (told_from decls number)
unfolding told_from site_told
told-step decls number d best there is = enumerated-step (faults_of decls) decls number d best there is

pub told-end : (decls : List Decl) (number : ℕ) (best : Option CheckFault) → length decls ≤ number →
    lesser best (told_from decls number) ≡ decls_told decls → best ≡ decls_told decls
unfolding told_from
told-end decls number best over e = enumerated-end (faults_of decls) decls number best (decls_told decls) over e

pub names-none : (decls : List Decl) → [] ≡ names_up_to decls 0
unfolding names_up_to met
names-none decls = refl

pub names-more : (decls : List Decl) (number : ℕ) (d : Decl) → slice_get decls number ≡ Some d →
    met (names_up_to decls number) (names_in_decl d.body) ≡ names_up_to decls (number + 1)
unfolding names_up_to
names-more decls number d at =
    let more : flat_map (λ (d : Decl). names_in_decl d.body) (take (number + 1) decls) ≡ flat_map (λ (d : Decl). names_in_decl d.body) (take number decls) ++ names_in_decl d.body =
    ap (flat_map (λ (d : Decl). names_in_decl d.body)) (taken decls number d (slice_get_within decls number d at) (sym (get_or_from_slice_get decls number d d at)))
    ∙ flat_map-append (λ (d : Decl). names_in_decl d.body) (take number decls) (d ∷ [])
    ∙ ap (λ (names : Names). flat_map (λ (d : Decl). names_in_decl d.body) (take number decls) ++ names) (append-nil (names_in_decl d.body)) in
    sym (ap (met []) more ∙ met-append [] (flat_map (λ (d : Decl). names_in_decl d.body) (take number decls)) (names_in_decl d.body))

-- the names of the declarations so far are what the rule counts
pub names-counted : (site : Site) → length (names_up_to site.decls (site.number + 1)) ≡ token_count site
unfolding names_up_to met
names-counted site = ap (λ n. length (with_names [] (flat_map (λ (d : Decl). names_in_decl d.body) (take n site.decls)))) (add-one site.number)

pub site-joined : (site : Site) → lesser (joined.site_told site) (least (too_much site)) ≡ site_told site
unfolding site_told faults_at
site-joined site = sym (told-all site)

pub tree-joined : (tree : Ast) → lesser (decls_told tree.decls) (record_told tree) ≡ least (violations tree)
unfolding decls_told record_told faults_at
tree-joined tree = sym (least-violations tree)
