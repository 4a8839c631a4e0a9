-- The rules at a declaration, one after the other.
use Rattle.std.proofs.Common.{◌≡◌, ◌∙◌, sym, ap, refl, List, ◌++◌, Option}
use Rattle.pads_rules.specs.declared.fault.CheckFault.{CheckFault}
use Rattle.pads_rules.specs.DeclRules.{name_taken, name_again, other_name, spelling_again, marked_with_params, misplaced_source, misplaced_precursive, too_much, options_of, labels_of}
use Rattle.pads_rules.specs.Faults.{lesser, least, each}
use Rattle.pads_rules.specs.Pieces.{Site, pieces}
use Rattle.pads_ast.specs.Trees.{param_names, inner_names}
use Rattle.pads_rules.proofs.Least.{lesser_comm, lesser_assoc, least-append}
use Rattle.pads_rules.specs.SiteFaults.{decl_faults, piece_faults, site_faults}
use Rattle.pads_violations.specs.InBodies.{pieces_told}
use Rattle.pads_violations.specs.Repeats.{names_again_told, options_again_told, spellings_again_told}
use Rattle.pads_violations.specs.AtDeclaration.{decl_faults_but_counts, site_told, decl_told, named_told, name_again_told, spelling_again_told}

pub told-names : (site : Site) →
    name_again_told site ≡ lesser (names_again_told (param_names site.decl.body ++ inner_names site.decl.body)) (options_again_told (options_of site.decl.body))
unfolding name_again_told names_again_told options_again_told
told-names site = least-append _ _

pub told-spellings : (site : Site) → spelling_again_told site ≡ spellings_again_told (labels_of site.decl.body)
unfolding spelling_again_told spellings_again_told
told-spellings site = refl

pub told-named : (site : Site) →
    named_told site ≡ lesser (lesser (lesser (least (name_taken site)) (name_again_told site)) (least (other_name site))) (spelling_again_told site)
unfolding named_told name_again_told spelling_again_told
told-named site =
    least-append (name_taken site ++ name_again site ++ other_name site) (spelling_again site)
    ∙ ap (λ a. lesser a (least (spelling_again site)))
    (least-append (name_taken site ++ name_again site) (other_name site)
    ∙ ap (λ a. lesser a (least (other_name site))) (least-append (name_taken site) (name_again site)))

pub told-decl : (site : Site) →
    decl_told site ≡ lesser (lesser (lesser (named_told site) (least (marked_with_params site))) (least (misplaced_source site))) (least (misplaced_precursive site))
unfolding decl_told named_told
told-decl site =
    least-append (name_taken site ++ name_again site ++ other_name site ++ spelling_again site ++ marked_with_params site ++ misplaced_source site) (misplaced_precursive site)
    ∙ ap (λ a. lesser a (least (misplaced_precursive site)))
    (least-append (name_taken site ++ name_again site ++ other_name site ++ spelling_again site ++ marked_with_params site) (misplaced_source site)
    ∙ ap (λ a. lesser a (least (misplaced_source site)))
    (least-append (name_taken site ++ name_again site ++ other_name site ++ spelling_again site) (marked_with_params site)))

pub site-in-two : (site : Site) → site_told site ≡ lesser (decl_told site) (pieces_told site (pieces site))
unfolding site_told decl_told pieces_told
site-in-two site = least-append (decl_faults_but_counts site) (each (piece_faults site) (pieces site))

last-apart : (d t p : Option CheckFault) → lesser (lesser d t) p ≡ lesser (lesser d p) t
last-apart d t p = lesser_assoc d t p ∙ ap (lesser d) (lesser_comm t p) ∙ sym (lesser_assoc d p t)

-- the violations of a declaration as a whole, but for the counts and the last rule
abbrev marks : Site → List CheckFault
marks site = name_taken site ++ name_again site ++ other_name site ++ spelling_again site ++ marked_with_params site ++ misplaced_source site

decl-in-two : (site : Site) → least (decl_faults site) ≡ lesser (least (decl_faults_but_counts site)) (least (too_much site))
decl-in-two site =
    least-append (marks site ++ too_much site) (misplaced_precursive site)
    ∙ ap (λ a. lesser a (least (misplaced_precursive site))) (least-append (marks site) (too_much site))
    ∙ last-apart (least (marks site)) (least (too_much site)) (least (misplaced_precursive site))
    ∙ ap (λ a. lesser a (least (too_much site))) (sym (least-append (marks site) (misplaced_precursive site)))

-- All rules at a declaration are those without counts, and that on counts.
pub told-all : (site : Site) → least (site_faults site) ≡ lesser (site_told site) (least (too_much site))
unfolding site_told
told-all site =
    least-append (decl_faults site) (each (piece_faults site) (pieces site))
    ∙ ap (λ a. lesser a (least (each (piece_faults site) (pieces site)))) (decl-in-two site)
    ∙ last-apart (least (decl_faults_but_counts site)) (least (too_much site)) (least (each (piece_faults site) (pieces site)))
    ∙ ap (λ a. lesser a (least (too_much site))) (sym (least-append (decl_faults_but_counts site) (each (piece_faults site) (pieces site))))
