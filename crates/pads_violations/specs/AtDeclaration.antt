-- What is told at a declaration: the least violation of the rules that speak of it and of its pieces.
use Rattle.std.specs.Prelude.{List, ◌++◌, Option}
use Rattle.pads_rules.specs.declared.fault.CheckFault.{CheckFault}
use Rattle.pads_rules.specs.DeclRules.{name_taken, name_again, other_name, spelling_again, marked_with_params, misplaced_source, misplaced_precursive}
use Rattle.pads_rules.specs.Faults.{least, each}
use Rattle.pads_rules.specs.Pieces.{Site, pieces}
use Rattle.pads_rules.specs.SiteFaults.{piece_faults}

-- The violations of the rules on a declaration as a whole, but for the rule that counts.
abbrev pub decl_faults_but_counts : Site → List CheckFault
decl_faults_but_counts site =
    name_taken site ++ name_again site ++ other_name site ++ spelling_again site ++ marked_with_params site ++ misplaced_source site
    ++ misplaced_precursive site

-- The violations at a declaration, its pieces included, but for the rule that counts.
abbrev pub site_faults_but_counts : Site → List CheckFault
site_faults_but_counts site = decl_faults_but_counts site ++ each (piece_faults site) (pieces site)

unfoldable pub site_told : Site → Option CheckFault
site_told site = least (site_faults_but_counts site)

unfoldable pub decl_told : Site → Option CheckFault
decl_told site = least (decl_faults_but_counts site)

-- Rules 1, 4, 11 and 15.
unfoldable pub named_told : Site → Option CheckFault
named_told site = least (name_taken site ++ name_again site ++ other_name site ++ spelling_again site)

-- Rule 4.
unfoldable pub name_again_told : Site → Option CheckFault
name_again_told site = least (name_again site)

-- Rule 15.
unfoldable pub spelling_again_told : Site → Option CheckFault
spelling_again_told site = least (spelling_again site)
