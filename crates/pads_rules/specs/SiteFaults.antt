-- The violations of a description part by part: what each part of a check has to look for.
use Rattle.std.specs.Prelude.{List, ◌++◌}
use Rattle.pads_ast.specs.declared.decl.Ast.{Ast}
use Rattle.pads_rules.specs.declared.fault.CheckFault.{CheckFault}
use Rattle.pads_rules.specs.DeclRules.{name_taken, name_again, other_name, spelling_again, marked_with_params, misplaced_source, misplaced_precursive, too_much}
use Rattle.pads_rules.specs.Faults.{each}
use Rattle.pads_rules.specs.PieceRules.{unknown_type, later_type, argument_count, argument_sorts, size_sort, condition_sort, case_sorts, case_again, empty_literal, computed_type, param_type, record_type_named, in_expressions}
use Rattle.pads_rules.specs.Pieces.{Site, Piece, sites, pieces}

-- the violations at a declaration as a whole
abbrev pub decl_faults : Site → List CheckFault
decl_faults site =
    name_taken site ++ name_again site ++ other_name site ++ spelling_again site ++ marked_with_params site ++ misplaced_source site ++ too_much site
    ++ misplaced_precursive site

-- the violations at one of its pieces
abbrev pub piece_faults : Site → Piece → List CheckFault
piece_faults site piece =
    unknown_type site piece ++ later_type site piece ++ in_expressions site piece ++ argument_count site piece ++ argument_sorts site piece
    ++ size_sort site piece ++ condition_sort site piece ++ case_sorts site piece ++ case_again site piece ++ empty_literal site piece
    ++ computed_type site piece ++ param_type site piece ++ record_type_named site piece

abbrev pub site_faults : Site → List CheckFault
site_faults site = decl_faults site ++ each (piece_faults site) (pieces site)

-- the violations of all declarations, one declaration after the other
abbrev pub all_faults : Ast → List CheckFault
all_faults tree = each site_faults (sites tree.decls)
