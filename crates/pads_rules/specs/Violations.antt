-- All violations of the rules in a tree, rule by rule.
use Rattle.std.specs.Prelude.{not, List, ◌++◌}
use Rattle.std.specs.List.{list_any}
use Rattle.pads_ast.specs.declared.decl.Ast.{Ast}
use Rattle.pads_rules.specs.declared.fault.CheckFault.{CheckFault}
use Rattle.pads_rules.specs.declared.rule.Rule.TheVariants as rule
use Rattle.pads_rules.specs.DeclRules.{name_taken, name_again, other_name, spelling_again, marked_with_params, misplaced_source, misplaced_precursive, too_much}
use Rattle.pads_rules.specs.Faults.{breaks, when, each}
use Rattle.pads_rules.specs.PieceRules.{unknown_type, later_type, argument_count, argument_sorts, size_sort, condition_sort, case_sorts, case_again, empty_literal, computed_type, param_type, record_type_named, in_expressions}
use Rattle.pads_rules.specs.Pieces.{Site, Piece, sites, pieces}
use Rattle.pads_ast.specs.Trees.{is_precord}

-- A rule about every piece of a declaration.
abbrev pub in_pieces : (Site → Piece → List CheckFault) → Site → List CheckFault
in_pieces at_piece site = each (at_piece site) (pieces site)

-- Rule 23: no declaration is marked `Precord`. It is told at the end of the text.
abbrev pub no_record_type : Ast → List CheckFault
no_record_type tree = when (not (list_any (λ d. is_precord d.mark) tree.decls)) (breaks rule.NoRecordType tree.end)

unfoldable pub violations : Ast → List CheckFault
violations tree =
    each name_taken (sites tree.decls)  -- 1
    ++ each (in_pieces unknown_type) (sites tree.decls)  -- 2
    ++ each (in_pieces later_type) (sites tree.decls)  -- 3
    ++ each name_again (sites tree.decls)  -- 4
    ++ each (in_pieces in_expressions) (sites tree.decls)  -- 5, 6, 9, 10, 16, 17, 24
    ++ each (in_pieces argument_count) (sites tree.decls)  -- 7
    ++ each (in_pieces argument_sorts) (sites tree.decls)  -- 8
    ++ each (in_pieces size_sort) (sites tree.decls)  -- 9
    ++ each (in_pieces condition_sort) (sites tree.decls)  -- 10
    ++ each other_name (sites tree.decls)  -- 11
    ++ each (in_pieces case_sorts) (sites tree.decls)  -- 12
    ++ each (in_pieces case_again) (sites tree.decls)  -- 13
    ++ each (in_pieces empty_literal) (sites tree.decls)  -- 14
    ++ each spelling_again (sites tree.decls)  -- 15
    ++ each (in_pieces computed_type) (sites tree.decls)  -- 18
    ++ each (in_pieces param_type) (sites tree.decls)  -- 19
    ++ each (in_pieces record_type_named) (sites tree.decls)  -- 20
    ++ each marked_with_params (sites tree.decls)  -- 21
    ++ each misplaced_source (sites tree.decls)  -- 22
    ++ no_record_type tree  -- 23
    ++ each too_much (sites tree.decls)  -- 24
    ++ each misplaced_precursive (sites tree.decls)  -- 25
