-- A tree without violations has none of each rule at each declaration.
use Rattle.std.proofs.Common.{◌≡◌, ℕ, List, [], ◌∷◌, ◌++◌, Some, slice_get}
use Rattle.pads_ast.specs.declared.decl.Ast.{Ast}
use Rattle.pads_rules.specs.DeclRules.{name_taken, name_again, other_name, spelling_again, marked_with_params, misplaced_source, misplaced_precursive, too_much}
use Rattle.pads_rules.specs.Faults.{each}
use Rattle.pads_rules.specs.PieceRules.{unknown_type, later_type, argument_count, argument_sorts, size_sort, condition_sort, case_sorts, case_again, empty_literal, computed_type, param_type, record_type_named, in_expressions}
use Rattle.pads_rules.specs.Pieces.{Site, Piece, sites, pieces}
use Rattle.pads_rules.specs.Violations.{in_pieces, no_record_type, violations}
use Rattle.pads_rules.specs.declared.fault.CheckFault.{CheckFault}
use Rattle.law_descriptions.specs.WellSorted.{Each}
use Rattle.pads_rules.proofs.Faultless.{none-left, none-right}
use Rattle.law_descriptions.proofs.AcceptedLists.{each-none, none-at}

-- the rules at a piece that resolving rests on
pub record FreePiece (site : Site) (piece : Piece) : Type 0 where
  pub unknown : unknown_type site piece ≡ []
  pub later : later_type site piece ≡ []
  pub expressions : in_expressions site piece ≡ []
  pub counts : argument_count site piece ≡ []
  pub arguments : argument_sorts site piece ≡ []
  pub sizes : size_sort site piece ≡ []
  pub conditions : condition_sort site piece ≡ []
  pub cases : case_sorts site piece ≡ []
  pub computed : computed_type site piece ≡ []
  pub params : param_type site piece ≡ []
  pub records : record_type_named site piece ≡ []

pub record Free (site : Site) : Type 0 where
  pub again : name_again site ≡ []
  pub spellings : spelling_again site ≡ []
  pub misplaced : misplaced_source site ≡ []
  pub counted : too_much site ≡ []
  pub recurs : misplaced_precursive site ≡ []
  pub at_pieces : Each (FreePiece site) (pieces site)

module _ (site : Site) where
  abbrev None : (Site → Piece → List CheckFault) → Piece → Type 0
  None rule piece = rule site piece ≡ []

  together : (ps : List Piece) → Each (None unknown_type) ps → Each (None later_type) ps → Each (None in_expressions) ps → Each (None argument_count) ps → Each (None argument_sorts) ps
      → Each (None size_sort) ps → Each (None condition_sort) ps → Each (None case_sorts) ps → Each (None computed_type) ps → Each (None param_type) ps → Each (None record_type_named) ps
      → Each (FreePiece site) ps
  together [] a b c d e f g h i j k = tt
  together (p ∷ ps) a b c d e f g h i j k = (
    record { unknown = a.0; later = b.0; expressions = c.0; counts = d.0; arguments = e.0; sizes = f.0; conditions = g.0; cases = h.0; computed = i.0; params = j.0; records = k.0 },
    together ps a.1 b.1 c.1 d.1 e.1 f.1 g.1 h.1 i.1 j.1 k.1,
  )

module _ (tree : Ast) where
  abbrev at_sites : (Site → List CheckFault) → List CheckFault
  at_sites rule = each rule (sites tree.decls)

  abbrev at_pieces : (Site → Piece → List CheckFault) → List CheckFault
  at_pieces rule = at_sites (in_pieces rule)

  -- the rules from the first to one
  abbrev to_2 : List CheckFault
  to_2 = at_sites name_taken ++ at_pieces unknown_type

  abbrev to_3 : List CheckFault
  to_3 = to_2 ++ at_pieces later_type

  abbrev to_4 : List CheckFault
  to_4 = to_3 ++ at_sites name_again

  abbrev to_5 : List CheckFault
  to_5 = to_4 ++ at_pieces in_expressions

  abbrev to_7 : List CheckFault
  to_7 = to_5 ++ at_pieces argument_count

  abbrev to_8 : List CheckFault
  to_8 = to_7 ++ at_pieces argument_sorts

  abbrev to_9 : List CheckFault
  to_9 = to_8 ++ at_pieces size_sort

  abbrev to_10 : List CheckFault
  to_10 = to_9 ++ at_pieces condition_sort

  abbrev to_11 : List CheckFault
  to_11 = to_10 ++ at_sites other_name

  abbrev to_12 : List CheckFault
  to_12 = to_11 ++ at_pieces case_sorts

  abbrev to_13 : List CheckFault
  to_13 = to_12 ++ at_pieces case_again

  abbrev to_14 : List CheckFault
  to_14 = to_13 ++ at_pieces empty_literal

  abbrev to_15 : List CheckFault
  to_15 = to_14 ++ at_sites spelling_again

  abbrev to_18 : List CheckFault
  to_18 = to_15 ++ at_pieces computed_type

  abbrev to_19 : List CheckFault
  to_19 = to_18 ++ at_pieces param_type

  abbrev to_20 : List CheckFault
  to_20 = to_19 ++ at_pieces record_type_named

  abbrev to_21 : List CheckFault
  to_21 = to_20 ++ at_sites marked_with_params

  abbrev to_22 : List CheckFault
  to_22 = to_21 ++ at_sites misplaced_source

  abbrev to_23 : List CheckFault
  to_23 = to_22 ++ no_record_type tree

  abbrev to_24 : List CheckFault
  to_24 = to_23 ++ at_sites too_much

  all-rules : violations tree ≡ [] → to_24 ++ at_sites misplaced_precursive ≡ []
  unfolding violations
  all-rules none = none

  module _ (none : violations tree ≡ []) where
    from_25 : to_24 ≡ []
    from_25 = none-left to_24 (at_sites misplaced_precursive) (all-rules none)

    from_24 : to_23 ≡ []
    from_24 = none-left to_23 (at_sites too_much) from_25

    pub some_record_type : no_record_type tree ≡ []
    some_record_type = none-right to_22 (no_record_type tree) from_24

    from_23 : to_22 ≡ []
    from_23 = none-left to_22 (no_record_type tree) from_24

    from_22 : to_21 ≡ []
    from_22 = none-left to_21 (at_sites misplaced_source) from_23

    from_21 : to_20 ≡ []
    from_21 = none-left to_20 (at_sites marked_with_params) from_22

    from_20 : to_19 ≡ []
    from_20 = none-left to_19 (at_pieces record_type_named) from_21

    from_19 : to_18 ≡ []
    from_19 = none-left to_18 (at_pieces param_type) from_20

    from_18 : to_15 ≡ []
    from_18 = none-left to_15 (at_pieces computed_type) from_19

    from_15 : to_14 ≡ []
    from_15 = none-left to_14 (at_sites spelling_again) from_18

    from_13 : to_12 ≡ []
    from_13 = none-left to_12 (at_pieces case_again) (none-left to_13 (at_pieces empty_literal) from_15)

    from_12 : to_11 ≡ []
    from_12 = none-left to_11 (at_pieces case_sorts) from_13

    from_10 : to_9 ≡ []
    from_10 = none-left to_9 (at_pieces condition_sort) (none-left to_10 (at_sites other_name) from_12)

    from_9 : to_8 ≡ []
    from_9 = none-left to_8 (at_pieces size_sort) from_10

    from_8 : to_7 ≡ []
    from_8 = none-left to_7 (at_pieces argument_sorts) from_9

    from_7 : to_5 ≡ []
    from_7 = none-left to_5 (at_pieces argument_count) from_8

    from_5 : to_4 ≡ []
    from_5 = none-left to_4 (at_pieces in_expressions) from_7

    from_4 : to_3 ≡ []
    from_4 = none-left to_3 (at_sites name_again) from_5

    from_3 : to_2 ≡ []
    from_3 = none-left to_2 (at_pieces later_type) from_4

    piece-rule : (rule : Site → Piece → List CheckFault) → at_pieces rule ≡ [] → (n : ℕ) (site : Site) → slice_get (sites tree.decls) n ≡ Some site → Each (λ piece. rule site piece ≡ []) (pieces site)
    piece-rule rule free n site there = each-none (rule site) (pieces site) (none-at (in_pieces rule) (sites tree.decls) n site free there)

    pub free-at : (n : ℕ) (site : Site) → slice_get (sites tree.decls) n ≡ Some site → Free site
    free-at n site there = record {
      again = none-at name_again (sites tree.decls) n site (none-right to_3 (at_sites name_again) from_5) there;
      spellings = none-at spelling_again (sites tree.decls) n site (none-right to_14 (at_sites spelling_again) from_18) there;
      misplaced = none-at misplaced_source (sites tree.decls) n site (none-right to_21 (at_sites misplaced_source) from_23) there;
      counted = none-at too_much (sites tree.decls) n site (none-right to_23 (at_sites too_much) from_25) there;
      recurs = none-at misplaced_precursive (sites tree.decls) n site (none-right to_24 (at_sites misplaced_precursive) (all-rules none)) there;
      at_pieces = together site (pieces site)
          (piece-rule unknown_type (none-right (at_sites name_taken) (at_pieces unknown_type) from_3) n site there)
          (piece-rule later_type (none-right to_2 (at_pieces later_type) from_4) n site there)
          (piece-rule in_expressions (none-right to_4 (at_pieces in_expressions) from_7) n site there)
          (piece-rule argument_count (none-right to_5 (at_pieces argument_count) from_8) n site there)
          (piece-rule argument_sorts (none-right to_7 (at_pieces argument_sorts) from_9) n site there)
          (piece-rule size_sort (none-right to_8 (at_pieces size_sort) from_10) n site there)
          (piece-rule condition_sort (none-right to_9 (at_pieces condition_sort) (none-left to_10 (at_sites other_name) from_12)) n site there)
          (piece-rule case_sorts (none-right to_11 (at_pieces case_sorts) from_13) n site there)
          (piece-rule computed_type (none-right to_15 (at_pieces computed_type) from_19) n site there)
          (piece-rule param_type (none-right to_18 (at_pieces param_type) from_20) n site there)
          (piece-rule record_type_named (none-right to_19 (at_pieces record_type_named) from_21) n site there);
    }
