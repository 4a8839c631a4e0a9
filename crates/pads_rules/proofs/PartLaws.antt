-- The least violation of a tree, declaration by declaration and piece by piece.
use Rattle.std.proofs.Common.{◌≡◌, ◌∙◌, sym, ap, refl, List, [], ◌∷◌, ◌++◌, Option}
use Rattle.pads_ast.specs.declared.decl.Ast.{Ast}
use Rattle.pads_rules.specs.declared.fault.CheckFault.{CheckFault}
use Rattle.pads_rules.specs.DeclRules.{name_taken, name_again, other_name, spelling_again, marked_with_params, misplaced_source, misplaced_precursive, too_much}
use Rattle.pads_rules.specs.Faults.{lesser, least, each}
use Rattle.pads_rules.specs.PieceRules.{unknown_type, later_type, argument_count, argument_sorts, size_sort, condition_sort, case_sorts, case_again, empty_literal, computed_type, param_type, record_type_named, in_expressions}
use Rattle.pads_rules.specs.Pieces.{Site, Piece, sites, pieces}
use Rattle.pads_rules.specs.Violations.{in_pieces, no_record_type, violations}
use Rattle.pads_rules.proofs.Least.{lesser_comm, lesser_assoc, least-append, together}
use Rattle.pads_rules.specs.SiteFaults.{decl_faults, piece_faults, all_faults}

-- A product in two groups takes one more factor into the one or the other.
into-first : (q d p x : Option CheckFault) → q ≡ lesser d p → lesser q x ≡ lesser (lesser d x) p
into-first q d p x e =
    ap (λ y. lesser y x) e ∙ lesser_assoc d p x ∙ ap (lesser d) (lesser_comm p x) ∙ sym (lesser_assoc d x p)

into-second : (q d p x : Option CheckFault) → q ≡ lesser d p → lesser q x ≡ lesser d (lesser p x)
into-second q d p x e = ap (λ y. lesser y x) e ∙ lesser_assoc d p x

-- The same least violations at each of some things.
pub least-each : {A : Type 0} (f g : A → List CheckFault) → ((x : A) → least (f x) ≡ least (g x)) → (xs : List A) → least (each f xs) ≡ least (each g xs)
least-each f g same [] = refl
least-each f g same (x ∷ xs) =
    least-append (f x) (each f xs) ∙ ap (λ y. lesser y (least (each f xs))) (same x) ∙ ap (lesser (least (g x))) (least-each f g same xs) ∙ sym (least-append (g x) (each g xs))

-- The rules about pieces, piece by piece.
pieces_together : (site : Site) →
    least (in_pieces unknown_type site ++ in_pieces later_type site ++ in_pieces in_expressions site ++ in_pieces argument_count site
    ++ in_pieces argument_sorts site ++ in_pieces size_sort site ++ in_pieces condition_sort site ++ in_pieces case_sorts site ++ in_pieces case_again site
    ++ in_pieces empty_literal site ++ in_pieces computed_type site ++ in_pieces param_type site ++ in_pieces record_type_named site)
    ≡ least (each (piece_faults site) (pieces site))
pieces_together site = simp (least-append, together) refl

module _ (tree : Ast) where
  abbrev at_sites : (Site → List CheckFault) → Option CheckFault
  at_sites rule = least (each rule (sites tree.decls))

  abbrev at_pieces : (Site → Piece → List CheckFault) → Option CheckFault
  at_pieces rule = at_sites (in_pieces rule)

  decl_part : lesser (lesser (lesser (lesser (lesser (lesser (lesser (at_sites name_taken) (at_sites name_again)) (at_sites other_name)) (at_sites spelling_again))
      (at_sites marked_with_params)) (at_sites misplaced_source)) (at_sites too_much)) (at_sites misplaced_precursive)
      ≡ at_sites decl_faults
  decl_part = simp together refl

  piece_part : lesser (lesser (lesser (lesser (lesser (lesser (lesser (lesser (lesser (lesser (lesser (lesser (at_pieces unknown_type) (at_pieces later_type))
      (at_pieces in_expressions)) (at_pieces argument_count)) (at_pieces argument_sorts)) (at_pieces size_sort)) (at_pieces condition_sort)) (at_pieces case_sorts))
      (at_pieces case_again)) (at_pieces empty_literal)) (at_pieces computed_type)) (at_pieces param_type)) (at_pieces record_type_named)
      ≡ at_sites (λ site. each (piece_faults site) (pieces site))
  piece_part = simp together (least-each _ _ pieces_together (sites tree.decls))

  in_two : lesser (lesser (lesser (lesser (lesser (lesser (lesser (lesser (lesser (lesser (lesser (lesser (lesser (lesser (lesser (lesser (lesser (lesser (at_sites name_taken) (at_pieces unknown_type)) (at_pieces later_type)) (at_sites name_again)) (at_pieces in_expressions)) (at_pieces argument_count)) (at_pieces argument_sorts)) (at_pieces size_sort)) (at_pieces condition_sort)) (at_sites other_name)) (at_pieces case_sorts)) (at_pieces case_again)) (at_pieces empty_literal)) (at_sites spelling_again)) (at_pieces computed_type)) (at_pieces param_type)) (at_pieces record_type_named)) (at_sites marked_with_params)) (at_sites misplaced_source)
      ≡ lesser (lesser (lesser (lesser (lesser (lesser (at_sites name_taken) (at_sites name_again)) (at_sites other_name)) (at_sites spelling_again)) (at_sites marked_with_params)) (at_sites misplaced_source)) (lesser (lesser (lesser (lesser (lesser (lesser (lesser (lesser (lesser (lesser (lesser (lesser (at_pieces unknown_type) (at_pieces later_type)) (at_pieces in_expressions)) (at_pieces argument_count)) (at_pieces argument_sorts)) (at_pieces size_sort)) (at_pieces condition_sort)) (at_pieces case_sorts)) (at_pieces case_again)) (at_pieces empty_literal)) (at_pieces computed_type)) (at_pieces param_type)) (at_pieces record_type_named))
  in_two =
      into-first _ _ _ (at_sites misplaced_source) (into-first _ _ _ (at_sites marked_with_params) (into-second _ _ _ (at_pieces record_type_named) (into-second _ _ _ (at_pieces param_type) (into-second _ _ _ (at_pieces computed_type) (into-first _ _ _ (at_sites spelling_again) (into-second _ _ _ (at_pieces empty_literal) (into-second _ _ _ (at_pieces case_again) (into-second _ _ _ (at_pieces case_sorts) (into-first _ _ _ (at_sites other_name) (into-second _ _ _ (at_pieces condition_sort) (into-second _ _ _ (at_pieces size_sort) (into-second _ _ _ (at_pieces argument_sorts) (into-second _ _ _ (at_pieces argument_count) (into-second _ _ _ (at_pieces in_expressions) (into-first _ _ _ (at_sites name_again) (into-second (lesser (at_sites name_taken) (at_pieces unknown_type)) (at_sites name_taken) (at_pieces unknown_type) (at_pieces later_type) refl))))))))))))))))

  -- the rule about the whole tree, and the last rules about declarations
  in_order : least (violations tree) ≡ lesser (lesser (lesser (lesser (lesser (lesser (lesser (lesser (lesser (lesser (lesser (lesser (lesser (lesser (lesser (lesser (lesser (lesser (lesser (lesser (lesser (at_sites name_taken) (at_pieces unknown_type)) (at_pieces later_type)) (at_sites name_again)) (at_pieces in_expressions)) (at_pieces argument_count)) (at_pieces argument_sorts)) (at_pieces size_sort)) (at_pieces condition_sort)) (at_sites other_name)) (at_pieces case_sorts)) (at_pieces case_again)) (at_pieces empty_literal)) (at_sites spelling_again)) (at_pieces computed_type)) (at_pieces param_type)) (at_pieces record_type_named)) (at_sites marked_with_params)) (at_sites misplaced_source)) (at_sites too_much)) (at_sites misplaced_precursive)) (least (no_record_type tree))
  unfolding violations
  in_order =
      let all : Option CheckFault = (lesser (lesser (lesser (lesser (lesser (lesser (lesser (lesser (lesser (lesser (lesser (lesser (lesser (lesser (lesser (lesser (lesser (lesser (at_sites name_taken) (at_pieces unknown_type)) (at_pieces later_type)) (at_sites name_again)) (at_pieces in_expressions)) (at_pieces argument_count)) (at_pieces argument_sorts)) (at_pieces size_sort)) (at_pieces condition_sort)) (at_sites other_name)) (at_pieces case_sorts)) (at_pieces case_again)) (at_pieces empty_literal)) (at_sites spelling_again)) (at_pieces computed_type)) (at_pieces param_type)) (at_pieces record_type_named)) (at_sites marked_with_params)) (at_sites misplaced_source)) in
      simp least-append
      (into-first (lesser (lesser all (least (no_record_type tree))) (at_sites too_much)) (lesser all (at_sites too_much)) (least (no_record_type tree)) (at_sites misplaced_precursive)
      (into-first (lesser all (least (no_record_type tree))) all (least (no_record_type tree)) (at_sites too_much) refl))

  -- The violation that is told first is the first of those of the declarations, each with its pieces, and of that of the whole tree.
  pub least-violations : least (violations tree) ≡ lesser (least (all_faults tree)) (least (no_record_type tree))
  least-violations =
      in_order
      ∙ ap (λ q. lesser q (least (no_record_type tree)))
      (into-first _ _ _ (at_sites misplaced_precursive) (into-first _ _ _ (at_sites too_much) in_two)
      ∙ ap (λ d. lesser d (lesser (lesser (lesser (lesser (lesser (lesser (lesser (lesser (lesser (lesser (lesser (lesser (at_pieces unknown_type) (at_pieces later_type)) (at_pieces in_expressions)) (at_pieces argument_count)) (at_pieces argument_sorts)) (at_pieces size_sort)) (at_pieces condition_sort)) (at_pieces case_sorts)) (at_pieces case_again)) (at_pieces empty_literal)) (at_pieces computed_type)) (at_pieces param_type)) (at_pieces record_type_named))) decl_part
      ∙ ap (lesser (at_sites decl_faults)) piece_part
      ∙ together decl_faults (λ site. each (piece_faults site) (pieces site)) (sites tree.decls))

pub ruleset part_laws = (least-violations)
