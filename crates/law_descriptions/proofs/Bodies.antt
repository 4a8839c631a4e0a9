-- The declarations that a description without violations resolves to are well-sorted.
use Rattle.std.proofs.Common.{◌≡◌, ◌∙◌, sym, ap, subst, ℕ, true, false, List, [], ◌∷◌, ◌++◌, append_assoc, map, flat_map, take, Option, Some, None, slice_get}
use Rattle.std.specs.Prelude.{⊤}
use Rattle.std.specs.List.{list_any}
use Rattle.std.proofs.lemmas.List.Folds.{list_any-append}
use Rattle.std.proofs.lemmas.Bool.{or_parts}
use Rattle.pads_ast.specs.declared.decl.Ast.{Ast}
use Rattle.pads_ast.specs.declared.decl.Decl.{Decl as WrittenDecl}
use Rattle.pads_ast.specs.declared.decl.Part.{Part as WrittenPart}
use Rattle.pads_ast.specs.declared.decl.Part.TheVariants as written_part
use Rattle.pads_ast.specs.declared.expr.Expr.{Expr as Tree}
use Rattle.pads_ast.specs.declared.name.Name.{Name}
use Rattle.pads_ast.specs.declared.types.Branch.{Branch as WrittenBranch}
use Rattle.pads_ast.specs.declared.types.Type.{«Type»}
use Rattle.pads_rules.specs.declared.sort.Sort.{Sort}
use Rattle.pads_resolution.specs.Bodies.{option_at, branch_at, part_at, parts_at}
use Rattle.pads_resolution.specs.Scopes.{NameScope as Names, variable, names_after}
use Rattle.pads_resolution.specs.Types.{computed_of, type_at}
use Rattle.pads_resolution.specs.JudgedNames.{judging_scope}
use Rattle.pads_rules.specs.Judging.{Scope as Judging, judged}
use Rattle.pads_ast.specs.NameTokens.{names_in_expr, names_in_option, names_in_type, names_in_branch, names_in_part}
use Rattle.pads_rules.specs.Pieces.{Site, Piece, Used, Computed, conditions, part_pieces, parts_pieces, names_after as rule_names_after, texts_of_parts, branch_pieces}
use Rattle.pads_rules.specs.Resolving.{Sight, seen_from, type_sort, branch_named}
use Rattle.pads_rules.specs.Sorts.{agree}
use Rattle.pads_ast.specs.Trees.{part_names}
use Rattle.pads_rules.specs.DeclRules.{same_name}
use Rattle.pads_rules.specs.Violations.{violations}
use Rattle.pads_rules.specs.declared.declared.Declared.{Declared}
use Rattle.pads_rules.specs.declared.declared.Named.{Named as RuleNamed}
use Rattle.pads_rules.specs.declared.expr_sort.ExprSort.TheVariants as expr_sort
use Rattle.law_descriptions.specs.Expressions.{SortScope}
use Rattle.law_descriptions.specs.Sorts as sorts_of
use Rattle.law_descriptions.specs.WellSorted.{Each, IfThere, IsTruth, IsBranch, AreParts}
use Rattle.law_descriptions.proofs.Lists.{each-left, each-right}
use Rattle.law_descriptions.specs.Described.{IsSpelled, AreSpelled, IsProper, Sees}
use Rattle.law_descriptions.proofs.DescribedTypes.{used-sort, used-proper, computed-sort, computed-proper}
use Rattle.law_descriptions.proofs.Environment.{site_of}
use Rattle.law_descriptions.proofs.Free.{FreePiece}
use Rattle.law_descriptions.proofs.Scopes.{State, step, no-more, Again, fresh-first, again-later}
use Rattle.law_descriptions.proofs.AcceptedTypes.{IsReadAt, env, made, sorts}
use Rattle.law_descriptions.proofs.Uses.{truth-typed, agreed-typed, type-typed}

module _ (tree : Ast) (none : violations tree ≡ []) (n : ℕ) (d : WrittenDecl) (there : slice_get tree.decls n ≡ Some d) (reads : IsReadAt tree.decls n d) where
  abbrev site : Site
  site = site_of tree.decls n d

  abbrev Free_here : Piece → Type 0
  Free_here = FreePiece site

  abbrev types : Sight
  types = seen_from (env tree none) n

  abbrev SeesHere : Names → SortScope → Type 0
  SeesHere = Sees (env tree none) (made tree none) (sorts tree none)

  abbrev StateHere : Names → List RuleNamed → SortScope → List Name → Type 0
  StateHere = State tree none

  abbrev rule_scope : List RuleNamed → List (List ℕ) → Judging
  rule_scope seen later = record { visible = seen; later = later }

  -- constraints and other conditions
  pub condition-typed : (names : Names) (later : List (List ℕ)) (w : SortScope) (o : Option Tree) → SeesHere names w → AreSpelled (names_in_option o) → Each Free_here (conditions (judging_scope names later) o)
      → IfThere (IsTruth (made tree none) (sorts tree none) w) (option_at site names o)
  condition-typed names later w None sees spelled pieces = tt
  condition-typed names later w (Some e) sees spelled pieces =
      truth-typed tree none n d e names later w sees (each-left IsSpelled (names_in_expr e) [] spelled) (pieces.0).expressions (pieces.0).conditions

  pub type-known : (names : Names) (later : List (List ℕ)) (t : «Type») → Free_here (Used (judging_scope names later) t)
      → (type_sort types t ≡ expr_sort.Known (sorts_of.type_sort (sorts tree none) (type_at site names t))) × IsProper (env tree none) (made tree none) (sorts_of.type_sort (sorts tree none) (type_at site names t)).form
  type-known names later t piece =
      let s = sorts_of.type_sort (sorts tree none) (type_at site names t) in
      let is = used-sort tree none n d names (judging_scope names later) t there reads piece in
      let h = used-proper tree none n d names (judging_scope names later) t there reads piece (λ s. ⊤) tt in
      let same : h.0 ≡ s = let a = h.1 in cc in
      (is, subst (λ (s : Sort). IsProper (env tree none) (made tree none) s.form) same h.2)

  -- a field or a branch
  module _ (names : Names) (seen : List RuleNamed) (w : SortScope) (before : List Name) (state : StateHere names seen w before) where
    pub used-here : (later : List (List ℕ)) (t : «Type») → Free_here (Used (rule_scope seen later) t) → Free_here (Used (judging_scope names later) t)
    used-here later t piece = subst (λ seen. Free_here (Used (rule_scope seen later) t)) (sym state.shown) piece

    pub behind-field : (f : WrittenBranch) → list_any (same_name f.name) before ≡ false → IsSpelled f.name.text → (later : List (List ℕ)) → Free_here (Used (rule_scope seen later) f.of)
        → StateHere (names ++ variable (branch_named types f) ∷ []) (seen ++ branch_named types f ∷ []) ((f.name.text, sorts_of.type_sort (sorts tree none) (type_at site names f.of)) ∷ w) (before ++ f.name ∷ [])
    behind-field f fresh spelled later piece =
        let known = type-known names later f.of (used-here later f.of piece) in
        step tree none names seen w before f.name (type_sort types f.of) (sorts_of.type_sort (sorts tree none) (type_at site names f.of)) state fresh spelled known.0 known.1

    pub branch-typed : (f : WrittenBranch) (later : List (List ℕ)) → list_any (same_name f.name) before ≡ false → AreSpelled (names_in_branch f) → Free_here (Used (rule_scope seen later) f.of)
        → Each Free_here (conditions (rule_scope (seen ++ branch_named types f ∷ []) later) f.constraint) → IsBranch (made tree none) (sorts tree none) n w (branch_at site names f)
    unfolding branch_at
    branch-typed f later fresh spelled piece pieces =
        let rest = each-right IsSpelled (names_in_type f.of) (f.name.text ∷ names_in_option f.constraint) spelled in
        let in_type = each-left IsSpelled (names_in_type f.of) (f.name.text ∷ names_in_option f.constraint) spelled in
        let inner = behind-field f fresh rest.0 later piece in (
          type-typed tree none n d names later w state.sees there reads f.of (used-here later f.of piece) in_type.1,
          condition-typed (names ++ variable (branch_named types f) ∷ []) later ((f.name.text, sorts_of.type_sort (sorts tree none) (type_at site names f.of)) ∷ w) f.constraint inner.sees rest.1
              (subst (λ seen. Each Free_here (conditions (rule_scope seen later) f.constraint)) (sym inner.shown) pieces),
        )

  -- parts of a struct
  pub parts-typed : (parts : List WrittenPart) (names : Names) (seen : List RuleNamed) (w : SortScope) (before : List Name) → StateHere names seen w before → Again tree none before (flat_map part_names parts)
      → AreSpelled (flat_map names_in_part parts) → Each Free_here (parts_pieces types seen parts) → AreParts (made tree none) (sorts tree none) n w (parts_at site names parts)
  unfolding part_at branch_at
  parts-typed [] names seen w before state free spelled pieces = tt
  parts-typed (written_part.Literal l ∷ parts) names seen w before state free spelled pieces =
      let rest = each-right Free_here (part_pieces types seen (texts_of_parts (written_part.Literal l ∷ parts)) (written_part.Literal l)) (parts_pieces types (rule_names_after types seen (written_part.Literal l)) parts) pieces in
      (tt, parts-typed parts (names_after types names (written_part.Literal l)) (rule_names_after types seen (written_part.Literal l)) w before (no-more tree none names seen w before state) free spelled rest)
  parts-typed (written_part.Pcompute of name value ∷ parts) names seen w before state free spelled pieces =
      let p = written_part.Pcompute of name value in
      let later = texts_of_parts (p ∷ parts) in
      let s = sorts_of.computed_sort (computed_of of) in
      let own = each-left IsSpelled (names_in_part p) (flat_map names_in_part parts) spelled in
      let rest = each-right IsSpelled (names_in_type of) (name.text ∷ names_in_expr value) own in
      let piece : Free_here (Computed (judging_scope names later) of value) = subst (λ seen. Free_here (Computed (rule_scope seen later) of value)) (sym state.shown) pieces.0 in
      let rule = computed-sort tree none n d (judging_scope names later) of value piece in
      let agreed : agree (expr_sort.Known s) (judged (env tree none) value (judging_scope names later)).sort ≡ true =
      sym (ap (λ sort. agree sort (judged (env tree none) value (judging_scope names later)).sort) rule.0) ∙ rule.1 in (
        agreed-typed tree none n d value names later w s state.sees rest.1 piece.expressions agreed,
        parts-typed parts (names_after types names p) (rule_names_after types seen p) ((name.text, s) ∷ w) (before ++ name ∷ [])
            (step tree none names seen w before name (type_sort types of) s state (fresh-first tree none before name (flat_map part_names parts) free) rest.0 rule.0 (computed-proper tree none (computed_of of)))
            (again-later tree none before name (flat_map part_names parts) free) (each-right IsSpelled (names_in_part p) (flat_map names_in_part parts) spelled) pieces.1,
      )
  parts-typed (written_part.Field f ∷ parts) names seen w before state free spelled pieces =
      let p = written_part.Field f in
      let later = texts_of_parts (p ∷ parts) in
      let own = each-left IsSpelled (names_in_part p) (flat_map names_in_part parts) spelled in
      let fresh = fresh-first tree none before f.name (flat_map part_names parts) free in
      let here = each-left Free_here (part_pieces types seen later p) (parts_pieces types (rule_names_after types seen p) parts) pieces in
      let spelled_name = (each-right IsSpelled (names_in_type f.of) (f.name.text ∷ names_in_option f.constraint) own).0 in (
        branch-typed names seen w before state f later fresh own here.0 here.1,
        parts-typed parts (names_after types names p) (rule_names_after types seen p) ((f.name.text, sorts_of.type_sort (sorts tree none) (type_at site names f.of)) ∷ w) (before ++ f.name ∷ [])
            (behind-field names seen w before state f fresh spelled_name later here.0)
            (again-later tree none before f.name (flat_map part_names parts) free) (each-right IsSpelled (names_in_part p) (flat_map names_in_part parts) spelled)
            (each-right Free_here (part_pieces types seen later p) (parts_pieces types (rule_names_after types seen p) parts) pieces),
      )

  -- branches of a union, each behind the parameters alone
  pub branches-typed : (names : Names) (seen : List RuleNamed) (w : SortScope) (before : List Name) → StateHere names seen w before → (branches : List WrittenBranch) (more : List Name)
      → Again tree none (before ++ more) (map (λ (f : WrittenBranch). f.name) branches) → AreSpelled (flat_map names_in_branch branches)
      → Each Free_here (flat_map (branch_pieces types seen) branches) → Each (IsBranch (made tree none) (sorts tree none) n w) (map (branch_at site names) branches)
  branches-typed names seen w before state [] more free spelled pieces = tt
  branches-typed names seen w before state (f ∷ branches) more free spelled pieces =
      let others = map (λ (f : WrittenBranch). f.name) branches in
      let fresh = fresh-first tree none (before ++ more) f.name others free in
      let apart = (or_parts (list_any (same_name f.name) before) (list_any (same_name f.name) more) (sym (list_any-append (same_name f.name) before more) ∙ fresh)).0 in
      let here = each-left Free_here (branch_pieces types seen f) (flat_map (branch_pieces types seen) branches) pieces in (
        branch-typed names seen w before state f [] apart (each-left IsSpelled (names_in_branch f) (flat_map names_in_branch branches) spelled) here.0 here.1,
        branches-typed names seen w before state branches (more ++ f.name ∷ []) (subst (λ all. Again tree none all others) (append_assoc before more (f.name ∷ [])) (again-later tree none (before ++ more) f.name others free))
            (each-right IsSpelled (names_in_branch f) (flat_map names_in_branch branches) spelled)
            (each-right Free_here (branch_pieces types seen f) (flat_map (branch_pieces types seen) branches) pieces),
      )
