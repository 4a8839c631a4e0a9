-- The bodies of the declarations that a description without violations resolves to.
use Rattle.std.proofs.Common.{◌≡◌, ◌∙◌, sym, ap, refl, subst, inl, inr, ℕ, ◌≤◌, Bool, true, false, not, ◌||◌, nat_le, List, [], ◌∷◌, ◌++◌, map, flat_map, length, take, Option, Some, None, option_map, slice_get}
use Rattle.std.proofs.lemmas.List.{length-map}
use Rattle.std.proofs.lemmas.Bool.{not-false}
use Rattle.pads_ast.specs.declared.decl.Array.{Array as WrittenArray}
use Rattle.pads_ast.specs.declared.decl.ArrayOption.{ArrayOption as WrittenOption}
use Rattle.pads_ast.specs.declared.decl.ArrayOption.TheVariants as written_option
use Rattle.pads_ast.specs.declared.decl.Ast.{Ast}
use Rattle.pads_ast.specs.declared.decl.Case.{Case as WrittenCase}
use Rattle.pads_ast.specs.declared.decl.Constraint.{Constraint as WrittenConstraint}
use Rattle.pads_ast.specs.declared.decl.Decl.{Decl as WrittenDecl}
use Rattle.pads_ast.specs.declared.decl.DeclBody.TheVariants as written_body
use Rattle.pads_ast.specs.declared.decl.Switch.{Switch as WrittenSwitch}
use Rattle.pads_ast.specs.declared.decl.Typedef.{Typedef as WrittenTypedef}
use Rattle.pads_ast.specs.declared.decl.Union.{Union as WrittenUnion}
use Rattle.pads_ast.specs.declared.decl.UnionBody.{UnionBody}
use Rattle.pads_ast.specs.declared.decl.UnionBody.TheVariants as written_union
use Rattle.pads_ast.specs.declared.expr.Expr.{Expr as Tree}
use Rattle.pads_ast.specs.declared.name.Name.{Name}
use Rattle.pads_ast.specs.declared.types.Branch.{Branch as WrittenBranch}
use Rattle.pads_ast.specs.declared.types.Const.{Const as WrittenConst}
use Rattle.pads_ast.specs.declared.types.Type.{«Type»}
use Rattle.pads_ast.specs.declared.types.Const.TheVariants as written_const
use Rattle.pads_rules.specs.declared.sort.Form.TheVariants as form
use Rattle.pads_rules.specs.declared.sort.Sort.{Sort}
use Rattle.pads_resolution.specs.declared.visible.Stands.TheVariants as stands
use Rattle.pads_resolution.specs.Bodies.{expr_at, option_at, branch_at, case_at, switch_at, union_at, array_option_at, array_at, constraint_at, typedef_at}
use Rattle.pads_resolution.specs.Scopes.{NameScope as Names, hiding, array_scope}
use Rattle.pads_resolution.specs.Types.{const_of, type_at}
use Rattle.pads_resolution.specs.JudgedNames.{as_named, judging_scope}
use Rattle.pads_rules.specs.DeclRules.{part_count}
use Rattle.pads_rules.specs.Faults.{breaks, when, each}
use Rattle.pads_rules.specs.Judging.{Scope as Judging, judged}
use Rattle.pads_ast.specs.NameTokens.{names_in_expr, names_in_option, names_in_type, names_in_branch, names_in_array_option, names_in_constraint, names_in_union}
use Rattle.pads_rules.specs.PieceRules.{is_num_or_text, const_sort, const_place}
use Rattle.pads_rules.specs.Pieces.{Site, Piece, Used, Choice, conditions, sizes, option_pieces, constraint_pieces, union_body_pieces, array_pieces}
use Rattle.pads_rules.specs.Resolving.{Sight, seen_from, type_sort, content_in}
use Rattle.pads_rules.specs.Sorts as rules
use Rattle.pads_rules.specs.Sorts.{accepts, agree, is_num_form, is_text_form}
use Rattle.pads_ast.specs.Trees.{listed, branches_of}
use Rattle.pads_rules.specs.Violations.{violations}
use Rattle.pads_rules.specs.declared.declared.Declared.{Declared}
use Rattle.pads_rules.specs.declared.declared.Named.{Named as RuleNamed}
use Rattle.pads_rules.specs.declared.expr_sort.ExprSort.{ExprSort}
use Rattle.pads_rules.specs.declared.expr_sort.ExprSort.TheVariants as expr_sort
use Rattle.pads_rules.specs.declared.rule.Rule.TheVariants as rule
use Rattle.pads_trans.specs.Names.{at_sign}
use Rattle.law_descriptions.specs.Expressions.{SortScope, sort_in, union_branches}
use Rattle.law_descriptions.specs.Sorts as sorts_of
use Rattle.law_descriptions.specs.WellSorted.{Each, IfThere, IsTruth, IsNumber, IsNumberKey, IsTextKey, IsBranch, Chooses, IsChosen, IsUnion, IsOption, IsArray, IsTypedef}
use Rattle.law_descriptions.proofs.Lists.{each-left, each-right}
use Rattle.law_descriptions.specs.Described.{IsSpelled, AreSpelled, IsProper}
use Rattle.law_descriptions.proofs.Bodies.{condition-typed, type-known, used-here, branches-typed}
use Rattle.law_descriptions.proofs.Described.{described, branches-are, branch-pieces}
use Rattle.law_descriptions.proofs.DescribedTypes.{few-parts}
use Rattle.law_descriptions.proofs.Environment.{site_of}
use Rattle.pads_rules.proofs.Faultless.{none-left, none-right, not-when}
use Rattle.law_descriptions.proofs.Forms.{num-form}
use Rattle.law_descriptions.proofs.Free.{FreePiece}
use Rattle.law_descriptions.proofs.AcceptedLists.{each-none}
use Rattle.law_descriptions.proofs.Scopes.{State, Again, sees-array}
use Rattle.law_descriptions.proofs.Typed.{sees-hiding}
use Rattle.law_descriptions.proofs.TypedOperators.{known-operand}
use Rattle.law_descriptions.proofs.AcceptedTypes.{IsReadAt, env, made, sorts, content-here, is-read}
use Rattle.law_descriptions.proofs.Uses.{expr-typed, number-typed, truth-typed, type-typed, text-form, sort-is}
use Rattle.law_descriptions.proofs.Count.{few-enough}

module _ (tree : Ast) (none : violations tree ≡ []) (n : ℕ) (d : WrittenDecl) (there : slice_get tree.decls n ≡ Some d) (reads : IsReadAt tree.decls n d)
    (names : Names) (seen : List RuleNamed) (w : SortScope) (before : List Name) (state : State tree none names seen w before) where
  abbrev site : Site
  site = site_of tree.decls n d

  abbrev Free_here : Piece → Type 0
  Free_here = FreePiece site

  abbrev types : Sight
  types = seen_from (env tree none) n

  abbrev plain_scope : List RuleNamed → Judging
  plain_scope seen = record { visible = seen; later = [] }

  pub used : (t : «Type») → Free_here (Used (plain_scope seen) t) → Free_here (Used (judging_scope names []) t)
  used t piece = used-here tree none n d there reads names seen w before state [] t piece

  -- typedefs
  constraint-typed : (td : WrittenTypedef) (o : Option WrittenConstraint) → Free_here (Used (judging_scope names []) td.of) → Each Free_here (constraint_pieces types (map as_named names) td.of o)
      → AreSpelled (flat_map names_in_constraint (listed o))
      → IfThere (λ c. IsTruth (made tree none) (sorts tree none) ((c.variable, sorts_of.type_sort (sorts tree none) (type_at site names td.of)) ∷ w) c.condition) (option_map (constraint_at site names td) o)
  unfolding constraint_at
  constraint-typed td None piece pieces spelled = tt
  constraint-typed td (Some c) piece pieces spelled =
      let known = type-known tree none n d there reads names [] td.of piece in
      let own = each-left IsSpelled (names_in_constraint c) [] spelled in
      truth-typed tree none n d c.condition (hiding c.variable.text stands.Variable (type_sort types td.of) names) [] ((c.variable.text, sorts_of.type_sort (sorts tree none) (type_at site names td.of)) ∷ w)
      (sees-hiding tree.decls (env tree none) (made tree none) (sorts tree none) (described tree none) names w c.variable.text (type_sort types td.of) (sorts_of.type_sort (sorts tree none) (type_at site names td.of))
      own.1.0 known.0 known.1 state.sees)
      own.1.1 (pieces.0).expressions (pieces.0).conditions

  pub typedef-typed : (td : WrittenTypedef) → Each Free_here (Used (plain_scope seen) td.of ∷ constraint_pieces types seen td.of td.constraint) → AreSpelled (names_in_type td.of ++ flat_map names_in_constraint (listed td.constraint))
      → IsTypedef (made tree none) (sorts tree none) n w (typedef_at site names td)
  unfolding typedef_at
  typedef-typed td pieces spelled =
      let piece = used td.of pieces.0 in
      let front = each-left IsSpelled (names_in_type td.of) (flat_map names_in_constraint (listed td.constraint)) spelled in (
        type-typed tree none n d names [] w state.sees there reads td.of piece front.1,
        constraint-typed td td.constraint piece (subst (λ seen. Each Free_here (constraint_pieces types seen td.of td.constraint)) (sym state.shown) pieces.1)
            (each-right IsSpelled (names_in_type td.of) (flat_map names_in_constraint (listed td.constraint)) spelled),
      )

  -- arrays
  size-typed : (o : Option Tree) → Each Free_here (sizes (judging_scope names []) o) → AreSpelled (names_in_option o) → IfThere (IsNumber (made tree none) (sorts tree none) w) (option_at site names o)
  size-typed None pieces spelled = tt
  size-typed (Some e) pieces spelled = number-typed tree none n d e names [] w state.sees (each-left IsSpelled (names_in_expr e) [] spelled) (pieces.0).expressions (pieces.0).sizes

  abbrev in_array : SortScope
  in_array = (at_sign, sorts_of.plain (form.Array n)) ∷ w

  options-typed : (proper : IsProper (env tree none) (made tree none) (form.Array n)) (options : List WrittenOption) → Each Free_here (flat_map (option_pieces (judging_scope (array_scope n names) [])) options)
      → AreSpelled (flat_map names_in_array_option options) → Each (IsOption (made tree none) (sorts tree none) n w) (map (array_option_at site (array_scope n names)) options)
  unfolding array_option_at
  options-typed proper [] pieces spelled = tt
  options-typed proper (written_option.Psep at separator ∷ options) pieces spelled = (tt, options-typed proper options pieces.1 spelled)
  options-typed proper (written_option.Pterm at terminator ∷ options) pieces spelled =
      (tt, options-typed proper options (each-right Free_here (option_pieces (judging_scope (array_scope n names) []) (written_option.Pterm at terminator)) (flat_map (option_pieces (judging_scope (array_scope n names) [])) options) pieces) spelled)
  options-typed proper (written_option.Plast at e ∷ options) pieces spelled = (
    truth-typed tree none n d e (array_scope n names) [] in_array (sees-array tree none n names seen w before state proper) (each-left IsSpelled (names_in_expr e) (flat_map names_in_array_option options) spelled)
        (pieces.0).expressions (pieces.0).conditions,
    options-typed proper options pieces.1 (each-right IsSpelled (names_in_expr e) (flat_map names_in_array_option options) spelled),
  )

  pub array-typed : (ad : WrittenArray) → d.body ≡ written_body.Array ad → Each Free_here (array_pieces n seen ad)
      → AreSpelled (names_in_type ad.of ++ names_in_option ad.size ++ flat_map names_in_array_option ad.options ++ names_in_option ad.condition)
      → IsArray (made tree none) (sorts tree none) n w (array_at site names ad)
  unfolding array_at
  array-typed ad is pieces' spelled =
      let pieces = subst (λ seen. Each Free_here (array_pieces n seen ad)) (sym state.shown) pieces' in
      let proper : IsProper (env tree none) (made tree none) (form.Array n) = (type_sort types ad.of, content-here tree none n d there ∙ ap (content_in types) is, (_, is-read tree none n d there reads)) in
      let sized = sizes (judging_scope names []) ad.size in
      let optioned = flat_map (option_pieces (judging_scope (array_scope n names) [])) ad.options in
      let conditioned = conditions (judging_scope (array_scope n names) []) ad.condition in
      let front = each-left Free_here (sized ++ optioned) conditioned pieces.1 in
      let in_of = names_in_type ad.of in
      let in_size = names_in_option ad.size in
      let in_options = flat_map names_in_array_option ad.options in
      let to_options = each-left IsSpelled (in_of ++ in_size ++ in_options) (names_in_option ad.condition) spelled in
      let to_size = each-left IsSpelled (in_of ++ in_size) in_options to_options in (
        type-typed tree none n d names [] w state.sees there reads ad.of pieces.0 (each-left IsSpelled in_of in_size to_size).1,
        size-typed ad.size (each-left Free_here sized optioned front) (each-right IsSpelled in_of in_size to_size),
        options-typed proper ad.options (each-right Free_here sized optioned front) (each-right IsSpelled (in_of ++ in_size) in_options to_options),
        condition-typed tree none n d there reads (array_scope n names) [] in_array ad.condition (sees-array tree none n names seen w before state proper)
            (each-right IsSpelled (in_of ++ in_size ++ in_options) (names_in_option ad.condition) spelled) (each-right Free_here (sized ++ optioned) conditioned pieces.1),
      )

  -- unions
  number-key : (c : WrittenConst) → agree rules.num (const_sort c) ≡ true → IsNumberKey (const_of c)
  number-key (written_const.Number negative value at) h = tt
  number-key (written_const.Word word) h = cc

  text-key : (c : WrittenConst) → agree rules.text (const_sort c) ≡ true → IsTextKey (const_of c)
  text-key (written_const.Number negative value at) h = cc
  text-key (written_const.Word word) h = tt

  abbrev Agreed : ExprSort → WrittenConst → Type 0
  Agreed sort c = when (not (agree sort (const_sort c))) (breaks rule.CaseSort (const_place c)) ≡ []

  agreed : (sort : ExprSort) (c : WrittenConst) → Agreed sort c → agree sort (const_sort c) ≡ true
  agreed sort c h = not-false (agree sort (const_sort c)) (not-when (not (agree sort (const_sort c))) (breaks rule.CaseSort (const_place c)) h)

  number-keys : (cases : List WrittenCase) (sort : ExprSort) → sort ≡ rules.num → Each (Agreed sort) (map (λ (c : WrittenCase). c.key) cases) → Each (λ case. IsNumberKey case.key) (map (case_at site names) cases)
  unfolding case_at
  number-keys [] sort is all = tt
  number-keys (c ∷ cases) sort is all = (number-key c.key (sym (ap (λ sort. agree sort (const_sort c.key)) is) ∙ agreed sort c.key all.0), number-keys cases sort is all.1)

  text-keys : (cases : List WrittenCase) (sort : ExprSort) → sort ≡ rules.text → Each (Agreed sort) (map (λ (c : WrittenCase). c.key) cases) → Each (λ case. IsTextKey case.key) (map (case_at site names) cases)
  unfolding case_at
  text-keys [] sort is all = tt
  text-keys (c ∷ cases) sort is all = (text-key c.key (sym (ap (λ sort. agree sort (const_sort c.key)) is) ∙ agreed sort c.key all.0), text-keys cases sort is all.1)

  chosen-typed : (s : WrittenSwitch) → Free_here (Choice (judging_scope names []) s.value (map (λ (c : WrittenCase). c.key) s.cases)) → AreSpelled (names_in_expr s.value)
      → Chooses (made tree none) (sorts tree none) n w (expr_at site names s.value) (map (case_at site names) s.cases)
  chosen-typed s piece spelled =
      let e = expr_at site names s.value in
      let keys = map (λ (c : WrittenCase). c.key) s.cases in
      let j = judged (env tree none) s.value (judging_scope names []) in
      let wrong = when (not (accepts is_num_or_text j.sort)) (breaks rule.CaseSort j.first) in
      let others = each (λ constant. when (not (agree j.sort (const_sort constant))) (breaks rule.CaseSort (const_place constant))) keys in
      let taken = not-false (accepts is_num_or_text j.sort) (not-when (not (accepts is_num_or_text j.sort)) (breaks rule.CaseSort j.first) (none-left wrong others piece.cases)) in
      let all = each-none (λ constant. when (not (agree j.sort (const_sort constant))) (breaks rule.CaseSort (const_place constant))) keys (none-right wrong others piece.cases) in
      let x = expr-typed tree none n d s.value names [] w state.sees spelled piece.expressions in
      let k = known-operand tree.decls (env tree none) (made tree none) (sorts tree none) (described tree none) is_num_or_text x.0 e w x.2 (ap (accepts is_num_or_text) x.1 ∙ taken) in
      by s j.sort all k.0 (sym x.1 ∙ k.1) k.2 k.5 (is_num_form (k.0).form) (is_text_form (k.0).form) refl refl k.3
    where
      by : (s : WrittenSwitch) (sort : ExprSort) → Each (Agreed sort) (map (λ (c : WrittenCase). c.key) s.cases) → (k : Sort) → sort ≡ expr_sort.Known k → k.optional ≡ 0
          → sort_in (made tree none) (sorts tree none) (expr_at site names s.value) w ≡ Some k → (a b : Bool) → is_num_form k.form ≡ a → is_text_form k.form ≡ b → (a || b) ≡ true
          → Chooses (made tree none) (sorts tree none) n w (expr_at site names s.value) (map (case_at site names) s.cases)
      by s sort all k is plain has true b number words h =
          let same = sort-is k form.Num plain (num-form k.form number) in
          inl (has ∙ ap (λ s. Some s) same, number-keys s.cases sort (is ∙ ap (λ s. expr_sort.Known s) same) all)
      by s sort all k is plain has false true number words h =
          let same = sort-is k form.Text plain (text-form k.form words) in
          inr (has ∙ ap (λ s. Some s) same, text-keys s.cases sort (is ∙ ap (λ s. expr_sort.Known s) same) all)
      by s sort all k is plain has false false number words h = cc

  union-chosen : (u : UnionBody) → Each Free_here (union_body_pieces types (map as_named names) u) → AreSpelled (names_in_union u) → IsChosen (made tree none) (sorts tree none) n w (union_at site names u)
  unfolding union_at switch_at
  union-chosen (written_union.Branches branches) pieces spelled = tt
  union-chosen (written_union.Switch s) pieces spelled =
      chosen-typed s pieces.0 (each-left IsSpelled (names_in_expr s.value) (flat_map names_in_branch (branches_of (written_union.Switch s))) spelled)

  union-names : (u : UnionBody) → AreSpelled (names_in_union u) → AreSpelled (flat_map names_in_branch (branches_of u))
  union-names (written_union.Branches branches) spelled = spelled
  union-names (written_union.Switch s) spelled = each-right IsSpelled (names_in_expr s.value) (flat_map names_in_branch (branches_of (written_union.Switch s))) spelled

  pub union-typed : (ud : WrittenUnion) → d.body ≡ written_body.Union ud → Each Free_here (union_body_pieces types seen ud.body) → AreSpelled (names_in_union ud.body)
      → Again tree none (before ++ []) (map (λ (f : WrittenBranch). f.name) (branches_of ud.body)) → IsUnion (made tree none) (sorts tree none) n w (union_at site names ud.body)
  union-typed ud is pieces spelled free =
      let bs = branches_of ud.body in
      let branches = branches-typed tree none n d there reads names seen w before state bs [] free (union-names ud.body spelled) (branch-pieces tree none n d there reads seen ud.body pieces) in
      let within : length bs ≤ 4096 = subst (λ inner. part_count inner ≤ 4096) is (few-parts tree none n d there) in
      let same = branches-are tree none n d there reads names ud.body in
      let long : length (union_branches (union_at site names ud.body)) ≡ length bs = ap length same ∙ length-map bs (branch_at site names) in (
        ap (λ count. nat_le count 65535) long ∙ few-enough (length bs) within,
        union-chosen ud.body (subst (λ seen. Each Free_here (union_body_pieces types seen ud.body)) (sym state.shown) pieces) spelled,
        subst (Each (IsBranch (made tree none) (sorts tree none) n w)) (sym same) branches,
      )
