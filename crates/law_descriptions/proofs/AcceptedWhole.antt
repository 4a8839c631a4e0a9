-- Each declaration that a description without violations resolves to is well-sorted.
use Rattle.std.proofs.Common.{◌≡◌, ◌∙◌, sym, ap, refl, subst, arith, ⊎_elim, inl, inr, ℕ, ◌≤◌, ◌||◌, nat_le, nat_lt, List, [], ◌∷◌, ◌++◌, append-nil, map, flat_map, length, take, Some, slice_get, ltb-false}
use Rattle.std.proofs.lemmas.List.{length-map}
use Rattle.std.proofs.lemmas.Bool.{or_parts}
use Rattle.pads_ast.specs.declared.decl.Ast.{Ast}
use Rattle.pads_ast.specs.declared.decl.Decl.{Decl as WrittenDecl}
use Rattle.pads_ast.specs.declared.decl.DeclBody.{DeclBody as WrittenBody}
use Rattle.pads_ast.specs.declared.decl.DeclBody.TheVariants as written_body
use Rattle.pads_ast.specs.declared.name.Name.{Name}
use Rattle.pads_ast.specs.declared.types.Param.{Param as WrittenParam}
use Rattle.pads_resolution.specs.declared.decl.Decl.{Decl}
use Rattle.pads_resolution.specs.declared.decl.Role.{Role}
use Rattle.pads_resolution.specs.declared.decl.Role.TheVariants as role
use Rattle.pads_resolution.specs.Bodies.{label_of as made_label, body_at as made_body}
use Rattle.pads_resolution.specs.Expressions.{sort_known}
use Rattle.pads_resolution.specs.Resolution.{role_of, params_scope as made_params, decl_at, resolved}
use Rattle.pads_resolution.specs.Types.{param_of}
use Rattle.pads_rules.specs.DeclRules.{same_name, same_option, option_place, options_of, same_spelling, labels_of, texts, part_count, scope_count, token_count, decl_name}
use Rattle.pads_rules.specs.DeclRules as decl_rules
use Rattle.pads_rules.specs.Faults.{breaks, again}
use Rattle.pads_ast.specs.NameTokens.{names_in_type, names_in_param, names_in_body, names_in_decl}
use Rattle.pads_rules.specs.DifferentNames.{count_of_different}
use Rattle.pads_rules.specs.Pieces.{Site, Piece, OfParam, body_pieces}
use Rattle.pads_rules.specs.Resolving.{Sight, seen_from, type_sort, param_named}
use Rattle.pads_ast.specs.Trees.{params_of, param_names, inner_names}
use Rattle.pads_rules.specs.Violations.{violations}
use Rattle.pads_rules.specs.declared.declared.Declared.{Declared}
use Rattle.pads_rules.specs.declared.declared.Named.{Named as RuleNamed}
use Rattle.pads_rules.specs.declared.rule.Rule.TheVariants as rule
use Rattle.law_descriptions.specs.Expressions.{if_read}
use Rattle.law_descriptions.specs.WellSorted.{Each, IfThere, IsParam, IsBody, IsDecl, params_scope}
use Rattle.law_descriptions.proofs.Lists.{each-left, each-right}
use Rattle.law_descriptions.specs.Described.{IsSpelled, AreSpelled}
use Rattle.law_descriptions.specs.Known.{known_sorts}
use Rattle.law_descriptions.proofs.NoAtSign.{tree-spelled}
use Rattle.law_descriptions.proofs.Again.{spellings-differ, counted-names}
use Rattle.law_descriptions.proofs.Decls.{typedef-typed, array-typed, union-typed, used}
use Rattle.law_descriptions.proofs.DescribedTypes.{few-parts}
use Rattle.law_descriptions.proofs.Environment.{site_of, site-back}
use Rattle.pads_rules.proofs.Faultless.{none-left, not-when}
use Rattle.law_descriptions.proofs.Free.{FreePiece}
use Rattle.law_descriptions.proofs.Scopes.{State, start, Again, params-state}
use Rattle.law_descriptions.proofs.Structs.{struct-typed}
use Rattle.law_descriptions.proofs.AcceptedTypes.{IsReadRole, IsReadAt, env, made, sorts, free as free-site, body-pieces}
use Rattle.law_descriptions.proofs.Uses.{param-sort, type-typed}
use Rattle.law_descriptions.proofs.Count.{few-enough}

spelled-params : (ps : List WrittenParam) → AreSpelled (flat_map names_in_param ps) → AreSpelled (map (λ (param : WrittenParam). param.name.text) ps)
spelled-params [] spelled = tt
spelled-params (p ∷ ps) spelled = (
  (each-right IsSpelled (names_in_type p.of) (p.name.text ∷ []) (each-left IsSpelled (names_in_param p) (flat_map names_in_param ps) spelled)).0,
  spelled-params ps (each-right IsSpelled (names_in_param p) (flat_map names_in_param ps) spelled),
)

-- parameters are counted among the names in scope
abbrev AllAgain : List Name → Type 0
AllAgain xs = again same_name (λ (name : Name). breaks rule.NameAgain name.at) [] xs ≡ []

named-params : (ps : List WrittenParam) (rest : List Name) (more : List (List ℕ)) → AllAgain (map (λ (param : WrittenParam). param.name) ps ++ rest)
    → length ps ≤ count_of_different (texts (map (λ (param : WrittenParam). param.name) ps) ++ more)
named-params ps rest more free =
    let h = counted-names (map (λ (param : WrittenParam). param.name) ps) [] rest more free in omega (arith, h, length-map ps (λ (param : WrittenParam). param.name))

alone-params : (ps : List WrittenParam) (rest : List Name) → AllAgain (map (λ (param : WrittenParam). param.name) ps ++ rest) → length ps ≤ count_of_different (texts (map (λ (param : WrittenParam). param.name) ps))
alone-params ps rest free =
    subst (λ (names : List (List ℕ)). length ps ≤ count_of_different names) (append-nil (texts (map (λ (param : WrittenParam). param.name) ps))) (named-params ps rest [] free)

params-count : (inner : WrittenBody) → AllAgain (param_names inner ++ inner_names inner) → length (params_of inner) ≤ scope_count inner
params-count (written_body.Struct d) free = named-params (params_of (written_body.Struct d)) (inner_names (written_body.Struct d)) _ free
params-count (written_body.Union d) free = let h = alone-params (params_of (written_body.Union d)) (inner_names (written_body.Union d)) free in omega (arith, h)
params-count (written_body.Array d) free = named-params (params_of (written_body.Array d)) (inner_names (written_body.Array d)) _ free
params-count (written_body.Enum d) free = omega arith
params-count (written_body.Typedef d) free = named-params (params_of (written_body.Typedef d)) (inner_names (written_body.Typedef d)) _ free
params-count (written_body.Opt d) free = alone-params (params_of (written_body.Opt d)) (inner_names (written_body.Opt d)) free

module _ (tree : Ast) (none : violations tree ≡ []) (n : ℕ) (d : WrittenDecl) (there : slice_get tree.decls n ≡ Some d) where
  abbrev site : Site
  site = site_of tree.decls n d

  abbrev types : Sight
  types = seen_from (env tree none) n

  abbrev Free_here : Piece → Type 0
  Free_here = FreePiece site

  few-names : scope_count d.body ≤ 4096
  few-names =
      ltb-false 4096 (scope_count d.body)
      (or_parts (nat_le 4096 n || nat_lt 4096 (part_count d.body)) (nat_lt 4096 (scope_count d.body))
      (or_parts _ (nat_lt 65000 (token_count site)) (not-when _ (breaks rule.Limit (decl_name site).at) (free-site tree none n d there).counted)).0).1

  all-names : AllAgain (param_names d.body ++ inner_names d.body)
  all-names = none-left (again same_name (λ (name : Name). breaks rule.NameAgain name.at) [] (param_names d.body ++ inner_names d.body)) (again same_option (λ option. breaks rule.NameAgain (option_place option)) [] (options_of d.body)) (free-site tree none n d there).again

  param-pieces : Each Free_here (map (λ (param : WrittenParam). OfParam param.of) (params_of d.body))
  param-pieces = each-left Free_here (map (λ (param : WrittenParam). OfParam param.of) (params_of d.body)) (body_pieces types n (map (param_named types) (params_of d.body)) d.body) (free-site tree none n d there).at_pieces

  each-param : (ps : List WrittenParam) → Each Free_here (map (λ (param : WrittenParam). OfParam param.of) ps) → Each IsParam (map (param_of types) ps)
  unfolding param_of
  each-param [] pieces = tt
  each-param (p ∷ ps) pieces =
      let s = param-sort tree none n d p pieces.0 in
      let told : sort_known (type_sort types p.of) ≡ s.0 = ap sort_known s.1 in
      (⊎_elim (λ is. inl (told ∙ is)) (λ is. inr (told ∙ is)) s.2, each-param ps pieces.1)

  module _ (spelled : AreSpelled (names_in_decl d.body)) where
    in_params : AreSpelled (map (λ (param : WrittenParam). param.name.text) (params_of d.body))
    in_params = spelled-params (params_of d.body) (each-left IsSpelled (flat_map names_in_param (params_of d.body)) (names_in_body d.body) spelled.1)

    in_body : AreSpelled (names_in_body d.body)
    in_body = each-right IsSpelled (flat_map names_in_param (params_of d.body)) (names_in_body d.body) spelled.1

    abbrev before : List Name
    before = map (λ (param : WrittenParam). param.name) (params_of d.body)

    params-here : State tree none (made_params site) (map (param_named types) (params_of d.body)) (params_scope (map (param_of types) (params_of d.body)) []) before × Again tree none before (inner_names d.body)
    unfolding made_params
    params-here = params-state tree none n d (params_of d.body) [] [] [] [] (inner_names d.body) (start tree none) all-names in_params param-pieces

    body-typed : IsReadAt tree.decls n d → (inner : WrittenBody) → d.body ≡ inner
        → IsBody (made tree none) (sorts tree none) n (params_scope (map (param_of types) (params_of d.body)) []) (made_body site (made_params site) inner)
    unfolding made_body
    body-typed reads inner is = by inner is (subst (λ inner. Each Free_here (body_pieces types n seen inner)) is (body-pieces tree none n d there)) (subst (λ inner. AreSpelled (names_in_body inner)) is in_body)
        (subst (λ inner. Again tree none before (inner_names inner)) is params-here.1)
      where
        seen : List RuleNamed
        seen = map (param_named types) (params_of d.body)

        by : (inner : WrittenBody) → d.body ≡ inner → Each Free_here (body_pieces types n (map (param_named types) (params_of d.body)) inner) → AreSpelled (names_in_body inner) → Again tree none before (inner_names inner)
            → IsBody (made tree none) (sorts tree none) n (params_scope (map (param_of types) (params_of d.body)) []) (made_body site (made_params site) inner)
        by (written_body.Struct b) is pieces spelled free = struct-typed tree none n d there reads b is (map (param_named types) (params_of d.body)) (params_scope (map (param_of types) (params_of d.body)) []) before params-here.0 pieces free spelled
        by (written_body.Union b) is pieces spelled free =
            union-typed tree none n d there reads (made_params site) (map (param_named types) (params_of d.body)) (params_scope (map (param_of types) (params_of d.body)) []) before params-here.0 b is pieces spelled
            (subst (λ before. Again tree none before (inner_names (written_body.Union b))) (sym (append-nil before)) free)
        by (written_body.Array b) is pieces spelled free =
            array-typed tree none n d there reads (made_params site) (map (param_named types) (params_of d.body)) (params_scope (map (param_of types) (params_of d.body)) []) before params-here.0 b is pieces spelled
        by (written_body.Enum b) is pieces spelled free =
            let within : length b.labels ≤ 4096 = subst (λ inner. part_count inner ≤ 4096) is (few-parts tree none n d there) in (
              ap (λ count. nat_le count 65535) (length-map b.labels made_label) ∙ few-enough (length b.labels) within,
              spellings-differ b.labels (λ label. breaks rule.SpellingAgain (decl_rules.spelling_of label).1) (subst (λ inner. again same_spelling (λ label. breaks rule.SpellingAgain (decl_rules.spelling_of label).1) [] (labels_of inner) ≡ []) is (free-site tree none n d there).spellings),
            )
        by (written_body.Typedef b) is pieces spelled free =
            typedef-typed tree none n d there reads (made_params site) (map (param_named types) (params_of d.body)) (params_scope (map (param_of types) (params_of d.body)) []) before params-here.0 b pieces spelled
        by (written_body.Opt b) is pieces spelled free =
            type-typed tree none n d (made_params site) [] (params_scope (map (param_of types) (params_of d.body)) []) (params-here.0).sees there reads b.of
            (used tree none n d there reads (made_params site) (map (param_named types) (params_of d.body)) (params_scope (map (param_of types) (params_of d.body)) []) before params-here.0 b.of pieces.0) spelled.1

    read-typed : (r : Role) → role_of site ≡ r
        → IfThere (IsBody (made tree none) (sorts tree none) n (params_scope (map (param_of types) (params_of d.body)) [])) (if_read r (made_body site (made_params site) d.body))
    read-typed role.Part is = body-typed (subst IsReadRole (sym is) tt) d.body refl
    read-typed role.Precord is = body-typed (subst IsReadRole (sym is) tt) d.body refl
    read-typed role.Source is = tt

    pub decl-typed : IsDecl (made tree none) (sorts tree none) n (decl_at site)
    unfolding decl_at
    decl-typed =
        let long = length-map (params_of d.body) (param_of types) in
        let within = params-count d.body all-names in
        let most = few-names in
        (ap (λ count. nat_le count 65535) long ∙ few-enough (length (params_of d.body)) (omega arith), each-param (params_of d.body) param-pieces, read-typed (role_of site) refl)

pub tree-sorted : (tree : Ast) → violations tree ≡ [] → (number : ℕ) (d : Decl) → slice_get (resolved tree).decls number ≡ Some d → IsDecl (resolved tree).decls (known_sorts tree) number d
unfolding resolved
tree-sorted tree none number d there =
    let written = site-back tree.decls number d there in
    subst (IsDecl (made tree none) (sorts tree none) number) written.2 (decl-typed tree none number written.0 written.1 (tree-spelled tree number written.0 written.1))
