-- The declarations that a description without violations resolves to have the sorts that the rules know.
use Rattle.std.proofs.Common.{◌≡◌, ◌∙◌, ap, refl, subst, arith, ℕ, suc, ◌≤◌, false, not, ◌&&◌, ◌||◌, ◌==◌, List, [], map, length, take, Some, slice_get}
use Rattle.std.proofs.lemmas.Bool.{and_right}
use Rattle.pads_ast.specs.declared.decl.Ast.{Ast}
use Rattle.pads_ast.specs.declared.decl.Decl.{Decl as WrittenDecl}
use Rattle.pads_ast.specs.declared.decl.DeclBody.{DeclBody as WrittenBody}
use Rattle.pads_ast.specs.declared.decl.DeclBody.TheVariants as written_body
use Rattle.pads_rules.specs.declared.sort.Form.TheVariants as form
use Rattle.pads_rules.specs.declared.sort.Sort.{Sort}
use Rattle.pads_resolution.specs.declared.decl.Decl.{Decl}
use Rattle.pads_resolution.specs.Bodies.{body_at as made_body, typedef_at}
use Rattle.pads_resolution.specs.Expressions.{sort_known}
use Rattle.pads_resolution.specs.Resolution.{params_scope as made_params, decl_at, resolved}
use Rattle.pads_resolution.specs.Types.{type_at}
use Rattle.pads_rules.specs.DeclRules.{decl_name}
use Rattle.pads_rules.specs.Faults.{breaks}
use Rattle.pads_rules.specs.PieceRules.{is_source_shape, is_header_shape}
use Rattle.pads_rules.specs.Pieces.{body_pieces}
use Rattle.pads_rules.specs.Resolving.{Sight, seen_from, is_record_list_body, param_named, sort_in}
use Rattle.pads_rules.specs.Sorts as rules
use Rattle.pads_ast.specs.Trees.{params_of, is_precord, is_psource, is_precursive}
use Rattle.pads_rules.specs.Violations.{violations}
use Rattle.pads_rules.specs.declared.declared.Declared.{Declared}
use Rattle.pads_rules.specs.declared.rule.Rule.TheVariants as rule
use Rattle.law_descriptions.specs.Sorts as sorts_of
use Rattle.law_descriptions.specs.WellSorted.{Each, AreSorts}
use Rattle.law_descriptions.specs.Known.{known_sorts}
use Rattle.law_descriptions.proofs.DescribedTypes.{used-sort}
use Rattle.law_descriptions.proofs.Environment.{site_of, site-back}
use Rattle.pads_rules.proofs.Faultless.{not-when}
use Rattle.law_descriptions.proofs.Free.{FreePiece}
use Rattle.law_descriptions.proofs.AcceptedTypes.{unless, IsReadAt, reads-at, env, made, sorts, free, few, body-pieces, sort-here, used-settled, decl-settled, optional-same}

module _ (tree : Ast) (none : violations tree ≡ []) (n : ℕ) (d : WrittenDecl) (there : slice_get tree.decls n ≡ Some d) where
  abbrev types : Sight
  types = seen_from (env tree none) n

  -- what is no source shape is read
  shapeless : is_record_list_body types d.body ≡ false → is_header_shape types d.body ≡ false → IsReadAt tree.decls n d
  shapeless no_list no_header =
      let site = site_of tree.decls n d in
      let list = and_right (not (is_precord d.mark || is_precursive d.mark)) (is_record_list_body types d.body) no_list in
      let shape : is_source_shape site ≡ false = ap (λ b. b || (is_psource d.mark && is_header_shape types d.body)) list ∙ and_right (is_psource d.mark) (is_header_shape types d.body) no_header in
      let marked = unless (is_psource d.mark) ((suc n == length tree.decls) && is_source_shape site)
      (not-when (is_psource d.mark && not ((suc n == length tree.decls) && is_source_shape site)) (breaks rule.MisplacedSource (decl_name site).at) (free tree none n d there).misplaced)
      (and_right (suc n == length tree.decls) (is_source_shape site) shape) in
      reads-at tree.decls n d marked list

  sorts-by : (inner : WrittenBody) → d.body ≡ inner → sort_known (sort_in types inner) ≡ sorts_of.body_sort (sorts tree none) n (made_body (site_of tree.decls n d) (made_params (site_of tree.decls n d)) inner)
  unfolding made_body typedef_at
  sorts-by (written_body.Struct b) is = refl
  sorts-by (written_body.Union b) is = refl
  sorts-by (written_body.Array b) is = refl
  sorts-by (written_body.Enum b) is = refl
  sorts-by (written_body.Typedef b) is =
      let reads = shapeless (ap (is_record_list_body types) is) (ap (is_header_shape types) is) in
      let pieces = subst (λ inner. Each (FreePiece (site_of tree.decls n d)) (body_pieces types n (map (param_named types) (params_of d.body)) inner)) is (body-pieces tree none n d there) in
      ap sort_known (used-sort tree none n d (made_params (site_of tree.decls n d)) _ b.of there reads pieces.0)
  sorts-by (written_body.Opt b) is =
      let reads = shapeless (ap (is_record_list_body types) is) (ap (is_header_shape types) is) in
      let pieces = subst (λ inner. Each (FreePiece (site_of tree.decls n d)) (body_pieces types n (map (param_named types) (params_of d.body)) inner)) is (body-pieces tree none n d there) in
      let s = sorts_of.type_sort (sorts tree none) (type_at (site_of tree.decls n d) (made_params (site_of tree.decls n d)) b.of) in
      let known = used-sort tree none n d (made_params (site_of tree.decls n d)) _ b.of there reads pieces.0 in
      let h = used-settled tree none n d _ b.of there (λ k e less. decl-settled tree none k e) reads pieces.0 in
      let same : h.0 ≡ s = let a = h.1 in cc in
      let bound = h.3 in
      let late = few tree none n d there in
      let within : s.optional ≤ 8192 = subst (λ (s : Sort). s.optional ≤ 8192) same (omega arith) in
      ap (λ t. sort_known (rules.optional t)) known ∙ ap (λ (o : ℕ). record { optional = o; form = s.form }) (optional-same tree none s.optional within)

  pub sort-same : sort_known (sort_in types d.body) ≡ sorts_of.body_sort (sorts tree none) n (made_body (site_of tree.decls n d) (made_params (site_of tree.decls n d)) d.body)
  sort-same = sorts-by d.body refl

made-sorts : (tree : Ast) (none : violations tree ≡ []) → AreSorts (sorts tree none) (made tree none)
unfolding decl_at
made-sorts tree none n m there =
    let d = site-back tree.decls n m there in
    sort-here tree none n d.0 d.1 ∙ ap (λ s. Some s) (sort-same tree none n d.0 d.1) ∙ ap (λ (m : Decl). Some (sorts_of.body_sort (sorts tree none) n m.body)) d.2

pub tree-sorts : (tree : Ast) → violations tree ≡ [] → AreSorts (known_sorts tree) (resolved tree).decls
unfolding resolved
tree-sorts tree none = made-sorts tree none
