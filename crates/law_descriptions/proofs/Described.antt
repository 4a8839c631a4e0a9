-- The declarations that a description without violations resolves to are what the rules know of them.
use Rattle.std.proofs.Common.{◌≡◌, ◌∙◌, sym, ap, refl, subst, arith, ℕ, suc, ◌+◌, ◌<◌, ◌≤◌, Bool, true, false, not, cond, if◌then◌else◌, nat_lt, List, [], ◌∷◌, ◌++◌, map, flat_map, length, take, find, position, Option, Some, None, option_map, option_and_then, slice_get, ltb-true, lt-ltb}
use Rattle.std.specs.List.{position_or_len}
use Rattle.std.proofs.lemmas.List.{length-map}
use Rattle.pads_ast.specs.declared.decl.Ast.{Ast}
use Rattle.pads_ast.specs.declared.decl.Array.{Array as WrittenArray}
use Rattle.pads_ast.specs.declared.decl.Case.{Case as WrittenCase}
use Rattle.pads_ast.specs.declared.decl.Decl.{Decl as WrittenDecl}
use Rattle.pads_ast.specs.declared.decl.DeclBody.{DeclBody as WrittenBody}
use Rattle.pads_ast.specs.declared.decl.DeclBody.TheVariants as written_body
use Rattle.pads_ast.specs.declared.decl.Enum.{Enum as WrittenEnum}
use Rattle.pads_ast.specs.declared.decl.Label.{Label as WrittenLabel}
use Rattle.pads_ast.specs.declared.decl.Part.{Part as WrittenPart}
use Rattle.pads_ast.specs.declared.decl.Part.TheVariants as written_part
use Rattle.pads_ast.specs.declared.decl.Struct.{Struct as WrittenStruct}
use Rattle.pads_ast.specs.declared.decl.Union.{Union as WrittenUnion}
use Rattle.pads_ast.specs.declared.decl.UnionBody.{UnionBody}
use Rattle.pads_ast.specs.declared.decl.UnionBody.TheVariants as written_union
use Rattle.pads_ast.specs.declared.types.Branch.{Branch as WrittenBranch}
use Rattle.pads_rules.specs.declared.sort.Form.TheVariants as form
use Rattle.pads_rules.specs.declared.sort.Sort.{Sort}
use Rattle.pads_resolution.specs.declared.decl.Case.{Case}
use Rattle.pads_resolution.specs.declared.decl.Decl.{Decl}
use Rattle.pads_resolution.specs.declared.types.Branch.{Branch}
use Rattle.pads_resolution.specs.Bodies.{label_of, branch_at, part_at, parts_at, struct_at, case_at, switch_at, union_at, array_at, body_at as made_body}
use Rattle.pads_resolution.specs.Numbers.{number_of, has_name, part_number, field_in, field_number, branch_number, label_number}
use Rattle.pads_resolution.specs.Resolution.{params_scope as made_params, resolved}
use Rattle.pads_resolution.specs.Scopes.{NameScope as Names, names_after}
use Rattle.pads_resolution.specs.Types.{computed_of}
use Rattle.pads_rules.specs.DeclRules.{part_count}
use Rattle.pads_rules.specs.Members.{content_of}
use Rattle.pads_rules.specs.Pieces.{Site, Piece, part_pieces, parts_pieces, names_after as rule_names_after, texts_of_parts, branch_pieces, union_body_pieces, body_pieces}
use Rattle.pads_rules.specs.Resolving.{Sight, seen_from, type_sort, named, branch_named, param_named, content_in, declared}
use Rattle.pads_rules.specs.Texts.{same_text, is_among, sort_of}
use Rattle.pads_ast.specs.Trees.{listed, params_of, named_part, branches_of}
use Rattle.pads_rules.specs.Violations.{violations}
use Rattle.pads_rules.specs.declared.declared.Content.{Content}
use Rattle.pads_rules.specs.declared.declared.Content.TheVariants as content
use Rattle.pads_rules.specs.declared.declared.Declared.{Declared}
use Rattle.pads_rules.specs.declared.declared.Named.{Named as RuleNamed}
use Rattle.pads_rules.specs.declared.expr_sort.ExprSort.{ExprSort}
use Rattle.law_descriptions.specs.Expressions as sorting
use Rattle.law_descriptions.specs.Expressions.{if_default, union_branches, body_at, value_of, part_sort, union_branch, plain_choice, of_elements, element_of}
use Rattle.law_descriptions.specs.Sorts as sorts_of
use Rattle.law_descriptions.specs.WellSorted.{Each}
use Rattle.law_descriptions.proofs.Lists.{each-left, each-right, each-flat, there-mapped, mapped-there}
use Rattle.law_descriptions.proofs.SortedNames.{first-there}
use Rattle.law_descriptions.specs.Described.{Describes}
use Rattle.law_descriptions.specs.Known.{known_sorts}
use Rattle.law_descriptions.proofs.Free.{FreePiece}
use Rattle.law_descriptions.proofs.AcceptedTypes.{IsReadAt, is-read, body-pieces, content-here}
use Rattle.law_descriptions.proofs.DescribedTypes as of_types
use Rattle.law_descriptions.proofs.DescribedTypes.{found-sort, place-number, swapped-any}
use Rattle.law_calculus.proofs.Bases.{there-below}

module _ (tree : Ast) (none : violations tree ≡ []) where
  abbrev made_here : List Decl
  made_here = of_types.made_here tree none

  abbrev env_here : List Declared
  env_here = of_types.env_here tree none

  abbrev sorts_here : List Sort
  sorts_here = of_types.sorts_here tree none

  abbrev site_at : ℕ → WrittenDecl → Site
  site_at = of_types.site_at tree none

  abbrev Known : (Sort → Type 0) → ExprSort → Type 0
  Known = of_types.Known tree none

  -- a part of a struct by its name
  module _ (n : ℕ) (d : WrittenDecl) (there : slice_get tree.decls n ≡ Some d) (reads : IsReadAt tree.decls n d) where
    abbrev Free_here : Piece → Type 0
    Free_here = FreePiece (site_at n d)

    abbrev types : Sight
    types = seen_from env_here n

    abbrev PartThere : Names → List WrittenPart → List ℕ → ExprSort → Type 0
    PartThere names parts name sort =
        (inner : Names) × (p : WrittenPart) × (slice_get (parts_at (site_at n d) names parts) (position_or_len (has_name name) parts) ≡ Some (part_at (site_at n d) inner p))
        × (position_or_len (has_name name) parts < length parts) × Known (λ s. value_of made_here sorts_here (part_at (site_at n d) inner p) ≡ Some s) sort

    -- one further on
    later-part : (names : Names) (p : WrittenPart) (parts : List WrittenPart) (name : List ℕ) (sort : ExprSort) → has_name name p ≡ false → PartThere (names_after types names p) parts name sort → PartThere names (p ∷ parts) name sort
    later-part names p parts name sort other h =
        let k = position_or_len (has_name name) parts in
        let number : position_or_len (has_name name) (p ∷ parts) ≡ suc k = ap (λ b. cond (not b) (1 + k) 0) other ∙ one k in
        let less = h.3 in
        (h.0, h.1, ap (slice_get (parts_at (site_at n d) names (p ∷ parts))) number ∙ h.2, subst (λ m. m < suc (length parts)) (sym number) (omega arith), h.4)
      where
        one : (k : ℕ) → 1 + k ≡ suc k
        one k = omega arith

    this-part : (names : Names) (p : WrittenPart) (parts : List WrittenPart) (name : List ℕ) (sort : ExprSort) → has_name name p ≡ true
        → Known (λ s. value_of made_here sorts_here (part_at (site_at n d) names p) ≡ Some s) sort → PartThere names (p ∷ parts) name sort
    this-part names p parts name sort own h =
        let number : position_or_len (has_name name) (p ∷ parts) ≡ 0 = ap (λ b. cond (not b) (1 + position_or_len (has_name name) parts) 0) own in
        (names, p, ap (slice_get (parts_at (site_at n d) names (p ∷ parts))) number, subst (λ m. m < suc (length parts)) (sym number) (omega arith), h)

    field-by : (b : Bool) (names : Names) (p : WrittenPart) (parts : List WrittenPart) (name own : List ℕ) (own_sort sort : ExprSort) → has_name name p ≡ b
        → Known (λ s. value_of made_here sorts_here (part_at (site_at n d) names p) ≡ Some s) own_sort
        → (sort_of (map (named types) (flat_map named_part parts)) name ≡ Some sort → PartThere (names_after types names p) parts name sort)
        → option_map (λ (x : RuleNamed). x.sort) (if b then Some (record { text = own; sort = own_sort }) else find (λ (x : RuleNamed). same_text x.text name) (map (named types) (flat_map named_part parts))) ≡ Some sort
        → PartThere names (p ∷ parts) name sort
    field-by true names p parts name own own_sort sort is known rest found =
        let same : own_sort ≡ sort = cc in
        this-part names p parts name sort is (subst (Known (λ s. value_of made_here sorts_here (part_at (site_at n d) names p) ≡ Some s)) same known)
    field-by false names p parts name own own_sort sort is known rest found = later-part names p parts name sort is (rest found)

    field-there : (names : Names) (seen : List RuleNamed) (parts : List WrittenPart) (name : List ℕ) (sort : ExprSort) → Each Free_here (parts_pieces types seen parts)
        → sort_of (map (named types) (flat_map named_part parts)) name ≡ Some sort → PartThere names parts name sort
    unfolding part_at branch_at
    field-there names seen [] name sort pieces found = cc
    field-there names seen (written_part.Literal l ∷ parts) name sort pieces found =
        let rest = each-right Free_here (part_pieces types seen (texts_of_parts (written_part.Literal l ∷ parts)) (written_part.Literal l)) (parts_pieces types (rule_names_after types seen (written_part.Literal l)) parts) pieces in
        later-part names (written_part.Literal l) parts name sort refl
        (field-there (names_after types names (written_part.Literal l)) (rule_names_after types seen (written_part.Literal l)) parts name sort rest found)
    field-there names seen (written_part.Pcompute of own value ∷ parts) name sort pieces found =
        let rule = of_types.computed-sort tree none n d _ of value pieces.0 in
        field-by (same_text own.text name) names (written_part.Pcompute of own value) parts name own.text (type_sort types of) sort refl
        (sorts_of.computed_sort (computed_of of), rule.0, of_types.computed-proper tree none (computed_of of), refl)
        (field-there (names_after types names (written_part.Pcompute of own value)) (rule_names_after types seen (written_part.Pcompute of own value)) parts name sort pieces.1) found
    field-there names seen (written_part.Field f ∷ parts) name sort pieces found =
        let rest = each-right Free_here (part_pieces types seen (texts_of_parts (written_part.Field f ∷ parts)) (written_part.Field f)) (parts_pieces types (rule_names_after types seen (written_part.Field f)) parts) pieces in
        field-by (same_text (f.name).text name) names (written_part.Field f) parts name (f.name).text (type_sort types f.of) sort refl
        (of_types.used-proper tree none n d names _ f.of there reads pieces.0 (λ s. value_of made_here sorts_here (part_at (site_at n d) names (written_part.Field f)) ≡ Some s) refl)
        (field-there (names_after types names (written_part.Field f)) (rule_names_after types seen (written_part.Field f)) parts name sort rest) found

    body-is : body_at made_here n ≡ Some (made_body (site_at n d) (made_params (site_at n d)) d.body)
    body-is = is-read tree none n d there reads

    struct-field : (sd : WrittenStruct) (name : List ℕ) (sort : ExprSort) → d.body ≡ written_body.Struct sd → sort_of (map (named types) (flat_map named_part sd.parts)) name ≡ Some sort
        → Known (λ s. part_sort made_here sorts_here (field_number tree.decls n name) (form.Struct n) ≡ Some s) sort
    unfolding field_number part_number made_body struct_at
    struct-field sd name sort is found =
        let params = made_params (site_at n d) in
        let pieces = subst (λ inner. Each Free_here (body_pieces types n (map (param_named types) (params_of d.body)) inner)) is (body-pieces tree none n d there) in
        let inside = each-left Free_here (parts_pieces types (map (param_named types) (params_of d.body)) sd.parts) _ pieces in
        let x = field-there params (map (param_named types) (params_of d.body)) sd.parts name sort inside found in
        let k = position_or_len (has_name name) sd.parts in
        let number : field_number tree.decls n name ≡ k =
        ap (λ (o : Option WrittenDecl). by o) there ∙ ap (λ inner. field_in inner name) is ∙ place-number (has_name name) sd.parts x.3 (subst (λ inner. part_count inner ≤ 4096) is (of_types.few-parts tree none n d there)) in
        let body : body_at made_here n ≡ Some (made_body (site_at n d) params (written_body.Struct sd)) = body-is ∙ ap (λ inner. Some (made_body (site_at n d) params inner)) is in (
          x.4.0,
          x.4.1,
          x.4.2,
          ap (λ m. part_sort made_here sorts_here m (form.Struct n)) number
              ∙ ap (option_and_then (sorting.part_of made_here sorts_here k)) body
              ∙ ap (option_and_then (value_of made_here sorts_here)) x.2 ∙ x.4.3,
        )
      where
        by : Option WrittenDecl → ℕ
        by None = 0
        by (Some d) = field_in d.body name

    -- branches of a union
    each-branch : (params : Names) (cases : List WrittenCase) (default : Option WrittenBranch)
        → map (λ (c : Case). c.branch) (map (case_at (site_at n d) params) cases) ++ if_default (option_map (branch_at (site_at n d) params) default)
        ≡ map (branch_at (site_at n d) params) (map (λ (c : WrittenCase). c.branch) cases ++ listed default)
    unfolding case_at
    each-branch params [] None = refl
    each-branch params [] (Some f) = refl
    each-branch params (c ∷ cases) default = ap (λ rest. branch_at (site_at n d) params c.branch ∷ rest) (each-branch params cases default)

    pub branches-are : (params : Names) (u : UnionBody) → union_branches (union_at (site_at n d) params u) ≡ map (branch_at (site_at n d) params) (branches_of u)
    unfolding union_at switch_at
    branches-are params (written_union.Branches branches) = refl
    branches-are params (written_union.Switch s) = each-branch params s.cases s.default

    pub branch-pieces : (params : List RuleNamed) (u : UnionBody) → Each Free_here (union_body_pieces types params u) → Each Free_here (flat_map (branch_pieces types params) (branches_of u))
    branch-pieces params (written_union.Branches branches) pieces = pieces
    branch-pieces params (written_union.Switch s) pieces = pieces.1

    abbrev BranchThere : UnionBody → List ℕ → ExprSort → Type 0
    BranchThere u name sort =
        (branch_number (map (branch_named types) (branches_of u)) name < length (branches_of u))
        × Known (λ s. option_map (λ (f : Branch). sorts_of.type_sort sorts_here f.of) (slice_get (union_branches (union_at (site_at n d) (made_params (site_at n d)) u)) (branch_number (map (branch_named types) (branches_of u)) name)) ≡ Some s) sort

    branch-there : (ud : WrittenUnion) (name : List ℕ) (sort : ExprSort) → d.body ≡ written_body.Union ud → sort_of (map (branch_named types) (branches_of ud.body)) name ≡ Some sort → BranchThere ud.body name sort
    unfolding branch_number branch_at
    branch-there ud name sort is found =
        let params = made_params (site_at n d) in
        let bs = branches_of ud.body in
        let p = λ (x : RuleNamed). same_text x.text name in
        let k = position_or_len p (map (branch_named types) bs) in
        let x = found-sort (map (branch_named types) bs) name sort found in
        let f = mapped-there (branch_named types) bs k x.0 x.1 in
        let less : k < length bs = there-below bs k f.0 f.1 in
        let many : length (map (branch_named types) bs) ≡ length bs = length-map bs (branch_named types) in
        let within : length bs ≤ 4096 = subst (λ inner. part_count inner ≤ 4096) is (of_types.few-parts tree none n d there) in
        let number : number_of (position p (map (branch_named types) bs)) ≡ k =
        place-number p (map (branch_named types) bs) (subst (λ m. k < m) (sym many) less) (subst (λ m. m ≤ 4096) (sym many) within) in
        let pieces = subst (λ inner. Each Free_here (body_pieces types n (map (param_named types) (params_of d.body)) inner)) is (body-pieces tree none n d there) in
        let own = each-flat Free_here (branch_pieces types (map (param_named types) (params_of d.body))) bs k f.0 (branch-pieces (map (param_named types) (params_of d.body)) ud.body pieces) f.1 in
        let sort_is : type_sort types (f.0).of ≡ sort = ap (λ (x : RuleNamed). x.sort) f.2 ∙ x.2 in
        let there_made : slice_get (union_branches (union_at (site_at n d) params ud.body)) k ≡ Some (branch_at (site_at n d) params f.0) =
        ap (λ bs. slice_get bs k) (branches-are params ud.body) ∙ there-mapped (branch_at (site_at n d) params) bs k f.0 f.1 in (
          subst (λ m. m < length bs) (sym number) less,
          subst (Known (λ s. option_map (λ (f : Branch). sorts_of.type_sort sorts_here f.of) (slice_get (union_branches (union_at (site_at n d) params ud.body)) (number_of (position p (map (branch_named types) bs)))) ≡ Some s)) sort_is
              (of_types.used-proper tree none n d params _ (f.0).of there reads own.0
              (λ s. option_map (λ (f : Branch). sorts_of.type_sort sorts_here f.of) (slice_get (union_branches (union_at (site_at n d) params ud.body)) (number_of (position p (map (branch_named types) bs)))) ≡ Some s)
              (ap (λ m. option_map (λ (f : Branch). sorts_of.type_sort sorts_here f.of) (slice_get (union_branches (union_at (site_at n d) params ud.body)) m)) number
              ∙ ap (option_map (λ (f : Branch). sorts_of.type_sort sorts_here f.of)) there_made)),
        )

    union-field : (ud : WrittenUnion) (name : List ℕ) (sort : ExprSort) → d.body ≡ written_body.Union ud → sort_of (map (branch_named types) (branches_of ud.body)) name ≡ Some sort
        → Known (λ s. union_branch made_here sorts_here (branch_number (map (branch_named types) (branches_of ud.body)) name) (form.Union n) ≡ Some s) sort
    unfolding made_body
    union-field ud name sort is found =
        let x = branch-there ud name sort is found in
        let params = made_params (site_at n d) in
        let body : body_at made_here n ≡ Some (made_body (site_at n d) params (written_body.Union ud)) = body-is ∙ ap (λ inner. Some (made_body (site_at n d) params inner)) is in
        (x.1.0, x.1.1, x.1.2, ap (option_and_then (sorting.branch_of made_here sorts_here (branch_number (map (branch_named types) (branches_of ud.body)) name))) body ∙ x.1.3)

    union-chosen : (ud : WrittenUnion) (name : List ℕ) (sort : ExprSort) → d.body ≡ written_body.Union ud → sort_of (map (branch_named types) (branches_of ud.body)) name ≡ Some sort
        → plain_choice made_here sorts_here (branch_number (map (branch_named types) (branches_of ud.body)) name) (form.Union n) ≡ Some sorts_of.truth
    unfolding made_body
    union-chosen ud name sort is found =
        let x = branch-there ud name sort is found in
        let params = made_params (site_at n d) in
        let number = branch_number (map (branch_named types) (branches_of ud.body)) name in
        let body : body_at made_here n ≡ Some (made_body (site_at n d) params (written_body.Union ud)) = body-is ∙ ap (λ inner. Some (made_body (site_at n d) params inner)) is in
        let many : length (union_branches (union_at (site_at n d) params ud.body)) ≡ length (branches_of ud.body) =
        ap length (branches-are params ud.body) ∙ length-map (branches_of ud.body) (branch_at (site_at n d) params) in
        ap (option_and_then (λ inner. sorting.if_there made_here sorts_here number (length (sorting.branches_in inner)))) body
        ∙ ap (λ b. if b then Some sorts_of.truth else None) (ap (nat_lt number) many ∙ lt-ltb number (length (branches_of ud.body)) x.0)

    -- labels of an enum
    label-there : (ed : WrittenEnum) (name : List ℕ) → d.body ≡ written_body.Enum ed → is_among (map (λ (l : WrittenLabel). l.name.text) ed.labels) name ≡ true
        → plain_choice made_here sorts_here (label_number (map (λ (l : WrittenLabel). l.name.text) ed.labels) name) (form.Enum n) ≡ Some sorts_of.truth
    unfolding label_number made_body
    label-there ed name is found =
        let params = made_params (site_at n d) in
        let texts = map (λ (l : WrittenLabel). l.name.text) ed.labels in
        let p = λ (label : List ℕ). same_text label name in
        let less = ltb-true (position_or_len p texts) (length texts) (first-there p texts ∙ swapped-any texts name found) in
        let many : length texts ≡ length ed.labels = length-map ed.labels (λ (l : WrittenLabel). l.name.text) in
        let within : length ed.labels ≤ 4096 = subst (λ inner. part_count inner ≤ 4096) is (of_types.few-parts tree none n d there) in
        let number = place-number p texts less (subst (λ m. m ≤ 4096) (sym many) within) in
        let body : body_at made_here n ≡ Some (made_body (site_at n d) params (written_body.Enum ed)) = body-is ∙ ap (λ inner. Some (made_body (site_at n d) params inner)) is in
        ap (option_and_then (λ inner. sorting.if_there made_here sorts_here (number_of (position p texts)) (length (sorting.labels_in inner)))) body
        ∙ ap (λ b. if b then Some sorts_of.truth else None)
        (ap (λ m. nat_lt m (length (map label_of ed.labels))) number ∙ ap (nat_lt (position_or_len p texts)) (length-map ed.labels label_of ∙ sym many) ∙ lt-ltb (position_or_len p texts) (length texts) less)

    -- elements of an array
    element-there : (ad : WrittenArray) → d.body ≡ written_body.Array ad → Known (λ s. of_elements made_here sorts_here (form.Array n) ≡ Some s) (type_sort types ad.of)
    unfolding made_body array_at
    element-there ad is =
        let params = made_params (site_at n d) in
        let pieces = subst (λ inner. Each Free_here (body_pieces types n (map (param_named types) (params_of d.body)) inner)) is (body-pieces tree none n d there) in
        let body : body_at made_here n ≡ Some (made_body (site_at n d) params (written_body.Array ad)) = body-is ∙ ap (λ inner. Some (made_body (site_at n d) params inner)) is in
        of_types.used-proper tree none n d params _ ad.of there reads pieces.0 (λ s. of_elements made_here sorts_here (form.Array n) ≡ Some s) (ap (option_and_then (element_of made_here sorts_here)) body)

    content-is : (c : Content) → content_of env_here n ≡ c → content_in types d.body ≡ c
    content-is c is = sym (content-here tree none n d there) ∙ is

    fields-by : (inner : WrittenBody) (fields : List RuleNamed) (name : List ℕ) (sort : ExprSort) → d.body ≡ inner → content_in types inner ≡ content.Fields fields → sort_of fields name ≡ Some sort
        → Known (λ s. part_sort made_here sorts_here (field_number tree.decls n name) (form.Struct n) ≡ Some s) sort
    fields-by (written_body.Struct sd) fields name sort is content found =
        let same : map (named types) (flat_map named_part sd.parts) ≡ fields = cc in
        struct-field sd name sort is (ap (λ fields. sort_of fields name) same ∙ found)
    fields-by (written_body.Union ud) fields name sort is content found = cc
    fields-by (written_body.Array ad) fields name sort is content found = cc
    fields-by (written_body.Enum ed) fields name sort is content found = cc
    fields-by (written_body.Typedef td) fields name sort is content found = cc
    fields-by (written_body.Opt od) fields name sort is content found = cc

    branches-by : (inner : WrittenBody) (branches : List RuleNamed) (name : List ℕ) (sort : ExprSort) → d.body ≡ inner → content_in types inner ≡ content.Branches branches → sort_of branches name ≡ Some sort
        → Known (λ s. union_branch made_here sorts_here (branch_number branches name) (form.Union n) ≡ Some s) sort
        × (plain_choice made_here sorts_here (branch_number branches name) (form.Union n) ≡ Some sorts_of.truth)
    branches-by (written_body.Union ud) branches name sort is content found =
        let same : map (branch_named types) (branches_of ud.body) ≡ branches = cc in
        let found_there = ap (λ branches. sort_of branches name) same ∙ found in (
          subst (λ branches. Known (λ s. union_branch made_here sorts_here (branch_number branches name) (form.Union n) ≡ Some s) sort) same (union-field ud name sort is found_there),
          subst (λ branches. plain_choice made_here sorts_here (branch_number branches name) (form.Union n) ≡ Some sorts_of.truth) same (union-chosen ud name sort is found_there),
        )
    branches-by (written_body.Struct sd) branches name sort is content found = cc
    branches-by (written_body.Array ad) branches name sort is content found = cc
    branches-by (written_body.Enum ed) branches name sort is content found = cc
    branches-by (written_body.Typedef td) branches name sort is content found = cc
    branches-by (written_body.Opt od) branches name sort is content found = cc

    labels-by : (inner : WrittenBody) (labels : List (List ℕ)) (name : List ℕ) → d.body ≡ inner → content_in types inner ≡ content.Labels labels → is_among labels name ≡ true
        → plain_choice made_here sorts_here (label_number labels name) (form.Enum n) ≡ Some sorts_of.truth
    labels-by (written_body.Enum ed) labels name is content found =
        let same : map (λ (l : WrittenLabel). l.name.text) ed.labels ≡ labels = cc in
        subst (λ labels. plain_choice made_here sorts_here (label_number labels name) (form.Enum n) ≡ Some sorts_of.truth) same
        (label-there ed name is (ap (λ labels. is_among labels name) same ∙ found))
    labels-by (written_body.Struct sd) labels name is content found = cc
    labels-by (written_body.Union ud) labels name is content found = cc
    labels-by (written_body.Array ad) labels name is content found = cc
    labels-by (written_body.Typedef td) labels name is content found = cc
    labels-by (written_body.Opt od) labels name is content found = cc

    element-by : (inner : WrittenBody) (elem : ExprSort) → d.body ≡ inner → content_in types inner ≡ content.Element elem → Known (λ s. of_elements made_here sorts_here (form.Array n) ≡ Some s) elem
    element-by (written_body.Array ad) elem is content =
        let same : type_sort types ad.of ≡ elem = cc in
        subst (Known (λ s. of_elements made_here sorts_here (form.Array n) ≡ Some s)) same (element-there ad is)
    element-by (written_body.Struct sd) elem is content = cc
    element-by (written_body.Union ud) elem is content = cc
    element-by (written_body.Enum ed) elem is content = cc
    element-by (written_body.Typedef td) elem is content = cc
    element-by (written_body.Opt od) elem is content = cc

  pub described : Describes tree.decls env_here made_here sorts_here
  described = record {
    field = λ k fields name sort is reads found.
        let d = of_types.read-decl tree none k reads in fields-by k d.0 d.1 d.2 (d.0).body fields name sort refl (content-is k d.0 d.1 d.2 (content.Fields fields) is) found;
    branch = λ k branches name sort is reads found.
        let d = of_types.read-decl tree none k reads in (branches-by k d.0 d.1 d.2 (d.0).body branches name sort refl (content-is k d.0 d.1 d.2 (content.Branches branches) is) found).0;
    chosen = λ k branches name sort is reads found.
        let d = of_types.read-decl tree none k reads in (branches-by k d.0 d.1 d.2 (d.0).body branches name sort refl (content-is k d.0 d.1 d.2 (content.Branches branches) is) found).1;
    label = λ k labels name is reads found.
        let d = of_types.read-decl tree none k reads in labels-by k d.0 d.1 d.2 (d.0).body labels name refl (content-is k d.0 d.1 d.2 (content.Labels labels) is) found;
    element = λ k elem is reads.
        let d = of_types.read-decl tree none k reads in element-by k d.0 d.1 d.2 (d.0).body elem refl (content-is k d.0 d.1 d.2 (content.Element elem) is);
  }

pub tree-described : (tree : Ast) → violations tree ≡ [] → Describes tree.decls (declared tree.decls) (resolved tree).decls (known_sorts tree)
unfolding resolved
tree-described tree none = described tree none
