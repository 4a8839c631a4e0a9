-- The structs that a description without violations resolves to: the names of a `Pwhere`.
use Rattle.std.proofs.Common.{◌≡◌, ◌∙◌, sym, ap, refl, subst, arith, ℕ, zero, suc, ◌+◌, ◌≤◌, List, [], ◌∷◌, ◌++◌, append_assoc, append-nil, map, flat_map, length, take, Some, option_and_then, nat_le, slice_get}
use Rattle.std.proofs.lemmas.List.{map-append}
use Rattle.pads_ast.specs.declared.decl.Ast.{Ast}
use Rattle.pads_ast.specs.declared.decl.Decl.{Decl as WrittenDecl}
use Rattle.pads_ast.specs.declared.decl.DeclBody.TheVariants as written_body
use Rattle.pads_ast.specs.declared.decl.Part.{Part as WrittenPart}
use Rattle.pads_ast.specs.declared.decl.Part.TheVariants as written_part
use Rattle.pads_ast.specs.declared.decl.Struct.{Struct as WrittenStruct}
use Rattle.pads_ast.specs.declared.name.Name.{Name}
use Rattle.pads_ast.specs.declared.types.Type.{«Type»}
use Rattle.pads_rules.specs.declared.sort.Form.TheVariants as form
use Rattle.pads_rules.specs.declared.sort.Sort.{Sort}
use Rattle.pads_resolution.specs.declared.visible.Known.{Known}
use Rattle.pads_resolution.specs.declared.visible.Stands.TheVariants as stands
use Rattle.pads_resolution.specs.Bodies.{branch_at, part_at, parts_at, struct_at, body_at as made_body}
use Rattle.pads_resolution.specs.Expressions.{meaning_of}
use Rattle.pads_resolution.specs.Numbers.{short}
use Rattle.pads_resolution.specs.Resolution.{params_scope as made_params}
use Rattle.pads_resolution.specs.Scopes.{NameScope as Names, field, fields_after, names_after}
use Rattle.pads_resolution.specs.Types.{computed_of}
use Rattle.pads_resolution.specs.JudgedNames.{as_named}
use Rattle.pads_rules.specs.DeclRules.{part_count}
use Rattle.pads_ast.specs.NameTokens.{names_in_option, names_in_part}
use Rattle.pads_rules.specs.Pieces.{Site, Piece, conditions, part_pieces, parts_pieces, names_after as rule_names_after, names_after_all, texts_of_parts, struct_pieces, scope_of}
use Rattle.pads_rules.specs.Resolving.{Sight, seen_from, type_sort, named}
use Rattle.pads_ast.specs.Trees.{named_part, part_names}
use Rattle.pads_rules.specs.Violations.{violations}
use Rattle.pads_rules.specs.declared.declared.Declared.{Declared}
use Rattle.pads_rules.specs.declared.declared.Named.{Named as RuleNamed}
use Rattle.pads_rules.specs.declared.expr_sort.ExprSort.{ExprSort}
use Rattle.pads_trans.specs.Names.{at_sign}
use Rattle.law_descriptions.specs.Expressions as sorting
use Rattle.law_descriptions.specs.Expressions.{SortScope, body_at, value_of, part_sort, meaning_sort}
use Rattle.law_descriptions.specs.Sorts as sorts_of
use Rattle.law_descriptions.specs.WellSorted.{Each, IsStruct}
use Rattle.law_descriptions.proofs.Lists.{each-left, each-right}
use Rattle.law_descriptions.specs.Described.{IsSpelled, AreSpelled, IsKnown, Sees}
use Rattle.law_descriptions.proofs.Bodies.{condition-typed, parts-typed}
use Rattle.law_descriptions.proofs.DescribedTypes.{used-proper, computed-sort, computed-proper, few-parts}
use Rattle.law_descriptions.proofs.Environment.{site_of}
use Rattle.law_descriptions.proofs.Free.{FreePiece}
use Rattle.law_descriptions.proofs.Scopes.{State, Again, behind, alone, sees-at}
use Rattle.law_descriptions.proofs.AcceptedTypes.{IsReadAt, env, made, sorts, is-read}
use Rattle.law_descriptions.proofs.Count.{few-enough}
use Rattle.law_calculus.proofs.Bases.{there-below}

module _ (tree : Ast) (none : violations tree ≡ []) (n : ℕ) (d : WrittenDecl) (there : slice_get tree.decls n ≡ Some d) (reads : IsReadAt tree.decls n d) where
  abbrev site : Site
  site = site_of tree.decls n d

  abbrev Free_here : Piece → Type 0
  Free_here = FreePiece site

  abbrev types : Sight
  types = seen_from (env tree none) n

  abbrev IsKnownHere : (Sort → Type 0) → ExprSort → Type 0
  IsKnownHere = IsKnown (env tree none) (made tree none)

  abbrev Value : Names → WrittenPart → ExprSort → Type 0
  Value inner p sort = IsKnownHere (λ s. value_of (made tree none) (sorts tree none) (part_at site inner p) ≡ Some s) sort

  abbrev Values : Names → WrittenPart → Type 0
  Values inner p = (both : Name × «Type») → slice_get (named_part p) 0 ≡ Some both → Value inner p (type_sort types both.1)

  part-value : (names : Names) (seen : List RuleNamed) (p : WrittenPart) (parts : List WrittenPart) → Each Free_here (part_pieces types seen (texts_of_parts (p ∷ parts)) p) → Values names p
  unfolding part_at branch_at
  part-value names seen (written_part.Literal l) parts pieces both found = cc
  part-value names seen (written_part.Pcompute of name value) parts pieces both found =
      let rule = computed-sort tree none n d _ of value pieces.0 in
      let same : (name, of) ≡ both = cc in
      subst (λ (both : Name × «Type»). Value names (written_part.Pcompute of name value) (type_sort types both.1)) same
      (sorts_of.computed_sort (computed_of of), rule.0, computed-proper tree none (computed_of of), refl)
  part-value names seen (written_part.Field f) parts pieces both found =
      let same : (f.name, f.of) ≡ both = cc in
      subst (λ (both : Name × «Type»). Value names (written_part.Field f) (type_sort types both.1)) same
      (used-proper tree none n d names _ f.of there reads pieces.0 (λ s. value_of (made tree none) (sorts tree none) (part_at site names (written_part.Field f)) ≡ Some s) refl)

  part-at : (parts : List WrittenPart) (names : Names) (seen : List RuleNamed) → Each Free_here (parts_pieces types seen parts) → (i : ℕ) (p : WrittenPart) → slice_get parts i ≡ Some p
      → (inner : Names) × (slice_get (parts_at site names parts) i ≡ Some (part_at site inner p)) × Values inner p
  part-at [] names seen pieces i p found = cc
  part-at (first ∷ parts) names seen pieces zero p found =
      let same : first ≡ p = cc in (
        names,
        ap (λ p. Some (part_at site names p)) same,
        subst (Values names) same (part-value names seen first parts (each-left Free_here (part_pieces types seen (texts_of_parts (first ∷ parts)) first) (parts_pieces types (rule_names_after types seen first) parts) pieces)),
      )
  part-at (first ∷ parts) names seen pieces (suc i) p found =
      part-at parts (names_after types names first) (rule_names_after types seen first)
      (each-right Free_here (part_pieces types seen (texts_of_parts (first ∷ parts)) first) (parts_pieces types (rule_names_after types seen first) parts) pieces) i p found

  module _ (sd : WrittenStruct) (is : d.body ≡ written_body.Struct sd) (w : SortScope)
      (pieces : Each Free_here (parts_pieces types (map as_named (made_params site)) sd.parts)) where
    abbrev in_where : SortScope
    in_where = (at_sign, sorts_of.plain (form.Struct n)) ∷ w

    abbrev SeesAt : Names → Type 0
    SeesAt names = Sees (env tree none) (made tree none) (sorts tree none) names in_where

    abbrev params : Names
    params = made_params site

    field-sort : (number : ℕ) (p : WrittenPart) (both : Name × «Type») → slice_get sd.parts number ≡ Some p → slice_get (named_part p) 0 ≡ Some both
        → IsKnownHere (λ r. meaning_sort (made tree none) (sorts tree none) (meaning_of both.0.text (stands.Field (short number))) in_where ≡ Some r) (type_sort types both.1)
    unfolding made_body struct_at
    field-sort number p both at own =
        let x = part-at sd.parts params (map as_named params) pieces number p at in
        let v = x.2 both own in
        let less = there-below sd.parts number p at in
        let within : length sd.parts ≤ 4096 = subst (λ inner. part_count inner ≤ 4096) is (few-parts tree none n d there) in
        let m : short number ≡ number = omega arith in
        let body : body_at (made tree none) n ≡ Some (made_body site params (written_body.Struct sd)) = is-read tree none n d there reads ∙ ap (λ inner. Some (made_body site params inner)) is in (
          v.0,
          v.1,
          v.2,
          ap (λ m. part_sort (made tree none) (sorts tree none) m (form.Struct n)) m
              ∙ ap (option_and_then (sorting.part_of (made tree none) (sorts tree none) number)) body
              ∙ ap (option_and_then (value_of (made tree none) (sorts tree none))) x.1 ∙ v.3,
        )

    field-behind : (names : Names) (number : ℕ) (p : WrittenPart) (both : Name × «Type») → slice_get sd.parts number ≡ Some p → slice_get (named_part p) 0 ≡ Some both → SeesAt names
        → SeesAt (names ++ field types number both ∷ [])
    field-behind names number p both at own sees text known found =
        behind names (field types number both) text known (IsKnownHere (λ r. meaning_sort (made tree none) (sorts tree none) (meaning_of text known.stands) in_where ≡ Some r) known.sort)
        (sees text known)
        (λ absent new.
        let h = alone (field types number both) text known new in
        subst (λ (known : Known). IsKnownHere (λ r. meaning_sort (made tree none) (sorts tree none) (meaning_of text known.stands) in_where ≡ Some r) known.sort) h.1
        (field-sort number p both at own)) found

    fields-see : (parts : List WrittenPart) (names : Names) (number : ℕ) → ((j : ℕ) (p : WrittenPart) → slice_get parts j ≡ Some p → slice_get sd.parts (number + j) ≡ Some p) → SeesAt names
        → SeesAt (fields_after types names number parts)
    fields-see [] names number at sees = sees
    fields-see (written_part.Literal l ∷ parts) names number at sees =
        fields-see parts (names ++ []) (suc number) (λ j p found. subst (λ m. slice_get sd.parts m ≡ Some p) (on number j) (at (suc j) p found)) (subst SeesAt (sym (append-nil names)) sees)
      where
        on : (number j : ℕ) → number + suc j ≡ suc number + j
        on number j = omega arith
    fields-see (written_part.Pcompute of name value ∷ parts) names number at sees =
        let p = written_part.Pcompute of name value in
        fields-see parts (names ++ field types number (name, of) ∷ []) (suc number) (λ j p found. subst (λ m. slice_get sd.parts m ≡ Some p) (on number j) (at (suc j) p found))
        (field-behind names number p (name, of) (subst (λ m. slice_get sd.parts m ≡ Some p) (here number) (at 0 p refl)) refl sees)
      where
        on : (number j : ℕ) → number + suc j ≡ suc number + j
        on number j = omega arith

        here : (number : ℕ) → number + 0 ≡ number
        here number = omega arith
    fields-see (written_part.Field f ∷ parts) names number at sees =
        let p = written_part.Field f in
        fields-see parts (names ++ field types number (f.name, f.of) ∷ []) (suc number) (λ j p found. subst (λ m. slice_get sd.parts m ≡ Some p) (on number j) (at (suc j) p found))
        (field-behind names number p (f.name, f.of) (subst (λ m. slice_get sd.parts m ≡ Some p) (here number) (at 0 p refl)) refl sees)
      where
        on : (number j : ℕ) → number + suc j ≡ suc number + j
        on number j = omega arith

        here : (number : ℕ) → number + 0 ≡ number
        here number = omega arith

    pub where-sees : SeesAt params → SeesAt (fields_after types params 0 sd.parts)
    where-sees sees = fields-see sd.parts params 0 (λ j p found. subst (λ m. slice_get sd.parts m ≡ Some p) (from j) found) sees
      where
        from : (j : ℕ) → j ≡ 0 + j
        from j = omega arith

  -- the rules see the same names
  shown-after : (parts : List WrittenPart) (names : Names) (number : ℕ) (seen : List RuleNamed) → map as_named names ≡ seen
      → map as_named (fields_after types names number parts) ≡ seen ++ map (named types) (flat_map named_part parts)
  shown-after [] names number seen shown = shown ∙ sym (append-nil seen)
  shown-after (written_part.Literal l ∷ parts) names number seen shown = shown-after parts (names ++ []) (suc number) seen (ap (map as_named) (append-nil names) ∙ shown)
  shown-after (written_part.Pcompute of name value ∷ parts) names number seen shown =
      let own : RuleNamed = named types (name, of) in
      shown-after parts (names ++ field types number (name, of) ∷ []) (suc number) (seen ++ own ∷ []) (map-append as_named names (field types number (name, of) ∷ []) ∙ ap (λ seen. seen ++ own ∷ []) shown)
      ∙ append_assoc seen (own ∷ []) (map (named types) (flat_map named_part parts))
  shown-after (written_part.Field f ∷ parts) names number seen shown =
      let own : RuleNamed = named types (f.name, f.of) in
      shown-after parts (names ++ field types number (f.name, f.of) ∷ []) (suc number) (seen ++ own ∷ []) (map-append as_named names (field types number (f.name, f.of) ∷ []) ∙ ap (λ seen. seen ++ own ∷ []) shown)
      ∙ append_assoc seen (own ∷ []) (map (named types) (flat_map named_part parts))

  long-parts : (parts : List WrittenPart) (names : Names) → length (parts_at site names parts) ≡ length parts
  long-parts [] names = refl
  long-parts (p ∷ parts) names = ap (λ m. suc m) (long-parts parts (names_after types names p))

  pub struct-typed : (sd : WrittenStruct) → d.body ≡ written_body.Struct sd → (seen : List RuleNamed) (w : SortScope) (before : List Name) → State tree none (made_params site) seen w before
      → Each Free_here (struct_pieces types seen sd) → Again tree none before (flat_map part_names sd.parts) → AreSpelled (flat_map names_in_part sd.parts ++ names_in_option sd.condition)
      → IsStruct (made tree none) (sorts tree none) n w (struct_at site (made_params site) sd)
  unfolding struct_at
  struct-typed sd is seen w before state pieces free spelled =
      let params = made_params site in
      let inside = each-left Free_here (parts_pieces types seen sd.parts) (conditions (scope_of (names_after_all types seen sd.parts)) sd.condition) pieces in
      let behind_parts = each-right Free_here (parts_pieces types seen sd.parts) (conditions (scope_of (names_after_all types seen sd.parts)) sd.condition) pieces in
      let shown = subst (λ seen. Each Free_here (parts_pieces types seen sd.parts)) (sym state.shown) inside in
      let within : length sd.parts ≤ 4096 = subst (λ inner. part_count inner ≤ 4096) is (few-parts tree none n d there) in (
        ap (λ count. nat_le count 65535) (long-parts sd.parts params) ∙ few-enough (length sd.parts) within,
        parts-typed tree none n d there reads sd.parts params seen w before state free (each-left IsSpelled (flat_map names_in_part sd.parts) (names_in_option sd.condition) spelled) inside,
        condition-typed tree none n d there reads (fields_after types params 0 sd.parts) [] ((at_sign, sorts_of.plain (form.Struct n)) ∷ w) sd.condition
            (where-sees sd is w shown (sees-at tree none params seen w before (sorts_of.plain (form.Struct n)) state))
            (each-right IsSpelled (flat_map names_in_part sd.parts) (names_in_option sd.condition) spelled)
            (subst (λ visible. Each Free_here (conditions (scope_of visible) sd.condition)) (sym (shown-after sd.parts params 0 seen state.shown)) behind_parts),
      )
