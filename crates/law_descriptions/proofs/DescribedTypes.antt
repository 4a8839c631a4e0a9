-- The sorts of the types that declarations without violations use are what the rules know of them.
use Rattle.std.proofs.Common.{◌≡◌, ◌∙◌, sym, ap, refl, subst, arith, ℕ, ◌<◌, ◌≤◌, Bool, true, false, not, cond, ◌||◌, nat_le, nat_lt, List, [], ◌∷◌, length, take, find, position, Option, Some, None, slice_get, ltb-false, lt-ltb}
use Rattle.std.specs.List.{list_any, position_or_len}
use Rattle.std.proofs.lemmas.List.Folds.{find_at}
use Rattle.std.proofs.lemmas.Bool.{not-false, and_parts, or_parts}
use Rattle.pads_ast.specs.declared.decl.Ast.{Ast}
use Rattle.pads_ast.specs.declared.decl.Decl.{Decl as WrittenDecl}
use Rattle.pads_ast.specs.declared.expr.Expr.{Expr as Tree}
use Rattle.pads_ast.specs.declared.types.Type.{«Type»}
use Rattle.pads_base_names.specs.declared.meaning.BaseName.{BaseName}
use Rattle.pads_base_names.specs.declared.meaning.BaseName.TheVariants as base
use Rattle.pads_base_names.specs.declared.meaning.NamedCoding.TheVariants as coding
use Rattle.pads_rules.specs.declared.sort.Sort.{Sort}
use Rattle.pads_resolution.specs.declared.decl.Computed.{Computed as MadeComputed}
use Rattle.pads_resolution.specs.declared.decl.Computed.TheVariants as computed
use Rattle.pads_resolution.specs.declared.decl.Decl.{Decl}
use Rattle.pads_resolution.specs.declared.decl.DeclBody.{DeclBody}
use Rattle.pads_resolution.specs.declared.decl.Role.{Role}
use Rattle.pads_resolution.specs.declared.decl.Role.TheVariants as role
use Rattle.pads_resolution.specs.Bodies.{body_at as made_body}
use Rattle.pads_resolution.specs.Numbers.{short, number_of}
use Rattle.pads_resolution.specs.Resolution.{role_of, params_scope as made_params, decl_at}
use Rattle.pads_resolution.specs.Scopes.{NameScope as Names}
use Rattle.pads_resolution.specs.Types.{computed_as, computed_of, type_at}
use Rattle.pads_rules.specs.DeclRules.{part_count, scope_count, token_count, decl_name}
use Rattle.pads_rules.specs.Faults.{breaks}
use Rattle.pads_rules.specs.Judging.{Scope as Judging, judged}
use Rattle.pads_rules.specs.PieceRules.{is_bare, is_base, is_computable_base}
use Rattle.pads_rules.specs.Pieces.{Site, Used, Computed}
use Rattle.pads_rules.specs.Resolving.{Sight, Meaning, Base, Known as Declares, Undeclared, seen_from, meaning, meaning_sort, behind_popt, type_sort, plain_meaning, declare}
use Rattle.pads_rules.specs.Sorts as rules
use Rattle.pads_rules.specs.Sorts.{agree}
use Rattle.pads_rules.specs.Texts.{same_text, sort_of}
use Rattle.pads_ast.specs.Trees.{is_empty, args_of}
use Rattle.pads_rules.specs.Violations.{violations}
use Rattle.pads_rules.specs.declared.declared.Declared.{Declared}
use Rattle.pads_rules.specs.declared.declared.Named.{Named as RuleNamed}
use Rattle.pads_rules.specs.declared.expr_sort.ExprSort.{ExprSort}
use Rattle.pads_rules.specs.declared.expr_sort.ExprSort.TheVariants as expr_sort
use Rattle.pads_rules.specs.declared.rule.Rule.TheVariants as rule
use Rattle.law_descriptions.specs.Expressions.{if_read}
use Rattle.law_descriptions.specs.Sorts as sorts_of
use Rattle.law_descriptions.proofs.Lists.{some-map}
use Rattle.law_descriptions.specs.Described.{IsRead, IsProper, IsKnown}
use Rattle.law_descriptions.proofs.Environment.{site_of, site-back}
use Rattle.pads_rules.proofs.Faultless.{not-when}
use Rattle.law_descriptions.proofs.Free.{FreePiece}
use Rattle.law_descriptions.proofs.TypedOperators.{same-swapped}
use Rattle.law_descriptions.proofs.AcceptedTypes.{IsReadRole, IsReadAt, shape-off, Named, base-named, type-named, named-at, meaning-base, meaning-known, used-known, computed-known, no-list, env, made, sorts, free, recur, decl-settled, used-settled, type-same}
use Rattle.law_calculus.proofs.Expressions.{and_then-is}

read-role : (r : Role) (inner found : DeclBody) → if_read r inner ≡ Some found → IsReadRole r
read-role role.Part inner found is = tt
read-role role.Precord inner found is = tt
read-role role.Source inner found is = cc

-- the first of a name has its place
pub found-sort : (xs : List RuleNamed) (name : List ℕ) (sort : ExprSort) → sort_of xs name ≡ Some sort
    → (x : RuleNamed) × (slice_get xs (position_or_len (λ x. same_text x.text name) xs) ≡ Some x) × (x.sort ≡ sort)
found-sort xs name sort is =
    let x = some-map (λ (x : RuleNamed). x.sort) (find (λ x. same_text x.text name) xs) sort is in
    (x.0, sym (find_at (λ x. same_text x.text name) xs) ∙ x.1, x.2)

pub place-number : {A : Type 0} (p : A → Bool) (xs : List A) → position_or_len p xs < length xs → length xs ≤ 4096 → number_of (position p xs) ≡ position_or_len p xs
place-number p xs less within =
    let k = position_or_len p xs in
    ap number_of (ap (λ b. cond b (Some k) None) (lt-ltb k (length xs) less)) ∙ small k (omega arith)
  where
    small : (k : ℕ) → k < 4096 → short k ≡ k
    small k less = omega arith

swapped-same : (a b : List ℕ) → same_text a b ≡ true → same_text b a ≡ true
unfolding same_text
swapped-same a b h = same-swapped a b true h

any-by : (a b rest later : Bool) → (a ≡ true → b ≡ true) → (rest ≡ true → later ≡ true) → (a || rest) ≡ true → (b || later) ≡ true
any-by true b rest later own more h = ap (λ b. b || later) (own refl)
any-by false true rest later own more h = refl
any-by false false rest later own more h = more h

pub swapped-any : (labels : List (List ℕ)) (name : List ℕ) → list_any (same_text name) labels ≡ true → list_any (λ label. same_text label name) labels ≡ true
swapped-any [] name h = h
swapped-any (label ∷ labels) name h =
    any-by (same_text name label) (same_text label name) (list_any (same_text name) labels) (list_any (λ label. same_text label name) labels) (swapped-same name label) (swapped-any labels name) h

-- what a computed field's type says
computable : (b : BaseName) → is_computable_base b ≡ true → rules.base_sort b ≡ expr_sort.Known (sorts_of.computed_sort (computed_as (Some b)))
computable (base.Int coding.Ambient kind) h = refl
computable (base.Until coding.Ambient) h = refl
computable _ h = cc

abbrev pub unless_popt : Option ℕ → Meaning → Meaning
unless_popt (Some place) m = Undeclared
unless_popt None m = m

pub plain-is : (before : Sight) (t : «Type») → plain_meaning before t ≡ unless_popt t.optional (meaning before t.name.text)
plain-is before t = refl

computed-base : (o : Option ℕ) (b : BaseName) (m : Meaning) → m ≡ Base b → is_base is_computable_base (unless_popt o m) ≡ true
    → behind_popt o (meaning_sort m) ≡ expr_sort.Known (sorts_of.computed_sort (computed_as (Some b)))
computed-base None b m is h = ap meaning_sort is ∙ computable b (sym (ap (is_base is_computable_base) is) ∙ h)
computed-base (Some place) b m is h = cc

computed-declared : (o : Option ℕ) (x : Declared) (m : Meaning) → m ≡ Declares x → is_base is_computable_base (unless_popt o m) ≡ true → ⊥
computed-declared None x m is h = let e = sym (ap (is_base is_computable_base) is) ∙ h in cc
computed-declared (Some place) x m is h = cc

module _ (tree : Ast) (none : violations tree ≡ []) where
  abbrev pub made_here : List Decl
  made_here = made tree none

  abbrev pub env_here : List Declared
  env_here = env tree none

  abbrev pub sorts_here : List Sort
  sorts_here = sorts tree none

  abbrev pub site_at : ℕ → WrittenDecl → Site
  site_at n d = site_of tree.decls n d

  abbrev pub Known : (Sort → Type 0) → ExprSort → Type 0
  Known = IsKnown env_here made_here

  -- a declaration that is read
  pub read-decl : (k : ℕ) → IsRead made_here k → (d : WrittenDecl) × (slice_get tree.decls k ≡ Some d) × IsReadAt tree.decls k d
  unfolding decl_at
  read-decl k reads =
      let x = and_then-is (λ (d : Decl). if_read d.role d.body) (slice_get made_here k) reads.0 reads.1 in
      let d = site-back tree.decls k x.0 x.1 in
      let is = subst (λ (m : Decl). if_read m.role m.body ≡ Some reads.0) (sym d.2) x.2 in
      (d.0, d.1, read-role (role_of (site_at k d.0)) (made_body (site_at k d.0) (made_params (site_at k d.0)) (d.0).body) reads.0 is)

  pub few-parts : (n : ℕ) (d : WrittenDecl) → slice_get tree.decls n ≡ Some d → part_count d.body ≤ 4096
  few-parts n d there =
      ltb-false 4096 (part_count d.body)
      (or_parts (nat_le 4096 n) (nat_lt 4096 (part_count d.body))
      (or_parts _ (nat_lt 4096 (scope_count d.body))
      (or_parts _ (nat_lt 65000 (token_count (site_at n d))) (not-when _ (breaks rule.Limit (decl_name (site_at n d)).at) (free tree none n d there).counted)).0).0).1

  -- the type of a field or a branch
  pub used-sort : (n : ℕ) (d : WrittenDecl) (names : Names) (scope : Judging) (t : «Type») → slice_get tree.decls n ≡ Some d → IsReadAt tree.decls n d → FreePiece (site_at n d) (Used scope t)
      → type_sort (seen_from env_here n) t ≡ expr_sort.Known (sorts_of.type_sort sorts_here (type_at (site_at n d) names t))
  used-sort n d names scope t there reads piece =
      type-same tree none n d names t there (named-at tree.decls (recur tree none) n t.name.text (used-known (site_at n d) scope t piece)) (no-list (site_at n d) t piece.records (shape-off tree.decls n d reads))

  pub used-proper : (n : ℕ) (d : WrittenDecl) (names : Names) (scope : Judging) (t : «Type») → slice_get tree.decls n ≡ Some d → IsReadAt tree.decls n d → FreePiece (site_at n d) (Used scope t)
      → (P : Sort → Type 0) → P (sorts_of.type_sort sorts_here (type_at (site_at n d) names t)) → Known P (type_sort (seen_from env_here n) t)
  used-proper n d names scope t there reads piece P has =
      let s = sorts_of.type_sort sorts_here (type_at (site_at n d) names t) in
      let is = used-sort n d names scope t there reads piece in
      let h = used-settled tree none n d scope t there (λ k e less. decl-settled tree none k e) reads piece in
      let same : h.0 ≡ s = let a = h.1 in cc in
      (s, is, subst (λ (s : Sort). IsProper env_here made_here s.form) same h.2, has)

  computed-by : (n : ℕ) (t : «Type») → Named tree.decls n t.name.text → is_base is_computable_base (plain_meaning (seen_from env_here n) t) ≡ true
      → type_sort (seen_from env_here n) t ≡ expr_sort.Known (sorts_of.computed_sort (computed_of t))
  unfolding computed_of
  computed-by n t (base-named b is) plain =
      let m = meaning (seen_from env_here n) t.name.text in
      computed-base t.optional b m (meaning-base (seen_from env_here n) t.name.text b is) (sym (ap (is_base is_computable_base) (plain-is (seen_from env_here n) t)) ∙ plain)
      ∙ ap (λ o. expr_sort.Known (sorts_of.computed_sort (computed_as o))) (sym is)
  computed-by n t (type-named k e none_base may there found place) plain =
      absurd (computed-declared t.optional (declare (seen_from env_here k) e) (meaning (seen_from env_here n) t.name.text) (meaning-known (seen_from env_here n) t.name.text (declare (seen_from env_here k) e) none_base found)
      (sym (ap (is_base is_computable_base) (plain-is (seen_from env_here n) t)) ∙ plain))

  -- the rule at a computed field: its type, and its value's sort
  computed-rule : (n : ℕ) (d : WrittenDecl) (scope : Judging) (t : «Type») (value : Tree) → FreePiece (site_at n d) (Computed scope t value)
      → (is_bare is_computable_base (site_at n d) t ≡ true) × (agree (type_sort (seen_from env_here n) t) (judged env_here value scope).sort ≡ true)
  computed-rule n d scope t value piece =
      let bare = is_bare is_computable_base (site_at n d) t in
      let same = agree (type_sort (seen_from env_here n) t) (judged env_here value scope).sort in
      let both = or_parts (not bare) (not same) (not-when (not bare || not same) (breaks rule.ComputedType t.name.at) piece.computed) in
      (not-false bare both.0, not-false same both.1)

  pub computed-sort : (n : ℕ) (d : WrittenDecl) (scope : Judging) (t : «Type») (value : Tree) → FreePiece (site_at n d) (Computed scope t value)
      → (type_sort (seen_from env_here n) t ≡ expr_sort.Known (sorts_of.computed_sort (computed_of t))) × (agree (type_sort (seen_from env_here n) t) (judged env_here value scope).sort ≡ true)
  computed-sort n d scope t value piece =
      let kept = computed-rule n d scope t value piece in (
        computed-by n t (named-at tree.decls (recur tree none) n t.name.text (computed-known (site_at n d) scope t value piece))
            (and_parts (is_base is_computable_base (plain_meaning (seen_from env_here n) t)) (is_empty (args_of t)) kept.0).0,
        kept.1,
      )

  pub computed-proper : (of : MadeComputed) → IsProper env_here made_here (sorts_of.computed_sort of).form
  computed-proper (computed.Int kind) = tt
  computed-proper computed.Text = tt
