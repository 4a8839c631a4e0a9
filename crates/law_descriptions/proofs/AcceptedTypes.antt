-- The sorts of types and declarations of a description without violations.
use Rattle.std.proofs.Common.{◌≡◌, ◌∙◌, sym, ap, refl, subst, arith, ◌⊎◌, inl, inr, ⊎_elim, ℕ, zero, suc, ◌+◌, ◌*◌, ◌-◌, ◌^◌, min, ◌<◌, ◌≤◌, Bool, true, false, not, ◌&&◌, ◌||◌, ◌==◌, if◌then◌else◌, nat_le, nat_lt, List, [], ◌∷◌, map, length, take, position, Option, Some, None, option_and_then, unwrap_or, is_some, slice_get, eqb-true, leb-false}
use Rattle.std.specs.Prelude.{⊤}
use Rattle.std.proofs.lemmas.Bool.{not-false, or_parts}
use Rattle.pads_ast.specs.declared.decl.Ast.{Ast}
use Rattle.pads_ast.specs.declared.decl.Decl.{Decl as WrittenDecl}
use Rattle.pads_ast.specs.declared.decl.DeclBody.{DeclBody as WrittenBody}
use Rattle.pads_ast.specs.declared.decl.DeclBody.TheVariants as written_body
use Rattle.pads_ast.specs.declared.decl.DeclMark.{DeclMark}
use Rattle.pads_ast.specs.declared.decl.DeclMark.TheVariants as mark
use Rattle.pads_ast.specs.declared.types.Type.{«Type»}
use Rattle.pads_base_names.specs.Names.{base_name}
use Rattle.pads_base_names.specs.declared.meaning.BaseName.{BaseName}
use Rattle.pads_base_names.specs.declared.meaning.BaseName.TheVariants as base
use Rattle.pads_rules.specs.declared.sort.Form.TheVariants as form
use Rattle.pads_rules.specs.declared.sort.Sort.{Sort}
use Rattle.pads_resolution.specs.declared.decl.Decl.{Decl}
use Rattle.pads_resolution.specs.declared.decl.DeclBody.{DeclBody}
use Rattle.pads_resolution.specs.declared.decl.Role.{Role}
use Rattle.pads_resolution.specs.declared.decl.Role.TheVariants as role
use Rattle.pads_resolution.specs.Bodies.{body_at as made_body}
use Rattle.pads_resolution.specs.Expressions.{sort_known}
use Rattle.pads_resolution.specs.Numbers.{short, declared_number}
use Rattle.pads_resolution.specs.Resolution.{role_of, params_scope as made_params, decl_at}
use Rattle.pads_resolution.specs.Scopes.{NameScope as Names}
use Rattle.pads_resolution.specs.Types.{declared_type, type_name_of, named_type, type_at}
use Rattle.pads_rules.specs.DeclRules.{may_recur, part_count, scope_count, token_count, decl_name}
use Rattle.pads_rules.specs.Faults.{breaks, when}
use Rattle.pads_rules.specs.Judging.{Scope as Judging}
use Rattle.pads_rules.specs.Members.{content_of}
use Rattle.pads_rules.specs.PieceRules.{is_undeclared, is_declared, is_source_shape, is_header_shape}
use Rattle.pads_rules.specs.Pieces.{Site, sites, Used, Computed, OfParam, body_pieces, sight}
use Rattle.pads_rules.specs.Resolving.{Sight, Base, Known, seen_from, first_of, named_number, type_at as declared_at, named_type as type_named, of_declared, unless_base, meaning, meaning_sort, behind_popt, type_sort, is_precord_type, is_record_list_type, is_record_list_body, is_record_list, param_named, content_in, sort_in, declare, declared}
use Rattle.pads_rules.specs.Sorts as rules
use Rattle.pads_rules.specs.Texts.{same_text}
use Rattle.pads_ast.specs.Trees.{params_of, is_precord, is_psource, is_precursive}
use Rattle.pads_rules.specs.Violations.{violations}
use Rattle.pads_rules.specs.declared.declared.Declared.{Declared}
use Rattle.pads_rules.specs.declared.expr_sort.ExprSort.{ExprSort}
use Rattle.pads_rules.specs.declared.expr_sort.ExprSort.TheVariants as expr_sort
use Rattle.pads_rules.specs.declared.rule.Rule.TheVariants as rule
use Rattle.law_descriptions.specs.Expressions.{if_read, body_at}
use Rattle.law_descriptions.specs.Sorts as sorts_of
use Rattle.law_descriptions.specs.WellSorted.{Each}
use Rattle.law_descriptions.proofs.Lists.{each-right, there-mapped}
use Rattle.law_descriptions.specs.Described.{IsProper}
use Rattle.law_descriptions.proofs.Environment.{site_of, site-there}
use Rattle.law_descriptions.proofs.Outlines.{Recur, env-at, declared-names, first-named}
use Rattle.pads_rules.proofs.Faultless.{not-when}
use Rattle.law_descriptions.proofs.Free.{Free, FreePiece, free-at}
use Rattle.law_calculus.proofs.Bases.{there-below}

-- a base type is a number or a text
pub base-plain : (b : BaseName) → (rules.base_sort b ≡ expr_sort.Known sorts_of.num) ⊎ (rules.base_sort b ≡ expr_sort.Known sorts_of.text)
base-plain (base.Int c kind) = inl refl
base-plain (base.IntFw c kind) = inl refl
base-plain (base.Bin kind) = inl refl
base-plain (base.SizedBin order kind) = inl refl
base-plain (base.Until c) = inr refl
base-plain (base.Fixed c) = inr refl
base-plain (base.Class c) = inr refl
base-plain (base.Char c) = inr refl
base-plain (base.Ip c) = inl refl
base-plain (base.Packed signed) = inl refl
base-plain (base.Zoned signed) = inl refl

neither : (u l : Bool) → (u && not l) ≡ false → (u && l) ≡ false → u ≡ false
neither true true a b = b
neither true false a b = a
neither false l a b = refl

pub unless : (a b : Bool) → (a && not b) ≡ false → b ≡ false → a ≡ false
unless true true h off = cc
unless true false h off = h
unless false b h off = refl

pub content-at : (env : List Declared) (n : ℕ) (x : Declared) → slice_get env n ≡ Some x → content_of env n ≡ x.content
content-at [] n x there = cc
content-at (first ∷ env) zero x there = let same : first ≡ x = cc in ap (λ (x : Declared). x.content) same
content-at (first ∷ env) (suc n) x there = content-at env n x there

-- a declaration that is read
abbrev pub IsReadRole : Role → Type 0
IsReadRole role.Part = ⊤
IsReadRole role.Precord = ⊤
IsReadRole role.Source = ⊥

pub read-if : (r : Role) (inner : DeclBody) → IsReadRole r → if_read r inner ≡ Some inner
read-if role.Part inner h = refl
read-if role.Precord inner h = refl
read-if role.Source inner h = absurd h

abbrev role_by : Bool → Bool → Bool → Role
role_by p q list = if p then role.Precord else if q || list then role.Source else role.Part

-- a declaration that is read is no source shape
no-shape : (p q list h : Bool) → (p ≡ true → q ≡ false) → (p ≡ true → list ≡ false) → IsReadRole (role_by p q list) → (list || (q && h)) ≡ false
no-shape true q list h apart none reads = ap (λ l. l || (q && h)) (none refl) ∙ ap (λ q. q && h) (apart refl)
no-shape false true list h apart none reads = absurd reads
no-shape false false true h apart none reads = absurd reads
no-shape false false false h apart none reads = refl

no-list-marked : (p r b : Bool) → p ≡ true → (not (p || r) && b) ≡ false
no-list-marked true r b h = refl
no-list-marked false r b h = cc

reads-by : (p q list : Bool) → q ≡ false → list ≡ false → IsReadRole (role_by p q list)
reads-by true q list off none = tt
reads-by false q list off none = subst (λ b. IsReadRole (if b then role.Source else role.Part)) (sym (ap (λ q. q || list) off ∙ none)) tt

marks-apart : (m : Option DeclMark) → is_precord m ≡ true → is_psource m ≡ false
marks-apart None h = refl
marks-apart (Some mark.Precord) h = refl
marks-apart (Some mark.Psource) h = cc
marks-apart (Some mark.Precursive) h = cc

module _ (decls : List WrittenDecl) (n : ℕ) (d : WrittenDecl) where
  abbrev pub IsReadAt : Type 0
  IsReadAt = IsReadRole (role_of (site_of decls n d))

  pub shape-off : IsReadAt → is_source_shape (site_of decls n d) ≡ false
  unfolding role_of
  shape-off reads =
      no-shape (is_precord d.mark) (is_psource d.mark) (is_record_list (seen_from (declared decls) n) d) (is_header_shape (seen_from (declared decls) n) d.body) (marks-apart d.mark)
      (no-list-marked (is_precord d.mark) (is_precursive d.mark) (is_record_list_body (seen_from (declared decls) n) d.body)) reads

  pub reads-at : is_psource d.mark ≡ false → is_record_list (seen_from (declared decls) n) d ≡ false → IsReadAt
  unfolding role_of
  reads-at off none = reads-by (is_precord d.mark) (is_psource d.mark) (is_record_list (seen_from (declared decls) n) d) off none

-- what a type's name is, where it stands
pub data Named (decls : List WrittenDecl) (n : ℕ) (name : List ℕ) : Type 0 where
  base-named : (b : BaseName) → base_name name ≡ Some b → Named decls n name
  type-named : (k : ℕ) (d : WrittenDecl) → base_name name ≡ None → (k < n) ⊎ (is_precursive d.mark ≡ true) → slice_get decls k ≡ Some d
      → type_named (seen_from (declared decls) n) name ≡ Some (declare (seen_from (declared decls) k) d)
      → first_of (declared decls) name ≡ Some k → Named decls n name

named-by : (decls : List WrittenDecl) → Recur decls → (n : ℕ) (name : List ℕ) (b : Option BaseName) (number : Option ℕ) → base_name name ≡ b
    → named_number (seen_from (declared decls) n) name ≡ number → is_undeclared (unless_base b (declared_at (declared decls) number)) ≡ false → Named decls n name
named-by decls own n name (Some b) number is at known = base-named b is
named-by decls own n name None None is at known = cc
named-by decls own n name None (Some k) is at known =
    let x = declared-names decls own n name k at in
    type-named k x.d is x.fine x.there (ap (declared_at (declared decls)) at ∙ env-at decls own k x.d x.there) (first-named (seen_from (declared decls) n) name k at)

pub named-at : (decls : List WrittenDecl) → Recur decls → (n : ℕ) (name : List ℕ) → is_undeclared (meaning (seen_from (declared decls) n) name) ≡ false → Named decls n name
unfolding meaning
named-at decls own n name known = named-by decls own n name (base_name name) (named_number (seen_from (declared decls) n) name) refl refl known

pub meaning-base : (sight : Sight) (name : List ℕ) (b : BaseName) → base_name name ≡ Some b → meaning sight name ≡ Base b
unfolding meaning
meaning-base sight name b is = ap (λ o. unless_base o (type_named sight name)) is

pub meaning-known : (sight : Sight) (name : List ℕ) (x : Declared) → base_name name ≡ None → type_named sight name ≡ Some x → meaning sight name ≡ Known x
unfolding meaning
meaning-known sight name x is found = ap (λ o. unless_base o (type_named sight name)) is ∙ ap of_declared found

-- the pieces that name types
pub used-known : (site : Site) (scope : Judging) (t : «Type») → FreePiece site (Used scope t) → is_undeclared (meaning (sight site) t.name.text) ≡ false
used-known site scope t free =
    let m = meaning (sight site) t.name.text in
    neither (is_undeclared m) (is_declared site t)
    (not-when (is_undeclared m && not (is_declared site t)) (breaks rule.UnknownType t.name.at) free.unknown) (not-when (is_undeclared m && is_declared site t) (breaks rule.LaterType t.name.at) free.later)

pub computed-known : (site : Site) (scope : Judging) (t : «Type») (value : _) → FreePiece site (Computed scope t value) → is_undeclared (meaning (sight site) t.name.text) ≡ false
computed-known site scope t value free =
    let m = meaning (sight site) t.name.text in
    neither (is_undeclared m) (is_declared site t)
    (not-when (is_undeclared m && not (is_declared site t)) (breaks rule.UnknownType t.name.at) free.unknown) (not-when (is_undeclared m && is_declared site t) (breaks rule.LaterType t.name.at) free.later)

pub param-known : (site : Site) (t : «Type») → FreePiece site (OfParam t) → is_undeclared (meaning (sight site) t.name.text) ≡ false
param-known site t free =
    let m = meaning (sight site) t.name.text in
    neither (is_undeclared m) (is_declared site t)
    (not-when (is_undeclared m && not (is_declared site t)) (breaks rule.UnknownType t.name.at) free.unknown) (not-when (is_undeclared m && is_declared site t) (breaks rule.LaterType t.name.at) free.later)

-- a type that a record's declaration names is no record list
abbrev no_records : Site → «Type» → Bool
no_records site t = (is_precord_type (meaning (sight site) t.name.text) || is_record_list_type (meaning (sight site) t.name.text)) && not (is_source_shape site)

pub no-list : (site : Site) (t : «Type») → when (no_records site t) (breaks rule.RecordTypeNamed t.name.at) ≡ [] → is_source_shape site ≡ false → is_record_list_type (meaning (sight site) t.name.text) ≡ false
no-list site t none off =
    let m = meaning (sight site) t.name.text in
    (or_parts (is_precord_type m) (is_record_list_type m)
    (unless (is_precord_type m || is_record_list_type m) (is_source_shape site) (not-when (no_records site t) (breaks rule.RecordTypeNamed t.name.at) none) off)).1

module _ (tree : Ast) (none : violations tree ≡ []) where
  abbrev pub decls : List WrittenDecl
  decls = tree.decls

  abbrev pub env : List Declared
  env = declared tree.decls

  abbrev pub made : List Decl
  made = map decl_at (sites tree.decls)

  abbrev pub sorts : List Sort
  sorts = map (λ x. sort_known x.sort) env

  pub free : (n : ℕ) (d : WrittenDecl) → slice_get decls n ≡ Some d → Free (site_of decls n d)
  free n d there = free-at tree none n (site_of decls n d) (site-there decls n d there)

  -- what is marked `Precursive` tells its sort itself
  pub recur : Recur decls
  recur n d there marked =
      let site = site_of decls n d in
      not-false (may_recur d.body) (misplaced-by (is_precursive d.mark) (may_recur d.body) marked (not-when (is_precursive d.mark && not (may_recur d.body)) (breaks rule.MisplacedPrecursive (decl_name site).at) (free n d there).recurs))
    where
      misplaced-by : (a b : Bool) → a ≡ true → (a && not b) ≡ false → not b ≡ false
      misplaced-by true b h off = off
      misplaced-by false b h off = cc

  pub few : (n : ℕ) (d : WrittenDecl) → slice_get decls n ≡ Some d → n < 4096
  few n d there =
      let site = site_of decls n d in
      leb-false 4096 n
      (or_parts (nat_le 4096 n) (nat_lt 4096 (part_count d.body))
      (or_parts _ (nat_lt 4096 (scope_count d.body))
      (or_parts _ (nat_lt 65000 (token_count site)) (not-when _ (breaks rule.Limit (decl_name site).at) (free n d there).counted)).0).0).0

  -- a source declaration is the last one
  pub not-last : (k n : ℕ) (d : WrittenDecl) (later : WrittenDecl) → k < n → slice_get decls k ≡ Some d → slice_get decls n ≡ Some later → is_psource d.mark ≡ false
  not-last k n d later less there behind =
      unless (is_psource d.mark) ((suc k == length decls) && is_source_shape (site_of decls k d))
      (not-when (is_psource d.mark && not ((suc k == length decls) && is_source_shape (site_of decls k d))) (breaks rule.MisplacedSource (decl_name (site_of decls k d)).at) (free k d there).misplaced)
      (no-end (suc k == length decls) (is_source_shape (site_of decls k d)) refl)
    where
      no-end : (last shape : Bool) → (suc k == length decls) ≡ last → (last && shape) ≡ false
      no-end true shape is = let e = eqb-true (suc k) (length decls) is in let h = there-below decls n later behind in absurd (omega arith)
      no-end false shape is = refl

  abbrev pub sees : ℕ → Sight
  sees n = seen_from env n

  no-source : (m : Option DeclMark) → is_precursive m ≡ true → is_psource m ≡ false
  no-source None h = refl
  no-source (Some mark.Precord) h = refl
  no-source (Some mark.Psource) h = cc
  no-source (Some mark.Precursive) h = refl

  -- a declaration that one that is read names is read
  pub named-read : (n k : ℕ) (d named : WrittenDecl) (name : List ℕ) → slice_get decls n ≡ Some d → slice_get decls k ≡ Some named → (k < n) ⊎ (is_precursive named.mark ≡ true)
      → base_name name ≡ None → type_named (sees n) name ≡ Some (declare (sees k) named) → is_record_list_type (meaning (sees n) name) ≡ false → IsReadAt decls k named
  named-read n k d named name there named_there may none_base found list =
      reads-at decls k named (⊎_elim (λ less. not-last k n named d less named_there there) (no-source named.mark) may)
      (sym (ap is_record_list_type (meaning-known (sees n) name (declare (sees k) named) none_base found)) ∙ list)

  pub made-there : (n : ℕ) (d : WrittenDecl) → slice_get decls n ≡ Some d → slice_get made n ≡ Some (decl_at (site_of decls n d))
  made-there n d there = there-mapped decl_at (sites decls) n (site_of decls n d) (site-there decls n d there)

  pub is-read : (n : ℕ) (d : WrittenDecl) → slice_get decls n ≡ Some d → IsReadAt decls n d
      → body_at made n ≡ Some (made_body (site_of decls n d) (made_params (site_of decls n d)) d.body)
  unfolding decl_at
  is-read n d there reads =
      ap (option_and_then (λ (d : Decl). if_read d.role d.body)) (made-there n d there)
      ∙ read-if (role_of (site_of decls n d)) (made_body (site_of decls n d) (made_params (site_of decls n d)) d.body) reads

  -- sorts that are known, of declarations that are read, behind so many `Popt` at most
  abbrev pub Settled : ℕ → ExprSort → Type 0
  Settled bound sort = (s : Sort) × (sort ≡ expr_sort.Known s) × IsProper env made s.form × (s.optional ≤ bound)

  wider : (a b : ℕ) (sort : ExprSort) → a ≤ b → Settled a sort → Settled b sort
  wider a b sort less h = let bound = h.3 in (h.0, h.1, h.2, omega arith)

  base-settled : (bound : ℕ) (b : BaseName) → Settled bound (rules.base_sort b)
  base-settled bound b = ⊎_elim (λ is. (sorts_of.num, is, tt, omega arith)) (λ is. (sorts_of.text, is, tt, omega arith)) (base-plain b)

  optional-settled : (bound : ℕ) (sort : ExprSort) → Settled bound sort → Settled (bound + 1) (rules.optional sort)
  optional-settled bound sort h =
      let o = (h.0).optional in
      let within = h.3 in
      (record { optional = min (o + 1) (2 ^ 64 - 1); form = (h.0).form }, ap rules.optional h.1, h.2, omega arith)

  popt-settled : (bound : ℕ) (o : Option ℕ) (sort : ExprSort) → Settled bound sort → Settled (bound + 1) (behind_popt o sort)
  popt-settled bound None sort h = wider bound (bound + 1) sort (omega arith) h
  popt-settled bound (Some place) sort h = optional-settled bound sort h

  pub content-here : (n : ℕ) (d : WrittenDecl) → slice_get decls n ≡ Some d → content_of env n ≡ content_in (sees n) d.body
  content-here n d there = content-at env n (declare (sees n) d) (env-at decls recur n d there)

  -- a declaration that tells its sort itself
  own-settled : (bound n : ℕ) (d : WrittenDecl) (inner : WrittenBody) → d.body ≡ inner → slice_get decls n ≡ Some d → IsReadAt decls n d → may_recur inner ≡ true → Settled bound (sort_in (sees n) inner)
  own-settled bound n d (written_body.Struct b) is there reads own =
      (record { optional = 0; form = form.Struct n }, refl, (_, content-here n d there ∙ ap (content_in (sees n)) is, (_, is-read n d there reads)), omega arith)
  own-settled bound n d (written_body.Union b) is there reads own =
      (record { optional = 0; form = form.Union n }, refl, (_, content-here n d there ∙ ap (content_in (sees n)) is, (_, is-read n d there reads)), omega arith)
  own-settled bound n d (written_body.Array b) is there reads own =
      (record { optional = 0; form = form.Array n }, refl, (_, content-here n d there ∙ ap (content_in (sees n)) is, (_, is-read n d there reads)), omega arith)
  own-settled bound n d (written_body.Enum b) is there reads own = cc
  own-settled bound n d (written_body.Typedef b) is there reads own = cc
  own-settled bound n d (written_body.Opt b) is there reads own = cc

  -- what is known of the declarations before one
  abbrev pub Before : ℕ → Type 0
  Before n = (k : ℕ) (d : WrittenDecl) → k < n → slice_get decls k ≡ Some d → IsReadAt decls k d → Settled (2 * k + 2) (sort_in (sees k) d.body)

  meaning-settled : (n : ℕ) (d : WrittenDecl) (name : List ℕ) → slice_get decls n ≡ Some d → Before n → Named decls n name → is_record_list_type (meaning (sees n) name) ≡ false
      → Settled (2 * n) (meaning_sort (meaning (sees n) name))
  meaning-settled n d name there before (base-named b is) list =
      subst (λ m. Settled (2 * n) (meaning_sort m)) (sym (meaning-base (sees n) name b is)) (base-settled (2 * n) b)
  meaning-settled n d name there before (type-named k e none_base may named found place) list =
      let reads = named-read n k d e name there named may none_base found list in
      subst (λ m. Settled (2 * n) (meaning_sort m)) (sym (meaning-known (sees n) name (declare (sees k) e) none_base found))
      (⊎_elim (λ less. wider (2 * k + 2) (2 * n) (sort_in (sees k) e.body) (omega (arith, less)) (before k e less named reads)) (λ marked. own-settled (2 * n) k e e.body refl named reads (recur k e named marked)) may)

  pub type-settled : (n : ℕ) (d : WrittenDecl) (t : «Type») → slice_get decls n ≡ Some d → Before n → Named decls n t.name.text → is_record_list_type (meaning (sees n) t.name.text) ≡ false
      → Settled (2 * n + 1) (type_sort (sees n) t)
  type-settled n d t there before named list =
      popt-settled (2 * n) t.optional (meaning_sort (meaning (sees n) t.name.text)) (meaning-settled n d t.name.text there before named list)

  -- a piece that names a type
  pub used-settled : (n : ℕ) (d : WrittenDecl) (scope : Judging) (t : «Type») → slice_get decls n ≡ Some d → Before n → IsReadAt decls n d → FreePiece (site_of decls n d) (Used scope t)
      → Settled (2 * n + 1) (type_sort (sees n) t)
  used-settled n d scope t there before reads piece =
      type-settled n d t there before (named-at decls recur n t.name.text (used-known (site_of decls n d) scope t piece))
      (no-list (site_of decls n d) t piece.records (shape-off decls n d reads))

  pub body-pieces : (n : ℕ) (d : WrittenDecl) → slice_get decls n ≡ Some d
      → Each (FreePiece (site_of decls n d)) (body_pieces (sees n) n (map (param_named (sees n)) (params_of d.body)) d.body)
  body-pieces n d there =
      each-right (FreePiece (site_of decls n d)) (map (λ param. OfParam param.of) (params_of d.body))
      (body_pieces (sees n) n (map (param_named (sees n)) (params_of d.body)) d.body) (free n d there).at_pieces

  body-settled : (n : ℕ) (d : WrittenDecl) (inner : WrittenBody) → d.body ≡ inner → slice_get decls n ≡ Some d → Before n → IsReadAt decls n d → Settled (2 * n + 2) (sort_in (sees n) inner)
  body-settled n d (written_body.Struct b) is there before reads = own-settled (2 * n + 2) n d (written_body.Struct b) is there reads refl
  body-settled n d (written_body.Union b) is there before reads = own-settled (2 * n + 2) n d (written_body.Union b) is there reads refl
  body-settled n d (written_body.Array b) is there before reads = own-settled (2 * n + 2) n d (written_body.Array b) is there reads refl
  body-settled n d (written_body.Enum b) is there before reads =
      (record { optional = 0; form = form.Enum n }, refl, (_, content-here n d there ∙ ap (content_in (sees n)) is, (_, is-read n d there reads)), omega arith)
  body-settled n d (written_body.Typedef b) is there before reads =
      let pieces = subst (λ inner. Each (FreePiece (site_of decls n d)) (body_pieces (sees n) n (map (param_named (sees n)) (params_of d.body)) inner)) is (body-pieces n d there) in
      wider (2 * n + 1) (2 * n + 2) (type_sort (sees n) b.of) (omega arith) (used-settled n d _ b.of there before reads pieces.0)
  body-settled n d (written_body.Opt b) is there before reads =
      let pieces = subst (λ inner. Each (FreePiece (site_of decls n d)) (body_pieces (sees n) n (map (param_named (sees n)) (params_of d.body)) inner)) is (body-pieces n d there) in
      let h = optional-settled (2 * n + 1) (type_sort (sees n) b.of) (used-settled n d _ b.of there before reads pieces.0) in
      wider (2 * n + 1 + 1) (2 * n + 2) (rules.optional (type_sort (sees n) b.of)) (omega arith) h

  all-before : (n : ℕ) → Before n
  all-before zero k d less there reads = absurd (omega arith)
  all-before (suc n) k d less there reads = body-settled k d d.body refl there (λ j e earlier. all-before n j e (omega arith)) reads

  pub decl-settled : (n : ℕ) (d : WrittenDecl) → slice_get decls n ≡ Some d → IsReadAt decls n d → Settled (2 * n + 2) (sort_in (sees n) d.body)
  decl-settled n d there reads = all-before (n + 1) n d (omega arith) there reads

  pub sort-here : (n : ℕ) (d : WrittenDecl) → slice_get decls n ≡ Some d → slice_get sorts n ≡ Some (sort_known (sort_in (sees n) d.body))
  sort-here n d there = there-mapped (λ (x : Declared). sort_known x.sort) env n (declare (sees n) d) (env-at decls recur n d there)

  known-sort : (bound : ℕ) (sort : ExprSort) → Settled bound sort → sort ≡ expr_sort.Known (sort_known sort)
  known-sort bound sort h = h.1 ∙ ap (λ s. expr_sort.Known (sort_known s)) (sym h.1)

  -- the sort of a type of the resolved tree is the one that the rules know
  base-same : (b : BaseName) → rules.base_sort b ≡ expr_sort.Known (sorts_of.base_sort b)
  base-same b = known-sort 0 (rules.base_sort b) (base-settled 0 b)

  pub short-is : (k : ℕ) → k < 4096 → short k ≡ k
  short-is k less = omega arith

  name-same : (n : ℕ) (d : WrittenDecl) (t : «Type») → slice_get decls n ≡ Some d → Named decls n t.name.text → is_record_list_type (meaning (sees n) t.name.text) ≡ false
      → meaning_sort (meaning (sees n) t.name.text) ≡ expr_sort.Known (sorts_of.named_sort sorts (named_type (sees n) t))
  unfolding named_type
  name-same n d t there (base-named b is) list =
      ap meaning_sort (meaning-base (sees n) t.name.text b is) ∙ base-same b
      ∙ ap (λ o. expr_sort.Known (sorts_of.named_sort sorts (type_name_of o (declared_number env t.name.text)))) (sym is)
  name-same n d t there (type-named k e none_base may named found place) list =
      let reads = named-read n k d e t.name.text there named may none_base found list in
      let number = short-is k (few k e named) in
      ap meaning_sort (meaning-known (sees n) t.name.text (declare (sees k) e) none_base found)
      ∙ known-sort (2 * k + 2) (sort_in (sees k) e.body) (decl-settled k e named reads)
      ∙ ap (λ o. expr_sort.Known (unwrap_or o sorts_of.num)) (sym (sort-here k e named))
      ∙ ap (λ k. expr_sort.Known (unwrap_or (slice_get sorts k) sorts_of.num)) (sym number)
      ∙ ap (λ o. expr_sort.Known (sorts_of.named_sort sorts (declared_type o))) (sym place)
      ∙ ap (λ o. expr_sort.Known (sorts_of.named_sort sorts (type_name_of o (declared_number env t.name.text)))) (sym none_base)

  pub optional-same : (o : ℕ) → o ≤ 8192 → min (o + 1) (2 ^ 64 - 1) ≡ suc o
  optional-same o within = omega arith

  popt-same : (o : Option ℕ) (sort : ExprSort) (s : Sort) → sort ≡ expr_sort.Known s → s.optional ≤ 8192
      → behind_popt o sort ≡ expr_sort.Known (if is_some o then sorts_of.optional s else s)
  popt-same None sort s is within = is
  popt-same (Some place) sort s is within =
      ap rules.optional is ∙ ap (λ (o : ℕ). expr_sort.Known (record { optional = o; form = s.form })) (optional-same s.optional within)

  pub type-same : (n : ℕ) (d : WrittenDecl) (names : Names) (t : «Type») → slice_get decls n ≡ Some d → Named decls n t.name.text → is_record_list_type (meaning (sees n) t.name.text) ≡ false
      → type_sort (sees n) t ≡ expr_sort.Known (sorts_of.type_sort sorts (type_at (site_of decls n d) names t))
  unfolding type_at
  type-same n d names t there named list =
      let h = meaning-settled n d t.name.text there (λ k e less. decl-settled k e) named list in
      let is = name-same n d t there named list in
      let same : h.0 ≡ sorts_of.named_sort sorts (named_type (sees n) t) = let a = h.1 in cc in
      let bound = h.3 in
      let late = few n d there in
      popt-same t.optional (meaning_sort (meaning (sees n) t.name.text)) (sorts_of.named_sort sorts (named_type (sees n) t)) is
      (subst (λ (s : Sort). s.optional ≤ 8192) same (omega arith))
