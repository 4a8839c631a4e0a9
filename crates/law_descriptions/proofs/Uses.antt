-- What types, arguments and conditions of a description without violations are.
use Rattle.std.proofs.Common.{◌≡◌, ◌∙◌, sym, ap, ap₂, refl, subst, arith, ◌⊎◌, inl, inr, ⊎_elim, ℕ, zero, suc, ◌+◌, ◌<◌, Bool, true, false, not, ◌&&◌, ◌||◌, ◌==◌, List, [], ◌∷◌, map, flat_map, length, take, Option, Some, None, slice_get, eqb-true}
use Rattle.std.specs.List.{enumerate_from}
use Rattle.std.proofs.lemmas.List.{length-map}
use Rattle.std.proofs.lemmas.Bool.{not-false, and_parts}
use Rattle.pads_ast.specs.declared.decl.Ast.{Ast}
use Rattle.pads_ast.specs.declared.decl.Decl.{Decl as WrittenDecl}
use Rattle.pads_ast.specs.declared.expr.Expr.{Expr as Tree}
use Rattle.pads_ast.specs.declared.types.Arg.{Arg}
use Rattle.pads_ast.specs.declared.types.Arg.TheVariants as arg
use Rattle.pads_ast.specs.declared.types.Param.{Param as WrittenParam}
use Rattle.pads_ast.specs.declared.types.Type.{«Type»}
use Rattle.pads_base_names.specs.Names.{takes}
use Rattle.pads_base_names.specs.declared.meaning.BaseName.{BaseName}
use Rattle.pads_base_names.specs.declared.meaning.Takes.{Takes}
use Rattle.pads_base_names.specs.declared.meaning.Takes.TheVariants as takes_form
use Rattle.pads_rules.specs.declared.sort.Form.{Form}
use Rattle.pads_rules.specs.declared.sort.Form.TheVariants as form
use Rattle.pads_rules.specs.declared.sort.Sort.{Sort}
use Rattle.pads_resolution.specs.declared.expr.Expr.{Expr}
use Rattle.pads_resolution.specs.declared.types.Param.{Param}
use Rattle.pads_resolution.specs.Bodies.{expr_at, body_at as made_body}
use Rattle.pads_resolution.specs.Expressions.{expression, expr_of, sort_known}
use Rattle.pads_resolution.specs.Numbers.{declared_number}
use Rattle.pads_resolution.specs.Resolution.{role_of, params_scope as made_params, decl_at}
use Rattle.pads_resolution.specs.Scopes.{NameScope as Names}
use Rattle.pads_resolution.specs.Types.{declared_type, type_name_of, named_type, args, type_at, param_of}
use Rattle.pads_resolution.specs.JudgedNames.{judging_scope}
use Rattle.pads_rules.specs.Faults.{breaks, when, each}
use Rattle.pads_rules.specs.Judging.{Judged, judged, wrong_sort, no_truth}
use Rattle.pads_ast.specs.NameTokens.{names_in_expr, names_in_arg}
use Rattle.pads_rules.specs.PieceRules.{takes_so_many, is_count_of, base_params, params_in, takes_end, agrees_with, argument_sort, argument_faults, is_bare, is_base, is_param_base}
use Rattle.pads_rules.specs.Pieces.{Site, Used, OfParam}
use Rattle.pads_rules.specs.Resolving.{Meaning, Base, Known, seen_from, meaning, meaning_sort, behind_popt, type_sort, plain_meaning, declare}
use Rattle.pads_rules.specs.Sorts as rules
use Rattle.pads_rules.specs.Sorts.{accepts, agree, is_num_form, is_text_form, is_truth_form}
use Rattle.pads_ast.specs.Trees.{is_empty, args_of, params_of, is_precursive}
use Rattle.pads_ast.specs.declared.decl.DeclBody.{DeclBody as WrittenBody}
use Rattle.pads_ast.specs.declared.decl.DeclBody.TheVariants as written_body
use Rattle.pads_rules.specs.DeclRules.{may_recur}
use Rattle.pads_rules.specs.Violations.{violations}
use Rattle.pads_rules.specs.declared.declared.Declared.{Declared}
use Rattle.pads_rules.specs.declared.expr_sort.ExprSort.{ExprSort}
use Rattle.pads_rules.specs.declared.expr_sort.ExprSort.TheVariants as expr_sort
use Rattle.pads_rules.specs.declared.rule.Rule.TheVariants as rule
use Rattle.law_descriptions.specs.Expressions.{SortScope, sort_in}
use Rattle.law_descriptions.specs.Sorts as sorts_of
use Rattle.law_descriptions.specs.WellSorted.{AreTaken, HaveSorts, TellsSort, TellsItself, MayBeCalled, IsCall, IsNamed, IsType, param_sorts}
use Rattle.law_descriptions.proofs.Lists.{each-left, each-right, each-there, there-mapped, mapped-there}
use Rattle.law_descriptions.specs.Described.{AreSpelled, IsSpelled, Typed, Sees}
use Rattle.law_descriptions.proofs.Described.{described}
use Rattle.law_descriptions.proofs.DescribedTypes.{unless_popt, plain-is}
use Rattle.law_descriptions.proofs.Environment.{site_of}
use Rattle.pads_rules.proofs.Faultless.{none-left, none-right, not-when, is-taken, is-truth}
use Rattle.law_descriptions.proofs.Forms.{num-form, truth-form}
use Rattle.law_descriptions.proofs.Free.{FreePiece}
use Rattle.law_descriptions.proofs.Typed.{lawful}
use Rattle.law_descriptions.proofs.TypedOperators.{known-operand}
use Rattle.law_descriptions.proofs.AcceptedTypes.{base-plain, IsReadAt, shape-off, Named, base-named, type-named, named-at, meaning-base, meaning-known, used-known, param-known, no-list, read-if, env, made, sorts, free, few, recur, made-there, named-read, short-is}

-- sorts that are the same
pub sort-is : (s : Sort) (f : Form) → s.optional ≡ 0 → s.form ≡ f → s ≡ sorts_of.plain f
sort-is s f none is = ap₂ (λ (o : ℕ) (f : Form). record { optional = o; form = f }) none is

same-form-is : (f g : Form) → rules.same_form f g ≡ true → f ≡ g
same-form-is form.Num form.Num h = refl
same-form-is form.Text form.Text h = refl
same-form-is form.Truth form.Truth h = refl
same-form-is (form.Struct a) (form.Struct b) h = ap form.Struct (eqb-true a b h)
same-form-is (form.Union a) (form.Union b) h = ap form.Union (eqb-true a b h)
same-form-is (form.Enum a) (form.Enum b) h = ap form.Enum (eqb-true a b h)
same-form-is (form.Array a) (form.Array b) h = ap form.Array (eqb-true a b h)
same-form-is _ _ h = cc

agree-is : (a b : Sort) → ((a.optional == b.optional) && rules.same_form a.form b.form) ≡ true → a ≡ b
agree-is a b h =
    ap₂ (λ (o : ℕ) (f : Form). record { optional = o; form = f }) (eqb-true a.optional b.optional (and_parts (a.optional == b.optional) (rules.same_form a.form b.form) h).0)
    (same-form-is a.form b.form (and_parts (a.optional == b.optional) (rules.same_form a.form b.form) h).1)

pub text-form : (f : Form) → is_text_form f ≡ true → f ≡ form.Text
text-form form.Text h = refl
text-form _ h = cc

no-arguments : {A : Type 0} (xs : List A) → (length xs == 0) ≡ true → xs ≡ []
no-arguments [] h = refl
no-arguments (x ∷ xs) h = let e = eqb-true (suc (length xs)) 0 h in absurd (omega arith)

-- `Peor` is taken where a text up to a stop is
abbrev takes_the_end : Takes → Bool
takes_the_end takes_form.TextOrEnd = true
takes_the_end takes_form.Nothing = false
takes_the_end takes_form.Number = false
takes_the_end takes_form.NumberOrNothing = false
takes_the_end takes_form.Text = false

-- a parameter's base type
param-base : (o : Option ℕ) (b : BaseName) (m : Meaning) → m ≡ Base b → is_base is_param_base (unless_popt o m) ≡ true → (s : Sort) × (behind_popt o (meaning_sort m) ≡ expr_sort.Known s) × ((s ≡ sorts_of.num) ⊎ (s ≡ sorts_of.text))
param-base None b m is h =
    ⊎_elim (λ number. (sorts_of.num, ap meaning_sort is ∙ number, inl refl)) (λ words. (sorts_of.text, ap meaning_sort is ∙ words, inr refl)) (base-plain b)
param-base (Some place) b m is h = cc

param-declared : (o : Option ℕ) (x : Declared) (m : Meaning) → m ≡ Known x → is_base is_param_base (unless_popt o m) ≡ true → ⊥
param-declared None x m is h = let e = sym (ap (is_base is_param_base) is) ∙ h in cc
param-declared (Some place) x m is h = cc

module _ (tree : Ast) (none : violations tree ≡ []) where
  abbrev TypedHere : SortScope → Expr → ExprSort → Type 0
  TypedHere = Typed (env tree none) (made tree none) (sorts tree none)

  abbrev SeesHere : Names → SortScope → Type 0
  SeesHere = Sees (env tree none) (made tree none) (sorts tree none)

  abbrev Has : SortScope → Expr → Sort → Type 0
  Has w e s = sort_in (made tree none) (sorts tree none) e w ≡ Some s

  abbrev judged_here : Tree → Names → List (List ℕ) → Judged
  judged_here e names later = judged (env tree none) e (judging_scope names later)

  abbrev Haves : SortScope → List Expr → List Sort → Type 0
  Haves = HaveSorts (made tree none) (sorts tree none)

  -- a parameter of a declaration
  pub param-sort : (n : ℕ) (d : WrittenDecl) (param : WrittenParam) → FreePiece (site_of tree.decls n d) (OfParam param.of)
      → (s : Sort) × (type_sort (seen_from (env tree none) n) param.of ≡ expr_sort.Known s) × ((s ≡ sorts_of.num) ⊎ (s ≡ sorts_of.text))
  param-sort n d param piece =
      let site = site_of tree.decls n d in
      let t = param.of in
      let types = seen_from (env tree none) n in
      let m = meaning types t.name.text in
      let plain : is_base is_param_base (unless_popt t.optional m) ≡ true =
      sym (ap (is_base is_param_base) (plain-is types t))
      ∙ (and_parts (is_base is_param_base (plain_meaning types t)) (is_empty (args_of t)) (not-false (is_bare is_param_base site t) (not-when (not (is_bare is_param_base site t)) (breaks rule.ParameterType t.name.at) piece.params))).0 in
      by t m plain (named-at tree.decls (recur tree none) n t.name.text (param-known site t piece))
    where
      by : (t : «Type») (m : Meaning) → is_base is_param_base (unless_popt t.optional (meaning (seen_from (env tree none) n) t.name.text)) ≡ true → Named tree.decls n t.name.text
          → (s : Sort) × (type_sort (seen_from (env tree none) n) t ≡ expr_sort.Known s) × ((s ≡ sorts_of.num) ⊎ (s ≡ sorts_of.text))
      by t m plain (base-named b is) =
          param-base t.optional b (meaning (seen_from (env tree none) n) t.name.text) (meaning-base (seen_from (env tree none) n) t.name.text b is) plain
      by t m plain (type-named k e none_base may there found place) =
          absurd (param-declared t.optional (declare (seen_from (env tree none) k) e) (meaning (seen_from (env tree none) n) t.name.text)
          (meaning-known (seen_from (env tree none) n) t.name.text (declare (seen_from (env tree none) k) e) none_base found) plain)

  -- expressions
  pub expr-typed : (n : ℕ) (d : WrittenDecl) (e : Tree) (names : Names) (later : List (List ℕ)) (w : SortScope) → SeesHere names w → AreSpelled (names_in_expr e) → (judged_here e names later).faults ≡ []
      → (sort : ExprSort) × (sort ≡ (judged_here e names later).sort) × TypedHere w (expr_at (site_of tree.decls n d) names e) sort
  unfolding expr_at expr_of
  expr-typed n d e names later w sees spelled free =
      let fits = lawful tree.decls (env tree none) (made tree none) (sorts tree none) (described tree none) e names later w sees spelled free in
      ((expression tree.decls (env tree none) e names).sort, fits.0, fits.1)

  pub number-typed : (n : ℕ) (d : WrittenDecl) (e : Tree) (names : Names) (later : List (List ℕ)) (w : SortScope) → SeesHere names w → AreSpelled (names_in_expr e) → (judged_here e names later).faults ≡ []
      → wrong_sort is_num_form (judged_here e names later) ≡ [] → Has w (expr_at (site_of tree.decls n d) names e) sorts_of.num
  number-typed n d e names later w sees spelled free taken =
      let x = expr-typed n d e names later w sees spelled free in
      let s = known-operand tree.decls (env tree none) (made tree none) (sorts tree none) (described tree none) is_num_form x.0 (expr_at (site_of tree.decls n d) names e) w x.2
      (ap (accepts is_num_form) x.1 ∙ is-taken is_num_form (judged_here e names later) taken) in
      s.5 ∙ ap (λ s. Some s) (sort-is s.0 form.Num s.2 (num-form (s.0).form s.3))

  pub truth-typed : (n : ℕ) (d : WrittenDecl) (e : Tree) (names : Names) (later : List (List ℕ)) (w : SortScope) → SeesHere names w → AreSpelled (names_in_expr e) → (judged_here e names later).faults ≡ []
      → no_truth (judged_here e names later) ≡ [] → Has w (expr_at (site_of tree.decls n d) names e) sorts_of.truth
  truth-typed n d e names later w sees spelled free taken =
      let x = expr-typed n d e names later w sees spelled free in
      let s = known-operand tree.decls (env tree none) (made tree none) (sorts tree none) (described tree none) is_truth_form x.0 (expr_at (site_of tree.decls n d) names e) w x.2
      (ap (accepts is_truth_form) x.1 ∙ is-truth (judged_here e names later) taken) in
      s.5 ∙ ap (λ s. Some s) (sort-is s.0 form.Truth s.2 (truth-form (s.0).form s.3))

  agree-typed : (wanted : Sort) (sort : ExprSort) (e : Expr) (w : SortScope) → TypedHere w e sort → agree (expr_sort.Known wanted) sort ≡ true → Has w e wanted
  agree-typed wanted expr_sort.Unknown e w typed h = absurd typed
  agree-typed wanted expr_sort.Nothing e w typed h = cc
  agree-typed wanted (expr_sort.Known s) e w typed h = typed.1 ∙ ap (λ s. Some s) (sym (agree-is wanted s h))

  pub agreed-typed : (n : ℕ) (d : WrittenDecl) (e : Tree) (names : Names) (later : List (List ℕ)) (w : SortScope) (wanted : Sort) → SeesHere names w → AreSpelled (names_in_expr e)
      → (judged_here e names later).faults ≡ [] → agree (expr_sort.Known wanted) (judged_here e names later).sort ≡ true → Has w (expr_at (site_of tree.decls n d) names e) wanted
  agreed-typed n d e names later w wanted sees spelled free h =
      let x = expr-typed n d e names later w sees spelled free in
      agree-typed wanted x.0 (expr_at (site_of tree.decls n d) names e) w x.2 (ap (agree (expr_sort.Known wanted)) x.1 ∙ h)

  -- arguments
  module _ (n : ℕ) (d : WrittenDecl) (names : Names) (later : List (List ℕ)) (w : SortScope) (sees : SeesHere names w) where
    abbrev site : Site
    site = site_of tree.decls n d

    abbrev made_args : List Arg → List Expr
    made_args written = args tree.decls (env tree none) names written

    arguments-typed : (m : Meaning) (count : ℕ) (written : List Arg) (i : ℕ) (wanted : List Sort) → takes_end m ≡ false
        → ((k : ℕ) (p : Sort) → slice_get wanted k ≡ Some p → slice_get (params_in m) (i + k) ≡ Some (expr_sort.Known p)) → length written ≡ length wanted
        → AreSpelled (flat_map names_in_arg written) → each (argument_faults site (judging_scope names later)) written ≡ []
        → each (argument_sort (env tree none) (judging_scope names later) m count) (enumerate_from i written) ≡ [] → Haves w (made_args written) wanted
    unfolding args expr_at
    arguments-typed m count [] i [] no_end params long spelled free sorted = tt
    arguments-typed m count [] i (p ∷ wanted) no_end params long spelled free sorted = absurd (omega arith)
    arguments-typed m count (a ∷ written) i [] no_end params long spelled free sorted = absurd (omega arith)
    arguments-typed m count (arg.Expr e ∷ written) i (p ∷ wanted) no_end params long spelled free sorted =
        let j = judged_here e names later in
        let number : i + 0 ≡ i = omega arith in
        let param : slice_get (params_in m) i ≡ Some (expr_sort.Known p) = subst (λ i. slice_get (params_in m) i ≡ Some (expr_sort.Known p)) number (params 0 p refl) in
        let kept = none-left (argument_sort (env tree none) (judging_scope names later) m count (i, arg.Expr e)) (each (argument_sort (env tree none) (judging_scope names later) m count) (enumerate_from (i + 1) written)) sorted in
        let agreed = not-false (agrees_with (slice_get (params_in m) i) j.sort) (not-when (not (agrees_with (slice_get (params_in m) i) j.sort)) (breaks rule.ArgumentSort j.first) kept) in (
          agreed-typed n d e names later w p sees (each-left IsSpelled (names_in_expr e) (flat_map names_in_arg written) spelled) (none-left j.faults (each (argument_faults site (judging_scope names later)) written) free)
              (sym (ap (λ o. agrees_with o j.sort) param) ∙ agreed),
          arguments-typed m count written (i + 1) wanted no_end (λ k q there. subst (λ m'. slice_get (params_in m) m' ≡ Some (expr_sort.Known q)) (one-on i k) (params (suc k) q there)) (omega arith)
              (each-right IsSpelled (names_in_expr e) (flat_map names_in_arg written) spelled) (none-right j.faults (each (argument_faults site (judging_scope names later)) written) free)
              (none-right (argument_sort (env tree none) (judging_scope names later) m count (i, arg.Expr e)) (each (argument_sort (env tree none) (judging_scope names later) m count) (enumerate_from (i + 1) written)) sorted),
        )
      where
        one-on : (i k : ℕ) → i + suc k ≡ i + 1 + k
        one-on i k = omega arith
    arguments-typed m count (arg.Peor at ∷ written) i (p ∷ wanted) no_end params long spelled free sorted =
        let kept = none-left (when (not (takes_end m && (count == 1))) (breaks rule.ArgumentSort at)) (each (argument_sort (env tree none) (judging_scope names later) m count) (enumerate_from (i + 1) written)) sorted in
        let ends = (and_parts (takes_end m) (count == 1) (not-false (takes_end m && (count == 1)) (not-when (not (takes_end m && (count == 1))) (breaks rule.ArgumentSort at) kept))).0 in
        let never : true ≡ false = sym ends ∙ no_end in cc

    one-param : (p : Sort) (k : ℕ) (q : Sort) → slice_get (p ∷ []) k ≡ Some q → slice_get (expr_sort.Known p ∷ []) (0 + k) ≡ Some (expr_sort.Known q)
    one-param p zero q there = let same : p ≡ q = cc in ap (λ s. Some (expr_sort.Known s)) same
    one-param p (suc k) q there = cc

    no-param : (ps : List ExprSort) (k : ℕ) (q : Sort) → slice_get {X = Sort} [] k ≡ Some q → slice_get ps (0 + k) ≡ Some (expr_sort.Known q)
    no-param ps k q there = cc

    abbrev Spelled : List Arg → Type 0
    Spelled written = AreSpelled (flat_map names_in_arg written)

    abbrev FreeArgs : List Arg → Type 0
    FreeArgs written = each (argument_faults site (judging_scope names later)) written ≡ []

    abbrev SortedArgs : Meaning → List Arg → Type 0
    SortedArgs m written = each (argument_sort (env tree none) (judging_scope names later) m (length written)) (enumerate_from 0 written) ≡ []

    none-typed : (m : Meaning) (written : List Arg) → takes_end m ≡ false → (length written == 0) ≡ true → Spelled written → FreeArgs written → SortedArgs m written → Haves w (made_args written) []
    none-typed m written no_end long spelled free sorted =
        arguments-typed m (length written) written 0 [] no_end (no-param (params_in m)) (eqb-true (length written) 0 long) spelled free sorted

    one-typed : (m : Meaning) (p : Sort) (written : List Arg) → params_in m ≡ expr_sort.Known p ∷ [] → takes_end m ≡ false → (length written == 1) ≡ true → Spelled written → FreeArgs written → SortedArgs m written
        → Haves w (made_args written) (p ∷ [])
    one-typed m p written params no_end long spelled free sorted =
        arguments-typed m (length written) written 0 (p ∷ []) no_end (λ k q there. ap (λ ps. slice_get ps (0 + k)) params ∙ one-param p k q there) (eqb-true (length written) 1 long) spelled free sorted

    stop-typed : (b : BaseName) (written : List Arg) → takes b ≡ takes_form.TextOrEnd → (length written == 1) ≡ true → Spelled written → FreeArgs written → SortedArgs (Base b) written
        → AreTaken takes_form.TextOrEnd (Haves w (made_args written))
    unfolding args expr_at
    stop-typed b [] is long spelled free sorted = cc
    stop-typed b (arg.Peor at ∷ []) is long spelled free sorted = inl tt
    stop-typed b (arg.Expr e ∷ []) is long spelled free sorted =
        let j = judged_here e names later in
        let kept = none-left (argument_sort (env tree none) (judging_scope names later) (Base b) 1 (0, arg.Expr e)) [] sorted in
        let agreed = not-false (agrees_with (slice_get (params_in (Base b)) 0) j.sort) (not-when (not (agrees_with (slice_get (params_in (Base b)) 0) j.sort)) (breaks rule.ArgumentSort j.first) kept) in
        let text_agreed : agree rules.text j.sort ≡ true = subst (λ t. agrees_with (slice_get (base_params t) 0) j.sort ≡ true) is agreed in
        inr (agreed-typed n d e names later w sorts_of.text sees (each-left IsSpelled (names_in_expr e) [] spelled) (none-left j.faults [] free) text_agreed, tt)
    stop-typed b (a ∷ c ∷ rest) is long spelled free sorted = let e = eqb-true (suc (suc (length rest))) 1 long in absurd (omega arith)

    -- by what the base type takes
    taken : (b : BaseName) (t : Takes) (written : List Arg) → takes b ≡ t → takes_so_many t (length written) ≡ true → Spelled written → FreeArgs written → SortedArgs (Base b) written
        → AreTaken t (Haves w (made_args written))
    taken b takes_form.Nothing written is long spelled free sorted = none-typed (Base b) written (ap takes_the_end is) long spelled free sorted
    taken b takes_form.Number written is long spelled free sorted = one-typed (Base b) sorts_of.num written (ap base_params is) (ap takes_the_end is) long spelled free sorted
    taken b takes_form.NumberOrNothing written is long spelled free sorted = by (length written == 0) (length written == 1) refl refl long
      where
        by : (none one : Bool) → (length written == 0) ≡ none → (length written == 1) ≡ one → (none || one) ≡ true → Haves w (made_args written) [] ⊎ Haves w (made_args written) (sorts_of.num ∷ [])
        by true one none_is one_is h = inl (none-typed (Base b) written (ap takes_the_end is) none_is spelled free sorted)
        by false true none_is one_is h = inr (one-typed (Base b) sorts_of.num written (ap base_params is) (ap takes_the_end is) one_is spelled free sorted)
        by false false none_is one_is h = cc
    taken b takes_form.Text written is long spelled free sorted = one-typed (Base b) sorts_of.text written (ap base_params is) (ap takes_the_end is) long spelled free sorted
    taken b takes_form.TextOrEnd written is long spelled free sorted = stop-typed b written is long spelled free sorted

    base-typed : (b : BaseName) (written : List Arg) → takes_so_many (takes b) (length written) ≡ true → Spelled written → FreeArgs written → SortedArgs (Base b) written
        → AreTaken (takes b) (Haves w (made_args written))
    base-typed b written long spelled free sorted = taken b (takes b) written refl long spelled free sorted

    -- the parameters of a declaration
    abbrev made_params_of : ℕ → WrittenDecl → List Param
    made_params_of k e = map (param_of (seen_from (env tree none) k)) (params_of e.body)

    wanted-there : (k : ℕ) (e : WrittenDecl) → slice_get tree.decls k ≡ Some e → (j : ℕ) (p : Sort) → slice_get (param_sorts (made_params_of k e)) j ≡ Some p
        → slice_get (map (λ (param : WrittenParam). type_sort (seen_from (env tree none) k) param.of) (params_of e.body)) (0 + j) ≡ Some (expr_sort.Known p)
    unfolding param_of
    wanted-there k e there j p found =
        let x = mapped-there (λ (param : Param). param.sort) (made_params_of k e) j p found in
        let y = mapped-there (param_of (seen_from (env tree none) k)) (params_of e.body) j x.0 x.1 in
        let pieces = each-left (FreePiece (site_of tree.decls k e)) (map (λ (param : WrittenParam). OfParam param.of) (params_of e.body)) _ (free tree none k e there).at_pieces in
        let piece = each-there (FreePiece (site_of tree.decls k e)) (map (λ (param : WrittenParam). OfParam param.of) (params_of e.body)) j (OfParam (y.0).of) pieces
        (there-mapped (λ (param : WrittenParam). OfParam param.of) (params_of e.body) j y.0 y.1) in
        let s = param-sort k e y.0 piece in
        let is : sort_known (type_sort (seen_from (env tree none) k) (y.0).of) ≡ p = ap (λ (param : Param). param.sort) y.2 ∙ x.2 in
        let same : s.0 ≡ p = sym (ap sort_known s.1) ∙ is in
        let number : 0 + j ≡ j = omega arith in
        ap (slice_get (map (λ (param : WrittenParam). type_sort (seen_from (env tree none) k) param.of) (params_of e.body))) number
        ∙ there-mapped (λ (param : WrittenParam). type_sort (seen_from (env tree none) k) param.of) (params_of e.body) j y.0 y.1
        ∙ ap (λ s. Some s) (s.1 ∙ ap (λ s. expr_sort.Known s) same)

    abbrev UsedHere : «Type» → Type 0
    UsedHere t = FreePiece site (Used (judging_scope names later) t)

    count-rule : (t : «Type») → UsedHere t → is_count_of (meaning (seen_from (env tree none) n) t.name.text) (length (args_of t)) ≡ true
    count-rule t piece =
        let ok = is_count_of (meaning (seen_from (env tree none) n) t.name.text) (length (args_of t)) in not-false ok (not-when (not ok) (breaks rule.ArgumentCount t.name.at) piece.counts)

    -- what may recur tells its sort itself
    tells : (at : Site) (params : Names) (inner : WrittenBody) → may_recur inner ≡ true → TellsSort (made_body at params inner)
    unfolding made_body
    tells at params (written_body.Struct b) h = tt
    tells at params (written_body.Union b) h = tt
    tells at params (written_body.Array b) h = tt
    tells at params (written_body.Enum b) h = cc
    tells at params (written_body.Typedef b) h = cc
    tells at params (written_body.Opt b) h = cc

    may-call : (k : ℕ) (e : WrittenDecl) → slice_get tree.decls k ≡ Some e → (k < n) ⊎ (is_precursive e.mark ≡ true) → MayBeCalled (made tree none) (sorts tree none) n k
    unfolding decl_at
    may-call k e named (inl less) = inl less
    may-call k e named (inr marked) =
        inr (subst TellsItself (sym (made-there tree none k e named)) (tells (site_of tree.decls k e) (made_params (site_of tree.decls k e)) e.body (recur tree none k e named marked)))

    named-typed : slice_get tree.decls n ≡ Some d → IsReadAt tree.decls n d → (t : «Type») → UsedHere t → Spelled (args_of t) → Named tree.decls n t.name.text
        → IsNamed (made tree none) (sorts tree none) n w (made_args (args_of t)) (named_type (seen_from (env tree none) n) t)
    unfolding named_type decl_at
    named-typed there reads t piece spelled (base-named b is) =
        let m = meaning-base (seen_from (env tree none) n) t.name.text b is in
        subst (λ o. IsNamed (made tree none) (sorts tree none) n w (made_args (args_of t)) (type_name_of o (declared_number (env tree none) t.name.text))) (sym is)
        (base-typed b (args_of t) (sym (ap (λ m. is_count_of m (length (args_of t))) m) ∙ count-rule t piece) spelled piece.expressions
        (subst (λ m. SortedArgs m (args_of t)) m piece.arguments))
    named-typed there reads t piece spelled (type-named k e none_base may named found place) =
        let types = seen_from (env tree none) n in
        let x = declare (seen_from (env tree none) k) e in
        let m = meaning-known types t.name.text x none_base found in
        let list = no-list site t piece.records (shape-off tree.decls n d reads) in
        let read = named-read tree none n k d e t.name.text there named may none_base found list in
        let number = short-is tree none k (few tree none k e named) in
        let counted = eqb-true (length (args_of t)) (length x.params) (sym (ap (λ m. is_count_of m (length (args_of t))) m) ∙ count-rule t piece) in
        let long : length (args_of t) ≡ length (param_sorts (made_params_of k e)) =
        counted ∙ length-map (params_of e.body) (λ (param : WrittenParam). type_sort (seen_from (env tree none) k) param.of)
        ∙ sym (length-map (params_of e.body) (param_of (seen_from (env tree none) k))) ∙ sym (length-map (made_params_of k e) (λ (param : Param). param.sort)) in
        let given = arguments-typed (Known x) (length (args_of t)) (args_of t) 0 (param_sorts (made_params_of k e)) refl (wanted-there k e named) long spelled piece.expressions
        (subst (λ m. SortedArgs m (args_of t)) m piece.arguments) in
        let called : MayBeCalled (made tree none) (sorts tree none) n k = may-call k e named may in
        let call : IsCall (made tree none) (sorts tree none) n w (made_args (args_of t)) k =
        (called, decl_at (site_of tree.decls k e), made-there tree none k e named, read-if (role_of (site_of tree.decls k e)) (made_body (site_of tree.decls k e) (made_params (site_of tree.decls k e)) e.body) read, given) in
        subst (λ o. IsNamed (made tree none) (sorts tree none) n w (made_args (args_of t)) (type_name_of o (declared_number (env tree none) t.name.text))) (sym none_base)
        (subst (λ o. IsNamed (made tree none) (sorts tree none) n w (made_args (args_of t)) (declared_type o)) (sym place)
        (subst (IsCall (made tree none) (sorts tree none) n w (made_args (args_of t))) (sym number) call))

    pub type-typed : slice_get tree.decls n ≡ Some d → IsReadAt tree.decls n d → (t : «Type») → UsedHere t → Spelled (args_of t) → IsType (made tree none) (sorts tree none) n w (type_at site names t)
    unfolding type_at
    type-typed there reads t piece spelled = named-typed there reads t piece spelled (named-at tree.decls (recur tree none) n t.name.text (used-known site (judging_scope names later) t piece))
