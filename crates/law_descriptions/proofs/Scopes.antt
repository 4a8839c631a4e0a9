-- The names in scope of a description without violations.
use Rattle.std.proofs.Common.{◌≡◌, ◌∙◌, sym, ap, refl, subst, ⊎_elim, ℕ, Bool, true, false, cond, nat_eq, List, [], ◌∷◌, ◌++◌, append_assoc, append-nil, map, take, find, codes, Option, Some, None, option_map}
use Rattle.std.specs.List.{list_any}
use Rattle.std.proofs.lemmas.List.Folds.{list_any-append}
use Rattle.std.proofs.lemmas.Bool.{or_parts}
use lib.Pointwise.{pointwise, bytes_decides}
use Rattle.pads_ast.specs.declared.decl.Ast.{Ast}
use Rattle.pads_ast.specs.declared.decl.Decl.{Decl as WrittenDecl}
use Rattle.pads_ast.specs.declared.name.Name.{Name}
use Rattle.pads_ast.specs.declared.types.Param.{Param as WrittenParam}
use Rattle.pads_rules.specs.declared.sort.Form.TheVariants as form
use Rattle.pads_rules.specs.declared.sort.Sort.{Sort}
use Rattle.pads_resolution.specs.declared.visible.Known.{Known}
use Rattle.pads_resolution.specs.declared.visible.Stands.{Stands}
use Rattle.pads_resolution.specs.declared.visible.Stands.TheVariants as stands
use Rattle.pads_resolution.specs.declared.visible.Visible.{Visible}
use Rattle.pads_resolution.specs.Expressions.{meaning_of, sort_known}
use Rattle.pads_resolution.specs.Scopes.{NameScope as Names, known_in, name_as, variable, array_scope}
use Rattle.pads_resolution.specs.Types.{param_of}
use Rattle.pads_resolution.specs.JudgedNames.{as_named}
use Rattle.pads_rules.specs.DeclRules.{same_name}
use Rattle.pads_rules.specs.Faults.{breaks, when, again}
use Rattle.pads_rules.specs.Pieces.{OfParam}
use Rattle.pads_rules.specs.Resolving.{Sight, seen_from, type_sort, param_named}
use Rattle.pads_rules.specs.Texts.{same_text}
use Rattle.pads_rules.specs.Violations.{violations}
use Rattle.pads_rules.specs.Sorts as rules
use Rattle.pads_rules.specs.declared.declared.Declared.{Declared}
use Rattle.pads_rules.specs.declared.declared.Named.{Named as RuleNamed}
use Rattle.pads_rules.specs.declared.expr_sort.ExprSort.{ExprSort}
use Rattle.pads_rules.specs.declared.expr_sort.ExprSort.TheVariants as expr_sort
use Rattle.pads_rules.specs.declared.rule.Rule.TheVariants as rule
use Rattle.pads_rules.proofs.SameTexts.{same-is}
use Rattle.pads_trans.specs.Names.{at_sign}
use Rattle.law_descriptions.specs.Expressions.{SortScope, meaning_sort}
use Rattle.law_descriptions.specs.Sorts as sorts_of
use Rattle.law_descriptions.specs.WellSorted.{Each, params_scope}
use Rattle.law_descriptions.specs.Described.{IsSpelled, AreSpelled, IsProper, IsKnown, Sees}
use Rattle.law_descriptions.proofs.Described.{described}
use Rattle.law_descriptions.proofs.Environment.{site_of}
use Rattle.pads_rules.proofs.Faultless.{none-left, none-right, not-when}
use Rattle.law_descriptions.proofs.Free.{FreePiece}
use Rattle.law_descriptions.proofs.Typed.{other-meaning}
use Rattle.law_descriptions.proofs.TypedOperators.{own-text, same-swapped}
use Rattle.law_descriptions.proofs.AcceptedTypes.{env, made, sorts}
use Rattle.law_descriptions.proofs.Uses.{param-sort}

or_else : Option Known → Option Known → Option Known
or_else None o = o
or_else (Some k) o = Some k

known-behind : (names : Names) (v : Visible) (text : List ℕ) → known_in (names ++ v ∷ []) text ≡ or_else (known_in names text) (known_in (v ∷ []) text)
unfolding or_else
known-behind [] v text = refl
known-behind (u ∷ names) v text = by (same_text u.text text) (known-behind names v text)
  where
    by : (b : Bool) → known_in (names ++ v ∷ []) text ≡ or_else (known_in names text) (known_in (v ∷ []) text)
        → option_map (λ (x : Visible). x.known) (cond b (Some u) (find (λ (x : Visible). same_text x.text text) (names ++ v ∷ [])))
        ≡ or_else (option_map (λ (x : Visible). x.known) (cond b (Some u) (find (λ (x : Visible). same_text x.text text) names))) (known_in (v ∷ []) text)
    by true h = refl
    by false h = h

-- a name that is there is an earlier one or the last
pub behind : (names : Names) (v : Visible) (text : List ℕ) (k : Known) (P : Type 0) → (known_in names text ≡ Some k → P) → (known_in names text ≡ None → known_in (v ∷ []) text ≡ Some k → P)
    → known_in (names ++ v ∷ []) text ≡ Some k → P
unfolding or_else
behind names v text k P old new there = by (known_in names text) refl (sym (known-behind names v text) ∙ there)
  where
    by : (o : Option Known) → known_in names text ≡ o → or_else o (known_in (v ∷ []) text) ≡ Some k → P
    by None is h = new is h
    by (Some x) is h = old (is ∙ h)

none-behind : (names : Names) (v : Visible) (text : List ℕ) → known_in names text ≡ None → known_in (v ∷ []) text ≡ None → known_in (names ++ v ∷ []) text ≡ None
unfolding or_else
none-behind names v text old new = known-behind names v text ∙ ap (λ o. or_else o (known_in (v ∷ []) text)) old ∙ new

alone-by : (v : Visible) (text : List ℕ) (k : Known) (b : Bool) → same_text v.text text ≡ b → option_map (λ (x : Visible). x.known) (cond b (Some v) None) ≡ Some k → (v.text ≡ text) × (v.known ≡ k)
alone-by v text k true is there = (same-is v.text text is, cc)
alone-by v text k false is there = cc

pub alone : (v : Visible) (text : List ℕ) (k : Known) → known_in (v ∷ []) text ≡ Some k → (v.text ≡ text) × (v.known ≡ k)
alone v text k there = alone-by v text k (same_text v.text text) refl there

other-alone : (v : Visible) (text : List ℕ) → same_text v.text text ≡ false → known_in (v ∷ []) text ≡ None
other-alone v text is = ap (λ b. option_map (λ (x : Visible). x.known) (cond b (Some v) None)) is

swapped-false : (a b : List ℕ) → same_text a b ≡ false → same_text b a ≡ false
unfolding same_text
swapped-false a b h = same-swapped a b false h

pub pointwise-false : (a b : List ℕ) → pointwise nat_eq a b ≡ false → pointwise nat_eq b a ≡ false
pointwise-false a b h = by (pointwise nat_eq b a) refl
  where
    by : (t : Bool) → pointwise nat_eq b a ≡ t → t ≡ false
    by true is = sym ((bytes_decides a b).1 (sym ((bytes_decides b a).0 is))) ∙ h
    by false is = refl

module _ (tree : Ast) (none : violations tree ≡ []) where
  abbrev SeesHere : Names → SortScope → Type 0
  SeesHere = Sees (env tree none) (made tree none) (sorts tree none)

  abbrev pub IsProperHere : Sort → Type 0
  IsProperHere s = IsProper (env tree none) (made tree none) s.form

  -- names that stand for variables, as the rules and the resolved tree see them
  pub record State (names : Names) (seen : List RuleNamed) (w : SortScope) (before : List Name) : Type 0 where
    pub shown : map as_named names ≡ seen
    pub sees : SeesHere names w
    pub covered : (text : List ℕ) → list_any (λ (t : Name). same_text text t.text) before ≡ false → known_in names text ≡ None
    pub variables : (text : List ℕ) (known : Known) → known_in names text ≡ Some known → (known.stands ≡ stands.Variable) × IsSpelled text

  shown-behind : (names : Names) (v : Visible) → map as_named (names ++ v ∷ []) ≡ map as_named names ++ as_named v ∷ []
  shown-behind [] v = refl
  shown-behind (u ∷ names) v = ap (λ rest. as_named u ∷ rest) (shown-behind names v)

  -- one more name
  pub step : (names : Names) (seen : List RuleNamed) (w : SortScope) (before : List Name) (x : Name) (what : ExprSort) (s : Sort) → State names seen w before
      → list_any (same_name x) before ≡ false → IsSpelled x.text → what ≡ expr_sort.Known s → IsProperHere s
      → State (names ++ name_as x.text stands.Variable what ∷ []) (seen ++ record { text = x.text; sort = what } ∷ []) ((x.text, s) ∷ w) (before ++ x ∷ [])
  step names seen w before x what s state fresh spelled is proper =
      let v : Visible = name_as x.text stands.Variable what in
      record {
        shown = shown-behind names v ∙ ap (λ seen. seen ++ record { text = x.text; sort = what } ∷ []) state.shown;
        sees = λ text known there. behind names v text known (Goal text known) (λ old. keep text known old (pointwise nat_eq text x.text) refl)
            (λ absent new. let h = alone v text known new in fresh-one text known h.0 h.1) there;
        covered = λ text apart.
            let both = or_parts (list_any (λ (t : Name). same_text text t.text) before) (list_any (λ (t : Name). same_text text t.text) (x ∷ []))
            (sym (list_any-append (λ (t : Name). same_text text t.text) before (x ∷ [])) ∙ apart) in
            none-behind names v text (state.covered text both.0) (other-alone v text (swapped-false text x.text (or_parts (same_text text x.text) false both.1).0));
        variables = λ text known there. behind names v text known ((known.stands ≡ stands.Variable) × IsSpelled text) (state.variables text known)
            (λ absent new. let h = alone v text known new in (sym (ap (λ (k : Known). k.stands) h.1), subst IsSpelled h.0 spelled)) there;
      }
    where
      Goal : List ℕ → Known → Type 0
      Goal text known = IsKnown (env tree none) (made tree none) (λ r. meaning_sort (made tree none) (sorts tree none) (meaning_of text known.stands) ((x.text, s) ∷ w) ≡ Some r) known.sort

      keep : (text : List ℕ) (known : Known) → known_in names text ≡ Some known → (b : Bool) → pointwise nat_eq text x.text ≡ b → Goal text known
      keep text known old true same =
          let is : text ≡ x.text = (bytes_decides text x.text).0 same in
          let absent : known_in names text ≡ None = ap (known_in names) is ∙ state.covered x.text fresh in
          let never : Some known ≡ None = sym old ∙ absent in cc
      keep text known old false differ =
          let h = state.sees text known old in (
            h.0,
            h.1,
            h.2,
            other-meaning tree.decls (env tree none) (made tree none) (sorts tree none) (described tree none) x.text text known.stands s w spelled differ ∙ h.3,
          )

      fresh-one : (text : List ℕ) (known : Known) → x.text ≡ text → record { stands = stands.Variable; sort = what } ≡ known → Goal text known
      fresh-one text known at same =
          subst (λ (text : List ℕ). Goal text known) at (subst (λ (known : Known). Goal x.text known) same
          (s, is, proper, ap (λ b. option_map (λ (bound : List ℕ × Sort). bound.1) (cond b (Some (x.text, s)) (find (λ (bound : List ℕ × Sort). pointwise nat_eq x.text bound.0) w))) (own-text x.text)))

  state-is : (names names' : Names) (seen seen' : List RuleNamed) (w : SortScope) (before before' : List Name) → names ≡ names' → seen ≡ seen' → before ≡ before' → State names seen w before → State names' seen' w before'
  state-is names names' seen seen' w before before' a b c state =
      subst (λ names. State names seen' w before') a (subst (λ seen. State names seen w before') b (subst (State names seen w) c state))

  pub no-more : (names : Names) (seen : List RuleNamed) (w : SortScope) (before : List Name) → State names seen w before → State (names ++ []) (seen ++ []) w before
  no-more names seen w before state = state-is names (names ++ []) seen (seen ++ []) w before before (sym (append-nil names)) (sym (append-nil seen)) refl state

  pub start : State [] [] [] []
  start = record { shown = refl; sees = λ text known there. cc; covered = λ text apart. refl; variables = λ text known there. cc }

  abbrev pub Again : List Name → List Name → Type 0
  Again before rest = again same_name (λ (name : Name). breaks rule.NameAgain name.at) before rest ≡ []

  pub fresh-first : (before : List Name) (x : Name) (rest : List Name) → Again before (x ∷ rest) → list_any (same_name x) before ≡ false
  fresh-first before x rest free = not-when (list_any (same_name x) before) (breaks rule.NameAgain x.at)
      (none-left (when (list_any (same_name x) before) (breaks rule.NameAgain x.at)) (again same_name (λ (name : Name). breaks rule.NameAgain name.at) (before ++ x ∷ []) rest) free)

  pub again-later : (before : List Name) (x : Name) (rest : List Name) → Again before (x ∷ rest) → Again (before ++ x ∷ []) rest
  again-later before x rest free =
      none-right (when (list_any (same_name x) before) (breaks rule.NameAgain x.at)) (again same_name (λ (name : Name). breaks rule.NameAgain name.at) (before ++ x ∷ []) rest) free

  module _ (n : ℕ) (d : WrittenDecl) where
    abbrev types : Sight
    types = seen_from (env tree none) n

    abbrev as_variable : WrittenParam → Visible
    as_variable param = variable (param_named types param)

    abbrev name_in : WrittenParam → Name
    name_in param = param.name

    pub params-state : (ps : List WrittenParam) (names : Names) (seen : List RuleNamed) (w : SortScope) (before rest : List Name) → State names seen w before → Again before (map name_in ps ++ rest)
        → AreSpelled (map (λ (param : WrittenParam). param.name.text) ps) → Each (FreePiece (site_of tree.decls n d)) (map (λ (param : WrittenParam). OfParam param.of) ps)
        → State (names ++ map as_variable ps) (seen ++ map (param_named types) ps) (params_scope (map (param_of types) ps) w) (before ++ map name_in ps) × Again (before ++ map name_in ps) rest
    unfolding param_of
    params-state [] names seen w before rest state free spelled pieces = (
      state-is names (names ++ []) seen (seen ++ []) w before (before ++ []) (sym (append-nil names)) (sym (append-nil seen)) (sym (append-nil before)) state,
      subst (λ before. Again before rest) (sym (append-nil before)) free,
    )
    params-state (p ∷ ps) names seen w before rest state free spelled pieces =
        let sort = param-sort tree none n d p pieces.0 in
        let told : sort_known (sorts_type p) ≡ sort.0 = ap sort_known sort.1 in
        let proper : IsProperHere sort.0 = ⊎_elim (λ is. subst IsProperHere (sym is) tt) (λ is. subst IsProperHere (sym is) tt) sort.2 in
        let one = step names seen w before p.name (sorts_type p) sort.0 state (fresh-first before p.name (map name_in ps ++ rest) free) spelled.0 sort.1 proper in
        let one_told = subst (λ (s : Sort). State (names ++ as_variable p ∷ []) (seen ++ param_named types p ∷ []) ((p.name.text, s) ∷ w) (before ++ p.name ∷ [])) (sym told) one in
        let rest_of = params-state ps (names ++ as_variable p ∷ []) (seen ++ param_named types p ∷ []) ((p.name.text, sort_known (sorts_type p)) ∷ w) (before ++ p.name ∷ []) rest one_told
        (again-later before p.name (map name_in ps ++ rest) free) spelled.1 pieces.1 in (
          state-is ((names ++ as_variable p ∷ []) ++ map as_variable ps) (names ++ as_variable p ∷ map as_variable ps) ((seen ++ param_named types p ∷ []) ++ map (param_named types) ps) (seen ++ param_named types p ∷ map (param_named types) ps)
              (params_scope (map (param_of types) (p ∷ ps)) w) ((before ++ p.name ∷ []) ++ map name_in ps) (before ++ p.name ∷ map name_in ps)
              (append_assoc names (as_variable p ∷ []) (map as_variable ps)) (append_assoc seen (param_named types p ∷ []) (map (param_named types) ps)) (append_assoc before (p.name ∷ []) (map name_in ps)) rest_of.0,
          subst (λ before. Again before rest) (append_assoc before (p.name ∷ []) (map name_in ps)) rest_of.1,
        )
      where
        sorts_type : WrittenParam → ExprSort
        sorts_type p = type_sort types p.of

  -- `@` stands for a value of a sort, beside the variables
  at-other : (names : Names) (text : List ℕ) (known : Known) (w : SortScope) (s : Sort) → known.stands ≡ stands.Variable → IsSpelled text
      → meaning_sort (made tree none) (sorts tree none) (meaning_of text known.stands) ((at_sign, s) ∷ w) ≡ meaning_sort (made tree none) (sorts tree none) (meaning_of text known.stands) w
  at-other names text known w s is spelled =
      ap (λ (what : Stands). meaning_sort (made tree none) (sorts tree none) (meaning_of text what) ((at_sign, s) ∷ w)) is
      ∙ ap (λ b. option_map (λ (bound : List ℕ × Sort). bound.1) (cond b (Some (at_sign, s)) (find (λ (bound : List ℕ × Sort). pointwise nat_eq text bound.0) w))) (pointwise-false at_sign text spelled)
      ∙ sym (ap (λ (what : Stands). meaning_sort (made tree none) (sorts tree none) (meaning_of text what) w) is)

  pub sees-at : (names : Names) (seen : List RuleNamed) (w : SortScope) (before : List Name) (s : Sort) → State names seen w before → SeesHere names ((at_sign, s) ∷ w)
  sees-at names seen w before s state text known there =
      let h = state.sees text known there in
      let v = state.variables text known there in
      (h.0, h.1, h.2, at-other names text known w s v.0 v.1 ∙ h.3)

  -- the conditions of an array
  array-by : (n : ℕ) (names : Names) (w : SortScope) (text : List ℕ) (known : Known) (a b : Bool) → SeesHere names ((at_sign, sorts_of.plain (form.Array n)) ∷ w) → IsProperHere (sorts_of.plain (form.Array n))
      → option_map (λ (x : Visible). x.known) (cond a (Some (name_as (codes "elts") stands.Elts (rules.plain (form.Array n)))) (cond b (Some (name_as (codes "length") stands.Length rules.num)) (find (λ (x : Visible). same_text x.text text) names))) ≡ Some known
      → IsKnown (env tree none) (made tree none) (λ r. meaning_sort (made tree none) (sorts tree none) (meaning_of text known.stands) ((at_sign, sorts_of.plain (form.Array n)) ∷ w) ≡ Some r) known.sort
  array-by n names w text known true b sees proper there =
      let one : record { stands = stands.Elts; sort = rules.plain (form.Array n) } ≡ known = cc in
      subst (λ (known : Known). IsKnown (env tree none) (made tree none) (λ r. meaning_sort (made tree none) (sorts tree none) (meaning_of text known.stands) ((at_sign, sorts_of.plain (form.Array n)) ∷ w) ≡ Some r) known.sort) one
      (sorts_of.plain (form.Array n), refl, proper, refl)
  array-by n names w text known false true sees proper there =
      let one : record { stands = stands.Length; sort = rules.num } ≡ known = cc in
      subst (λ (known : Known). IsKnown (env tree none) (made tree none) (λ r. meaning_sort (made tree none) (sorts tree none) (meaning_of text known.stands) ((at_sign, sorts_of.plain (form.Array n)) ∷ w) ≡ Some r) known.sort) one
      (sorts_of.num, refl, tt, refl)
  array-by n names w text known false false sees proper there = sees text known there

  pub sees-array : (n : ℕ) (names : Names) (seen : List RuleNamed) (w : SortScope) (before : List Name) → State names seen w before → IsProperHere (sorts_of.plain (form.Array n))
      → SeesHere (array_scope n names) ((at_sign, sorts_of.plain (form.Array n)) ∷ w)
  sees-array n names seen w before state proper text known there =
      array-by n names w text known (same_text (codes "elts") text) (same_text (codes "length") text) (sees-at names seen w before (sorts_of.plain (form.Array n)) state) proper there
