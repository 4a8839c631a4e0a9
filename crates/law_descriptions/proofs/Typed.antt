-- An expression without violations resolves to a well-sorted one of the sort that the rules give it.
use Rattle.std.proofs.Common.{◌≡◌, ◌∙◌, sym, ap, refl, subst, ℕ, pos, suc, Bool, true, false, cond, nat_eq, List, [], ◌∷◌, ◌++◌, flat_map, find, Option, Some, None, option_map, option_and_then}
use lib.Pointwise.{pointwise}
use Rattle.pads_ast.specs.declared.decl.Decl.{Decl as WrittenDecl}
use Rattle.pads_expr.specs.declared.expr.BinOp.{BinOp}
use Rattle.pads_ast.specs.declared.expr.Expr.{Expr as Tree, Expr-F as Tree-F, fold-roll-Expr as fold-roll-Tree, roll-Expr as roll-Tree, map-Expr as map-Tree}
use Rattle.pads_ast.specs.declared.expr.Expr.TheShapes.{former-Expr-Chain-1, former-Expr-Post-1}
use Rattle.pads_ast.specs.declared.expr.Link.{Link}
use Rattle.pads_ast.specs.declared.expr.Step.{Step}
use Rattle.pads_ast.specs.declared.expr.Step.TheVariants as step_form
use Rattle.pads_ast.specs.declared.name.Name.{Name}
use Rattle.pads_rules.specs.declared.sort.Sort.{Sort}
use Rattle.pads_resolution.specs.declared.decl.Decl.{Decl}
use Rattle.pads_resolution.specs.declared.visible.Known.{Known}
use Rattle.pads_resolution.specs.declared.visible.ResolvedExpr.{ResolvedExpr}
use Rattle.pads_resolution.specs.declared.visible.Stands.{Stands}
use Rattle.pads_resolution.specs.declared.visible.Stands.TheVariants as stands
use Rattle.pads_resolution.specs.declared.visible.Visible.{Visible}
use Rattle.pads_resolution.specs.Expressions as made
use Rattle.pads_resolution.specs.Expressions.{meaning_of, expression, resolve_form}
use Rattle.pads_resolution.specs.Scopes.{NameScope as Names, known_in, hiding}
use Rattle.pads_resolution.specs.JudgedNames.{judging_scope}
use Rattle.pads_rules.specs.Faults.{breaks}
use Rattle.pads_rules.specs.Judging as judging
use Rattle.pads_rules.specs.Judging.{Judged, judged, judge_form, too_high, takes, wrong_sort, no_truth, unary_takes, is_text_or_array}
use Rattle.pads_rules.specs.Members.{member}
use Rattle.pads_ast.specs.NameTokens.{names_in_expr, names_in_form, names_in_step, Names as Texts}
use Rattle.pads_rules.specs.Sorts as rules
use Rattle.pads_rules.specs.Sorts.{is_num_form, is_truth_form, is_array_form}
use Rattle.pads_rules.specs.Texts.{same_text}
use Rattle.pads_ast.specs.Trees.{points_of}
use Rattle.pads_rules.specs.declared.declared.Declared.{Declared}
use Rattle.pads_rules.specs.declared.expr_sort.ExprSort.{ExprSort}
use Rattle.pads_rules.specs.declared.expr_sort.ExprSort.TheVariants as expr_sort
use Rattle.pads_rules.specs.declared.rule.Rule.TheVariants as rule
use Rattle.pads_rules.proofs.Judgements.{judged-roll}
use Rattle.pads_trans.specs.Names.{at_sign}
use Rattle.law_descriptions.specs.Expressions.{SortScope, sort_in_scope, plainly, number_alone, truth_alone, length_sort, forall_sort, part_sort, meaning_sort, sort_in}
use Rattle.law_descriptions.specs.Sorts.{num, text, truth}
use Rattle.law_descriptions.specs.WellSorted.{Each}
use Rattle.law_descriptions.proofs.Lists.{each-left, each-right}
use Rattle.law_descriptions.specs.Described.{IsSpelled, AreSpelled, IsProper, IsKnown, Describes, Sees}
use Rattle.pads_rules.proofs.Faultless.{none-left, none-right, not-one, is-taken, is-truth, own-sort, inner-faults}
use Rattle.pads_ast.proofs.ExprNames.{names_in_expr-roll}
use Rattle.law_descriptions.proofs.Forms.{sort-Number, sort-Word, sort-Truth, sort-Pforall, num-form, truth-form}
use Rattle.law_descriptions.proofs.WrittenTrees.{InLink, InStep, Inside, all-layers}
use Rattle.law_descriptions.proofs.TypedOperators as operators
use Rattle.law_descriptions.proofs.TypedOperators.{same-swapped, and_then, at-plain}
use Rattle.law_descriptions.proofs.TypedMembers as members

module _ (written : List WrittenDecl) (env : List Declared) (decls : List Decl) (sorts : List Sort) (describes : Describes written env decls sorts) where
  abbrev Fits : ResolvedExpr → Judged → SortScope → Type 0
  Fits = operators.Fits written env decls sorts describes

  -- a variable that hides others
  other-name : (name other : List ℕ) (sort : Sort) (scope : SortScope) → pointwise nat_eq other name ≡ false → sort_in_scope ((name, sort) ∷ scope) other ≡ sort_in_scope scope other
  other-name name other sort scope is =
      ap (λ b. option_map (λ (bound : List ℕ × Sort). bound.1) (cond b (Some (name, sort)) (find (λ (bound : List ℕ × Sort). pointwise nat_eq other bound.0) scope))) is

  pub other-meaning : (name other : List ℕ) (what : Stands) (sort : Sort) (scope : SortScope) → IsSpelled name → pointwise nat_eq other name ≡ false
      → meaning_sort decls sorts (meaning_of other what) ((name, sort) ∷ scope) ≡ meaning_sort decls sorts (meaning_of other what) scope
  other-meaning name other stands.Variable sort scope spelled differ = other-name name other sort scope differ
  other-meaning name other stands.Elts sort scope spelled differ = other-name name at_sign sort scope spelled
  other-meaning name other stands.Length sort scope spelled differ = ap (option_and_then (plainly length_sort)) (other-name name at_sign sort scope spelled)
  other-meaning name other (stands.Field number) sort scope spelled differ = ap (option_and_then (plainly (part_sort decls sorts number))) (other-name name at_sign sort scope spelled)

  pub sees-by : (names : Names) (scope : SortScope) (name text : List ℕ) (what : ExprSort) (sort : Sort) (known : Known) (t : Bool) → IsSpelled name → what ≡ expr_sort.Known sort → IsProper env decls sort.form
      → ((known : Known) → known_in names text ≡ Some known → IsKnown env decls (λ s. meaning_sort decls sorts (meaning_of text known.stands) scope ≡ Some s) known.sort) → same_text name text ≡ t
      → option_map (λ (v : Visible). v.known) (cond t (Some (record { text = name; known = record { stands = stands.Variable; sort = what } })) (find (λ (v : Visible). same_text v.text text) names)) ≡ Some known
      → IsKnown env decls (λ s. meaning_sort decls sorts (meaning_of text known.stands) ((name, sort) ∷ scope) ≡ Some s) known.sort
  sees-by names scope name text what sort known true spelled is proper sees same there =
      let one : record { stands = stands.Variable; sort = what } ≡ known = cc in
      subst (λ (known : Known). IsKnown env decls (λ s. meaning_sort decls sorts (meaning_of text known.stands) ((name, sort) ∷ scope) ≡ Some s) known.sort) one (
        sort,
        is,
        proper,
        ap (λ b. option_map (λ (bound : List ℕ × Sort). bound.1) (cond b (Some (name, sort)) (find (λ (bound : List ℕ × Sort). pointwise nat_eq text bound.0) scope))) (same-swapped name text true same),
      )
  sees-by names scope name text what sort known false spelled is proper sees same there =
      let x = sees known there in
      (x.0, x.1, x.2, other-meaning name text known.stands sort scope spelled (same-swapped name text false same) ∙ x.3)

  pub sees-hiding : (names : Names) (scope : SortScope) (name : List ℕ) (what : ExprSort) (sort : Sort) → IsSpelled name → what ≡ expr_sort.Known sort → IsProper env decls sort.form → Sees env decls sorts names scope
      → Sees env decls sorts (hiding name stands.Variable what names) ((name, sort) ∷ scope)
  sees-hiding names scope name what sort spelled is proper sees text known there =
      sees-by names scope name text what sort known (same_text name text) spelled is proper (sees text) refl there

  pforall-fits : (at : ℕ) (name : List ℕ) (l h b : ResolvedExpr) (low high body : Judged) (scope : SortScope) → Fits l low scope → Fits h high scope → Fits b body ((name, num) ∷ scope)
      → (judging.pforall at low high body).faults ≡ [] → Fits (made.pforall name l h b) (judging.pforall at low high body) scope
  unfolding made.pforall
  pforall-fits at name l h b low high body scope one other each none =
      let says = operators.judged-pforall written env decls sorts describes at low high body none in
      let inside = low.faults ++ high.faults ++ body.faults in
      let low_is = wrong_sort is_num_form low in
      let high_is = wrong_sort is_num_form high in
      let front = none-left (inside ++ low_is ++ high_is) (no_truth body) says.1 in
      let z = operators.operand written env decls sorts describes is_truth_form b body ((name, num) ∷ scope) each (is-truth body (none-right (inside ++ low_is ++ high_is) (no_truth body) says.1)) in
      let y = operators.operand written env decls sorts describes is_num_form h high scope other (is-taken is_num_form high (none-right (inside ++ low_is) high_is front)) in
      let x = operators.operand written env decls sorts describes is_num_form l low scope one (is-taken is_num_form low (none-right inside low_is (none-left (inside ++ low_is) high_is front))) in
      let inner_sort = sort_in decls sorts b.expr ((name, num) ∷ scope) in (
        says.0,
        (
          tt,
          sort-Pforall decls sorts scope name l.expr h.expr b.expr
              ∙ and_then (λ a. option_and_then (λ c. option_and_then (forall_sort a c) inner_sort) (sort_in decls sorts h.expr scope)) (sort_in decls sorts l.expr scope) x.0 truth x.5
              (and_then (λ c. option_and_then (forall_sort x.0 c) inner_sort) (sort_in decls sorts h.expr scope) y.0 truth y.5
              (and_then (forall_sort x.0 y.0) inner_sort z.0 truth z.5
              (and_then (λ a. option_and_then (λ c. plainly truth_alone z.0) (plainly number_alone y.0)) (plainly number_alone x.0) num truth (at-plain number_alone x.0 x.2 ∙ ap number_alone (num-form (x.0).form x.3))
              (and_then (λ c. plainly truth_alone z.0) (plainly number_alone y.0) num truth (at-plain number_alone y.0 y.2 ∙ ap number_alone (num-form (y.0).form y.3))
              (at-plain truth_alone z.0 z.2 ∙ ap truth_alone (truth-form (z.0).form z.3)))))),
        ),
      )

  -- rows of operators, and of names and indexes
  abbrev IsLawful : Tree → Type 0
  IsLawful e = (names : Names) (later : List (List ℕ)) (scope : SortScope) → Sees env decls sorts names scope → AreSpelled (names_in_expr e) → (judged env e (judging_scope names later)).faults ≡ []
      → Fits (expression written env e names) (judged env e (judging_scope names later)) scope

  module _ (names : Names) (later : List (List ℕ)) (scope : SortScope) (sees : Sees env decls sorts names scope) where
    abbrev judged_here : Tree → Judged
    judged_here e = judged env e (judging_scope names later)

    abbrev judged_chain : Judged → List (Link Tree) → Judged
    judged_chain left links = judging.chained left ((former-Expr-Chain-1).map Tree (judging.Scope → Judged) (judged env) links) (judging_scope names later)

    abbrev judged_post : Judged → List (Step Tree) → Judged
    judged_post whole steps = judging.posted env whole ((former-Expr-Post-1).map Tree (judging.Scope → Judged) (judged env) steps) (judging_scope names later)

    abbrev names_in_links : List (Link Tree) → Texts
    names_in_links links = flat_map (λ link. link.operand) ((former-Expr-Chain-1).map Tree Texts names_in_expr links)

    abbrev names_in_steps : List (Step Tree) → Texts
    names_in_steps steps = flat_map names_in_step ((former-Expr-Post-1).map Tree Texts names_in_expr steps)

    binary-parts : (op : BinOp) (left right : Judged) → (judging.binary op left right).faults ≡ [] → (left.faults ≡ []) × (right.faults ≡ [])
    binary-parts op left right none =
        let both = none-left (left.faults ++ right.faults) (judging.wrong_operands (takes op) left right) (operators.judged-binary written env decls sorts describes op left right none).1 in
        (none-left left.faults right.faults both, none-right left.faults right.faults both)

    chained-faults : (left : Judged) (links : List (Link Tree)) → (judged_chain left links).faults ≡ [] → left.faults ≡ []
    chained-faults left [] none = none
    chained-faults left (link ∷ links) none =
        (binary-parts link.operator left (judged_here link.operand) (chained-faults (judging.binary link.operator left (judged_here link.operand)) links none)).0

    chained-fits : (l : ResolvedExpr) (left : Judged) (links : List (Link Tree)) → Fits l left scope → Each (InLink IsLawful) links → AreSpelled (names_in_links links) → (judged_chain left links).faults ≡ []
        → Fits (made.chained l ((former-Expr-Chain-1).map Tree (Names → ResolvedExpr) (expression written env) links) names) (judged_chain left links) scope
    chained-fits l left [] fits laws spelled none = fits
    chained-fits l left (link ∷ links) fits laws spelled none =
        let right = judged_here link.operand in
        let r = expression written env link.operand names in
        let here = chained-faults (judging.binary link.operator left right) links none in
        let both = binary-parts link.operator left right here in
        let other = laws.0 names later scope sees (each-left IsSpelled (names_in_expr link.operand) (names_in_links links) spelled) both.1 in
        chained-fits (made.binary link.operator l r) (judging.binary link.operator left right) links
        (operators.binary-fits written env decls sorts describes link.operator l r left right scope fits other here) laws.1
        (each-right IsSpelled (names_in_expr link.operand) (names_in_links links) spelled) none

    member-whole : (whole : Judged) (name : Name) (found : Option ExprSort) → (judging.member_found whole name found).faults ≡ [] → whole.faults ≡ []
    member-whole whole name (Some sort) none = inner-faults whole.first (suc whole.height) sort whole.faults none
    member-whole whole name None none = absurd (not-one whole.faults (breaks rule.UnknownMember name.at) (too_high whole.first (suc whole.height)) none)

    indexed-parts : (whole index : Judged) → (judging.indexed env whole index).faults ≡ [] → (whole.faults ≡ []) × (index.faults ≡ [])
    indexed-parts whole index none =
        let faults = (operators.judged-index written env decls sorts describes whole index none).1 in
        let both = none-left (whole.faults ++ index.faults) (wrong_sort is_array_form whole) (none-left (whole.faults ++ index.faults ++ wrong_sort is_array_form whole) (wrong_sort is_num_form index) faults) in
        (none-left whole.faults index.faults both, none-right whole.faults index.faults both)

    posted-faults : (whole : Judged) (steps : List (Step Tree)) → (judged_post whole steps).faults ≡ [] → whole.faults ≡ []
    posted-faults whole [] none = none
    posted-faults whole (step_form.Name name ∷ steps) none =
        member-whole whole name (member env whole.sort name.text) (posted-faults (judging.member_found whole name (member env whole.sort name.text)) steps none)
    posted-faults whole (step_form.Index at index ∷ steps) none =
        (indexed-parts whole (judged_here index) (posted-faults (judging.indexed env whole (judged_here index)) steps none)).0

    posted-fits : (r : ResolvedExpr) (whole : Judged) (steps : List (Step Tree)) → Fits r whole scope → Each (InStep IsLawful) steps → AreSpelled (names_in_steps steps) → (judged_post whole steps).faults ≡ []
        → Fits (made.posted written env r ((former-Expr-Post-1).map Tree (Names → ResolvedExpr) (expression written env) steps) names) (judged_post whole steps) scope
    posted-fits r whole [] fits laws spelled none = fits
    posted-fits r whole (step_form.Name name ∷ steps) fits laws spelled none =
        let next = judging.member_found whole name (member env whole.sort name.text) in
        posted-fits (made.member_of written env r name.text) next steps (members.member-fits written env decls sorts describes r whole name scope fits (posted-faults next steps none)) laws.1 spelled.1 none
    posted-fits r whole (step_form.Index at index ∷ steps) fits laws spelled none =
        let i = judged_here index in
        let next = judging.indexed env whole i in
        let here = posted-faults next steps none in
        let inner = laws.0 names later scope sees (each-left IsSpelled (names_in_expr index) (names_in_steps steps) spelled) (indexed-parts whole i here).1 in
        posted-fits (made.indexed env r (expression written env index names)) next steps (members.index-fits written env decls sorts describes r (expression written env index names) whole i scope fits inner here) laws.1
        (each-right IsSpelled (names_in_expr index) (names_in_steps steps) spelled) none

  -- one layer
  abbrev judged_layer : Tree-F Tree → judging.Scope → Judged
  judged_layer layer scope = judge_form env (map-Tree Tree (judging.Scope → Judged) (judged env) layer) scope

  abbrev resolved_layer : Tree-F Tree → Names → ResolvedExpr
  resolved_layer layer names = resolve_form written env (map-Tree Tree (Names → ResolvedExpr) (expression written env) layer) names

  abbrev Lawful : Tree-F Tree → Type 0
  Lawful layer = (names : Names) (later : List (List ℕ)) (scope : SortScope) → Sees env decls sorts names scope → AreSpelled (names_in_form (map-Tree Tree Texts names_in_expr layer))
      → (judged_layer layer (judging_scope names later)).faults ≡ [] → Fits (resolved_layer layer names) (judged_layer layer (judging_scope names later)) scope

  lawful-Chain : (first : Tree) (links : List (Link Tree)) → IsLawful first → Each (InLink IsLawful) links → Lawful (Tree-F.Chain first links)
  lawful-Chain first links law laws names later scope sees spelled none =
      let left = judged env first (judging_scope names later) in
      let own = chained-faults names later scope sees left links none in
      chained-fits names later scope sees (expression written env first names) left links
      (law names later scope sees (each-left IsSpelled (names_in_expr first) (names_in_links names later scope sees links) spelled) own) laws
      (each-right IsSpelled (names_in_expr first) (names_in_links names later scope sees links) spelled) none

  lawful-Post : (base : Tree) (steps : List (Step Tree)) → IsLawful base → Each (InStep IsLawful) steps → Lawful (Tree-F.Post base steps)
  lawful-Post base steps law laws names later scope sees spelled none =
      let whole = judged env base (judging_scope names later) in
      let own = posted-faults names later scope sees whole steps none in
      posted-fits names later scope sees (expression written env base names) whole steps
      (law names later scope sees (each-left IsSpelled (names_in_expr base) (names_in_steps names later scope sees steps) spelled) own) laws
      (each-right IsSpelled (names_in_expr base) (names_in_steps names later scope sees steps) spelled) none

  lawful-Pforall : (at : ℕ) (name : Name) (low high body : Tree) → IsLawful low → IsLawful high → IsLawful body → Lawful (Tree-F.Pforall at name low high body)
  lawful-Pforall at name low high body one other each names later scope sees spelled none =
      let l = judged env low (judging_scope names later) in
      let h = judged env high (judging_scope names later) in
      let inside : Names = hiding name.text stands.Variable rules.num names in
      let b = judged env body (judging_scope inside later) in
      let faults = (operators.judged-pforall written env decls sorts describes at l h b none).1 in
      let front = none-left (l.faults ++ h.faults ++ b.faults ++ wrong_sort is_num_form l ++ wrong_sort is_num_form h) (no_truth b) faults in
      let parts = none-left (l.faults ++ h.faults ++ b.faults) (wrong_sort is_num_form l) (none-left (l.faults ++ h.faults ++ b.faults ++ wrong_sort is_num_form l) (wrong_sort is_num_form h) front) in
      let bounds = none-left (l.faults ++ h.faults) b.faults parts in
      let both = each-left IsSpelled (names_in_expr low ++ names_in_expr high) (names_in_expr body) spelled.1 in
      pforall-fits at name.text (expression written env low names) (expression written env high names) (expression written env body inside) l h b scope
      (one names later scope sees (each-left IsSpelled (names_in_expr low) (names_in_expr high) both) (none-left l.faults h.faults bounds))
      (other names later scope sees (each-right IsSpelled (names_in_expr low) (names_in_expr high) both) (none-right l.faults h.faults bounds))
      (each inside later ((name.text, num) ∷ scope) (sees-hiding names scope name.text rules.num num spelled.0 refl tt sees)
      (each-right IsSpelled (names_in_expr low ++ names_in_expr high) (names_in_expr body) spelled.1) (none-right (l.faults ++ h.faults) b.faults parts))
      none

  lawful-Paren : (at : ℕ) (inner : Tree) → IsLawful inner → Lawful (Tree-F.Paren at inner)
  lawful-Paren at inner law names later scope sees spelled none =
      let j = judged env inner (judging_scope names later) in
      let says = operators.judged-form written env decls sorts describes at j.height j.sort j.faults none in
      let fits = law names later scope sees spelled says.1 in
      (fits.0 ∙ says.0, fits.1)

  layer : (layer : Tree-F Tree) → Inside IsLawful layer → Lawful layer
  layer (Tree-F.Chain first links) laws = lawful-Chain first links laws.0 laws.1
  layer (Tree-F.Unary op at inner) law = λ names later scope sees spelled none.
      let j = judged env inner (judging_scope names later) in
      operators.unary-fits written env decls sorts describes op at (expression written env inner names) j scope (law names later scope sees spelled (none-left j.faults (wrong_sort (unary_takes op) j) (operators.judged-unary written env decls sorts describes op at j none).1)) none
  layer (Tree-F.Post base steps) laws = lawful-Post base steps laws.0 laws.1
  layer (Tree-F.Number value at) law = λ names later scope sees spelled none. (own-sort at 1 rules.num [] none, (tt, sort-Number decls sorts scope (pos value)))
  layer (Tree-F.Word word) law = λ names later scope sees spelled none. (own-sort (judging.place_of word) 1 rules.text [] none, (tt, sort-Word decls sorts scope (points_of word)))
  layer (Tree-F.Truth value at) law = λ names later scope sees spelled none. (own-sort at 1 rules.truth [] none, (tt, sort-Truth decls sorts scope value))
  layer (Tree-F.Name name) law = λ names later scope sees spelled none. operators.name-fits written env decls sorts describes names later scope name sees none
  layer (Tree-F.Paren at inner) law = lawful-Paren at inner law
  layer (Tree-F.Pis at value name) law = λ names later scope sees spelled none.
      let j = judged env value (judging_scope names later) in
      members.pis-fits written env decls sorts describes at (expression written env value names) j name scope
      (law names later scope sees (each-left IsSpelled (names_in_expr value) (name.text ∷ []) spelled) (none-left j.faults (judging.no_choice env j name) (operators.judged-pis written env decls sorts describes at j name none).1)) none
  layer (Tree-F.Plen at value) law = λ names later scope sees spelled none.
      let j = judged env value (judging_scope names later) in
      members.plen-fits written env decls sorts describes at (expression written env value names) j scope (law names later scope sees spelled (none-left j.faults (wrong_sort is_text_or_array j) (operators.judged-plen written env decls sorts describes at j none).1)) none
  layer (Tree-F.Pforall at name low high body) laws = lawful-Pforall at name low high body laws.0 laws.1 laws.2

  expression-roll : (layer : Tree-F Tree) (names : Names) → expression written env (roll-Tree layer) names ≡ resolved_layer layer names
  unfolding expression
  expression-roll layer names = ap (λ (f : Names → ResolvedExpr). f names) (fold-roll-Tree (Names → ResolvedExpr) (resolve_form written env) layer)

  rolled : (tree : Tree-F Tree) → Inside IsLawful tree → IsLawful (roll-Tree tree)
  rolled tree laws names later scope sees spelled none =
      let judged_is = judged-roll env tree (judging_scope names later) in
      subst (λ r. Fits r (judged env (roll-Tree tree) (judging_scope names later)) scope) (sym (expression-roll tree names))
      (subst (λ j. Fits (resolved_layer tree names) j scope) (sym judged_is)
      (layer tree laws names later scope sees (subst AreSpelled (names_in_expr-roll tree) spelled) (sym (ap (λ (j : Judged). j.faults) judged_is) ∙ none)))

  pub lawful : (e : Tree) → IsLawful e
  lawful e = all-layers IsLawful rolled e
