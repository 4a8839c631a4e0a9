-- An expression without violations resolves to one of the sort that the rules give it.
use Rattle.std.proofs.Common.{◌≡◌, ◌∙◌, sym, ap, subst, arith, ℕ, zero, suc, ◌+◌, ◌<◌, ◌≤◌, max, if◌then◌else◌, List, [], ◌∷◌, ◌++◌, Option, Some, None, option_map}
use Rattle.pads_ast.specs.declared.decl.Decl.{Decl}
use Rattle.pads_ast.specs.declared.expr.Expr.{Expr, Expr-F, fold-roll-Expr, roll-Expr, out-Expr, roll-out-Expr, map-Expr, size-Expr, the_lemmas}
use Rattle.pads_ast.specs.declared.expr.Expr.TheShapes.{former-Expr-Chain-1, former-Expr-Post-1}
use Rattle.pads_expr.specs.declared.expr.BinOp.{BinOp}
use Rattle.pads_ast.specs.declared.expr.Link.{Link}
use Rattle.pads_ast.specs.declared.expr.Step.{Step}
use Rattle.pads_ast.specs.declared.expr.Step.TheVariants as step_form
use Rattle.pads_ast.specs.declared.expr.UnaryOperator.{UnaryOperator}
use Rattle.pads_ast.specs.declared.name.Name.{Name}
use Rattle.pads_rules.specs.declared.declared.Declared.{Declared}
use Rattle.pads_rules.specs.declared.expr_sort.ExprSort.{ExprSort}
use Rattle.pads_rules.specs.declared.expr_sort.ExprSort.TheVariants as expr_sort
use Rattle.pads_rules.specs.declared.fault.CheckFault.{CheckFault}
use Rattle.pads_rules.specs.Judging as judging
use Rattle.pads_rules.specs.Judging.{Judged, judged, judge_form}
use Rattle.pads_rules.specs.Members.{member, element}
use Rattle.pads_rules.specs.Sorts.{num, text as text_sort, truth, is_num_form, is_array_form}
use Rattle.pads_rules.proofs.Judgements.{judged-roll}
use Rattle.pads_rules.proofs.Faultless.{none-left, not-one, own-sort, inner-faults}
use Rattle.pads_resolution.specs.declared.visible.Known.{Known}
use Rattle.pads_resolution.specs.declared.visible.ResolvedExpr.{ResolvedExpr}
use Rattle.pads_resolution.specs.declared.visible.Stands.TheVariants as stands
use Rattle.pads_resolution.specs.Expressions.{expression, resolve_form, chained, posted, name_in, name_found, sort_or_unknown, binary as made_binary, unary as made_unary, member_of as made_member, indexed as made_index, pis as made_pis, plen as made_plen, pforall as made_pforall}
use Rattle.pads_resolution.specs.Scopes.{NameScope, known_in, hiding}
use Rattle.pads_resolution.specs.JudgedNames.{judging_scope}
use Rattle.pads_resolution.proofs.JudgedNames.{sort-known}

-- names
found-sort : (scope : judging.Scope) (name : Name) (known : Option Known) → (judging.variable_found scope name (option_map (λ (k : Known). k.sort) known)).faults ≡ []
    → (name_found name.text known).sort ≡ (judging.variable_found scope name (option_map (λ (k : Known). k.sort) known)).sort
found-sort scope name (Some known) e = own-sort name.at 1 known.sort [] e
found-sort scope name None e = own-sort name.at 1 expr_sort.Unknown (judging.not_in_scope scope name) e

name-sort : (scope : NameScope) (later : List (List ℕ)) (name : Name) → (judging.variable (judging_scope scope later) name).faults ≡ []
    → (name_in scope name.text).sort ≡ (judging.variable (judging_scope scope later) name).sort
unfolding name_in
name-sort scope later name e =
    let is = sort-known scope name.text in
    found-sort (judging_scope scope later) name (known_in scope name.text) (sym (ap (λ s. (judging.variable_found (judging_scope scope later) name s).faults) is) ∙ e)
    ∙ sym (ap (λ s. (judging.variable_found (judging_scope scope later) name s).sort) is)

-- members
found-member : (whole : Judged) (name : Name) (found : Option ExprSort) → (judging.member_found whole name found).faults ≡ []
    → sort_or_unknown found ≡ (judging.member_found whole name found).sort
found-member whole name (Some sort) e = own-sort whole.first (suc whole.height) sort whole.faults e
found-member whole name None e = absurd (not-one whole.faults _ _ e)

member-whole : (whole : Judged) (name : Name) (found : Option ExprSort) → (judging.member_found whole name found).faults ≡ [] → whole.faults ≡ []
member-whole whole name (Some sort) e = inner-faults whole.first (suc whole.height) sort whole.faults e
member-whole whole name None e = absurd (not-one whole.faults _ _ e)

-- the violations of forms of two and more parts
abbrev binary_faults : BinOp → Judged → Judged → List CheckFault
binary_faults operator left right = left.faults ++ right.faults ++ judging.wrong_operands (judging.takes operator) left right

abbrev index_faults : Judged → Judged → List CheckFault
index_faults whole index = whole.faults ++ index.faults ++ judging.wrong_sort is_array_form whole ++ judging.wrong_sort is_num_form index

abbrev pforall_faults : Judged → Judged → Judged → List CheckFault
pforall_faults low high body =
    low.faults ++ high.faults ++ body.faults ++ judging.wrong_sort is_num_form low ++ judging.wrong_sort is_num_form high ++ judging.no_truth body

indexed-whole : (env : List Declared) (whole index : Judged) → (judging.indexed env whole index).faults ≡ [] → whole.faults ≡ []
indexed-whole env whole index e =
    let all = inner-faults whole.first (suc (max whole.height index.height)) (element env whole.sort) (index_faults whole index) e in
    none-left whole.faults index.faults
    (none-left (whole.faults ++ index.faults) (judging.wrong_sort is_array_form whole)
    (none-left (whole.faults ++ index.faults ++ judging.wrong_sort is_array_form whole) (judging.wrong_sort is_num_form index) all))

binary-left : (operator : BinOp) (left right : Judged) → (judging.binary operator left right).faults ≡ [] → left.faults ≡ []
binary-left operator left right e =
    let all = inner-faults left.first (suc (max left.height right.height)) (judging.result_of operator) (binary_faults operator left right) e in
    none-left left.faults right.faults (none-left (left.faults ++ right.faults) (judging.wrong_operands (judging.takes operator) left right) all)

binary-sort : (operator : BinOp) (left right : Judged) (l r : ResolvedExpr) → (judging.binary operator left right).faults ≡ [] → (made_binary operator l r).sort ≡ (judging.binary operator left right).sort
unfolding made_binary
binary-sort operator left right l r e = own-sort left.first (suc (max left.height right.height)) (judging.result_of operator) (binary_faults operator left right) e

unary-sort : (operator : UnaryOperator) (at : ℕ) (operand : Judged) (r : ResolvedExpr) → (judging.unary operator at operand).faults ≡ [] → (made_unary operator r).sort ≡ (judging.unary operator at operand).sort
unfolding made_unary
unary-sort operator at operand r e =
    own-sort at (suc operand.height) (judging.unary_gives operator) (operand.faults ++ judging.wrong_sort (judging.unary_takes operator) operand) e

pis-sort : (env : List Declared) (at : ℕ) (value : Judged) (name : Name) (r : ResolvedExpr) → (judging.pis env at value name).faults ≡ [] → (made_pis env r name.text).sort ≡ (judging.pis env at value name).sort
unfolding made_pis
pis-sort env at value name r e = own-sort at (suc value.height) truth (value.faults ++ judging.no_choice env value name) e

plen-sort : (at : ℕ) (value : Judged) (r : ResolvedExpr) → (judging.plen at value).faults ≡ [] → (made_plen r).sort ≡ (judging.plen at value).sort
unfolding made_plen
plen-sort at value r e = own-sort at (suc value.height) num (value.faults ++ judging.wrong_sort judging.is_text_or_array value) e

pforall-sort : (at : ℕ) (low high body : Judged) (name : List ℕ) (l h b : ResolvedExpr) → (judging.pforall at low high body).faults ≡ [] → (made_pforall name l h b).sort ≡ (judging.pforall at low high body).sort
unfolding made_pforall
pforall-sort at low high body name l h b e =
    own-sort at (suc (max (max low.height high.height) body.height)) truth (pforall_faults low high body) e

module _ (decls : List Decl) (env : List Declared) where
  member-sort : (whole : Judged) (w : ResolvedExpr) (name : Name) → w.sort ≡ whole.sort → (judging.member_found whole name (member env whole.sort name.text)).faults ≡ []
      → (made_member decls env w name.text).sort ≡ (judging.member_found whole name (member env whole.sort name.text)).sort
  unfolding made_member
  member-sort whole w name same e = ap (λ s. sort_or_unknown (member env s name.text)) same ∙ found-member whole name (member env whole.sort name.text) e

  index-sort : (whole index : Judged) (w i : ResolvedExpr) → w.sort ≡ whole.sort → (judging.indexed env whole index).faults ≡ [] → (made_index env w i).sort ≡ (judging.indexed env whole index).sort
  unfolding made_index
  index-sort whole index w i same e = ap (element env) same ∙ own-sort whole.first (suc (max whole.height index.height)) (element env whole.sort) (index_faults whole index) e

  module _ (scope : NameScope) (later : List (List ℕ)) where
    -- operators in a row, and names and indexes: where the whole holds no violation, no part on the left does
    abbrev judged_chain : Judged → List (Link Expr) → Judged
    judged_chain left links = judging.chained left ((former-Expr-Chain-1).map Expr (judging.Scope → Judged) (judged env) links) (judging_scope scope later)

    abbrev judged_post : Judged → List (Step Expr) → Judged
    judged_post whole steps = judging.posted env whole ((former-Expr-Post-1).map Expr (judging.Scope → Judged) (judged env) steps) (judging_scope scope later)

    chained-faults : (left : Judged) (links : List (Link Expr)) → (judged_chain left links).faults ≡ [] → left.faults ≡ []
    chained-faults left [] e = e
    chained-faults left (link ∷ links) e =
        binary-left link.operator left (judged env link.operand (judging_scope scope later))
        (chained-faults (judging.binary link.operator left (judged env link.operand (judging_scope scope later))) links e)

    chained-sort : (left : Judged) (l : ResolvedExpr) (links : List (Link Expr)) → l.sort ≡ left.sort → (judged_chain left links).faults ≡ []
        → (chained l ((former-Expr-Chain-1).map Expr (NameScope → ResolvedExpr) (expression decls env) links) scope).sort ≡ (judged_chain left links).sort
    chained-sort left l [] same e = same
    chained-sort left l (link ∷ links) same e =
        chained-sort (judging.binary link.operator left (judged env link.operand (judging_scope scope later))) (made_binary link.operator l (expression decls env link.operand scope)) links
        (binary-sort link.operator left (judged env link.operand (judging_scope scope later)) l (expression decls env link.operand scope)
        (chained-faults (judging.binary link.operator left (judged env link.operand (judging_scope scope later))) links e))
        e

    posted-faults : (whole : Judged) (steps : List (Step Expr)) → (judged_post whole steps).faults ≡ [] → whole.faults ≡ []
    posted-faults whole [] e = e
    posted-faults whole (step_form.Name name ∷ steps) e =
        member-whole whole name (member env whole.sort name.text) (posted-faults (judging.member_found whole name (member env whole.sort name.text)) steps e)
    posted-faults whole (step_form.Index at index ∷ steps) e =
        indexed-whole env whole (judged env index (judging_scope scope later)) (posted-faults (judging.indexed env whole (judged env index (judging_scope scope later))) steps e)

    posted-sort : (whole : Judged) (w : ResolvedExpr) (steps : List (Step Expr)) → w.sort ≡ whole.sort → (judged_post whole steps).faults ≡ []
        → (posted decls env w ((former-Expr-Post-1).map Expr (NameScope → ResolvedExpr) (expression decls env) steps) scope).sort ≡ (judged_post whole steps).sort
    posted-sort whole w [] same e = same
    posted-sort whole w (step_form.Name name ∷ steps) same e =
        posted-sort (judging.member_found whole name (member env whole.sort name.text)) (made_member decls env w name.text) steps
        (member-sort whole w name same (posted-faults (judging.member_found whole name (member env whole.sort name.text)) steps e))
        e
    posted-sort whole w (step_form.Index at index ∷ steps) same e =
        posted-sort (judging.indexed env whole (judged env index (judging_scope scope later))) (made_index env w (expression decls env index scope)) steps
        (index-sort whole (judged env index (judging_scope scope later)) w (expression decls env index scope) same
        (posted-faults (judging.indexed env whole (judged env index (judging_scope scope later))) steps e))
        e

  abbrev IsLawful : Expr → Type 0
  IsLawful e = (scope : NameScope) (later : List (List ℕ)) → (judged env e (judging_scope scope later)).faults ≡ []
      → (expression decls env e scope).sort ≡ (judged env e (judging_scope scope later)).sort

  abbrev Smaller : ℕ → Type 0
  Smaller n = (e : Expr) → size-Expr e < n → IsLawful e

  -- one layer
  abbrev judged_layer : Expr-F Expr → judging.Scope → Judged
  judged_layer layer scope = judge_form env (map-Expr Expr (judging.Scope → Judged) (judged env) layer) scope

  abbrev resolved_layer : Expr-F Expr → NameScope → ResolvedExpr
  resolved_layer layer scope = resolve_form decls env (map-Expr Expr (NameScope → ResolvedExpr) (expression decls env) layer) scope

  abbrev Lawful : Expr-F Expr → Type 0
  Lawful layer = (scope : NameScope) (later : List (List ℕ)) → (judged_layer layer (judging_scope scope later)).faults ≡ []
      → (resolved_layer layer scope).sort ≡ (judged_layer layer (judging_scope scope later)).sort

  lawful-Chain : (first : Expr) (links : List (Link Expr)) → IsLawful first → Lawful (Expr-F.Chain first links)
  lawful-Chain first links law scope later e =
      let left = judged env first (judging_scope scope later) in
      chained-sort scope later left (expression decls env first scope) links (law scope later (chained-faults scope later left links e)) e

  lawful-Post : (base : Expr) (steps : List (Step Expr)) → IsLawful base → Lawful (Expr-F.Post base steps)
  lawful-Post base steps law scope later e =
      let whole = judged env base (judging_scope scope later) in
      posted-sort scope later whole (expression decls env base scope) steps (law scope later (posted-faults scope later whole steps e)) e

  lawful-Paren : (at : ℕ) (inner : Expr) → IsLawful inner → Lawful (Expr-F.Paren at inner)
  lawful-Paren at inner law scope later e =
      let j = judged env inner (judging_scope scope later) in law scope later (inner-faults at j.height j.sort j.faults e) ∙ own-sort at j.height j.sort j.faults e

  layer : (n : ℕ) → Smaller n → (layer : Expr-F Expr) → size-Expr (roll-Expr layer) ≤ n → Lawful layer
  layer n smaller (Expr-F.Chain first links) within = lawful-Chain first links (smaller first (grind (arith, the_lemmas, within)))
  layer n smaller (Expr-F.Unary operator at operand) within = λ scope later e. unary-sort operator at (judged env operand (judging_scope scope later)) (expression decls env operand scope) e
  layer n smaller (Expr-F.Post base steps) within = lawful-Post base steps (smaller base (grind (arith, the_lemmas, within)))
  layer n smaller (Expr-F.Number value at) within = λ scope later e. own-sort at 1 num [] e
  layer n smaller (Expr-F.Word word) within = λ scope later e. own-sort (judging.place_of word) 1 text_sort [] e
  layer n smaller (Expr-F.Truth value at) within = λ scope later e. own-sort at 1 truth [] e
  layer n smaller (Expr-F.Name name) within = λ scope later e. name-sort scope later name e
  layer n smaller (Expr-F.Paren at inner) within = lawful-Paren at inner (smaller inner (grind (arith, the_lemmas, within)))
  layer n smaller (Expr-F.Pis at value name) within = λ scope later e. pis-sort env at (judged env value (judging_scope scope later)) name (expression decls env value scope) e
  layer n smaller (Expr-F.Plen at value) within = λ scope later e. plen-sort at (judged env value (judging_scope scope later)) (expression decls env value scope) e
  layer n smaller (Expr-F.Pforall at name low high body) within = λ scope later e.
      pforall-sort at (judged env low (judging_scope scope later)) (judged env high (judging_scope scope later)) (judged env body (judging_scope (hiding name.text stands.Variable num scope) later)) name.text
      (expression decls env low scope) (expression decls env high scope) (expression decls env body (hiding name.text stands.Variable num scope)) e

  expression-roll : (layer : Expr-F Expr) (scope : NameScope) → expression decls env (roll-Expr layer) scope ≡ resolved_layer layer scope
  unfolding expression
  expression-roll layer scope = ap (λ (f : NameScope → ResolvedExpr). f scope) (fold-roll-Expr (NameScope → ResolvedExpr) (resolve_form decls env) layer)

  rolled : (layer : Expr-F Expr) → Lawful layer → IsLawful (roll-Expr layer)
  rolled layer law scope later e =
      ap (λ (r : ResolvedExpr). r.sort) (expression-roll layer scope)
      ∙ law scope later (sym (ap (λ (j : Judged). j.faults) (judged-roll env layer (judging_scope scope later))) ∙ e)
      ∙ sym (ap (λ (j : Judged). j.sort) (judged-roll env layer (judging_scope scope later)))

  all-smaller : (n : ℕ) → Smaller n
  all-smaller zero e less = absurd (omega arith)
  all-smaller (suc n) e less =
      subst IsLawful (roll-out-Expr e) (rolled (out-Expr e) (layer n (all-smaller n) (out-Expr e) (omega (arith, ap size-Expr (roll-out-Expr e)))))

  pub sorts-judged : (e : Expr) → IsLawful e
  sorts-judged e = all-smaller (size-Expr e + 1) e (omega arith)

pub ruleset sort_laws = (sorts-judged)
