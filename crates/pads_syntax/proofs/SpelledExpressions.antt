-- The names in an expression.
use Rattle.std.proofs.Common.{◌≡◌, sym, refl, subst, ℕ, zero, suc, pos, negsuc, true, false, List, [], ◌∷◌, ◌++◌}
use Rattle.std.specs.List.{flat_map}
use Rattle.std.specs.Prelude.{⊤}
use Rattle.pads_lex.specs.declared.token.TokenKind.{TokenKind}
use Rattle.pads_lex.specs.declared.token.TokenKind.TheVariants as token_kind
use Rattle.pads_lex.specs.declared.token.Keyword.TheVariants.{False, Pforall, Pin, Pis, Plen, True}
use Rattle.pads_lex.specs.declared.token.Mark.TheVariants.{CloseBracket, CloseParen, Colon, Comma, Dot, DotDot, OpenBracket, OpenParen}
use Rattle.pads_grammar.specs.declared.kind.Kind.TheVariants as kind
use Rattle.pads_grammar.specs.Kinds.{kind_of}
use Rattle.pads_grammar.specs.Grammar.{Grammar, ◌*>◌, mark, keyword}
use Rattle.pads_ast.specs.Chains.{chain, post}
use Rattle.pads_expr.specs.declared.expr.BinOp.{BinOp}
use Rattle.pads_ast.specs.declared.expr.Expr.{Expr, Expr-F, roll-Expr, map-Expr}
use Rattle.pads_ast.specs.declared.expr.Expr.TheShapes.{former-Expr-Chain-1, former-Expr-Post-1}
use Rattle.pads_ast.specs.declared.expr.Expr.TheVariants as expr_form
use Rattle.pads_ast.specs.declared.expr.Link.{Link}
use Rattle.pads_ast.specs.declared.expr.Step.{Step}
use Rattle.pads_ast.specs.declared.expr.Step.TheVariants as step_form
use Rattle.pads_ast.specs.declared.expr.UnaryOperator.{UnaryOperator}
use Rattle.pads_ast.specs.declared.name.Name.{Name}
use Rattle.pads_ast.specs.declared.name.Word.{Word}
use Rattle.pads_ast.specs.NameTokens.{Names, names_in_expr, names_in_form, names_in_step}
use Rattle.pads_ast.proofs.ExprNames.{names_in_expr-roll}
use Rattle.pads_syntax_expr.specs.Leaves.{text_of, name, word, number}
use Rattle.pads_syntax_expr.specs.Expressions.{operators, link, chained, prod, sum, rel, eq, both, any, sign, signed, field, index, plain, paren, opened, branch_name, pis, plen, quantifier, body, pforall, nested_atom, nested_step, posts, unary, expr}
use Rattle.pads_syntax_expr.specs.declared.level.Level.TheVariants as level_form
use Rattle.std.specs.List.{AllByRecursion as Each}
use Rattle.pads_syntax.proofs.SpelledLists.{IsSpelled, AreSpelled, each-both}
use Rattle.pads_syntax.proofs.Keeps.{Keeps, keeps-token, keeps-any, keeps-pair, keeps-apply, keeps-first, keeps-second, keeps-either, keeps-many}

named : (token : TokenKind) → kind_of token ≡ kind.Name → token ≡ token_kind.Name (text_of token)
named (token_kind.Name text) is = refl
named (token_kind.Number (pos n)) is = cc
named (token_kind.Number (negsuc n)) is = cc
named _ is = cc

abbrev pub SpelledName : Name → Type 0
SpelledName n = IsSpelled n.text

pub keeps-name : Keeps name SpelledName
keeps-name = keeps-token SpelledName kind.Name (λ t. record { text = text_of t.kind; at = t.begin }) (λ t is fine. fine (text_of t.kind) (named t.kind is))

abbrev pub SpelledExpr : Expr → Type 0
SpelledExpr e = AreSpelled (names_in_expr e)

-- each form
rolled : (layer : Expr-F Expr) (e : Expr) → roll-Expr layer ≡ e → AreSpelled (names_in_form (map-Expr Expr Names names_in_expr layer)) → SpelledExpr e
rolled layer e same spelled = subst SpelledExpr same (subst AreSpelled (sym (names_in_expr-roll layer)) spelled)

abbrev SpelledLink : Link Expr → Type 0
SpelledLink link = SpelledExpr link.operand

abbrev SpelledStep : Step Expr → Type 0
SpelledStep (step_form.Name name) = SpelledName name
SpelledStep (step_form.Index at index) = SpelledExpr index

spelled-links : (links : List (Link Expr)) → Each SpelledLink links → AreSpelled (flat_map (λ link. link.operand) ((former-Expr-Chain-1).map Expr Names names_in_expr links))
spelled-links [] all = tt
spelled-links (link ∷ links) all = each-both IsSpelled (names_in_expr link.operand) _ all.0 (spelled-links links all.1)

spelled-steps : (steps : List (Step Expr)) → Each SpelledStep steps → AreSpelled (flat_map names_in_step ((former-Expr-Post-1).map Expr Names names_in_expr steps))
spelled-steps [] all = tt
spelled-steps (step_form.Name found ∷ steps) all = (all.0, spelled-steps steps all.1)
spelled-steps (step_form.Index at index ∷ steps) all = each-both IsSpelled (names_in_expr index) _ all.0 (spelled-steps steps all.1)

spelled-chain : (first : Expr) (links : List (Link Expr)) → SpelledExpr first → Each SpelledLink links → SpelledExpr (chain first links)
spelled-chain first [] one all = one
spelled-chain first (link ∷ links) one all =
    rolled (Expr-F.Chain first (link ∷ links)) _ (expr_form.rolls-Chain first (link ∷ links)) (each-both IsSpelled (names_in_expr first) _ one (spelled-links (link ∷ links) all))

spelled-post : (base : Expr) (steps : List (Step Expr)) → SpelledExpr base → Each SpelledStep steps → SpelledExpr (post base steps)
spelled-post base [] one all = one
spelled-post base (step ∷ steps) one all =
    rolled (Expr-F.Post base (step ∷ steps)) _ (expr_form.rolls-Post base (step ∷ steps)) (each-both IsSpelled (names_in_expr base) _ one (spelled-steps (step ∷ steps) all))

spelled-Unary : (operator : UnaryOperator) (at : ℕ) (operand : Expr) → SpelledExpr operand → SpelledExpr (expr_form.Unary operator at operand)
spelled-Unary operator at operand spelled = rolled (Expr-F.Unary operator at operand) _ (expr_form.rolls-Unary operator at operand) spelled

spelled-Number : (value at : ℕ) → SpelledExpr (expr_form.Number value at)
spelled-Number value at = rolled (Expr-F.Number value at) _ (expr_form.rolls-Number value at) tt

spelled-Word : (word : Word) → SpelledExpr (expr_form.Word word)
spelled-Word word = rolled (Expr-F.Word word) _ (expr_form.rolls-Word word) tt

spelled-Truth : (value : _) (at : ℕ) → SpelledExpr (expr_form.Truth value at)
spelled-Truth value at = rolled (Expr-F.Truth value at) _ (expr_form.rolls-Truth value at) tt

spelled-Name : (name : Name) → SpelledName name → SpelledExpr (expr_form.Name name)
spelled-Name name spelled = rolled (Expr-F.Name name) _ (expr_form.rolls-Name name) (spelled, tt)

spelled-Paren : (at : ℕ) (inner : Expr) → SpelledExpr inner → SpelledExpr (expr_form.Paren at inner)
spelled-Paren at inner spelled = rolled (Expr-F.Paren at inner) _ (expr_form.rolls-Paren at inner) spelled

spelled-Pis : (at : ℕ) (value : Expr) (name : Name) → SpelledExpr value → SpelledName name → SpelledExpr (expr_form.Pis at value name)
spelled-Pis at value name one other =
    rolled (Expr-F.Pis at value name) _ (expr_form.rolls-Pis at value name) (each-both IsSpelled (names_in_expr value) (name.text ∷ []) one (other, tt))

spelled-Plen : (at : ℕ) (value : Expr) → SpelledExpr value → SpelledExpr (expr_form.Plen at value)
spelled-Plen at value spelled = rolled (Expr-F.Plen at value) _ (expr_form.rolls-Plen at value) spelled

spelled-Pforall : (at : ℕ) (name : Name) (low high body : Expr) → SpelledName name → SpelledExpr low → SpelledExpr high → SpelledExpr body → SpelledExpr (expr_form.Pforall at name low high body)
spelled-Pforall at name low high body variable one other inside =
    rolled (Expr-F.Pforall at name low high body) _ (expr_form.rolls-Pforall at name low high body)
    (variable, each-both IsSpelled (names_in_expr low ++ names_in_expr high) (names_in_expr body) (each-both IsSpelled (names_in_expr low) (names_in_expr high) one other) inside)

-- what the grammar makes, level by level
module _ (inner : Grammar Expr) (each : Keeps inner SpelledExpr) where
  keeps-chained : (operator : Grammar BinOp) → Keeps (chained inner operator) SpelledExpr
  keeps-chained operator =
      let links : Keeps (link operator inner) SpelledLink = keeps-apply SpelledLink (λ both. record { operator = both.0; operand = both.1 }) (keeps-pair (keeps-any operator) each) (λ both spelled. spelled.1) in
      keeps-apply SpelledExpr (λ both. chain both.0 both.1) (keeps-pair each (keeps-many links)) (λ both spelled. spelled-chain both.0 both.1 spelled.0 spelled.1)

  keeps-signed : Keeps (signed inner) SpelledExpr
  keeps-signed = keeps-apply SpelledExpr (λ both. expr_form.Unary both.0.0 both.0.1 both.1) (keeps-pair (keeps-any sign) each) (λ both spelled. spelled-Unary both.0.0 both.0.1 both.1 spelled.1)

  keeps-index : Keeps (index inner) SpelledStep
  keeps-index = keeps-apply SpelledStep (λ both. step_form.Index both.0 both.1)
      (keeps-first (mark CloseBracket) (keeps-pair (keeps-any (mark OpenBracket)) each)) (λ both spelled. spelled.1)

  keeps-paren : Keeps (paren inner) SpelledExpr
  keeps-paren = keeps-apply SpelledExpr (λ both. expr_form.Paren both.0 both.1)
      (keeps-first (mark CloseParen) (keeps-pair (keeps-any (mark OpenParen)) each)) (λ both spelled. spelled-Paren both.0 both.1 spelled.1)

  keeps-pis : Keeps (pis inner) SpelledExpr
  keeps-pis =
      let behind : Keeps branch_name SpelledName = keeps-first (mark CloseParen) (keeps-second (mark Comma) keeps-name) in
      keeps-apply SpelledExpr (λ all. expr_form.Pis all.0.0 all.0.1 all.1) (keeps-pair (keeps-pair (keeps-any (opened Pis)) each) behind)
      (λ all spelled. spelled-Pis all.0.0 all.0.1 all.1 spelled.0.1 spelled.1)

  keeps-plen : Keeps (plen inner) SpelledExpr
  keeps-plen = keeps-apply SpelledExpr (λ both. expr_form.Plen both.0 both.1)
      (keeps-first (mark CloseParen) (keeps-pair (keeps-any (opened Plen)) each)) (λ both spelled. spelled-Plen both.0 both.1 spelled.1)

  keeps-quantifier : Keeps quantifier (λ both. ⊤ × SpelledName both.1)
  keeps-quantifier = keeps-first (mark OpenBracket) (keeps-first (keyword Pin) (keeps-pair (keeps-any (opened Pforall)) keeps-name))

  keeps-body : Keeps (body inner) SpelledExpr
  keeps-body = keeps-first (mark CloseParen) (keeps-second (mark CloseBracket *> mark Colon) each)

  keeps-pforall : Keeps (pforall inner) SpelledExpr
  keeps-pforall = keeps-apply SpelledExpr (λ all. expr_form.Pforall all.0.0.0.0 all.0.0.0.1 all.0.0.1 all.0.1 all.1)
      (keeps-pair (keeps-pair (keeps-first (mark DotDot) (keeps-pair keeps-quantifier each)) each) keeps-body)
      (λ all spelled. spelled-Pforall all.0.0.0.0 all.0.0.0.1 all.0.0.1 all.0.1 all.1 spelled.0.0.0.1 spelled.0.0.1 spelled.0.1 spelled.1)

keeps-any-level : (inner : Grammar Expr) → Keeps inner SpelledExpr → Keeps (any inner) SpelledExpr
keeps-any-level inner each =
    let products = keeps-chained inner each (operators level_form.Prod) in
    let sums = keeps-chained (prod inner) products (operators level_form.Sum) in
    let relations = keeps-chained (sum inner) sums (operators level_form.Rel) in
    let equations = keeps-chained (rel inner) relations (operators level_form.Eq) in
    let conjunctions = keeps-chained (eq inner) equations (operators level_form.And) in
    keeps-chained (both inner) conjunctions (operators level_form.Or)

keeps-plain : Keeps plain SpelledExpr
keeps-plain = keeps-either (keeps-apply SpelledExpr (λ found. expr_form.Number found.0 found.1) (keeps-any number) (λ found none. spelled-Number found.0 found.1))
    (keeps-either (keeps-apply SpelledExpr expr_form.Word (keeps-any word) (λ found none. spelled-Word found))
    (keeps-either (keeps-token SpelledExpr (kind.Keyword True) (λ t. expr_form.Truth true t.begin) (λ t is fine. spelled-Truth true t.begin))
    (keeps-either (keeps-token SpelledExpr (kind.Keyword False) (λ t. expr_form.Truth false t.begin) (λ t is fine. spelled-Truth false t.begin))
    (keeps-apply SpelledExpr expr_form.Name keeps-name (λ found spelled. spelled-Name found spelled)))))

keeps-field : Keeps field SpelledStep
keeps-field = keeps-apply SpelledStep step_form.Name (keeps-second (mark Dot) keeps-name) (λ found spelled. spelled)

keeps-posts : (atom : Grammar Expr) (step : Grammar (Step Expr)) → Keeps atom SpelledExpr → Keeps step SpelledStep → Keeps (posts atom step) SpelledExpr
keeps-posts atom step one all = keeps-apply SpelledExpr (λ both. post both.0 both.1) (keeps-pair one (keeps-many all)) (λ both spelled. spelled-post both.0 both.1 spelled.0 spelled.1)

keeps-nested-atom : (inner : Grammar Expr) → Keeps inner SpelledExpr → Keeps (nested_atom inner) SpelledExpr
keeps-nested-atom inner each = keeps-either (keeps-paren inner each) (keeps-either (keeps-pis inner each) (keeps-either (keeps-plen inner each) (keeps-either (keeps-pforall inner each) keeps-plain)))

keeps-unary : (depth : ℕ) → Keeps (unary depth) SpelledExpr
unfolding unary
keeps-unary zero = keeps-posts plain field keeps-plain keeps-field
keeps-unary (suc depth) =
    let inside = keeps-any-level (unary depth) (keeps-unary depth) in
    keeps-either (keeps-signed (unary depth) (keeps-unary depth))
    (keeps-posts (nested_atom (any (unary depth))) (nested_step (any (unary depth))) (keeps-nested-atom (any (unary depth)) inside) (keeps-either (keeps-index (any (unary depth)) inside) keeps-field))

-- Each name in an expression is spelled as a name.
pub keeps-expr : (depth : ℕ) → Keeps (expr depth) SpelledExpr
keeps-expr depth = keeps-any-level (unary depth) (keeps-unary depth)
