-- The grammar of expressions.
--
--   expr  = and { "||" and }            any
--   and   = eq { "&&" eq }              level 5
--   eq    = rel { ("==" | "!=") rel }   level 4
--   rel   = sum { ("<" | "<=" | ">" | ">=") sum }   level 3
--   sum   = prod { ("+" | "-") prod }   level 2
--   prod  = unary { ("*" | "/" | "%") unary }       level 1
--   unary = ("-" | "!") unary | post
--   post  = atom { "." Name | "[" expr "]" }
--   atom  = Number | word | "true" | "false" | Name | "(" expr ")"
--         | "Pis" "(" expr "," Name ")" | "Plen" "(" expr ")"
--         | "Pforall" "(" Name "Pin" "[" expr ".." expr "]" ":" expr ")"
--
-- Each sign, bracket, index and each of the last three forms is one level of nesting. Where no level is
-- left, the alternatives that open one are not there.
use Rattle.std.specs.Prelude.{◌≡◌, refl, ℕ, zero, suc, Bool, true, false, ◌||◌, Option, Some, None}
use Rattle.pads_grammar.specs.declared.kind.Kind.{Kind}
use Rattle.pads_lex.specs.declared.token.Keyword.{Keyword}
use Rattle.pads_lex.specs.declared.token.Keyword.TheVariants.{False, Pforall, Pin, Pis, Plen, True}
use Rattle.pads_lex.specs.declared.token.Mark.{Mark}
use Rattle.pads_lex.specs.declared.token.Mark.TheVariants.{And, AtLeast, AtMost, CloseBracket, CloseParen, Colon, Comma, Dot, DotDot, EqualTo, GreaterThan, LessThan, Minus, Not, NotEqualTo, OpenBracket, OpenParen, Or, Percent, Plus, Slash, Star}
use Rattle.pads_grammar.specs.declared.kind.Kind.TheVariants as kind
use Rattle.pads_grammar.specs.Grammar.{Grammar, begins, token, apply, many, ◌&◌, ◌<*◌, ◌*>◌, ◌or◌, mark, keyword}
use Rattle.pads_ast.specs.Chains.{chain, post}
use Rattle.pads_ast.specs.declared.expr.Expr.{Expr}
use Rattle.pads_ast.specs.declared.expr.Expr.TheVariants as expr_form
use Rattle.pads_ast.specs.declared.expr.Link.{Link}
use Rattle.pads_ast.specs.declared.expr.Step.{Step}
use Rattle.pads_ast.specs.declared.expr.Step.TheVariants as step_form
use Rattle.pads_expr.specs.declared.expr.BinOp.{BinOp}
use Rattle.pads_expr.specs.declared.expr.BinOp.TheVariants as binary
use Rattle.pads_ast.specs.declared.expr.UnaryOperator.{UnaryOperator}
use Rattle.pads_ast.specs.declared.expr.UnaryOperator.TheVariants as unary_form
use Rattle.pads_ast.specs.declared.name.Name.{Name}
use Rattle.pads_syntax_expr.specs.declared.level.Level.{Level}
use Rattle.pads_syntax_expr.specs.declared.level.Level.TheVariants as level_form
use Rattle.pads_syntax_expr.specs.Leaves.{name, word, number}

-- A mark, by what it means.
abbrev pub means : {A : Type 0} → Mark → A → Grammar A
means m meaning = token (kind.Mark m) (λ _. meaning)

-- The operators of a level. A unary expression has none; it is given those of products, which is not used.
abbrev pub operators : Level → Grammar BinOp
operators level_form.Unary = means Star binary.Mul or means Slash binary.Div or means Percent binary.Rem
operators level_form.Prod = means Star binary.Mul or means Slash binary.Div or means Percent binary.Rem
operators level_form.Sum = means Plus binary.Add or means Minus binary.Sub
operators level_form.Rel = means LessThan binary.Lt or means AtMost binary.Le or means GreaterThan binary.Gt or means AtLeast binary.Ge
operators level_form.Eq = means EqualTo binary.Eq or means NotEqualTo binary.Ne
operators level_form.And = means And binary.And
operators level_form.Or = means Or binary.Or

abbrev pub link : Grammar BinOp → Grammar Expr → Grammar (Link Expr)
link operator part = apply (λ both. record { operator = both.0; operand = both.1 }) (operator & part)

-- Parts of one level, joined by its operators.
abbrev pub chained : Grammar Expr → Grammar BinOp → Grammar Expr
chained part operator = apply (λ both. chain both.0 both.1) (part & many (link operator part))

-- The six levels over unary expressions.
abbrev pub prod : Grammar Expr → Grammar Expr
prod unary = chained unary (operators level_form.Prod)

abbrev pub sum : Grammar Expr → Grammar Expr
sum unary = chained (prod unary) (operators level_form.Sum)

abbrev pub rel : Grammar Expr → Grammar Expr
rel unary = chained (sum unary) (operators level_form.Rel)

abbrev pub eq : Grammar Expr → Grammar Expr
eq unary = chained (rel unary) (operators level_form.Eq)

abbrev pub both : Grammar Expr → Grammar Expr
both unary = chained (eq unary) (operators level_form.And)

abbrev pub any : Grammar Expr → Grammar Expr
any unary = chained (both unary) (operators level_form.Or)

abbrev pub level : Level → Grammar Expr → Grammar Expr
level level_form.Unary unary = unary
level level_form.Prod unary = prod unary
level level_form.Sum unary = sum unary
level level_form.Rel unary = rel unary
level level_form.Eq unary = eq unary
level level_form.And unary = both unary
level level_form.Or unary = any unary

-- Sign and operand.
abbrev pub sign : Grammar (UnaryOperator × ℕ)
sign = token (kind.Mark Minus) (λ t. (unary_form.Minus, t.begin)) or token (kind.Mark Not) (λ t. (unary_form.Not, t.begin))

abbrev pub signed : Grammar Expr → Grammar Expr
signed operand = apply (λ both. expr_form.Unary both.0.0 both.0.1 both.1) (sign & operand)

abbrev pub field : Grammar (Step Expr)
field = apply step_form.Name (mark Dot *> name)

abbrev pub index : Grammar Expr → Grammar (Step Expr)
index inner = apply (λ both. step_form.Index both.0 both.1) ((mark OpenBracket & inner) <* mark CloseBracket)

-- An atom that opens no level.
abbrev pub plain : Grammar Expr
plain = apply (λ found. expr_form.Number found.0 found.1) number
    or apply expr_form.Word word
    or token (kind.Keyword True) (λ t. expr_form.Truth true t.begin)
    or token (kind.Keyword False) (λ t. expr_form.Truth false t.begin)
    or apply expr_form.Name name

abbrev pub paren : Grammar Expr → Grammar Expr
paren inner = apply (λ both. expr_form.Paren both.0 both.1) ((mark OpenParen & inner) <* mark CloseParen)

-- A keyword and the bracket behind it, by the place of the keyword.
abbrev pub opened : Keyword → Grammar ℕ
opened k = keyword k <* mark OpenParen

-- What stands behind the value of a `Pis`.
abbrev pub branch_name : Grammar Name
branch_name = (mark Comma *> name) <* mark CloseParen

abbrev pub pis : Grammar Expr → Grammar Expr
pis inner = apply (λ all. expr_form.Pis all.0.0 all.0.1 all.1) (opened Pis & inner & branch_name)

abbrev pub plen : Grammar Expr → Grammar Expr
plen inner = apply (λ both. expr_form.Plen both.0 both.1) ((opened Plen & inner) <* mark CloseParen)

-- What stands before the bounds of a `Pforall`, between them and behind them.
abbrev pub quantifier : Grammar (ℕ × Name)
quantifier = ((opened Pforall & name) <* keyword Pin) <* mark OpenBracket

abbrev pub body : Grammar Expr → Grammar Expr
body inner = ((mark CloseBracket *> mark Colon) *> inner) <* mark CloseParen

abbrev pub pforall : Grammar Expr → Grammar Expr
pforall inner = apply (λ all. expr_form.Pforall all.0.0.0.0 all.0.0.0.1 all.0.0.1 all.0.1 all.1)
    (((quantifier & inner) <* mark DotDot) & inner & body inner)

-- An atom and a step where a level is left for what stands inside.
abbrev pub nested_atom : Grammar Expr → Grammar Expr
nested_atom inner = paren inner or pis inner or plen inner or pforall inner or plain

abbrev pub nested_step : Grammar Expr → Grammar (Step Expr)
nested_step inner = index inner or field

abbrev pub posts : Grammar Expr → Grammar (Step Expr) → Grammar Expr
posts atom step = apply (λ both. post both.0 both.1) (atom & many step)

-- A unary expression with at most that many levels of nesting.
unfoldable pub unary : ℕ → Grammar Expr
unary zero = posts plain field
unary (suc depth) = signed (unary depth) or posts (nested_atom (any (unary depth))) (nested_step (any (unary depth)))

-- An expression with at most that many levels of nesting.
abbrev pub expr : ℕ → Grammar Expr
expr depth = any (unary depth)

-- What begins an expression in which a level may be opened.
abbrev pub begins_expr : Kind → Bool
begins_expr j = begins sign j || begins (nested_atom (posts plain field)) j

-- The number of levels left inside of what opens one: None where none is left to open.
abbrev pub below : ℕ → Option ℕ
below zero = None
below (suc depth) = Some depth

abbrev pub atom : Option ℕ → Grammar Expr
atom None = plain
atom (Some inner) = nested_atom (expr inner)

abbrev pub step : Option ℕ → Grammar (Step Expr)
step None = field
step (Some inner) = nested_step (expr inner)

abbrev pub posted : Option ℕ → Grammar Expr
posted inner = posts (atom inner) (step inner)

abbrev pub unary_above : Option ℕ → Grammar Expr
unary_above None = posted None
unary_above (Some inner) = signed (unary inner) or posted (Some inner)

pub unary_is : (depth : ℕ) → unary depth ≡ unary_above (below depth)
unfolding unary
unary_is zero = refl
unary_is (suc depth) = refl

-- The level of the parts of a level.
abbrev pub part : Level → Option Level
part level_form.Unary = None
part level_form.Prod = Some level_form.Unary
part level_form.Sum = Some level_form.Prod
part level_form.Rel = Some level_form.Sum
part level_form.Eq = Some level_form.Rel
part level_form.And = Some level_form.Eq
part level_form.Or = Some level_form.And

abbrev pub level_over : Level → Option Level → Grammar Expr → Grammar Expr
level_over k None unary = unary
level_over k (Some below) unary = chained (level below unary) (operators k)

pub level_is : (k : Level) (unary : Grammar Expr) → level k unary ≡ level_over k (part k) unary
level_is level_form.Unary unary = refl
level_is level_form.Prod unary = refl
level_is level_form.Sum unary = refl
level_is level_form.Rel unary = refl
level_is level_form.Eq unary = refl
level_is level_form.And unary = refl
level_is level_form.Or unary = refl

-- The height of a level over unary expressions.
abbrev pub rank : Level → ℕ
rank level_form.Unary = 0
rank level_form.Prod = 1
rank level_form.Sum = 2
rank level_form.Rel = 3
rank level_form.Eq = 4
rank level_form.And = 5
rank level_form.Or = 6
