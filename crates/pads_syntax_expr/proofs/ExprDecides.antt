-- One token decides at each place of an expression, where no operator and no step follows it.
use Rattle.std.proofs.Common.{◌≡◌, ℕ, zero, suc, Bool, false, ◌||◌, refl}
use Rattle.std.proofs.lemmas.Bool.{or_left, or_right}
use Rattle.pads_grammar.specs.declared.kind.Kind.{Kind}
use Rattle.pads_lex.specs.declared.token.Mark.TheVariants.{Dot, OpenBracket}
use Rattle.pads_grammar.specs.declared.kind.Kind.TheVariants as kind
use Rattle.pads_grammar.specs.Kinds.{is}
use Rattle.pads_grammar.specs.Grammar.{Grammar, many, nullable, begins, ahead, Apart, Decides}
use Rattle.pads_grammar.proofs.Parts.{or-only}
use Rattle.pads_grammar.proofs.Disjoint.{apart_by, within_by}
use Rattle.pads_ast.specs.declared.expr.Expr.{Expr}
use Rattle.pads_expr.specs.declared.expr.BinOp.{BinOp}
use Rattle.pads_syntax_expr.specs.declared.level.Level.TheVariants as level_form
use Rattle.pads_syntax_expr.specs.Leaves.{word}
use Rattle.pads_syntax_expr.specs.Expressions.{operators, link, chained, prod, sum, rel, eq, both, any, sign, signed, field, index, plain, paren, pis, plen, pforall, body, quantifier, nested_atom, nested_step, posts, unary, expr}

-- What a unary expression goes on with, and an expression of each level.
abbrev pub unary_on : Kind → Bool
unary_on j = is (kind.Mark Dot) j || is (kind.Mark OpenBracket) j

abbrev pub prod_on : Kind → Bool
prod_on j = begins (operators level_form.Prod) j || unary_on j

abbrev pub sum_on : Kind → Bool
sum_on j = begins (operators level_form.Sum) j || prod_on j

abbrev pub rel_on : Kind → Bool
rel_on j = begins (operators level_form.Rel) j || sum_on j

abbrev pub eq_on : Kind → Bool
eq_on j = begins (operators level_form.Eq) j || rel_on j

abbrev pub both_on : Kind → Bool
both_on j = begins (operators level_form.And) j || eq_on j

abbrev pub any_on : Kind → Bool
any_on j = begins (operators level_form.Or) j || both_on j

module _ (part : Grammar Expr) (op : Grammar BinOp) (P : Kind → Bool)
    (part_ok : (G : Kind → Bool) → Apart P G → Decides part G)
    (op_ok : (G : Kind → Bool) → Decides op G)
    (solid : nullable op ≡ false) (quiet : begins op kind.End ≡ false) (apart : Apart P (begins op)) where
  pub chained_ok : (F : Kind → Bool) → Apart (λ j. begins op j || P j) F → Decides (chained part op) F
  chained_ok F f = (
    part_ok (ahead (many (link op part)) F) (λ j p. rw (apart j p, solid, f j (or_right (begins op j) (P j) p)) refl),
    (
      (
        op_ok (ahead part (λ j. begins (link op part) j || F j)),
        part_ok (λ j. begins (link op part) j || F j) (λ j p. rw (apart j p, solid, f j (or_right (begins op j) (P j) p)) refl),
      ),
      rw solid refl,
      (λ j b. f j (or_left (begins op j) (P j) (or-only (nullable op) (begins op j) (begins part j) solid b))),
      rw (quiet, solid) refl,
    ),
  )

prod_ops : (G : Kind → Bool) → Decides (operators level_form.Prod) G
prod_ops G = (refl, (refl, refl, refl, apart_by _ _ refl), refl, apart_by _ _ refl)

sum_ops : (G : Kind → Bool) → Decides (operators level_form.Sum) G
sum_ops G = (refl, refl, refl, apart_by _ _ refl)

rel_ops : (G : Kind → Bool) → Decides (operators level_form.Rel) G
rel_ops G = (refl, (refl, (refl, refl, refl, apart_by _ _ refl), refl, apart_by _ _ refl), refl, apart_by _ _ refl)

eq_ops : (G : Kind → Bool) → Decides (operators level_form.Eq) G
eq_ops G = (refl, refl, refl, apart_by _ _ refl)

module _ (u : Grammar Expr) (u_ok : (G : Kind → Bool) → Apart unary_on G → Decides u G) where
  prod_ok : (F : Kind → Bool) → Apart prod_on F → Decides (prod u) F
  prod_ok = chained_ok u (operators level_form.Prod) unary_on u_ok prod_ops refl refl (apart_by unary_on (begins (operators level_form.Prod)) refl)

  sum_ok : (F : Kind → Bool) → Apart sum_on F → Decides (sum u) F
  sum_ok = chained_ok (prod u) (operators level_form.Sum) prod_on prod_ok sum_ops refl refl (apart_by prod_on (begins (operators level_form.Sum)) refl)

  rel_ok : (F : Kind → Bool) → Apart rel_on F → Decides (rel u) F
  rel_ok = chained_ok (sum u) (operators level_form.Rel) sum_on sum_ok rel_ops refl refl (apart_by sum_on (begins (operators level_form.Rel)) refl)

  eq_ok : (F : Kind → Bool) → Apart eq_on F → Decides (eq u) F
  eq_ok = chained_ok (rel u) (operators level_form.Eq) rel_on rel_ok eq_ops refl refl (apart_by rel_on (begins (operators level_form.Eq)) refl)

  both_ok : (F : Kind → Bool) → Apart both_on F → Decides (both u) F
  both_ok = chained_ok (eq u) (operators level_form.And) eq_on eq_ok (λ G. refl) refl refl (apart_by eq_on (begins (operators level_form.And)) refl)

  pub any_ok : (F : Kind → Bool) → Apart any_on F → Decides (any u) F
  any_ok = chained_ok (both u) (operators level_form.Or) both_on both_ok (λ G. refl) refl refl (apart_by both_on (begins (operators level_form.Or)) refl)

pub word_ok : (F : Kind → Bool) → Decides word F
word_ok F = (refl, refl, refl, apart_by _ _ refl)

plain_ok : (F : Kind → Bool) → Decides plain F
plain_ok F = (refl, (word_ok F, (refl, (refl, refl, refl, apart_by _ _ refl), refl, apart_by _ _ refl), refl, apart_by _ _ refl), refl, apart_by _ _ refl)

sign_ok : (F : Kind → Bool) → Decides sign F
sign_ok F = (refl, refl, refl, apart_by _ _ refl)

field_ok : (F : Kind → Bool) → Decides field F
field_ok F = (refl, refl)

module _ (inner : Grammar Expr) (inner_ok : (G : Kind → Bool) → Apart any_on G → Decides inner G) where
  paren_ok : (F : Kind → Bool) → Decides (paren inner) F
  paren_ok F = ((refl, inner_ok _ (apart_by any_on _ refl)), refl)

  index_ok : (F : Kind → Bool) → Decides (index inner) F
  index_ok F = ((refl, inner_ok _ (apart_by any_on _ refl)), refl)

  pis_ok : (F : Kind → Bool) → Decides (pis inner) F
  pis_ok F = (((refl, refl), inner_ok _ (apart_by any_on _ refl)), ((refl, refl), refl))

  plen_ok : (F : Kind → Bool) → Decides (plen inner) F
  plen_ok F = (((refl, refl), inner_ok _ (apart_by any_on _ refl)), refl)

  body_ok : (F : Kind → Bool) → Decides (body inner) F
  body_ok F = (((refl, refl), inner_ok _ (apart_by any_on _ refl)), refl)

  quantifier_ok : (F : Kind → Bool) → Decides quantifier F
  quantifier_ok F = ((((refl, refl), refl), refl), refl)

  pforall_ok : (F : Kind → Bool) → Decides (pforall inner) F
  pforall_ok F = ((((quantifier_ok F, inner_ok _ (apart_by any_on _ refl)), refl), inner_ok _ (apart_by any_on _ refl)), body_ok F)

  nested_atom_ok : (F : Kind → Bool) → Decides (nested_atom inner) F
  nested_atom_ok F = (paren_ok F, (pis_ok F, (plen_ok F, (pforall_ok F, plain_ok F, refl, apart_by _ _ refl), refl, apart_by _ _ refl), refl, apart_by _ _ refl), refl, apart_by _ _ refl)

  nested_step_ok : (F : Kind → Bool) → Decides (nested_step inner) F
  nested_step_ok F = (index_ok F, field_ok F, refl, apart_by _ _ refl)

  steps_apart : (F : Kind → Bool) → Apart unary_on F → Apart (begins (nested_step inner)) F
  steps_apart F f j b = f j (within_by (begins (nested_step inner)) unary_on refl j b)

  nested_posts_ok : (F : Kind → Bool) → Apart unary_on F → Decides (posts (nested_atom inner) (nested_step inner)) F
  nested_posts_ok F f = (nested_atom_ok F, (nested_step_ok F, refl, steps_apart F f, refl))

fields_apart : (F : Kind → Bool) → Apart unary_on F → Apart (begins field) F
fields_apart F f j b = f j (within_by (begins field) unary_on refl j b)

plain_posts_ok : (F : Kind → Bool) → Apart unary_on F → Decides (posts plain field) F
plain_posts_ok F f = (plain_ok F, (field_ok F, refl, fields_apart F f, refl))

pub unary_ok : (depth : ℕ) (F : Kind → Bool) → Apart unary_on F → Decides (unary depth) F
unfolding unary
unary_ok zero F f = plain_posts_ok F f
unary_ok (suc depth) F f = (
  (sign_ok F, unary_ok depth F f),
  nested_posts_ok (any (unary depth)) (any_ok (unary depth) (unary_ok depth)) F f,
  refl,
  apart_by (begins (signed (unary depth))) _ refl,
)

pub expr_ok : (depth : ℕ) (F : Kind → Bool) → Apart any_on F → Decides (expr depth) F
expr_ok depth = any_ok (unary depth) (unary_ok depth)
