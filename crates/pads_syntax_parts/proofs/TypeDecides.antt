-- One token decides at each place of a type, a parameter, a branch, a literal or a constant.
use Rattle.std.proofs.Common.{◌≡◌, Bool, true, false, ◌||◌, refl}
use Rattle.pads_grammar.specs.declared.kind.Kind.{Kind}
use Rattle.pads_lex.specs.declared.token.Keyword.TheVariants.{Peor}
use Rattle.pads_lex.specs.declared.token.Mark.{Mark}
use Rattle.pads_lex.specs.declared.token.Mark.TheVariants.{Colon, Comma, OpenParams}
use Rattle.pads_grammar.specs.declared.kind.Kind.TheVariants as kind
use Rattle.pads_grammar.specs.Kinds.{is}
use Rattle.pads_grammar.specs.Grammar.{Grammar, many, begins, ahead, Apart, Decides, ◌*>◌, mark}
use Rattle.pads_grammar.specs.Lists.{listed}
use Rattle.pads_grammar.proofs.Disjoint.{apart_by, within_by}
use Rattle.pads_grammar.proofs.ListLoops.{another}
use Rattle.pads_syntax_expr.proofs.ExprDecides.{any_on, word_ok}
use Rattle.pads_syntax_parts.specs.Types.{expression, arg, args, type_use, param, params, constraint, branch, literal, number_const, constant}
use Rattle.pads_syntax_parts.proofs.Outermost.{expression_ok, apart_from}

or_none : (b : Bool) → (b || false) ≡ true → b ≡ true
or_none true h = refl
or_none false h = h

-- A list with a mark between each two items, where what an item goes on with isn't that mark.
module _ {A : Type 0} (separator : Mark) (item : Grammar A) (P : Kind → Bool)
    (item_ok : (G : Kind → Bool) → Apart P G → Decides item G) (apart : Apart P (is (kind.Mark separator))) where
  pub listed_ok : (F : Kind → Bool) → Apart P F → Apart (is (kind.Mark separator)) F → Decides (listed separator item) F
  listed_ok F f g = (
    item_ok (ahead (many (another separator item)) F) (λ j p. rw (apart j p, f j p) refl),
    (
      (refl, item_ok (λ j. begins (another separator item) j || F j) (λ j p. rw (apart j p, f j p) refl)),
      refl,
      (λ j b. g j (or_none (is (kind.Mark separator) j) b)),
      refl,
    ),
  )

-- What goes on with nothing.
abbrev pub ended : Kind → Bool
ended j = false

pub nothing : (F : Kind → Bool) → Apart ended F
nothing F j h = cc

pub arg_ok : (F : Kind → Bool) → Apart any_on F → Decides arg F
unfolding arg
arg_ok F f = (refl, expression_ok F f, refl, apart_from (is (kind.Keyword Peor)) refl F)

args_ok : (F : Kind → Bool) → Decides args F
args_ok F = ((refl, listed_ok Comma arg any_on arg_ok (apart_by any_on (is (kind.Mark Comma)) refl) _ (apart_by any_on _ refl) (apart_by (is (kind.Mark Comma)) _ refl)), refl)

pub type_use_ok : (F : Kind → Bool) → Apart (is (kind.Mark OpenParams)) F → Decides type_use F
unfolding type_use
type_use_ok F f = (((refl, refl, apart_by _ _ refl), refl), (args_ok F, refl, λ j b. f j (within_by (begins args) (is (kind.Mark OpenParams)) refl j b)))

param_ok : (F : Kind → Bool) → Decides param F
unfolding param
param_ok F = (type_use_ok _ (apart_by (is (kind.Mark OpenParams)) _ refl), refl)

pub params_ok : (F : Kind → Bool) → Decides params F
params_ok F = ((refl, listed_ok Comma param ended (λ G g. param_ok G) (nothing (is (kind.Mark Comma))) _ (nothing _) (apart_by (is (kind.Mark Comma)) _ refl)), refl)

constraint_ok : (F : Kind → Bool) → Apart any_on F → Apart (is (kind.Mark Colon)) F → Decides constraint F
constraint_ok F f c = ((refl, expression_ok F f), refl, λ j b. c j (within_by (begins (mark Colon *> expression)) (is (kind.Mark Colon)) refl j b))

pub branch_ok : (F : Kind → Bool) → Decides branch F
unfolding branch
branch_ok F = (((type_use_ok _ (apart_by (is (kind.Mark OpenParams)) _ refl), refl), constraint_ok _ (apart_by any_on _ refl) (apart_by (is (kind.Mark Colon)) _ refl)), refl)

pub literal_ok : (F : Kind → Bool) → Decides literal F
unfolding literal
literal_ok F = (word_ok F, refl, refl, apart_by _ _ refl)

number_const_ok : (F : Kind → Bool) → Decides number_const F
number_const_ok F = ((refl, refl, apart_by _ _ refl), refl)

pub constant_ok : (F : Kind → Bool) → Decides constant F
unfolding constant
constant_ok F = (number_const_ok F, word_ok F, refl, apart_by _ _ refl)
