-- One token decides at each place of a switch.
use Rattle.std.proofs.Common.{Bool, ◌||◌, refl}
use Rattle.pads_grammar.specs.declared.kind.Kind.{Kind}
use Rattle.pads_lex.specs.declared.token.Mark.TheVariants.{CloseBrace, Colon}
use Rattle.pads_grammar.specs.Grammar.{optional, begins, ahead, Decides, mark}
use Rattle.pads_grammar.proofs.Disjoint.{apart_by}
use Rattle.pads_syntax_expr.proofs.ExprDecides.{any_on}
use Rattle.pads_syntax_parts.proofs.Outermost.{expression_ok}
use Rattle.pads_syntax_parts.proofs.TypeDecides.{branch_ok, constant_ok}
use Rattle.pads_syntax.specs.Switches.{case_key, case_rule, default_case, switch_value, switch}

case_key_ok : (F : Kind → Bool) → Decides case_key F
case_key_ok F = ((refl, constant_ok (ahead (mark Colon) F)), refl)

case_rule_ok : (F : Kind → Bool) → Decides case_rule F
unfolding case_rule
case_rule_ok F = (case_key_ok F, branch_ok F)

default_case_ok : (F : Kind → Bool) → Decides default_case F
default_case_ok F = ((refl, refl), branch_ok F)

switch_value_ok : (F : Kind → Bool) → Decides switch_value F
switch_value_ok F = ((((refl, refl), expression_ok _ (apart_by any_on _ refl)), refl), refl)

pub switch_ok : (F : Kind → Bool) → Decides switch F
unfolding switch case_rule
switch_ok F = (
  (
    (switch_value_ok F, (case_rule_ok (λ j. begins case_rule j || ahead (optional default_case) (ahead (mark CloseBrace) F) j), refl, apart_by _ _ refl, refl)),
    (default_case_ok (ahead (mark CloseBrace) F), refl, apart_by _ _ refl),
  ),
  refl,
)
