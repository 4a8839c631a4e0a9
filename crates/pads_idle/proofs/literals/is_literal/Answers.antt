use Rattle.std.proofs.Common.{◌∙◌, sym, ap, Some}
use Rattle.pads_expr.specs.declared.expr.Expr.{Expr}
use Rattle.pads_expr.specs.Value.{Pairs}
use Rattle.pads_expr.specs.Worth.{Answer, worth_or_none}
use Rattle.pads_expr.proofs.Steps.{value-Num, value-Text}
use Rattle.pads_dispatch.specs.declared.base.Arg.TheVariants as arg
use Rattle.pads_calc.specs.Arguments.{arg_told, argument}
use Rattle.pads_idle.proofs.literals.is_literal.Goals as goal

pub returns-in-Num-Num-clause-literal : goal.returns-in-Num-Num-clause-literal
returns-in-Num-Num-clause-literal c = λ is (env : Pairs).
    ap (λ (e : Expr). argument e env) c.in-Num-Num.is-0
    ∙ ap (λ (a : Answer). arg_told (worth_or_none a)) (value-Num _ env)
    ∙ ap (λ n. Some (arg.Num n)) (c.is_number.ensures.same is)
    ∙ sym (ap Some c.in-Num-Num.is-1)

pub returns-in-Text-Text-clause-literal : goal.returns-in-Text-Text-clause-literal
returns-in-Text-Text-clause-literal c = λ is (env : Pairs).
    ap (λ (e : Expr). argument e env) c.in-Text-Text.is-0
    ∙ ap (λ (a : Answer). arg_told (worth_or_none a)) (value-Text _ env)
    ∙ ap (λ text. Some (arg.Text text)) (sym c.as_slice.ensures.items ∙ c.is_text.ensures.same is ∙ c.as_slice-in-Text-Text.ensures.items)
    ∙ sym (ap Some c.in-Text-Text.is-1)
