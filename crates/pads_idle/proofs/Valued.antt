-- Arguments have values, one after another.
use Rattle.std.proofs.Common.{◌≡◌, ◌∙◌, sym, ap, subst, arith, ◌-◌, ◌<◌, List, [], ◌∷◌, drop, take, length, Some, get_or}
use Rattle.std.proofs.Math.Seq.{take-length}
use Rattle.pads_expr.specs.declared.expr.Expr.{Expr}
use Rattle.pads_expr.specs.Value.{Pairs}
use Rattle.pads_dispatch.specs.declared.base.Arg.{Arg}
use Rattle.pads_calc.specs.Arguments.{and_more, argument, arguments}
use Rattle.pads_idle.specs.Idle.{HasValues}

pub one-more : (rest : List Expr) (e : Expr) (env : Pairs) → 0 < length rest → e ≡ get_or rest 0 e → (arg : Arg) × (argument e env ≡ Some arg)
    → HasValues (take (length rest - 1) (drop 1 rest)) env → HasValues rest env
one-more [] e env some first value more = absurd (omega (arith, some))
one-more (other ∷ rest) e env some first value more =
    let one : length (other ∷ rest) - 1 ≡ length rest = omega arith in
    let all : take (length (other ∷ rest) - 1) rest ≡ rest = ap (λ k. take k rest) one ∙ take-length rest in
    let values = subst (λ (rest : List Expr). HasValues rest env) all more in (
      value.0 ∷ values.0,
      ap (λ (e : Expr). and_more (argument e env) (arguments rest env)) (sym first)
          ∙ ap (λ found. and_more found (arguments rest env)) value.1
          ∙ ap (λ found. and_more (Some value.0) found) values.1,
    )
