-- What a name, a part, a branch or an element is worth by the value that it stands for.
use Rattle.std.proofs.Common.{◌≡◌, ◌∙◌, sym, ap, refl, ℕ, Option, Some, None, IfSome}
use Rattle.pads_value.specs.declared.value.Val.{Val}
use Rattle.pads_expr.specs.declared.expr.Expr.{Expr}
use Rattle.pads_expr.specs.declared.expr.Expr.TheVariants as expr
use Rattle.pads_expr.specs.Parts.{worth_of, part_of, arm_of, element_of}
use Rattle.pads_expr.specs.Value.{Pairs, value, found}
use Rattle.pads_expr.specs.Worth.{Worth, Answer, Part, Is, on, worth_or_none}
use Rattle.pads_expr.proofs.Steps.{value-Var, value-Part, value-Arm, value-Elem, told-on-some}

-- two facts of what is there give a third
pub if_some_by : {A : Type 0} {P Q R : A → Type 0} (found : Option A) → IfSome found P → IfSome found Q → ((a : A) → P a → Q a → R a) → IfSome found R
if_some_by None p q gives = tt
if_some_by (Some a) p q gives = gives a p q

-- an expression stands for a value
abbrev pub StandsFor : Expr → Pairs → Val → Type 0
StandsFor e env v = worth_or_none (value e env) ≡ worth_or_none (worth_of v)

some-part : (e : Expr) (env : Pairs) (v : Val) → StandsFor e env v → worth_of v ≡ Is (Part v) → Some (Part v) ≡ worth_or_none (value e env)
some-part e env v stands is_part = sym (stands ∙ ap worth_or_none is_part)

pub var_stands : (e : Expr) (name : ℕ) (env : Pairs) (v : Val) → e ≡ expr.Var name → found env name ≡ Some v → StandsFor e env v
var_stands e name env v is_var is_found = rw (is_var, value-Var name env, is_found) refl

pub part_stands : (e whole w : Expr) (number : ℕ) (env : Pairs) (v part : Val) → e ≡ expr.Part whole number → w ≡ whole → StandsFor w env v
    → part_of number (Part v) ≡ worth_of part → worth_of v ≡ Is (Part v) → StandsFor e env part
part_stands e whole w number env v part is_e is_w stands is is_part =
    rw (is_e, value-Part whole number env, ← is_w) (told-on-some (value w env) (part_of number) (Part v) (some-part w env v stands is_part) ∙ ap worth_or_none is)

pub arm_stands : (e whole w : Expr) (number : ℕ) (env : Pairs) (v arm : Val) → e ≡ expr.Arm whole number → w ≡ whole → StandsFor w env v
    → arm_of number (Part v) ≡ worth_of arm → worth_of v ≡ Is (Part v) → StandsFor e env arm
arm_stands e whole w number env v arm is_e is_w stands is is_part =
    rw (is_e, value-Arm whole number env, ← is_w) (told-on-some (value w env) (arm_of number) (Part v) (some-part w env v stands is_part) ∙ ap worth_or_none is)

pub element_stands : (e whole index w i : Expr) (env : Pairs) (v element : Val) (at : Worth) → e ≡ expr.Elem whole index → w ≡ whole → i ≡ index → StandsFor w env v
    → Some at ≡ worth_or_none (value i env) → element_of (Part v) at ≡ worth_of element → worth_of v ≡ Is (Part v) → StandsFor e env element
element_stands e whole index w i env v element at is_e is_w is_i stands is_at is is_part =
    rw (is_e, value-Elem whole index env, ← is_w, ← is_i)
    (told-on-some (value w env) (λ array. on_index array) (Part v) (some-part w env v stands is_part) ∙ told-on-some (value i env) (element_of (Part v)) at is_at ∙ ap worth_or_none is)
  where
    on_index : Worth → Answer
    on_index array = on (value i env) (element_of array)
