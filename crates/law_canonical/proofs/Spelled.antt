-- What values of each shape are spelled in.
use Rattle.std.proofs.Common.{◌≡◌, ◌∙◌, sym, ap, refl, ℕ, suc, ℤ, ◌&&◌, int_le, Bool, true, false, List, [], ◌++◌, Option, Some, None, slice_get, if◌then◌else◌}
use Rattle.pads_value.specs.declared.value.Val.{Val, out-Val}
use Rattle.pads_value.specs.declared.value.Val.TheVariants as val
use Rattle.pads_expr.specs.declared.expr.Expr.{Expr}
use Rattle.pads_expr.specs.Value.{Pairs}
use Rattle.pads_expr.specs.Worth.{Worth}
use Rattle.pads_expr.specs.Worth as worth
use Rattle.pads_dispatch.specs.declared.base.Arg.{Arg}
use Rattle.pads_calc.specs.declared.decl.Decl.{Decl}
use Rattle.pads_calc.specs.declared.term.ComputedForm.{ComputedForm}
use Rattle.pads_calc.specs.declared.term.ComputedForm.TheVariants as form
use Rattle.pads_calc.specs.Arguments.{arguments, bound_to}
use Rattle.pads_calc.specs.Leaves.{computed_told}
use Rattle.pads_forms.specs.Shapes.{num_in, text_in, tuple_in, branch_in, array_in}
use Rattle.law_canonical.specs.Canonical.{Speller, NamedSpeller, SeqSpeller, canon, call_spelled, is_unit, joined, of_unit, of_body, of_computed, in_range, any_text, in_order, of_struct, of_arm, of_branch, each_element, of_array}

pub both-bytes : (one other : Option (List ℕ)) (front back : List ℕ) → one ≡ Some front → other ≡ Some back → joined one other ≡ Some (front ++ back)
both-bytes one other front back first later = ap (λ one. joined one other) first ∙ ap (joined (Some front)) later

pub unit-bytes : (bytes : Option (List ℕ)) → of_unit bytes val.Unit ≡ bytes
unit-bytes bytes = ap (λ layer. if is_unit layer then bytes else None) val.outs-Unit

pub tuple-bytes : (parts : List NamedSpeller) (env : Pairs) (values : List Val) → of_struct parts env (tuple_in (out-Val (val.Tuple values))) ≡ in_order parts env values
tuple-bytes parts env values = ap (λ layer. of_struct parts env (tuple_in layer)) (val.outs-Tuple values)

pub array-bytes : (s : SeqSpeller) (env : Pairs) (values : List Val) → of_array s env (array_in (out-Val (val.Array values))) ≡ each_element s true env values
array-bytes s env values = ap (λ layer. of_array s env (array_in layer)) (val.outs-Array values)

pub branch-bytes : (arms : List Speller) (number : ℕ) (speller : Speller) (env : Pairs) (v : Val) → slice_get arms number ≡ Some speller
    → of_branch arms env (branch_in (out-Val (val.Branch number v))) ≡ speller env v
branch-bytes arms number speller env v there =
    ap (λ layer. of_branch arms env (branch_in layer)) (val.outs-Branch number v) ∙ ap (λ found. of_arm found env v) there

-- a computed value is spelled in nothing
ranged : (least greatest number : ℤ) (truth : Bool) (v : Val) → (int_le least number && int_le number greatest) ≡ truth → (if truth then Some (val.Num number) else None) ≡ Some v
    → of_computed (form.Range least greatest) v ≡ Some []
ranged least greatest number false v within is = absurd cc
ranged least greatest number true v within is =
    let same : val.Num number ≡ v = cc in
    ap (of_computed (form.Range least greatest)) (sym same) ∙ ap (λ layer. in_range least greatest (num_in layer)) (val.outs-Num number)
    ∙ ap (λ (truth : Bool). if truth then Some [] else None) within

pub computed-bytes : (form : ComputedForm) (found : Option Worth) (v : Val) → computed_told form found ≡ Some v → of_computed form v ≡ Some []
computed-bytes (form.Range least greatest) None v is = absurd cc
computed-bytes (form.Range least greatest) (Some (worth.Num number)) v is = ranged least greatest number (int_le least number && int_le number greatest) v refl is
computed-bytes (form.Range least greatest) (Some (worth.Text text)) v is = absurd cc
computed-bytes (form.Range least greatest) (Some (worth.Truth truth)) v is = absurd cc
computed-bytes (form.Range least greatest) (Some (worth.Part part)) v is = absurd cc
computed-bytes form.Text None v is = absurd cc
computed-bytes form.Text (Some (worth.Num number)) v is = absurd cc
computed-bytes form.Text (Some (worth.Text text)) v is =
    let same : val.Text text ≡ v = cc in
    ap (of_computed form.Text) (sym same) ∙ ap (λ layer. any_text (text_in layer)) (val.outs-Text text)
computed-bytes form.Text (Some (worth.Truth truth)) v is = absurd cc
computed-bytes form.Text (Some (worth.Part part)) v is = absurd cc

-- a call with all of its arguments is spelled as its declaration's body
pub call-bytes : (decls : List Decl) (depth number : ℕ) (args : List Expr) (found : List Arg) (decl : Decl) (env : Pairs) (v : Val)
    → arguments args env ≡ Some found → slice_get decls number ≡ Some decl → call_spelled decls (suc depth) number args env v ≡ canon decls depth decl.body (bound_to decl.params found []) v
unfolding call_spelled
call-bytes decls depth number args found decl env v given there =
    ap (λ decl. of_body (canon decls depth) decl (arguments args env) v) there ∙ ap (λ args. of_body (canon decls depth) (Some decl) args v) given
