-- What the scope of a term says of the terms in it.
use Rattle.std.proofs.Common.{◌≡◌, ◌∙◌, sym, ap, refl, ℕ, List, [], ◌∷◌, map, length, drop, get_or, slice_get, ◌+◌, ◌<◌, ◌≤◌, nat_lt, Bool, true, false, ◌&&◌, Option, None, Some}
use Rattle.std.specs.List.{list_all}
use Rattle.std.proofs.lemmas.List.Folds.{list_all-map}
use Rattle.pads_expr.specs.declared.expr.Expr.{Expr}
use Rattle.pads_dispatch.specs.declared.base.Base.{Base}
use Rattle.pads_calc.specs.declared.term.Arm.{Arm, fold-Arm, fold_out-Arm}
use Rattle.pads_calc.specs.declared.term.Case.{Case, fold-Case, fold_out-Case}
use Rattle.pads_calc.specs.declared.term.Part.{Part, fold-Part, fold_out-Part}
use Rattle.pads_calc.specs.declared.term.ComputedForm.{ComputedForm}
use Rattle.pads_calc.specs.declared.term.Seq.{Seq, fold-Seq, fold_out-Seq}
use Rattle.pads_calc.specs.declared.term.Term.{Term, Term-F, fold-Term, fold-roll-Term, roll-Term, map-Term}
use Rattle.pads_calc.specs.declared.term.Term.TheShapes.{former-Seq-sep}
use Rattle.pads_calc.specs.declared.term.Term.TheVariants as term
use Rattle.pads_module.specs.Scopes.{InScope, Binding, in_scope, bind_name, term_scope, arm_scope, case_scope, part_scope, seq_scope, arm_in, case_in, binding_of, option_term_in, seq_in, if_any, all_in, parts_in, name_there, exprs_in_scope, expr_in_scope, option_in_scope, has_arity}
use Rattle.pads_calc.proofs.Lists.{drop-next, drop-past'}
use Rattle.pads_calc.proofs.Rolls.{mapped}

module _ (names : ℕ) (arities : List ℕ) where
  abbrev t_step : Term-F InScope InScope InScope Binding InScope → InScope
  t_step = term_scope names arities

  abbrev of_arm : Arm → InScope
  of_arm = fold-Arm InScope InScope InScope Binding InScope t_step (arm_scope names arities) (case_scope names arities) (part_scope names arities) (seq_scope names arities)

  abbrev of_case : Case → InScope
  of_case = fold-Case InScope InScope InScope Binding InScope t_step (arm_scope names arities) (case_scope names arities) (part_scope names arities) (seq_scope names arities)

  abbrev of_part : Part → Binding
  of_part = fold-Part InScope InScope InScope Binding InScope t_step (arm_scope names arities) (case_scope names arities) (part_scope names arities) (seq_scope names arities)

  abbrev of_seq : Seq → InScope
  of_seq = fold-Seq InScope InScope InScope Binding InScope t_step (arm_scope names arities) (case_scope names arities) (part_scope names arities) (seq_scope names arities)

  of_arm-is : (arm : Arm) → of_arm arm ≡ arm_in names arities arm
  unfolding in_scope
  of_arm-is arm = fold_out-Arm InScope InScope InScope Binding InScope t_step (arm_scope names arities) (case_scope names arities) (part_scope names arities) (seq_scope names arities) arm

  of_case-is : (case : Case) → of_case case ≡ case_in names arities case
  of_case-is case =
      fold_out-Case InScope InScope InScope Binding InScope t_step (arm_scope names arities) (case_scope names arities) (part_scope names arities) (seq_scope names arities) case
      ∙ of_arm-is case.arm

  of_part-is : (part : Part) → of_part part ≡ binding_of names arities part
  unfolding in_scope
  of_part-is part = fold_out-Part InScope InScope InScope Binding InScope t_step (arm_scope names arities) (case_scope names arities) (part_scope names arities) (seq_scope names arities) part

  abbrev seq_with : Seq → Bool → Bool → List ℕ → Bool
  seq_with s sep stop scope = in_scope names arities s.elem scope && sep && stop && nat_lt s.elts names
      && option_in_scope names s.size scope && option_in_scope names s.last (s.elts ∷ scope)

  option-in : (o : Option Term) (scope : List ℕ) → if_any ((former-Seq-sep).map Term InScope (in_scope names arities) o) scope ≡ option_term_in names arities o scope
  option-in None scope = refl
  option-in (Some t) scope = refl

  of_seq-is : (s : Seq) (scope : List ℕ) → of_seq s scope ≡ seq_in names arities s scope
  unfolding in_scope
  of_seq-is s scope =
      ap (λ (f : InScope). f scope) (fold_out-Seq InScope InScope InScope Binding InScope t_step (arm_scope names arities) (case_scope names arities) (part_scope names arities) (seq_scope names arities) s)
      ∙ ap (λ sep. seq_with s sep (if_any ((former-Seq-sep).map Term InScope (in_scope names arities) s.stop) scope) scope) (option-in s.sep scope)
      ∙ ap (λ stop. seq_with s (option_term_in names arities s.sep scope) stop scope) (option-in s.stop scope)

  in-roll : (layer : Term-F Term Arm Case Part Seq) (scope : List ℕ) → in_scope names arities (roll-Term layer) scope
      ≡ t_step (map-Term Term Arm Case Part Seq InScope InScope InScope Binding InScope (in_scope names arities) of_arm of_case of_part of_seq layer) scope
  unfolding in_scope
  in-roll layer scope = ap (λ (f : InScope). f scope)
      (fold-roll-Term InScope InScope InScope Binding InScope t_step (arm_scope names arities) (case_scope names arities) (part_scope names arities) (seq_scope names arities) layer)

  each-in : {A : Type 0} (f g : A → InScope) → ((x : A) → f x ≡ g x) → (xs : List A) (scope : List ℕ) → all_in (map f xs) scope ≡ list_all (λ x. g x scope) xs
  each-in {A} f g same xs scope = list_all-map (λ (term : InScope). term scope) f xs ∙ ap (λ (h : A → InScope). list_all (λ x. h x scope) xs) (λ i x. same x i)

  names-in : (parts : List Part) → list_all (λ (part : Binding). name_there names part.name) (map (binding_of names arities) parts) ≡ list_all (λ part. name_there names part.name) parts
  names-in parts = list_all-map (λ (part : Binding). name_there names part.name) (binding_of names arities) parts

  pub in-Unit : (scope : List ℕ) → in_scope names arities term.Unit scope ≡ true
  in-Unit scope = ap (λ t. in_scope names arities t scope) (sym term.rolls-Unit) ∙ in-roll Term-F.Unit scope

  pub in-Base : (base : Base) (args : List Expr) (scope : List ℕ) → in_scope names arities (term.Base base args) scope ≡ exprs_in_scope names args scope
  in-Base base args scope = ap (λ t. in_scope names arities t scope) (sym (term.rolls-Base base args)) ∙ in-roll (Term-F.Base base args) scope

  pub in-Lit : (literal : List ℕ) (scope : List ℕ) → in_scope names arities (term.Lit literal) scope ≡ true
  in-Lit literal scope = ap (λ t. in_scope names arities t scope) (sym (term.rolls-Lit literal)) ∙ in-roll (Term-F.Lit literal) scope

  pub in-Eor : (scope : List ℕ) → in_scope names arities term.Eor scope ≡ true
  in-Eor scope = ap (λ t. in_scope names arities t scope) (sym term.rolls-Eor) ∙ in-roll Term-F.Eor scope

  pub in-Struct : (parts : List Part) (scope : List ℕ) → in_scope names arities (term.Struct parts) scope
      ≡ (list_all (λ part. name_there names part.name) parts && parts_in (map (binding_of names arities) parts) scope)
  in-Struct parts scope =
      ap (λ t. in_scope names arities t scope) (sym (term.rolls-Struct parts)) ∙ in-roll (Term-F.Struct parts) scope
      ∙ ap (λ (bindings : List Binding). list_all (λ part. name_there names part.name) bindings && parts_in bindings scope) (mapped of_part (binding_of names arities) of_part-is parts)
      ∙ ap (λ b. b && parts_in (map (binding_of names arities) parts) scope) (names-in parts)

  pub in-Alt : (arms : List Arm) (scope : List ℕ) → in_scope names arities (term.Alt arms) scope ≡ list_all (λ arm. arm_in names arities arm scope) arms
  in-Alt arms scope =
      ap (λ t. in_scope names arities t scope) (sym (term.rolls-Alt arms)) ∙ in-roll (Term-F.Alt arms) scope
      ∙ each-in of_arm (arm_in names arities) of_arm-is arms scope

  pub in-Switch : (e : Expr) (cases : List Case) (scope : List ℕ) → in_scope names arities (term.Switch e cases) scope
      ≡ (expr_in_scope names e scope && list_all (λ case. case_in names arities case scope) cases)
  in-Switch e cases scope =
      ap (λ t. in_scope names arities t scope) (sym (term.rolls-Switch e cases)) ∙ in-roll (Term-F.Switch e cases) scope
      ∙ ap (λ b. expr_in_scope names e scope && b) (each-in of_case (case_in names arities) of_case-is cases scope)

  pub in-Guard : (inner : Term) (binder : ℕ) (condition : Expr) (scope : List ℕ) → in_scope names arities (term.Guard inner binder condition) scope
      ≡ (in_scope names arities inner scope && nat_lt binder names && expr_in_scope names condition (binder ∷ scope))
  in-Guard inner binder condition scope =
      ap (λ t. in_scope names arities t scope) (sym (term.rolls-Guard inner binder condition)) ∙ in-roll (Term-F.Guard inner binder condition) scope

  pub in-Seq : (s : Seq) (scope : List ℕ) → in_scope names arities (term.Seq s) scope ≡ seq_in names arities s scope
  in-Seq s scope = ap (λ t. in_scope names arities t scope) (sym (term.rolls-Seq s)) ∙ in-roll (Term-F.Seq s) scope ∙ of_seq-is s scope

  pub in-Call : (number : ℕ) (args : List Expr) (scope : List ℕ) → in_scope names arities (term.Call number args) scope
      ≡ (has_arity (slice_get arities number) (length args) && exprs_in_scope names args scope)
  in-Call number args scope = ap (λ t. in_scope names arities t scope) (sym (term.rolls-Call number args)) ∙ in-roll (Term-F.Call number args) scope

  pub in-Compute : (e : Expr) (form : ComputedForm) (scope : List ℕ) → in_scope names arities (term.Compute e form) scope ≡ expr_in_scope names e scope
  in-Compute e form scope = ap (λ t. in_scope names arities t scope) (sym (term.rolls-Compute e form)) ∙ in-roll (Term-F.Compute e form) scope

  pub in-Absorb : (inner : Term) (scope : List ℕ) → in_scope names arities (term.Absorb inner) scope ≡ in_scope names arities inner scope
  in-Absorb inner scope = ap (λ t. in_scope names arities t scope) (sym (term.rolls-Absorb inner)) ∙ in-roll (Term-F.Absorb inner) scope

  pub in-Scan : (inner : Term) (scope : List ℕ) → in_scope names arities (term.Scan inner) scope ≡ in_scope names arities inner scope
  in-Scan inner scope = ap (λ t. in_scope names arities t scope) (sym (term.rolls-Scan inner)) ∙ in-roll (Term-F.Scan inner) scope

pub ruleset term_rules = (
  in-Unit,
  in-Base,
  in-Lit,
  in-Eor,
  in-Struct,
  in-Alt,
  in-Switch,
  in-Guard,
  in-Seq,
  in-Call,
  in-Compute,
  in-Absorb,
  in-Scan,
)

-- the next part of a struct
pub parts_in-next : (names : ℕ) (arities : List ℕ) (parts : List Part) (n : ℕ) (part : Part) (scope : List ℕ) → n < length parts → part ≡ get_or parts n part →
    parts_in (map (binding_of names arities) (drop n parts)) scope
    ≡ (in_scope names arities part.term scope && parts_in (map (binding_of names arities) (drop (n + 1) parts)) (bind_name part.name scope))
parts_in-next names arities parts n part scope more here =
    ap (λ rest. parts_in (map (binding_of names arities) rest) scope)
    (drop-next parts n part more ∙ ap (λ first. first ∷ drop (n + 1) parts) (sym here))

pub parts_in-past : (names : ℕ) (arities : List ℕ) (parts : List Part) (n : ℕ) (scope : List ℕ) → length parts ≤ n →
    parts_in (map (binding_of names arities) (drop n parts)) scope ≡ true
parts_in-past names arities parts n scope over = ap (λ rest. parts_in (map (binding_of names arities) rest) scope) (drop-past' parts n over)
