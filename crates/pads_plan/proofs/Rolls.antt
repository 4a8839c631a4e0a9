-- The parts of a term, from those of the terms in it, form by form.
use Rattle.std.proofs.Common.{◌≡◌, ◌∙◌, sym, ap, refl, ℕ, List, [], ◌∷◌, map, false, true≢false}
use Rattle.pads_expr.specs.declared.expr.Expr.{Expr}
use Rattle.pads_calc.specs.declared.term.Arm.{Arm, fold-Arm, fold_out-Arm}
use Rattle.pads_calc.specs.declared.term.Case.{Case, fold-Case, fold_out-Case}
use Rattle.pads_calc.specs.declared.term.Part.{Part, fold-Part, fold_out-Part}
use Rattle.pads_calc.specs.declared.term.Seq.{Seq, fold-Seq, fold_out-Seq}
use Rattle.pads_calc.specs.declared.term.Term.{Term, Term-F, fold-roll-Term, roll-Term, out-Term, roll-out-Term, map-Term}
use Rattle.pads_calc.specs.declared.term.Term.TheVariants as code
use Rattle.pads_calc.proofs.Rolls.{mapped}
use Rattle.pads_forms.specs.Terms.{name_at}
use Rattle.pads_sums.specs.declared.form.PartForm.TheVariants as form
use Rattle.pads_plan.specs.Expansion.{Listed, Node, Branch, Named, expand, term_step, arm_step, case_step, part_step, seq_step, listing}
use Rattle.pads_plan.specs.Pending.{named_of, branch_of, branch_of_case, is_passed, is_called, is_unit, form_of, kids_of}
use Rattle.pads_plan.specs.Ways.{Origin, own}
use Rattle.std.proofs.Common.{◌+◌}

map-map : {A B C : Type 0} (f : A → B) (g : B → C) (xs : List A) → map g (map f xs) ≡ map (λ x. g (f x)) xs
map-map f g [] = refl
map-map f g (x ∷ xs) = ap (λ rest. g (f x) ∷ rest) (map-map f g xs)

module _ (names : List (List ℕ)) (call : ℕ → Listed) where
  abbrev of_arm : Arm → Branch
  of_arm = fold-Arm Node Branch Branch Named Node (term_step names call) arm_step case_step part_step seq_step

  abbrev of_case : Case → Branch
  of_case = fold-Case Node Branch Branch Named Node (term_step names call) arm_step case_step part_step seq_step

  abbrev of_part : Part → Named
  of_part = fold-Part Node Branch Branch Named Node (term_step names call) arm_step case_step part_step seq_step

  abbrev of_seq : Seq → Node
  of_seq = fold-Seq Node Branch Branch Named Node (term_step names call) arm_step case_step part_step seq_step

  of_part-is : (part : Part) → of_part part ≡ named_of names call part
  unfolding expand
  of_part-is part = fold_out-Part Node Branch Branch Named Node (term_step names call) arm_step case_step part_step seq_step part

  of_arm-is : (arm : Arm) → of_arm arm ≡ branch_of names call arm
  unfolding expand
  of_arm-is arm = fold_out-Arm Node Branch Branch Named Node (term_step names call) arm_step case_step part_step seq_step arm

  of_case-is : (case : Case) → of_case case ≡ branch_of_case names call case
  of_case-is case =
      fold_out-Case Node Branch Branch Named Node (term_step names call) arm_step case_step part_step seq_step case ∙ of_arm-is case.arm

  of_seq-is : (s : Seq) → of_seq s ≡ expand names call s.elem
  unfolding expand
  of_seq-is s = fold_out-Seq Node Branch Branch Named Node (term_step names call) arm_step case_step part_step seq_step s

  -- one layer, with what the terms in it stand for
  abbrev layer_of : Term-F Term Arm Case Part Seq → Node
  layer_of Term-F.Unit = term_step names call Term-F.Unit
  layer_of (Term-F.Base base args) = term_step names call (Term-F.Base base args)
  layer_of (Term-F.Lit literal) = term_step names call (Term-F.Lit literal)
  layer_of Term-F.Eor = term_step names call Term-F.Eor
  layer_of (Term-F.Struct parts) = term_step names call (Term-F.Struct (map (named_of names call) parts))
  layer_of (Term-F.Alt arms) = term_step names call (Term-F.Alt (map (branch_of names call) arms))
  layer_of (Term-F.Switch e cases) = term_step names call (Term-F.Switch e (map (branch_of_case names call) cases))
  layer_of (Term-F.Guard inner binder condition) = term_step names call (Term-F.Guard (expand names call inner) binder condition)
  layer_of (Term-F.Seq s) = term_step names call (Term-F.Seq (expand names call s.elem))
  layer_of (Term-F.Call number args) = term_step names call (Term-F.Call number args)
  layer_of (Term-F.Compute e computed) = term_step names call (Term-F.Compute e computed)
  layer_of (Term-F.Absorb inner) = term_step names call (Term-F.Absorb (expand names call inner))
  layer_of (Term-F.Scan inner) = term_step names call (Term-F.Scan (expand names call inner))

  rolled : (layer : Term-F Term Arm Case Part Seq) → expand names call (roll-Term layer)
      ≡ term_step names call (map-Term Term Arm Case Part Seq Node Branch Branch Named Node (expand names call) of_arm of_case of_part of_seq layer)
  unfolding expand
  rolled layer = fold-roll-Term Node Branch Branch Named Node (term_step names call) arm_step case_step part_step seq_step layer

  layered : (layer : Term-F Term Arm Case Part Seq)
      → term_step names call (map-Term Term Arm Case Part Seq Node Branch Branch Named Node (expand names call) of_arm of_case of_part of_seq layer) ≡ layer_of layer
  layered Term-F.Unit = refl
  layered (Term-F.Base base args) = refl
  layered (Term-F.Lit literal) = refl
  layered Term-F.Eor = refl
  layered (Term-F.Struct parts) = ap (λ (parts : List Named). term_step names call (Term-F.Struct parts)) (mapped of_part (named_of names call) of_part-is parts)
  layered (Term-F.Alt arms) = ap (λ (arms : List Branch). term_step names call (Term-F.Alt arms)) (mapped of_arm (branch_of names call) of_arm-is arms)
  layered (Term-F.Switch e cases) = ap (λ (cases : List Branch). term_step names call (Term-F.Switch e cases)) (mapped of_case (branch_of_case names call) of_case-is cases)
  layered (Term-F.Guard inner binder condition) = refl
  layered (Term-F.Seq s) = ap (λ (elem : Node). term_step names call (Term-F.Seq elem)) (of_seq-is s)
  layered (Term-F.Call number args) = refl
  layered (Term-F.Compute e computed) = refl
  layered (Term-F.Absorb inner) = refl
  layered (Term-F.Scan inner) = refl

  pub expand_out : (t : Term) → expand names call t ≡ layer_of (out-Term t)
  expand_out t = ap (expand names call) (sym (roll-out-Term t)) ∙ rolled (out-Term t) ∙ layered (out-Term t)

  pub expand_roll : (layer : Term-F Term Arm Case Part Seq) → expand names call (roll-Term layer) ≡ layer_of layer
  expand_roll layer = rolled layer ∙ layered layer

  -- the term inside one that is passed through
  pub guard_inside : (inner : Term) (binder : ℕ) (condition : Expr) → (expand names call (code.Guard inner binder condition)).listed ≡ (expand names call inner).listed
  guard_inside inner binder condition =
      ap (λ (t : Term). (expand names call t).listed) (sym (code.rolls-Guard inner binder condition)) ∙ ap (λ (node : Node). node.listed) (expand_roll (Term-F.Guard inner binder condition))

  pub absorb_inside : (inner : Term) → (expand names call (code.Absorb inner)).listed ≡ (expand names call inner).listed
  absorb_inside inner =
      ap (λ (t : Term). (expand names call t).listed) (sym (code.rolls-Absorb inner)) ∙ ap (λ (node : Node). node.listed) (expand_roll (Term-F.Absorb inner))

  pub scan_inside : (inner : Term) → (expand names call (code.Scan inner)).listed ≡ (expand names call inner).listed
  scan_inside inner =
      ap (λ (t : Term). (expand names call t).listed) (sym (code.rolls-Scan inner)) ∙ ap (λ (node : Node). node.listed) (expand_roll (Term-F.Scan inner))

  pub call_listed : (number : ℕ) (args : List Expr) → (expand names call (code.Call number args)).listed ≡ call number
  call_listed number args =
      ap (λ (t : Term). (expand names call t).listed) (sym (code.rolls-Call number args)) ∙ ap (λ (node : Node). node.listed) (expand_roll (Term-F.Call number args))

  -- its own part, then those below it
  abbrev standing : Term-F Term Arm Case Part Seq → Listed
  standing layer way origin at = own (form_of names layer) origin ∷ listing (at + 1) (kids_of names call way origin.step origin.place at layer)

  stood : (layer : Term-F Term Arm Case Part Seq) → is_passed layer ≡ false → is_called layer ≡ false
      → (way : List ℕ) (origin : Origin) (at : ℕ) → (layer_of layer).listed way origin at ≡ standing layer way origin at
  stood Term-F.Unit p c way origin at = refl
  stood (Term-F.Base base args) p c way origin at = refl
  stood (Term-F.Lit literal) p c way origin at = refl
  stood Term-F.Eor p c way origin at = refl
  stood (Term-F.Struct parts) p c way origin at = refl
  stood (Term-F.Alt arms) p c way origin at =
      ap (λ texts. own (form.Branch texts) origin ∷ listing (at + 1) (kids_of names call way origin.step origin.place at (Term-F.Alt arms))) (map-map (branch_of names call) (λ branch. name_at names branch.name) arms)
  stood (Term-F.Switch e cases) p c way origin at =
      ap (λ texts. own (form.Branch texts) origin ∷ listing (at + 1) (kids_of names call way origin.step origin.place at (Term-F.Switch e cases))) (map-map (branch_of_case names call) (λ branch. name_at names branch.name) cases)
  stood (Term-F.Guard inner binder condition) p c way origin at = absurd (true≢false p)
  stood (Term-F.Seq s) p c way origin at = refl
  stood (Term-F.Call number args) p c way origin at = absurd (true≢false c)
  stood (Term-F.Compute e computed) p c way origin at = refl
  stood (Term-F.Absorb inner) p c way origin at = absurd (true≢false p)
  stood (Term-F.Scan inner) p c way origin at = absurd (true≢false p)

  pub stands_listed : (t : Term) → is_passed (out-Term t) ≡ false → is_called (out-Term t) ≡ false → (way : List ℕ) (origin : Origin) (at : ℕ)
      → (expand names call t).listed way origin at ≡ own (form_of names (out-Term t)) origin ∷ listing (at + 1) (kids_of names call way origin.step origin.place at (out-Term t))
  stands_listed t p c way origin at = ap (λ (node : Node). node.listed way origin at) (expand_out t) ∙ stood (out-Term t) p c way origin at

  unit-layer : (layer : Term-F Term Arm Case Part Seq) → (layer_of layer).is_unit ≡ is_unit layer
  unit-layer Term-F.Unit = refl
  unit-layer (Term-F.Base base args) = refl
  unit-layer (Term-F.Lit literal) = refl
  unit-layer Term-F.Eor = refl
  unit-layer (Term-F.Struct parts) = refl
  unit-layer (Term-F.Alt arms) = refl
  unit-layer (Term-F.Switch e cases) = refl
  unit-layer (Term-F.Guard inner binder condition) = refl
  unit-layer (Term-F.Seq s) = refl
  unit-layer (Term-F.Call number args) = refl
  unit-layer (Term-F.Compute e computed) = refl
  unit-layer (Term-F.Absorb inner) = refl
  unit-layer (Term-F.Scan inner) = refl

  pub unit_out : (t : Term) → (expand names call t).is_unit ≡ is_unit (out-Term t)
  unit_out t = ap (λ (node : Node). node.is_unit) (expand_out t) ∙ unit-layer (out-Term t)
