-- The sort of a term, form by form.
use Rattle.std.proofs.Common.{◌≡◌, ◌∙◌, sym, ap, refl, List, [], ◌∷◌, map}
use Rattle.std.specs.Prelude.{⊤}
use Rattle.pads_calc.specs.declared.term.Arm.{Arm}
use Rattle.pads_calc.specs.declared.term.Case.{Case}
use Rattle.pads_calc.specs.declared.term.Part.{Part}
use Rattle.pads_calc.specs.declared.term.Seq.{Seq}
use Rattle.pads_calc.specs.declared.term.Term.{Term, Term-F, out-Term, roll-Term, roll-out-Term, para-roll-Term}
use Rattle.law_calculus.specs.Sorts.{Sort, Nothing, Struct, Choice, Array, base_sort, result_sort, sort_at, sort_step, no_arm, no_case, no_part, no_seq, sort_of}

paired : {X Y Z : Type 0} (f : X → Y) (g : X → Z) (xs : List X) → map (λ (p : X × Y). g p.0) (map (λ x. (x, f x)) xs) ≡ map g xs
paired f g [] = refl
paired f g (x ∷ xs) = ap (λ rest. g x ∷ rest) (paired f g xs)

firsts : {X Y : Type 0} (f : X → Y) (xs : List X) → map (λ (p : X × Y). p.0) (map (λ x. (x, f x)) xs) ≡ xs
firsts f [] = refl
firsts f (x ∷ xs) = ap (λ rest. x ∷ rest) (firsts f xs)

module _ (declared : List Sort) where
  -- the sort of a layer of which the terms in it have their sorts
  abbrev pub layer_sort : Term-F Term Arm Case Part Seq → Sort
  layer_sort Term-F.Unit = Nothing
  layer_sort (Term-F.Base base args) = base_sort base
  layer_sort (Term-F.Lit literal) = Nothing
  layer_sort Term-F.Eor = Nothing
  layer_sort (Term-F.Struct parts) = Struct parts
  layer_sort (Term-F.Alt arms) = Choice (map (λ arm. arm.term) arms)
  layer_sort (Term-F.Switch e cases) = Choice (map (λ case. case.arm.term) cases)
  layer_sort (Term-F.Guard inner binder condition) = sort_of declared inner
  layer_sort (Term-F.Seq s) = Array s.elem
  layer_sort (Term-F.Call number args) = sort_at declared number
  layer_sort (Term-F.Compute e form) = result_sort form
  layer_sort (Term-F.Absorb inner) = Nothing
  layer_sort (Term-F.Scan inner) = sort_of declared inner

  pub sort-roll : (layer : Term-F Term Arm Case Part Seq) → sort_of declared (roll-Term layer) ≡ layer_sort layer
  unfolding sort_of
  sort-roll Term-F.Unit = para-roll-Term Sort ⊤ ⊤ ⊤ ⊤ (sort_step declared) no_arm no_case no_part no_seq Term-F.Unit
  sort-roll (Term-F.Base base args) = para-roll-Term Sort ⊤ ⊤ ⊤ ⊤ (sort_step declared) no_arm no_case no_part no_seq (Term-F.Base base args)
  sort-roll (Term-F.Lit literal) = para-roll-Term Sort ⊤ ⊤ ⊤ ⊤ (sort_step declared) no_arm no_case no_part no_seq (Term-F.Lit literal)
  sort-roll Term-F.Eor = para-roll-Term Sort ⊤ ⊤ ⊤ ⊤ (sort_step declared) no_arm no_case no_part no_seq Term-F.Eor
  sort-roll (Term-F.Struct parts) = para-roll-Term Sort ⊤ ⊤ ⊤ ⊤ (sort_step declared) no_arm no_case no_part no_seq (Term-F.Struct parts)
      ∙ ap Struct (firsts _ parts)
  sort-roll (Term-F.Alt arms) = para-roll-Term Sort ⊤ ⊤ ⊤ ⊤ (sort_step declared) no_arm no_case no_part no_seq (Term-F.Alt arms)
      ∙ ap Choice (paired _ (λ (arm : Arm). arm.term) arms)
  sort-roll (Term-F.Switch e cases) = para-roll-Term Sort ⊤ ⊤ ⊤ ⊤ (sort_step declared) no_arm no_case no_part no_seq (Term-F.Switch e cases)
      ∙ ap Choice (paired _ (λ (case : Case). case.arm.term) cases)
  sort-roll (Term-F.Guard inner binder condition) = para-roll-Term Sort ⊤ ⊤ ⊤ ⊤ (sort_step declared) no_arm no_case no_part no_seq (Term-F.Guard inner binder condition)
  sort-roll (Term-F.Seq s) = para-roll-Term Sort ⊤ ⊤ ⊤ ⊤ (sort_step declared) no_arm no_case no_part no_seq (Term-F.Seq s)
  sort-roll (Term-F.Call number args) = para-roll-Term Sort ⊤ ⊤ ⊤ ⊤ (sort_step declared) no_arm no_case no_part no_seq (Term-F.Call number args)
  sort-roll (Term-F.Compute e form) = para-roll-Term Sort ⊤ ⊤ ⊤ ⊤ (sort_step declared) no_arm no_case no_part no_seq (Term-F.Compute e form)
  sort-roll (Term-F.Absorb inner) = para-roll-Term Sort ⊤ ⊤ ⊤ ⊤ (sort_step declared) no_arm no_case no_part no_seq (Term-F.Absorb inner)
  sort-roll (Term-F.Scan inner) = para-roll-Term Sort ⊤ ⊤ ⊤ ⊤ (sort_step declared) no_arm no_case no_part no_seq (Term-F.Scan inner)

  pub sort-out : (t : Term) → sort_of declared t ≡ layer_sort (out-Term t)
  sort-out t = ap (sort_of declared) (sym (roll-out-Term t)) ∙ sort-roll (out-Term t)
