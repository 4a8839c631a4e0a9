-- Instructions that are the code of a term: a call, a base type, a computed value, and the search of a literal whose value
-- is dropped.
use Rattle.std.proofs.Common.{◌≡◌, ◌∙◌, sym, ap, refl, subst, arith, ℕ, suc, ◌+◌, List, [], ◌∷◌, ◌++◌, append_assoc, drop, length, inl, inr, Some, slice_get}
use Rattle.std.proofs.Math.Seq.{drop-append_seam}
use Rattle.std.proofs.lemmas.List.{drop-drop}
use Rattle.pads_expr.specs.declared.expr.Expr.{Expr}
use Rattle.pads_dispatch.specs.declared.base.Base.{Base}
use Rattle.pads_calc.specs.declared.term.ComputedForm.{ComputedForm}
use Rattle.pads_calc.specs.declared.term.Term.{Term}
use Rattle.pads_calc.specs.declared.term.Term.TheVariants as term
use Rattle.pads_image.specs.declared.op.Op.{Op}
use Rattle.pads_image.specs.declared.op.Op.TheVariants as op
use Rattle.pads_image.specs.Blocks.{Block, alt_block, followed, layout, scan_block, single}
use Rattle.pads_image.proofs.Layouts.{layout-Absorb, layout-Alt, layout-Base, layout-Call, layout-Compute, layout-Guard, layout-Lit, layout-Scan, layout-Unit}
use Rattle.pads_image.proofs.Lengths.{sized}
use Rattle.law_images.proofs.Called.{from-there as from}
use Rattle.pads_idle.specs.Idle.{IsGuarded}
use Rattle.pads_machine.specs.Doomed.{IsOne, IsTerm}

from-there : {A : Type 0} (xs : List A) (p : ℕ) (x : A) → slice_get xs p ≡ Some x → drop p xs ≡ x ∷ drop (p + 1) xs
from-there xs p x there =
    let one : suc p ≡ p + 1 = omega arith in
    from xs p x there ∙ ap (λ k. x ∷ drop k xs) one

module _ (code : List Op) (p : ℕ) where
  -- a term whose code is a block
  laid : (t : Term) (b : Block) (next : ℕ) (rest : List Op) → layout t ≡ b → drop p code ≡ b.code p ++ rest → next ≡ p + b.size → IsTerm code p next
  laid t b next rest is there ends =
      (t, rest, there ∙ ap (λ (b : Block). b.code p ++ rest) (sym is), ends ∙ ap (λ (b : Block). p + b.size) (sym is))

  pub one-there : IsOne code p → IsTerm code p (p + 1)
  one-there h = laid h.0 (single h.1) (p + 1) (drop (p + 1) code) h.2 (from-there code p h.1 h.3) refl

  pub call-there : (number : ℕ) (args : List Expr) → slice_get code p ≡ Some (op.Call number args) → IsOne code p
  call-there number args there = (term.Call number args, op.Call number args, layout-Call number args, there)

  pub base-there : (base : Base) (args : List Expr) → slice_get code p ≡ Some (op.Base base args) → IsOne code p
  base-there base args there = (term.Base base args, op.Base base args, layout-Base base args, there)

  pub compute-there : (e : Expr) (form : ComputedForm) → slice_get code p ≡ Some (op.Compute e form) → IsOne code p
  compute-there e form there = (term.Compute e form, op.Compute e form, layout-Compute e form, there)

  -- a constraint behind a term
  guarded : (q : ℕ) (binder : ℕ) (condition : Expr) → IsTerm code p q → slice_get code q ≡ Some (op.Guard binder condition) → IsTerm code p (q + 1)
  guarded q binder condition h there =
      let t = h.0 in
      let ops = (layout t).code p in
      let behind : drop q code ≡ h.1 =
      ap (λ k. drop k code) (h.3 ∙ ap (λ n. p + n) (sym (sized t p)))
      ∙ sym (drop-drop (length ops) p code)
      ∙ ap (λ (l : List Op). drop (length ops) l) h.2
      ∙ drop-append_seam ops h.1 in
      let rest : h.1 ≡ op.Guard binder condition ∷ drop (q + 1) code = sym behind ∙ from-there code q (op.Guard binder condition) there in
      let further : q + 1 ≡ p + ((layout t).size + 1) = omega (arith, h.3) in
      laid (term.Guard t binder condition) (followed (layout t) (op.Guard binder condition)) (q + 1) (drop (q + 1) code) (layout-Guard t binder condition)
      (h.2 ∙ ap (λ (l : List Op). ops ++ l) rest ∙ sym (append_assoc ops (op.Guard binder condition ∷ []) (drop (q + 1) code))) further

  pub guarded-there : (q next : ℕ) → IsTerm code p q → IsGuarded code q next → IsTerm code p next
  guarded-there q next h (inl same) = subst (λ k. IsTerm code p k) (sym same) h
  guarded-there q next h (inr g) = subst (λ k. IsTerm code p k) (sym g.3) (guarded q g.0 g.1 h g.2)

  -- a term of one instruction, or nothing
  pub optional-there : slice_get code p ≡ Some op.Mark → IsOne code (p + 1) → slice_get code (p + 2) ≡ Some (op.Try 0 (p + 6)) → slice_get code (p + 3) ≡ Some op.Unit
      → slice_get code (p + 4) ≡ Some (op.Try 1 (p + 6)) → slice_get code (p + 5) ≡ Some op.NoArm → IsTerm code p (p + 6)
  optional-there mark h there unit missing none =
      let arms = record { name = 0; term = h.0 } ∷ record { name = 0; term = term.Unit } ∷ [] in
      let blocks = single h.1 ∷ single op.Unit ∷ [] in
      let one : p + 1 + 1 ≡ p + 2 = omega arith in
      let two : p + 2 + 1 ≡ p + 3 = omega arith in
      let three : p + 3 + 1 ≡ p + 4 = omega arith in
      let four : p + 4 + 1 ≡ p + 5 = omega arith in
      let five : p + 5 + 1 ≡ p + 6 = omega arith in
      let end = op.NoArm ∷ drop (p + 6) code in
      let all : drop p code ≡ op.Mark ∷ h.1 ∷ op.Try 0 (p + 6) ∷ op.Unit ∷ op.Try 1 (p + 6) ∷ end =
      from-there code p op.Mark mark
      ∙ ap (λ rest. op.Mark ∷ rest) (from-there code (p + 1) h.1 h.3 ∙ ap (λ k. h.1 ∷ drop k code) one)
      ∙ ap (λ rest. op.Mark ∷ h.1 ∷ rest) (from-there code (p + 2) (op.Try 0 (p + 6)) there ∙ ap (λ k. op.Try 0 (p + 6) ∷ drop k code) two)
      ∙ ap (λ rest. op.Mark ∷ h.1 ∷ op.Try 0 (p + 6) ∷ rest) (from-there code (p + 3) op.Unit unit ∙ ap (λ k. op.Unit ∷ drop k code) three)
      ∙ ap (λ rest. op.Mark ∷ h.1 ∷ op.Try 0 (p + 6) ∷ op.Unit ∷ rest) (from-there code (p + 4) (op.Try 1 (p + 6)) missing ∙ ap (λ k. op.Try 1 (p + 6) ∷ drop k code) four)
      ∙ ap (λ rest. op.Mark ∷ h.1 ∷ op.Try 0 (p + 6) ∷ op.Unit ∷ op.Try 1 (p + 6) ∷ rest) (from-there code (p + 5) op.NoArm none ∙ ap (λ k. op.NoArm ∷ drop k code) five) in
      let both : layout (term.Alt arms) ≡ alt_block blocks =
      layout-Alt arms ∙ ap (λ b. alt_block (b ∷ layout term.Unit ∷ [])) h.2 ∙ ap (λ b. alt_block (single h.1 ∷ b ∷ [])) layout-Unit in
      laid (term.Alt arms) (alt_block blocks) (p + 6) (drop (p + 6) code) both all (omega arith)

  pub search-there : (literal : List ℕ) → slice_get code p ≡ Some op.ScanFrom → slice_get code (p + 1) ≡ Some (op.Lit literal) → slice_get code (p + 2) ≡ Some op.Absorb
      → slice_get code (p + 3) ≡ Some (op.ScanOn (p + 1)) → IsTerm code p (p + 4)
  search-there literal begins lit absorb on =
      let inner = followed (single (op.Lit literal)) op.Absorb in
      let one : p + 1 + 1 ≡ p + 2 = omega arith in
      let two : p + 2 + 1 ≡ p + 3 = omega arith in
      let three : p + 3 + 1 ≡ p + 4 = omega arith in
      let four : drop (p + 3) code ≡ op.ScanOn (p + 1) ∷ drop (p + 4) code = from-there code (p + 3) (op.ScanOn (p + 1)) on ∙ ap (λ k. op.ScanOn (p + 1) ∷ drop k code) three in
      let all : drop p code ≡ op.ScanFrom ∷ op.Lit literal ∷ op.Absorb ∷ op.ScanOn (p + 1) ∷ drop (p + 4) code =
      from-there code p op.ScanFrom begins
      ∙ ap (λ rest. op.ScanFrom ∷ rest) (from-there code (p + 1) (op.Lit literal) lit ∙ ap (λ k. op.Lit literal ∷ drop k code) one)
      ∙ ap (λ rest. op.ScanFrom ∷ op.Lit literal ∷ rest) (from-there code (p + 2) op.Absorb absorb ∙ ap (λ k. op.Absorb ∷ drop k code) two)
      ∙ ap (λ rest. op.ScanFrom ∷ op.Lit literal ∷ op.Absorb ∷ rest) four in
      let within : layout (term.Absorb (term.Lit literal)) ≡ inner
      = layout-Absorb (term.Lit literal) ∙ ap (λ b. followed b op.Absorb) (layout-Lit literal) in
      laid (term.Scan (term.Absorb (term.Lit literal))) (scan_block inner) (p + 4) (drop (p + 4) code)
      (layout-Scan (term.Absorb (term.Lit literal)) ∙ ap scan_block within) all (omega arith)
