-- A term is larger than the terms in it.
use Rattle.std.proofs.Common.{◌≡◌, ℕ, zero, suc, ◌<◌, ◌≤◌, List, [], ◌∷◌, Some, slice_get, arith}
use denote.Param.Weighed.{most}
use Rattle.pads_expr.specs.declared.expr.Expr.{Expr}
use Rattle.pads_calc.specs.declared.term.Arm.{Arm, size-Arm}
use Rattle.pads_calc.specs.declared.term.Case.{Case, size-Case}
use Rattle.pads_calc.specs.declared.term.Part.{Part, size-Part}
use Rattle.pads_calc.specs.declared.term.Seq.{Seq, size-Seq}
use Rattle.pads_calc.specs.declared.term.Term.{Term, size-Term, the_lemmas}
use Rattle.pads_calc.specs.declared.term.Term.TheVariants as term

pub size-Struct : (parts : List Part) → most size-Part parts < size-Term (term.Struct parts)
size-Struct parts = grind (arith, the_lemmas)

pub size-Alt : (arms : List Arm) → most size-Arm arms < size-Term (term.Alt arms)
size-Alt arms = grind (arith, the_lemmas)

pub size-Switch : (e : Expr) (cases : List Case) → most size-Case cases < size-Term (term.Switch e cases)
size-Switch e cases = grind (arith, the_lemmas)

pub size-Guard : (inner : Term) (binder : ℕ) (condition : Expr) → size-Term inner < size-Term (term.Guard inner binder condition)
size-Guard inner binder condition = grind (arith, the_lemmas)

pub size-of_Seq : (s : Seq) → size-Seq s < size-Term (term.Seq s)
size-of_Seq s = grind (arith, the_lemmas)

pub size-Absorb : (inner : Term) → size-Term inner < size-Term (term.Absorb inner)
size-Absorb inner = grind (arith, the_lemmas)

pub size-Scan : (inner : Term) → size-Term inner < size-Term (term.Scan inner)
size-Scan inner = grind (arith, the_lemmas)

pub size-in_Case : (case : Case) → size-Term case.arm.term < size-Case case
size-in_Case case = grind (arith, the_lemmas)

-- each item of a list is at most as large as the largest
pub most-there : {A : Type 0} (size : A → ℕ) (xs : List A) (n : ℕ) (x : A) → slice_get xs n ≡ Some x → size x ≤ most size xs
most-there size [] n x there = cc
most-there size (y ∷ xs) zero x there = let e : x ≡ y = cc in rw e (omega arith)
most-there size (y ∷ xs) (suc n) x there = omega (arith, most-there size xs n x there)

pub size-in_Part : (part : Part) → size-Term part.term < size-Part part
size-in_Part part = grind (arith, the_lemmas)

pub size-in_Arm : (arm : Arm) → size-Term arm.term < size-Arm arm
size-in_Arm arm = grind (arith, the_lemmas)

pub size-elem : (s : Seq) → size-Term s.elem < size-Seq s
size-elem s = grind (arith, the_lemmas)

pub size-sep : (s : Seq) (t : Term) → s.sep ≡ Some t → size-Term t < size-Seq s
size-sep s t there = grind (arith, the_lemmas)

pub size-stop : (s : Seq) (t : Term) → s.stop ≡ Some t → size-Term t < size-Seq s
size-stop s t there = grind (arith, the_lemmas)
