-- The rows of the fitting relation: a pair with a leading zero, and what is refused.
use Rattle.std.proofs.Common.{◌≡◌, ◌∙◌, sym, ap, refl, subst, arith, ℕ, ◌≤◌, pos, false, true, List, [], ◌∷◌, ◌++◌, length, get_or, length-append, Option, Some}
use Rattle.std.specs.Prelude.{codes, option_map, unwrap_or, slice_get}
use Rattle.std.proofs.lemmas.Bool.{both_ways}
use Rattle.pads_code.specs.CodePage.{point}
use Rattle.pads_int.specs.Texts.{none}
use Rattle.pads_value.specs.declared.value.Val.{Val, out-Val}
use Rattle.pads_value.specs.declared.value.Val.TheVariants as val
use Rattle.pads_expr.specs.declared.expr.Expr.TheVariants as expr
use Rattle.pads_expr.specs.Value.{Pairs}
use Rattle.pads_expr.specs.Worth.{worth_or_none}
use Rattle.pads_expr.proofs.Steps.{value-Num, value-Truth}
use Rattle.pads_dispatch.specs.Applied.{integer}
use Rattle.pads_dispatch.specs.Texts.{SpellsBase}
use Rattle.pads_code.specs.declared.Coding.TheVariants as coding
use Rattle.pads_int.specs.declared.kind.Kind.TheVariants as kind
use Rattle.pads_calc.specs.declared.decl.Decl.{Decl}
use Rattle.pads_calc.specs.declared.term.Arm.{Arm}
use Rattle.pads_calc.specs.declared.term.Case.{Case}
use Rattle.pads_calc.specs.declared.term.Part.{Part}
use Rattle.pads_calc.specs.declared.term.ComputedForm.TheVariants as form
use Rattle.pads_calc.specs.declared.term.Seq.{Seq}
use Rattle.pads_calc.specs.declared.term.Term.{Term, Term-F, out-Term}
use Rattle.pads_calc.specs.declared.term.Term.TheVariants as term
use Rattle.pads_calc.specs.Arguments.{arg_told, is_true, is_true_told}
use Rattle.pads_calc.specs.Arrays.{size_at, size_of_arg}
use Rattle.pads_calc.specs.Leaves.{computed_told}
use Rattle.pads_forms.specs.Shapes.{array_in, branch_in}
use Rattle.law_canonical.specs.Examples.{u8, number, mark, comma, parts, pair, num, two_of, few, numbers, arms, either, lettered, letters, cases, chosen, worked_out, barred, forgotten, of_pair, call_pair, nothing, record_end, searched}
use Rattle.law_canonical.specs.Fitting.{AtMost, Fits, FitElements}
use Rattle.law_canonical.specs.Fitting as fit
use Rattle.law_canonical.proofs.FitsOut.{OutOf, fits-out, parts-out, elements-out, between-out}

out : (depth : ℕ) (t : Term) (layer : Term-F Term Arm Case Part Seq) (env : Pairs) (v : Val) (bytes : List ℕ) → out-Term t ≡ layer → Fits [] depth t env v bytes
    → OutOf [] depth layer env v bytes
out depth t layer env v bytes is h = subst (λ layer. OutOf [] depth layer env v bytes) is (fits-out [] h)

spells-three : SpellsBase u8 [] (num 3) (codes "03")
unfolding point
spells-three = record {
  whole = integer kind.U8 coding.Ascii;
  is = refl;
  spells = record {
    content = pos 3;
    is = refl;
    spelled = record { negative = false; sign = []; digits = codes "03"; parts = refl; allowed = none; numeral = refl; value = refl; ranged = refl };
  };
}

spells-seven : SpellsBase u8 [] (num 7) (codes "7")
unfolding point
spells-seven = record {
  whole = integer kind.U8 coding.Ascii;
  is = refl;
  spells = record {
    content = pos 7;
    is = refl;
    spelled = record { negative = false; sign = []; digits = codes "7"; parts = refl; allowed = none; numeral = refl; value = refl; ranged = refl };
  };
}

pair-fits : (decls : List Decl) (depth : ℕ) → Fits decls depth pair [] (two_of 3 7) (codes "03,7")
pair-fits decls depth =
    fit.struct (fit.part {front = codes "03"} (fit.base u8 [] refl spells-three)
    (fit.part {front = codes ","} (fit.scan (fit.absorb fit.literal))
    (fit.part {front = codes "7"} {back = []} (fit.base u8 [] refl spells-seven) fit.no_part)))

pub unit-fits : Fits [] 0 nothing [] val.Unit []
unit-fits = fit.unit

pub end-fits : Fits [] 0 record_end [] val.Unit []
end-fits = fit.eor

pub scan-fits : Fits [] 0 searched [] (num 7) (codes "7")
scan-fits = fit.scan (fit.base u8 [] refl spells-seven)

pub absorb-fits : Fits [] 0 forgotten [] val.Unit (codes "7")
absorb-fits = fit.absorb (fit.base u8 [] refl spells-seven)

pub struct-fits : Fits [] 0 pair [] (two_of 3 7) (codes "03,7")
struct-fits = pair-fits [] 0

pub call-fits : Fits of_pair 1 call_pair [] (two_of 3 7) (codes "03,7")
call-fits = fit.call 0 [] refl refl (pair-fits of_pair 0)

pub switch-fits : Fits [] 0 chosen [] (val.Branch 0 (num 7)) (codes "7")
switch-fits = fit.switch (expr.Num (pos 1)) cases 0 refl (fit.base u8 [] refl spells-seven)

pub compute-fits : Fits [] 0 worked_out [] (num 7) []
compute-fits =
    fit.compute (expr.Num (pos 7)) (form.Range (pos 0) (pos 255))
    (ap (λ found. computed_told (form.Range (pos 0) (pos 255)) (worth_or_none found)) (value-Num (pos 7) []))

-- a constraint that isn't met
pub constraint : (bytes : List ℕ) → Fits [] 0 barred [] (num 7) bytes → ⊥
constraint bytes h =
    let env : Pairs = (0, num 7) ∷ [] in
    let met = (out 0 barred (Term-F.Guard number 0 (expr.Truth false)) [] (num 7) bytes (term.outs-Guard number 0 (expr.Truth false)) h).0 in
    let unmet : is_true (expr.Truth false) env ≡ false = ap (λ found. is_true_told (worth_or_none found)) (value-Truth false env) in
    absurd (both_ways (is_true (expr.Truth false) env) unmet met)

-- a mark has its literal's bytes
mark-is : (literal : List ℕ) (env : Pairs) (v : Val) (bytes : List ℕ) → Fits [] 0 (mark literal) env v bytes → bytes ≡ literal
mark-is literal env v bytes h =
    let inside = out 0 (mark literal) (Term-F.Absorb (term.Lit literal)) env v bytes (term.outs-Absorb (term.Lit literal)) h in
    (out 0 (term.Lit literal) (Term-F.Lit literal) env inside.0 bytes (term.outs-Lit literal) inside.2).1

no-comma : (front back : List ℕ) → codes "37" ≡ front ++ (44 ∷ back) → ⊥
no-comma [] back e = let same : 51 ≡ 44 = ap (λ bytes. get_or bytes 0 0) e in absurd (omega (arith, same))
no-comma (a ∷ []) back e = let same : 55 ≡ 44 = ap (λ bytes. get_or bytes 1 0) e in absurd (omega (arith, same))
no-comma (a ∷ b ∷ front) back e =
    let longer : 2 ≡ length (a ∷ b ∷ front ++ (44 ∷ back)) = ap length e in
    absurd (omega (arith, longer, length-append front (44 ∷ back)))

-- a struct without its literal
pub no_literal : (v : Val) → Fits [] 0 pair [] v (codes "37") → ⊥
no_literal v h =
    let whole = out 0 pair (Term-F.Struct parts) [] v (codes "37") (term.outs-Struct parts) h in
    let first = parts-out [] whole.2 in
    let second = parts-out [] first.7 in
    let inside = out 0 comma (Term-F.Scan (mark (codes ","))) _ second.0 second.2 (term.outs-Scan (mark (codes ","))) second.6 in
    let is = mark-is (codes ",") _ second.0 second.2 inside in
    no-comma first.2 second.3 (first.5 ∙ ap (λ back. first.2 ++ back) (second.5 ∙ ap (λ between. between ++ second.3) is))

-- an array of more elements than its size
size-is : (env : Pairs) (size : Option ℕ) → size_at few.size env ≡ Some size → size ≡ Some 2
size-is env size sized =
    let two : size_at few.size env ≡ Some (Some 2) = ap (λ found. option_map Some (size_of_arg (arg_told (worth_or_none found)))) (value-Num (pos 2) env) in cc

lengths : Val → ℕ
lengths v = length (unwrap_or (array_in (out-Val v)) [])

array-length : (values : List Val) → lengths (val.Array values) ≡ length values
unfolding lengths
array-length values = ap (λ layer. length (unwrap_or (array_in layer) [])) (val.outs-Array values)

pub too_many : (bytes : List ℕ) → Fits [] 0 numbers [] (val.Array (num 1 ∷ num 2 ∷ num 3 ∷ [])) bytes → ⊥
too_many bytes h =
    let whole = out 0 numbers (Term-F.Seq few) [] _ bytes (term.outs-Seq few) h in
    let fits : length whole.1 ≤ 2 = subst (λ size. AtMost size (length whole.1)) (size-is [] whole.0 whole.3) whole.4 in
    let same = sym (array-length (num 1 ∷ num 2 ∷ num 3 ∷ [])) ∙ ap lengths whole.2 ∙ array-length whole.1 in
    absurd (omega (arith, fits, same))

-- a terminator that is consumed
pub terminator_kept : Fits [] 0 letters [] (val.Array (val.Unit ∷ [])) (codes "a;") → ⊥
terminator_kept h =
    let whole = out 0 letters (Term-F.Seq lettered) [] _ (codes "a;") (term.outs-Seq lettered) h in
    let same = sym (array-length (val.Unit ∷ [])) ∙ ap lengths whole.2 ∙ array-length whole.1 in
    letter-alone whole.1 (codes "a;") (sym same) whole.5 refl
  where
    letter-alone : (values : List Val) (bytes : List ℕ) → length values ≡ 1 → FitElements [] 0 lettered true [] values bytes → bytes ≡ codes "a;" → ⊥
    letter-alone [] bytes one all is = absurd (omega (arith, one))
    letter-alone (v ∷ w ∷ values) bytes one all is = absurd (omega (arith, one))
    letter-alone (v ∷ []) bytes one all is =
        let first = elements-out [] all in
        let letter = (out 0 (term.Lit (codes "a")) (Term-F.Lit (codes "a")) [] v first.1 (term.outs-Lit (codes "a")) first.5).1 in
        let none = elements-out [] first.6 in
        let between = between-out [] first.4 refl in
        absurd cc

-- another branch's bytes
branch_number : Val → Option ℕ
branch_number v = option_map (λ branch. branch.0) (branch_in (out-Val v))

branch-number : (number : ℕ) (inner : Val) → branch_number (val.Branch number inner) ≡ Some number
unfolding branch_number
branch-number number inner = ap (λ layer. option_map (λ (branch : ℕ × Val). branch.0) (branch_in layer)) (val.outs-Branch number inner)

dash : Arm
dash = record { name = 1; term = term.Lit (codes "-") }

pub other_branch : Fits [] 0 either [] (val.Branch 1 val.Unit) (codes "7") → ⊥
unfolding dash
other_branch h =
    let whole = out 0 either (Term-F.Alt arms) [] (val.Branch 1 val.Unit) (codes "7") (term.outs-Alt arms) h in
    let some = sym (branch-number 1 val.Unit) ∙ ap branch_number whole.3 ∙ branch-number whole.0 whole.1 in
    let one : 1 ≡ whole.0 = cc in
    let there : slice_get arms 1 ≡ Some whole.2 = subst (λ n. slice_get arms n ≡ Some whole.2) (sym one) whole.4 in
    let arm : dash ≡ whole.2 = cc in
    let inner = subst (λ (arm : Arm). Fits [] 0 arm.term [] whole.1 (codes "7")) (sym arm) whole.5 in
    let is = (out 0 (term.Lit (codes "-")) (Term-F.Lit (codes "-")) [] whole.1 (codes "7") (term.outs-Lit (codes "-")) inner).1 in
    absurd cc
