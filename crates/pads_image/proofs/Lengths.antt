-- The layout of a term has as many instructions as its size says, wherever it begins.
use Rattle.std.proofs.Common.{◌≡◌, sym, refl, subst, arith, ℕ, suc, ◌+◌, List, [], ◌∷◌, ◌++◌, length, length-append, map, Option, None, Some, option_map}
use Rattle.pads_expr.specs.declared.expr.Expr.{Expr}
use Rattle.pads_calc.specs.declared.decl.Decl.{Decl}
use Rattle.pads_calc.specs.declared.term.Arm.{Arm}
use Rattle.pads_calc.specs.declared.term.Case.{Case}
use Rattle.pads_calc.specs.declared.term.Part.{Part}
use Rattle.pads_calc.specs.declared.term.Seq.{Seq}
use Rattle.pads_calc.specs.declared.term.Term.{Term}
use Rattle.pads_calc.proofs.Induction.{EachPart, EachArm, EachCase, EachForm, InSeq, each-term}
use Rattle.pads_image.specs.declared.op.Op.{Op}
use Rattle.pads_image.specs.declared.op.Op.TheVariants as op
use Rattle.pads_image.specs.Blocks.{Block, followed, named, parts_size, parts_code, struct_block, arms_size, arms_code, alt_block, blocks, switch_block, scan_block, stop_size, stop_code, sep_size, sep_code, edge_at, elem_at, shut_at, layout, part_layout, case_layout, seq_layout}
use Rattle.pads_image.specs.Code.{code_from, length_of}
use Rattle.pads_image.proofs.Layouts.{layout-Unit, layout-Base, layout-Lit, layout-Eor, layout-Struct, layout-Alt, layout-Switch, layout-Guard, layout-Seq, layout-Call, layout-Compute, layout-Absorb, layout-Scan}

abbrev pub Sized : Block → Type 0
Sized b = (p : ℕ) → length (b.code p) ≡ b.size

abbrev pub SizedTerm : Term → Type 0
SizedTerm t = Sized (layout t)

by-layout : (t : Term) (b : Block) → layout t ≡ b → Sized b → SizedTerm t
by-layout t b is h = subst Sized (sym is) h

followed-sized : (b : Block) (instruction : Op) → Sized b → Sized (followed b instruction)
followed-sized b instruction h p = omega (arith, length-append (b.code p) (instruction ∷ []), h p)

pub parts-sized : (parts : List Part) → EachPart SizedTerm parts → (p : ℕ) → length (parts_code (map part_layout parts) p) ≡ parts_size (map part_layout parts)
parts-sized [] h p = refl
parts-sized (part ∷ parts) h p =
    let b = layout part.term in
    let rest = parts_code (map part_layout parts) (p + b.size + 1) in
    omega (
      arith,
      length-append (b.code p) (op.Part part.name ∷ rest),
      h 0 part refl p,
      parts-sized parts (λ n part there. h (suc n) part there) (p + b.size + 1),
    )

struct-sized : (parts : List Part) → EachPart SizedTerm parts → Sized (struct_block (map part_layout parts))
struct-sized parts h p =
    let end = op.Close (named (map part_layout parts)) in
    omega (arith, length-append (parts_code (map part_layout parts) (p + 1)) (end ∷ []), parts-sized parts h (p + 1))

module _ (behind : ℕ → Op) where
  pub arms-sized : (arms : List Arm) → EachArm SizedTerm arms → (number p : ℕ)
      → length (arms_code behind (map (λ arm. layout arm.term) arms) number p) ≡ arms_size (map (λ arm. layout arm.term) arms)
  arms-sized [] h number p = refl
  arms-sized (arm ∷ arms) h number p =
      let b = layout arm.term in
      let rest = arms_code behind (map (λ (arm : Arm). layout arm.term) arms) (number + 1) (p + b.size + 1) in
      omega (
        arith,
        length-append (b.code p) (behind number ∷ rest),
        h 0 arm refl p,
        arms-sized arms (λ n arm there. h (suc n) arm there) (number + 1) (p + b.size + 1),
      )

  pub cases-sized : (cases : List Case) → EachCase SizedTerm cases → (number p : ℕ)
      → length (arms_code behind (blocks (map case_layout cases)) number p) ≡ arms_size (blocks (map case_layout cases))
  cases-sized [] h number p = refl
  cases-sized (case ∷ cases) h number p =
      let b = layout case.arm.term in
      let rest = arms_code behind (blocks (map case_layout cases)) (number + 1) (p + b.size + 1) in
      omega (
        arith,
        length-append (b.code p) (behind number ∷ rest),
        h 0 case refl p,
        cases-sized cases (λ n case there. h (suc n) case there) (number + 1) (p + b.size + 1),
      )

alt-sized : (arms : List Arm) → EachArm SizedTerm arms → Sized (alt_block (map (λ arm. layout arm.term) arms))
alt-sized arms h p =
    let size = 2 + arms_size (map (λ (arm : Arm). layout arm.term) arms) in
    let tries = arms_code (λ number. op.Try number (p + size)) (map (λ (arm : Arm). layout arm.term) arms) 0 (p + 1) in
    omega (arith, length-append tries (op.NoArm ∷ []), arms-sized (λ number. op.Try number (p + size)) arms h 0 (p + 1))

switch-sized : (e : Expr) (cases : List Case) → EachCase SizedTerm cases → Sized (switch_block e (map case_layout cases))
switch-sized e cases h p =
    let size = 1 + arms_size (blocks (map case_layout cases)) in
    omega (arith, cases-sized (λ number. op.Arm number (p + size)) cases h 0 (p + 1))

scan-sized : (b : Block) → Sized b → Sized (scan_block b)
scan-sized b h p = omega (arith, length-append (b.code (p + 1)) (op.ScanOn (p + 1) ∷ []), h (p + 1))

pub stop-sized : (o : Option Term) → ((t : Term) → o ≡ Some t → SizedTerm t) → (shut p : ℕ) → length (stop_code (option_map layout o) shut p) ≡ stop_size (option_map layout o)
stop-sized None h shut p = refl
stop-sized (Some t) h shut p = omega (arith, length-append ((layout t).code (p + 1)) (op.Stop shut ∷ []), h t refl (p + 1))

pub sep-sized : (o : Option Term) → ((t : Term) → o ≡ Some t → SizedTerm t) → (shut p : ℕ) → length (sep_code (option_map layout o) shut p) ≡ sep_size (option_map layout o)
sep-sized None h shut p = refl
sep-sized (Some t) h shut p = omega (arith, length-append ((layout t).code p) (op.Sep shut ∷ []), h t refl p)

seq-sized : (s : Seq) → InSeq SizedTerm s → Sized (seq_layout s)
seq-sized s h p =
    let stop = option_map layout s.stop in
    let sep = option_map layout s.sep in
    let elem = layout s.elem in
    let shut = shut_at stop sep elem p in
    let stops = stop_code stop shut (p + 2) in
    let seps = sep_code sep shut (edge_at stop sep elem p + 2) in
    let first = op.Size s.size (shut + 1) ∷ op.Full s.last s.elts shut ∷ stops in
    let second = op.Edge shut ∷ op.Turn (elem_at stop sep elem p) ∷ seps in
    let third = elem.code (elem_at stop sep elem p) in
    omega (
      arith,
      length-append ((first ++ second) ++ third) (op.Elem shut (p + 1) ∷ op.Shut ∷ []),
      length-append (first ++ second) third,
      length-append first second,
      stop-sized s.stop h.stop shut (p + 2),
      sep-sized s.sep h.sep shut (edge_at stop sep elem p + 2),
      h.elem (elem_at stop sep elem p),
    )

sized-forms : EachForm SizedTerm
sized-forms = record {
  of_unit = by-layout _ _ layout-Unit (λ p. refl);
  of_base = λ base args. by-layout _ _ (layout-Base base args) (λ p. refl);
  of_lit = λ literal. by-layout _ _ (layout-Lit literal) (λ p. refl);
  of_eor = by-layout _ _ layout-Eor (λ p. refl);
  of_struct = λ parts h. by-layout _ _ (layout-Struct parts) (struct-sized parts h);
  of_alt = λ arms h. by-layout _ _ (layout-Alt arms) (alt-sized arms h);
  of_switch = λ e cases h. by-layout _ _ (layout-Switch e cases) (switch-sized e cases h);
  of_guard = λ inner binder condition h. by-layout _ _ (layout-Guard inner binder condition) (followed-sized (layout inner) (op.Guard binder condition) h);
  of_seq = λ s h. by-layout _ _ (layout-Seq s) (seq-sized s h);
  of_call = λ number args. by-layout _ _ (layout-Call number args) (λ p. refl);
  of_compute = λ e form. by-layout _ _ (layout-Compute e form) (λ p. refl);
  of_absorb = λ inner h. by-layout _ _ (layout-Absorb inner) (followed-sized (layout inner) op.Absorb h);
  of_scan = λ inner h. by-layout _ _ (layout-Scan inner) (scan-sized (layout inner) h);
}

pub sized : (t : Term) → SizedTerm t
sized = each-term SizedTerm sized-forms

-- the code of declarations has as many instructions as their length says
pub length-code_from : (decls : List Decl) (p : ℕ) → length (code_from decls p) ≡ length_of decls
length-code_from [] p = refl
length-code_from (decl ∷ decls) p =
    let b = layout decl.body in
    let rest = code_from decls (p + (b.size + 1)) in
    omega (arith, length-append (b.code p) (op.Return ∷ rest), sized decl.body p, length-code_from decls (p + (b.size + 1)))
