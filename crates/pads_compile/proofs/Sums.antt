-- Sums that stay at their type's end, and the sizes of each form.
use Rattle.std.proofs.Common.{◌≡◌, ◌∙◌, sym, ap, arith, ℕ, ◌+◌, ◌-◌, ◌<◌, ◌≤◌, ◌^◌, List, ◌∷◌, length, map, drop, get_or, option_map}
use Rattle.pads_expr.specs.declared.expr.Expr.{Expr}
use Rattle.pads_dispatch.specs.declared.base.Base.{Base}
use Rattle.pads_calc.specs.declared.decl.Decl.{Decl}
use Rattle.pads_calc.specs.declared.term.Arm.{Arm}
use Rattle.pads_calc.specs.declared.term.Case.{Case}
use Rattle.pads_calc.specs.declared.term.ComputedForm.{ComputedForm}
use Rattle.pads_calc.specs.declared.term.Part.{Part}
use Rattle.pads_calc.specs.declared.term.Seq.{Seq}
use Rattle.pads_calc.specs.declared.term.Term.TheVariants as term
use Rattle.pads_calc.proofs.Lists.{drop-next, drop-past'}
use Rattle.pads_image.specs.Blocks.{Block, layout, part_layout, case_layout, parts_size, arms_size, blocks, stop_size, sep_size}
use Rattle.pads_image.specs.Code.{length_of}
use Rattle.pads_image.proofs.Layouts.{layout-Unit, layout-Base, layout-Lit, layout-Eor, layout-Struct, layout-Alt, layout-Switch, layout-Guard, layout-Seq, layout-Call, layout-Compute, layout-Absorb, layout-Scan}
use Rattle.pads_value.specs.Header.{capped}

-- a sum of two, of which either may stay at the end already
pub sum-left : (a b : ℕ) → capped (capped a + b) ≡ capped (a + b)
sum-left a b = omega arith

pub sum-right : (a b : ℕ) → capped (a + capped b) ≡ capped (a + b)
sum-right a b = omega arith

pub sum-both : (a b : ℕ) → capped (capped a + capped b) ≡ capped (a + b)
sum-both a b = omega arith

-- one more item of a sum
settle : (sum size rest : ℕ) → capped (sum + (size + 1 + rest)) ≡ capped (capped (sum + capped (capped size + 1)) + rest)
settle sum size rest = omega arith

-- the first of the items that are left
pub first-of : {X : Type 0} (xs : List X) (i : ℕ) (x : X) → i < length xs → x ≡ get_or xs i x → drop i xs ≡ x ∷ drop (i + 1) xs
first-of xs i x more here = drop-next xs i x more ∙ ap (λ first. first ∷ drop (i + 1) xs) (sym here)

pub parts-next : (parts : List Part) (whole i sum : ℕ) (part : Part) → i < length parts → part ≡ get_or parts i part
    → capped whole ≡ capped (sum + parts_size (map part_layout (drop i parts)))
    → capped whole ≡ capped (capped (sum + capped (capped (layout part.term).size + 1)) + parts_size (map part_layout (drop (i + 1) parts)))
parts-next parts whole i sum part more here so =
    so ∙ ap (λ rest. capped (sum + parts_size (map part_layout rest))) (first-of parts i part more here)
    ∙ settle sum (layout part.term).size (parts_size (map part_layout (drop (i + 1) parts)))

abbrev arm_layout : Arm → Block
arm_layout arm = layout arm.term

pub arms-next : (arms : List Arm) (whole i sum : ℕ) (arm : Arm) → i < length arms → arm ≡ get_or arms i arm
    → capped whole ≡ capped (sum + arms_size (map arm_layout (drop i arms)))
    → capped whole ≡ capped (capped (sum + capped (capped (layout arm.term).size + 1)) + arms_size (map arm_layout (drop (i + 1) arms)))
arms-next arms whole i sum arm more here so =
    so ∙ ap (λ rest. capped (sum + arms_size (map arm_layout rest))) (first-of arms i arm more here)
    ∙ settle sum (layout arm.term).size (arms_size (map arm_layout (drop (i + 1) arms)))

pub cases-next : (cases : List Case) (whole i sum : ℕ) (case : Case) → i < length cases → case ≡ get_or cases i case
    → capped whole ≡ capped (sum + arms_size (blocks (map case_layout (drop i cases))))
    → capped whole ≡ capped (capped (sum + capped (capped (layout case.arm.term).size + 1)) + arms_size (blocks (map case_layout (drop (i + 1) cases))))
cases-next cases whole i sum case more here so =
    so ∙ ap (λ rest. capped (sum + arms_size (blocks (map case_layout rest)))) (first-of cases i case more here)
    ∙ settle sum (layout case.arm.term).size (arms_size (blocks (map case_layout (drop (i + 1) cases))))

pub decls-next : (decls : List Decl) (whole i sum : ℕ) (decl : Decl) → i < length decls → decl ≡ get_or decls i decl
    → capped whole ≡ capped (sum + length_of (drop i decls))
    → capped whole ≡ capped (capped (sum + capped (capped (layout decl.body).size + 1)) + length_of (drop (i + 1) decls))
decls-next decls whole i sum decl more here so =
    so ∙ ap (λ rest. capped (sum + length_of rest)) (first-of decls i decl more here)
    ∙ settle sum (layout decl.body).size (length_of (drop (i + 1) decls))

-- nothing is left
pub parts-end : (parts : List Part) (whole i sum : ℕ) → length parts ≤ i → capped whole ≡ capped (sum + parts_size (map part_layout (drop i parts))) → sum ≤ 2 ^ 64 - 1 → sum ≡ capped whole
parts-end parts whole i sum over so small =
    let none = ap (λ rest. parts_size (map part_layout rest)) (drop-past' parts i over) in
    omega (arith, so, none)

pub arms-end : (arms : List Arm) (whole i sum : ℕ) → length arms ≤ i → capped whole ≡ capped (sum + arms_size (map arm_layout (drop i arms))) → sum ≤ 2 ^ 64 - 1 → sum ≡ capped whole
arms-end arms whole i sum over so small =
    let none = ap (λ rest. arms_size (map arm_layout rest)) (drop-past' arms i over) in
    omega (arith, so, none)

pub cases-end : (cases : List Case) (whole i sum : ℕ) → length cases ≤ i → capped whole ≡ capped (sum + arms_size (blocks (map case_layout (drop i cases)))) → sum ≤ 2 ^ 64 - 1 → sum ≡ capped whole
cases-end cases whole i sum over so small =
    let none = ap (λ rest. arms_size (blocks (map case_layout rest))) (drop-past' cases i over) in
    omega (arith, so, none)

pub decls-end : (decls : List Decl) (whole i sum : ℕ) → length decls ≤ i → capped whole ≡ capped (sum + length_of (drop i decls)) → sum ≤ 2 ^ 64 - 1 → sum ≡ capped whole
decls-end decls whole i sum over so small =
    let none = ap length_of (drop-past' decls i over) in
    omega (arith, so, none)

pub size-Unit : (layout term.Unit).size ≡ 1
size-Unit = ap (λ (b : Block). b.size) layout-Unit

pub size-Base : (base : Base) (args : List Expr) → (layout (term.Base base args)).size ≡ 1
size-Base base args = ap (λ (b : Block). b.size) (layout-Base base args)

pub size-Lit : (literal : List ℕ) → (layout (term.Lit literal)).size ≡ 1
size-Lit literal = ap (λ (b : Block). b.size) (layout-Lit literal)

pub size-Eor : (layout term.Eor).size ≡ 1
size-Eor = ap (λ (b : Block). b.size) layout-Eor

pub size-Struct : (parts : List Part) → (layout (term.Struct parts)).size ≡ 2 + parts_size (map part_layout parts)
size-Struct parts = ap (λ (b : Block). b.size) (layout-Struct parts)

pub size-Alt : (arms : List Arm) → (layout (term.Alt arms)).size ≡ 2 + arms_size (map (λ arm. layout arm.term) arms)
size-Alt arms = ap (λ (b : Block). b.size) (layout-Alt arms)

pub size-Switch : (e : Expr) (cases : List Case) → (layout (term.Switch e cases)).size ≡ 1 + arms_size (blocks (map case_layout cases))
size-Switch e cases = ap (λ (b : Block). b.size) (layout-Switch e cases)

pub size-Guard : (inner : _) (binder : ℕ) (condition : Expr) → (layout (term.Guard inner binder condition)).size ≡ (layout inner).size + 1
size-Guard inner binder condition = ap (λ (b : Block). b.size) (layout-Guard inner binder condition)

pub size-Seq : (s : Seq) → (layout (term.Seq s)).size ≡ 6 + (layout s.elem).size + stop_size (option_map layout s.stop) + sep_size (option_map layout s.sep)
size-Seq s = ap (λ (b : Block). b.size) (layout-Seq s)

pub size-Call : (number : ℕ) (args : List Expr) → (layout (term.Call number args)).size ≡ 1
size-Call number args = ap (λ (b : Block). b.size) (layout-Call number args)

pub size-Compute : (e : Expr) (form : ComputedForm) → (layout (term.Compute e form)).size ≡ 1
size-Compute e form = ap (λ (b : Block). b.size) (layout-Compute e form)

pub size-Absorb : (inner : _) → (layout (term.Absorb inner)).size ≡ (layout inner).size + 1
size-Absorb inner = ap (λ (b : Block). b.size) (layout-Absorb inner)

pub size-Scan : (inner : _) → (layout (term.Scan inner)).size ≡ (layout inner).size + 2
size-Scan inner = ap (λ (b : Block). b.size) (layout-Scan inner)

pub ruleset size_rules = (
  sum-left,
  sum-right,
  sum-both,
  size-Unit,
  size-Base,
  size-Lit,
  size-Eor,
  size-Struct,
  size-Alt,
  size-Switch,
  size-Guard,
  size-Seq,
  size-Call,
  size-Compute,
  size-Absorb,
  size-Scan,
)
