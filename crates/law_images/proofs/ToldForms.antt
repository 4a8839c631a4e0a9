-- Each instruction of terms but arrays adds itself to what was read.
use Rattle.std.proofs.Common.{◌≡◌, ◌∙◌, sym, ap, refl, subst, arith, ℕ, ◌+◌, Bool, true, false, ◌&&◌, nat_eq, List, [], ◌∷◌, ◌++◌, length, length-append, append_assoc, map, Option, None, Some, if◌then◌else◌}
use Rattle.std.specs.List.{list_all}
use Rattle.std.proofs.lemmas.Bool.{and_parts, eqb-true}
use Rattle.pads_expr.specs.declared.expr.Expr.{Expr}
use Rattle.pads_calc.specs.declared.term.Arm.{Arm}
use Rattle.pads_calc.specs.declared.term.Case.{Case}
use Rattle.pads_calc.specs.declared.term.Part.{Part}
use Rattle.pads_calc.specs.declared.term.Term.{Term}
use Rattle.pads_calc.specs.declared.term.Term.TheVariants as term
use Rattle.pads_module.specs.Counts.{few}
use Rattle.pads_image.specs.declared.op.Op.{Op}
use Rattle.pads_image.specs.declared.op.Op.TheVariants as op
use Rattle.pads_image.specs.declared.op.Target.{Target}
use Rattle.pads_image.specs.Blocks.{Block, single, followed, parts_code, arms_size, arms_code, blocks, targets, layout, part_layout, case_layout}
use Rattle.pads_image.specs.Opened.{Body, Tried, Opened, Decls, Struct, Alt, Switch, Scan, State, Due, Whole}
use Rattle.pads_image.specs.Reads.{takes_term, leaf, begin, wrap, part_read, named_parts, close_read, nameless, try_read, arms_of, none_read, cases_on, switch_read, arm_read, scan_read, return_read}
use Rattle.pads_image.proofs.Layouts.{layout-Struct, layout-Alt, layout-Switch, layout-Scan}
use Rattle.pads_image.proofs.Lengths.{sized, arms-sized, cases-sized}
use Rattle.law_images.proofs.ReadBack.{append-none}
use Rattle.law_images.proofs.Shown.{bodies_code, tries_code, opened_code, opened_there, shown, Placed, state_code, Appends, Tells, untold, told, told-if, due-at, whole-at, whole-shown, takes, closes, ends}
use Rattle.law_images.proofs.ShownLists.{behind-more, parts-more, named-counts, bodies-more, begin-more, tries-more, tries-end, cases-more, cases-size, targets-more}

pub leaf-tells : (p : ℕ) (instruction : Op) (t : Term) → layout t ≡ single instruction → Tells p instruction (leaf t)
leaf-tells p instruction t is (Due open_) next at_ placed read =
    told-if instruction (Due open_) (Whole t open_) next (takes_term open_) read (λ may. record {
      code = ap (λ (b : Block). shown open_ ++ b.code (length (shown open_))) is;
      placed = placed;
    })
leaf-tells p instruction t is (Whole before open_) next at_ placed read = untold next read

pub begin-tells : (p : ℕ) (instruction : Op) (construct : Opened) → ((q : ℕ) → opened_code construct q ≡ instruction ∷ []) → opened_there construct p
    → Tells p instruction (begin construct)
begin-tells p instruction construct is there (Due open_) next at_ placed read =
    told-if instruction (Due open_) (Due (construct ∷ open_)) next (takes_term open_) read (λ may. record {
      code = ap (λ code. shown open_ ++ code) (is (length (shown open_)));
      placed = (subst (λ q. opened_there construct q) at_ there, placed);
    })
begin-tells p instruction construct is there (Whole before open_) next at_ placed read = untold next read

pub wrap-tells : (p : ℕ) (instruction : Op) (around : Term → Term) → ((t : Term) → layout (around t) ≡ followed (layout t) instruction) → Tells p instruction (wrap around)
wrap-tells p instruction around is (Due open_) next at_ placed read = untold next read
wrap-tells p instruction around is (Whole t open_) next at_ placed read =
    let q = length (shown open_) in
    told instruction (Whole t open_) (Whole (around t) open_) next read (record {
      code = ap (λ (b : Block). shown open_ ++ b.code q) (is t) ∙ sym (append_assoc (shown open_) ((layout t).code q) (instruction ∷ []));
      placed = placed;
    })

-- structs
pub part-tells : (p : ℕ) (name : Option ℕ) → Tells p (op.Part name) (part_read name)
part-tells p name (Due open_) next at_ placed read = untold next read
part-tells p name (Whole t []) next at_ placed read = untold next read
part-tells p name (Whole t (Struct parts ∷ more)) next at_ placed read =
    let b = length (shown more) in
    let part : Part = record { name = name; term = t } in
    let front = parts_code (map part_layout parts) (b + 1) in
    let longer = Struct (parts ++ part ∷ []) in
    let same : b + 1 + length front ≡ b + length (op.Open ∷ front) = omega arith in
    told (op.Part name) (Whole t (Struct parts ∷ more)) (Due (longer ∷ more)) next read
    (takes (Struct parts) more t (op.Part name) longer
    (behind-more [] op.Open (parts_code (map part_layout (parts ++ part ∷ [])) (b + 1)) front (layout t).code (op.Part name)
    (b + 1 + length front) (b + length (op.Open ∷ front)) (parts-more parts part (b + 1)) same) tt placed.1)
part-tells p name (Whole t (construct ∷ more)) next at_ placed read = untold next read

struct-code : (parts : List Part) (m b : ℕ) → m ≡ named_parts parts → (layout (term.Struct parts)).code b ≡ (op.Open ∷ parts_code (map part_layout parts) (b + 1)) ++ op.Close m ∷ []
struct-code parts m b same =
    ap (λ (block : Block). block.code b) (layout-Struct parts)
    ∙ ap (λ n. (op.Open ∷ parts_code (map part_layout parts) (b + 1)) ++ op.Close n ∷ []) (sym (same ∙ named-counts parts))

pub close-tells : (p m : ℕ) → Tells p (op.Close m) (close_read m)
close-tells p m (Whole t open_) next at_ placed read = untold next read
close-tells p m (Due []) next at_ placed read = untold next read
close-tells p m (Due (Struct parts ∷ more)) next at_ placed read =
    told-if (op.Close m) (Due (Struct parts ∷ more)) (Whole (term.Struct parts) more) next (few parts && nat_eq m (named_parts parts)) read
    (λ may. closes (Struct parts) more (op.Close m) (term.Struct parts)
    (struct-code parts m (length (shown more)) (eqb-true m (named_parts parts) (and_parts (few parts) (nat_eq m (named_parts parts)) may).1)) placed.1)
close-tells p m (Due (construct ∷ more)) next at_ placed read = untold next read

-- unions
pub try-tells : (p number to : ℕ) → Tells p (op.Try number to) (try_read number to)
try-tells p number to (Due open_) next at_ placed read = untold next read
try-tells p number to (Whole t []) next at_ placed read = untold next read
try-tells p number to (Whole t (Alt arms ∷ more)) next at_ placed read =
    let b = length (shown more) in
    let tried : Tried = record { arm = nameless t; to = to } in
    let front = tries_code arms 0 (b + 1) in
    let longer = Alt (arms ++ tried ∷ []) in
    let same : b + 1 + length front ≡ b + length (op.Mark ∷ front) = omega arith in
    told-if (op.Try number to) (Whole t (Alt arms ∷ more)) (Due (longer ∷ more)) next (nat_eq number (length arms)) read (λ may.
    let count : 0 + length arms ≡ number = omega (arith, eqb-true number (length arms) may) in
    takes (Alt arms) more t (op.Try number to) longer
    (behind-more [] op.Mark (tries_code (arms ++ tried ∷ []) 0 (b + 1)) front (layout t).code (op.Try (0 + length arms) to)
    (b + 1 + length front) (b + length (op.Mark ∷ front)) (tries-more arms tried 0 (b + 1)) same
    ∙ ap (λ n. (op.Mark ∷ front) ++ ((layout t).code (b + length (op.Mark ∷ front)) ++ op.Try n to ∷ [])) count) tt placed.1)
try-tells p number to (Whole t (construct ∷ more)) next at_ placed read = untold next read

alt-code : (arms : List Tried) (p b : ℕ) → list_all (λ (tried : Tried). nat_eq tried.to (p + 1)) arms ≡ true → p ≡ b + length (op.Mark ∷ tries_code arms 0 (b + 1))
    → (layout (term.Alt (arms_of arms))).code b ≡ (op.Mark ∷ tries_code arms 0 (b + 1)) ++ op.NoArm ∷ []
alt-code arms p b all at_ =
    let bs = map (λ (arm : Arm). layout arm.term) (arms_of arms) in
    let ended = λ (end : ℕ). op.Mark ∷ arms_code (λ number. op.Try number end) bs 0 (b + 1) ++ op.NoArm ∷ [] in
    let same = tries-end (p + 1) arms all 0 (b + 1) in
    let long = arms-sized (λ number. op.Try number (p + 1)) (arms_of arms) (λ n arm there. sized arm.term) 0 (b + 1) in
    let end : b + (2 + arms_size bs) ≡ p + 1 = omega (arith, at_, ap length same, long) in
    ap (λ (block : Block). block.code b) (layout-Alt (arms_of arms)) ∙ ap ended end
    ∙ ap (λ code. (op.Mark ∷ code) ++ op.NoArm ∷ []) (sym same)

pub none-tells : (p : ℕ) → Tells p op.NoArm (none_read p)
none-tells p (Whole t open_) next at_ placed read = untold next read
none-tells p (Due []) next at_ placed read = untold next read
none-tells p (Due (Alt arms ∷ more)) next at_ placed read =
    let all = list_all (λ (tried : Tried). nat_eq tried.to (p + 1)) arms in
    told-if op.NoArm (Due (Alt arms ∷ more)) (Whole (term.Alt (arms_of arms)) more) next (few arms && all) read
    (λ may. closes (Alt arms) more op.NoArm (term.Alt (arms_of arms))
    (alt-code arms p (length (shown more)) (and_parts (few arms) all may).1 (due-at (Alt arms) more p at_)) placed.1)
none-tells p (Due (construct ∷ more)) next at_ placed read = untold next read

-- switched unions
switch-code : (e : Expr) (end next : ℕ) (cases : List Case) (b : ℕ) → end ≡ b + 1 + arms_size (blocks (map case_layout cases))
    → (layout (term.Switch e cases)).code b ≡ opened_code (Switch e [] end next cases) b
switch-code e end next cases b ended =
    let found = targets (map case_layout cases) (b + 1) in
    let with_ends = λ (found : List Target) (end : ℕ). op.Switch e found end ∷ arms_code (λ number. op.Arm number end) (blocks (map case_layout cases)) 0 (b + 1) in
    let same : b + (1 + arms_size (blocks (map case_layout cases))) ≡ end = omega (arith, ended) in
    ap (λ (block : Block). block.code b) (layout-Switch e cases) ∙ ap (λ end. with_ends found end) same ∙ ap (λ found. with_ends found end) (sym (append-none found))

on-tells : (instruction : Op) (state : State) (e : Expr) (left : List Target) (end q : ℕ) (cases : List Case) (more : List Opened)
    → shown more ++ opened_code (Switch e left end q cases) (length (shown more)) ≡ state_code state ++ instruction ∷ []
    → q ≡ length (shown more) + 1 + arms_size (blocks (map case_layout cases)) → Placed more
    → (next : State) → cases_on q e left end q cases more ≡ Some next → Appends instruction state next
on-tells instruction state e [] end q cases more is here placed next read =
    told-if instruction state (Whole (term.Switch e cases) more) next (nat_eq end q) read (λ may. record {
      code = ap (λ code. shown more ++ code) (switch-code e end q cases (length (shown more)) (eqb-true end q may ∙ here)) ∙ is;
      placed = placed;
    })
on-tells instruction state e (target ∷ left) end q cases more is here placed next read =
    told instruction state (Due (Switch e (target ∷ left) end q cases ∷ more)) next read (record { code = is; placed = (here, placed) })

if-there : (b : Bool) (found : Option State) (next : State) → (if b then found else None) ≡ Some next → (b ≡ true) × (found ≡ Some next)
if-there true found next is = (refl, is)
if-there false found next is = untold next is

pub switch-tells : (p : ℕ) (e : Expr) (left : List Target) (end : ℕ) → Tells p (op.Switch e left end) (switch_read p e left end)
switch-tells p e left end (Whole t open_) next at_ placed read = untold next read
switch-tells p e left end (Due open_) next at_ placed read =
    let may = if-there (takes_term open_ && few left) (cases_on (p + 1) e left end (p + 1) [] open_) next read in
    on-tells (op.Switch e left end) (Due open_) e left end (p + 1) [] open_ refl (omega (arith, at_)) placed next may.1

arm-code : (e : Expr) (target : Target) (left : List Target) (end next q : ℕ) (cases : List Case) (t : Term) (number to b : ℕ)
    → number ≡ length cases → to ≡ end → target.to ≡ b + 1 + arms_size (blocks (map case_layout cases))
    → opened_code (Switch e left end q (cases ++ (record { key = target.key; arm = nameless t }) ∷ [])) b
    ≡ opened_code (Switch e (target ∷ left) end next cases) b
    ++ ((layout t).code (b + length (opened_code (Switch e (target ∷ left) end next cases) b)) ++ op.Arm number to ∷ [])
arm-code e target left end next q cases t number to b counted ended here =
    let case : Case = record { key = target.key; arm = nameless t } in
    let behind = λ (number : ℕ). op.Arm number end in
    let front = arms_code behind (blocks (map case_layout cases)) 0 (b + 1) in
    let rest = arms_code behind (blocks (map case_layout (cases ++ case ∷ []))) 0 (b + 1) in
    let first = op.Switch e (targets (map case_layout cases) (b + 1) ++ target ∷ left) end in
    let inner = λ (q : ℕ). (layout t).code q in
    let same : b + 1 + length front ≡ b + length (first ∷ front) = omega arith in
    let count : 0 + length cases ≡ number = omega (arith, counted) in
    ap (λ found. op.Switch e found end ∷ rest) (targets-more cases case target left (b + 1) refl here)
    ∙ behind-more [] first rest front inner (behind (0 + length cases)) (b + 1 + length front) (b + length (first ∷ front)) (cases-more behind cases case 0 (b + 1)) same
    ∙ ap (λ n. (first ∷ front) ++ (inner (b + length (first ∷ front)) ++ op.Arm n end ∷ [])) count
    ∙ ap (λ end. (first ∷ front) ++ (inner (b + length (first ∷ front)) ++ op.Arm number end ∷ [])) (sym ended)

cases-long : (behind : ℕ → Op) (cases : List Case) (number p : ℕ)
    → length (arms_code behind (blocks (map case_layout cases)) number p) ≡ arms_size (blocks (map case_layout cases))
cases-long behind cases number p = cases-sized behind cases (λ n case there. sized case.arm.term) number p

case-at : (e : Expr) (target : Target) (left : List Target) (end next : ℕ) (cases : List Case) (t : Term) (p b : ℕ) → next ≡ b + 1 + arms_size (blocks (map case_layout cases))
    → p ≡ b + length (opened_code (Switch e (target ∷ left) end next cases) b) + (layout t).size
    → p + 1 ≡ b + 1 + arms_size (blocks (map case_layout (cases ++ (record { key = target.key; arm = nameless t }) ∷ [])))
case-at e target left end next cases t p b here at_ =
    let case : Case = record { key = target.key; arm = nameless t } in
    omega (arith, at_, cases-size cases case, cases-long (λ number. op.Arm number end) cases 0 (b + 1))

pub arm-tells : (p number to : ℕ) → Tells p (op.Arm number to) (arm_read p number to)
arm-tells p number to (Due open_) next at_ placed read = untold next read
arm-tells p number to (Whole t []) next at_ placed read = untold next read
arm-tells p number to (Whole t (Switch e [] end begins cases ∷ more)) next at_ placed read = untold next read
arm-tells p number to (Whole t (Switch e (target ∷ left) end begins cases ∷ more)) next at_ placed read =
    let b = length (shown more) in
    let case : Case = record { key = target.key; arm = nameless t } in
    let construct = Switch e (target ∷ left) end begins cases in
    let state = Whole t (construct ∷ more) in
    let counted = nat_eq number (length cases) in
    let ended = nat_eq to end in
    let here = nat_eq target.to begins in
    let may = if-there (counted && ended && here) (cases_on (p + 1) e left end (p + 1) (cases ++ case ∷ []) more) next read in
    let two = and_parts (counted && ended) here may.0 in
    let one = and_parts counted ended two.0 in
    let is = arm-code e target left end begins (p + 1) cases t number to b (eqb-true number (length cases) one.0) (eqb-true to end one.1)
    (eqb-true target.to begins two.1 ∙ placed.0) in
    on-tells (op.Arm number to) state e left end (p + 1) (cases ++ case ∷ []) more
    (whole-shown construct more t (op.Arm number to) (opened_code (Switch e left end (p + 1) (cases ++ case ∷ [])) b) is)
    (case-at e target left end begins cases t p b placed.0 (whole-at construct more t p at_)) placed.1 next may.1
arm-tells p number to (Whole t (construct ∷ more)) next at_ placed read = untold next read

-- searches
scan-code : (t : Term) (to b : ℕ) → to ≡ b + 1 → (layout (term.Scan t)).code b ≡ (op.ScanFrom ∷ []) ++ ((layout t).code (b + 1) ++ op.ScanOn to ∷ [])
scan-code t to b same =
    ap (λ (block : Block). block.code b) (layout-Scan t) ∙ ap (λ to. op.ScanFrom ∷ ((layout t).code (b + 1) ++ op.ScanOn to ∷ [])) (sym same)

pub scan-tells : (p to : ℕ) → Tells p (op.ScanOn to) (scan_read to)
scan-tells p to (Due open_) next at_ placed read = untold next read
scan-tells p to (Whole t []) next at_ placed read = untold next read
scan-tells p to (Whole t (Scan inner ∷ more)) next at_ placed read =
    told-if (op.ScanOn to) (Whole t (Scan inner ∷ more)) (Whole (term.Scan t) more) next (nat_eq to inner) read
    (λ may. ends (Scan inner) more t (op.ScanOn to) (term.Scan t) (scan-code t to (length (shown more)) (eqb-true to inner may ∙ placed.0)) placed.1)
scan-tells p to (Whole t (construct ∷ more)) next at_ placed read = untold next read

-- declarations
pub return-tells : (p : ℕ) → Tells p op.Return (return_read p)
return-tells p (Due open_) next at_ placed read = untold next read
return-tells p (Whole t []) next at_ placed read = untold next read
return-tells p (Whole t (Decls done first ∷ more)) next at_ placed read =
    let b = length (shown more) in
    let body : Body = record { first = first; term = t } in
    let front = bodies_code done b in
    let longer = Decls (done ++ body ∷ []) (p + 1) in
    let is = bodies-more done body b in
    let code = (layout t).code (b + length front) in
    let behind : p + 1 ≡ b + length (bodies_code (done ++ body ∷ []) b) =
    omega (arith, whole-at (Decls done first) more t p at_, ap length is, length-append front (code ++ op.Return ∷ []), length-append code (op.Return ∷ []), sized t (b + length front)) in
    told op.Return (Whole t (Decls done first ∷ more)) (Due (longer ∷ more)) next read
    (takes (Decls done first) more t op.Return longer is (behind, begin-more done body b placed.0.1 placed.0.0) placed.1)
return-tells p (Whole t (construct ∷ more)) next at_ placed read = untold next read
