-- Code of parts, branches, cases and bodies with one more behind them.
use Rattle.std.proofs.Common.{◌≡◌, ◌∙◌, sym, ap, refl, arith, ℕ, ◌+◌, true, nat_eq, List, [], ◌∷◌, ◌++◌, length, length-append, append_assoc, map}
use Rattle.std.specs.List.{list_all}
use Rattle.std.proofs.lemmas.Bool.{and_parts, eqb-true}
use Rattle.pads_calc.specs.declared.term.Arm.{Arm}
use Rattle.pads_calc.specs.declared.term.Case.{Case}
use Rattle.pads_calc.specs.declared.term.Part.{Part}
use Rattle.pads_image.specs.declared.op.Op.{Op}
use Rattle.pads_image.specs.declared.op.Op.TheVariants as op
use Rattle.pads_image.specs.declared.op.Target.{Target}
use Rattle.pads_image.specs.Blocks.{parts_code, named, bindings_of, arms_size, arms_code, blocks, targets, layout, part_layout, case_layout}
use Rattle.pads_image.specs.Opened.{Body, Tried}
use Rattle.pads_image.specs.Reads.{arms_of, named_parts}
use Rattle.pads_image.proofs.Lengths.{sized}
use Rattle.law_images.proofs.Shown.{bodies_code, Begin, tries_code}

-- a term's code at an address, and an instruction behind it: at the end of a list, and of a longer one
last-one : (inner : ℕ → List Op) (instruction : Op) (p : ℕ) → inner p ++ instruction ∷ [] ≡ inner (p + 0) ++ instruction ∷ []
last-one inner instruction p = let same : p ≡ p + 0 = omega arith in ap (λ p. inner p ++ instruction ∷ []) same

pub behind-more : (xs : List Op) (x : Op) (rest front : List Op) (inner : ℕ → List Op) (instruction : Op) (p q : ℕ)
    → rest ≡ front ++ (inner p ++ instruction ∷ []) → p ≡ q → xs ++ x ∷ rest ≡ (xs ++ x ∷ front) ++ (inner q ++ instruction ∷ [])
behind-more xs x rest front inner instruction p q is same =
    ap (λ rest. xs ++ x ∷ rest) is ∙ ap (λ p. xs ++ x ∷ (front ++ (inner p ++ instruction ∷ []))) same
    ∙ sym (append_assoc xs (x ∷ front) (inner q ++ instruction ∷ []))

pub parts-more : (parts : List Part) (part : Part) (p : ℕ) → parts_code (map part_layout (parts ++ part ∷ [])) p
    ≡ parts_code (map part_layout parts) p ++ ((layout part.term).code (p + length (parts_code (map part_layout parts) p)) ++ op.Part part.name ∷ [])
parts-more [] part p = last-one (layout part.term).code (op.Part part.name) p
parts-more (first ∷ parts) part p =
    let b = layout first.term in
    let q = p + b.size + 1 in
    let front = parts_code (map part_layout parts) q in
    let long : q + length front ≡ p + length (b.code p ++ op.Part first.name ∷ front) =
    omega (arith, length-append (b.code p) (op.Part first.name ∷ front), sized first.term p) in
    behind-more (b.code p) (op.Part first.name) (parts_code (map part_layout (parts ++ part ∷ [])) q) front (layout part.term).code (op.Part part.name)
    (q + length front) (p + length (b.code p ++ op.Part first.name ∷ front)) (parts-more parts part q) long

pub named-counts : (parts : List Part) → named_parts parts ≡ named (map part_layout parts)
named-counts [] = refl
named-counts (part ∷ parts) = ap (λ n. bindings_of part.name + n) (named-counts parts)

pub bodies-more : (bodies : List Body) (body : Body) (p : ℕ) → bodies_code (bodies ++ body ∷ []) p
    ≡ bodies_code bodies p ++ ((layout body.term).code (p + length (bodies_code bodies p)) ++ op.Return ∷ [])
bodies-more [] body p = last-one (layout body.term).code op.Return p
bodies-more (first ∷ bodies) body p =
    let b = layout first.term in
    let q = p + (b.size + 1) in
    let front = bodies_code bodies q in
    let long : q + length front ≡ p + length (b.code p ++ op.Return ∷ front) =
    omega (arith, length-append (b.code p) (op.Return ∷ front), sized first.term p) in
    behind-more (b.code p) op.Return (bodies_code (bodies ++ body ∷ []) q) front (layout body.term).code op.Return
    (q + length front) (p + length (b.code p ++ op.Return ∷ front)) (bodies-more bodies body q) long

pub begin-more : (bodies : List Body) (body : Body) (p : ℕ) → Begin bodies p → body.first ≡ p + length (bodies_code bodies p) → Begin (bodies ++ body ∷ []) p
begin-more [] body p begin here = (omega (arith, here), tt)
begin-more (first ∷ bodies) body p begin here =
    let b = layout first.term in
    let q = p + (b.size + 1) in
    let there : body.first ≡ q + length (bodies_code bodies q) =
    omega (arith, here, length-append (b.code p) (op.Return ∷ bodies_code bodies q), sized first.term p) in
    (begin.0, begin-more bodies body q begin.1 there)

pub tries-more : (arms : List Tried) (tried : Tried) (number p : ℕ) → tries_code (arms ++ tried ∷ []) number p
    ≡ tries_code arms number p ++ ((layout tried.arm.term).code (p + length (tries_code arms number p)) ++ op.Try (number + length arms) tried.to ∷ [])
tries-more [] tried number p =
    let same : number ≡ number + 0 = omega arith in
    last-one (layout tried.arm.term).code (op.Try number tried.to) p
    ∙ ap (λ n. (layout tried.arm.term).code (p + 0) ++ op.Try n tried.to ∷ []) same
tries-more (first ∷ arms) tried number p =
    let b = layout first.arm.term in
    let q = p + b.size + 1 in
    let front = tries_code arms (number + 1) q in
    let inner = λ (q : ℕ). (layout tried.arm.term).code q in
    let long : q + length front ≡ p + length (b.code p ++ op.Try number first.to ∷ front) =
    omega (arith, length-append (b.code p) (op.Try number first.to ∷ front), sized first.arm.term p) in
    let count : number + 1 + length arms ≡ number + length (first ∷ arms) = omega arith in
    behind-more (b.code p) (op.Try number first.to) (tries_code (arms ++ tried ∷ []) (number + 1) q) front inner (op.Try (number + 1 + length arms) tried.to)
    (q + length front) (p + length (b.code p ++ op.Try number first.to ∷ front)) (tries-more arms tried (number + 1) q) long
    ∙ ap (λ n. (b.code p ++ op.Try number first.to ∷ front) ++ (inner (p + length (b.code p ++ op.Try number first.to ∷ front)) ++ op.Try n tried.to ∷ [])) count

-- branches that all name one end
pub tries-end : (end : ℕ) (arms : List Tried) → list_all (λ (tried : Tried). nat_eq tried.to end) arms ≡ true → (number p : ℕ)
    → tries_code arms number p ≡ arms_code (λ number. op.Try number end) (map (λ (arm : Arm). layout arm.term) (arms_of arms)) number p
tries-end end [] all number p = refl
tries-end end (tried ∷ arms) all number p =
    let b = layout tried.arm.term in
    let q = p + b.size + 1 in
    let here = and_parts (nat_eq tried.to end) (list_all (λ (tried : Tried). nat_eq tried.to end) arms) all in
    ap (λ to. b.code p ++ op.Try number to ∷ tries_code arms (number + 1) q) (eqb-true tried.to end here.0)
    ∙ ap (λ rest. b.code p ++ op.Try number end ∷ rest) (tries-end end arms here.1 (number + 1) q)

pub cases-more : (behind : ℕ → Op) (cases : List Case) (case : Case) (number p : ℕ) → arms_code behind (blocks (map case_layout (cases ++ case ∷ []))) number p
    ≡ arms_code behind (blocks (map case_layout cases)) number p
    ++ ((layout case.arm.term).code (p + length (arms_code behind (blocks (map case_layout cases)) number p)) ++ behind (number + length cases) ∷ [])
cases-more behind [] case number p =
    let same : number ≡ number + 0 = omega arith in
    last-one (layout case.arm.term).code (behind number) p
    ∙ ap (λ n. (layout case.arm.term).code (p + 0) ++ behind n ∷ []) same
cases-more behind (first ∷ cases) case number p =
    let b = layout first.arm.term in
    let q = p + b.size + 1 in
    let front = arms_code behind (blocks (map case_layout cases)) (number + 1) q in
    let inner = λ (q : ℕ). (layout case.arm.term).code q in
    let long : q + length front ≡ p + length (b.code p ++ behind number ∷ front) =
    omega (arith, length-append (b.code p) (behind number ∷ front), sized first.arm.term p) in
    let count : number + 1 + length cases ≡ number + length (first ∷ cases) = omega arith in
    behind-more (b.code p) (behind number) (arms_code behind (blocks (map case_layout (cases ++ case ∷ []))) (number + 1) q) front inner (behind (number + 1 + length cases))
    (q + length front) (p + length (b.code p ++ behind number ∷ front)) (cases-more behind cases case (number + 1) q) long
    ∙ ap (λ n. (b.code p ++ behind number ∷ front) ++ (inner (p + length (b.code p ++ behind number ∷ front)) ++ behind n ∷ [])) count

-- where the case behind some cases begins
pub targets-more : (cases : List Case) (case : Case) (target : Target) (left : List Target) (p : ℕ) → case.key ≡ target.key
    → target.to ≡ p + arms_size (blocks (map case_layout cases))
    → targets (map case_layout (cases ++ case ∷ [])) p ++ left ≡ targets (map case_layout cases) p ++ target ∷ left
targets-more [] case target left p key here =
    let to : p ≡ target.to = omega (arith, here) in
    ap (λ key. (let t : Target = record { key = key; to = p } in t) ∷ left) key
    ∙ ap (λ to. (let t : Target = record { key = target.key; to = to } in t) ∷ left) to
targets-more (first ∷ cases) case target left p key here =
    let b = layout first.arm.term in
    let q = p + b.size + 1 in
    let there : target.to ≡ q + arms_size (blocks (map case_layout cases)) = omega (arith, here) in
    let t : Target = record { key = first.key; to = p } in
    ap (λ rest. t ∷ rest) (targets-more cases case target left q key there)

pub cases-size : (cases : List Case) (case : Case) → arms_size (blocks (map case_layout (cases ++ case ∷ []))) ≡ arms_size (blocks (map case_layout cases)) + ((layout case.arm.term).size + 1)
cases-size [] case = omega arith
cases-size (first ∷ cases) case = omega (arith, cases-size cases case)
