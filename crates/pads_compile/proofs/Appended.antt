-- Code that grows by a part, by a branch or by a declaration.
use Rattle.std.proofs.Common.{◌≡◌, ◌∙◌, sym, ap, refl, arith, ℕ, ◌+◌, ◌<◌, ◌≤◌, true, false, List, [], ◌∷◌, ◌++◌, length, length-append, map, drop, get_or, append_assoc, Option, Some, None, is_some}
use Rattle.pads_calc.specs.declared.decl.Decl.{Decl}
use Rattle.pads_calc.specs.declared.term.Case.{Case}
use Rattle.pads_calc.specs.declared.term.Part.{Part}
use Rattle.pads_calc.specs.declared.term.Term.{Term}
use Rattle.pads_calc.specs.Skeletons.{skeleton_of}
use Rattle.pads_calc.proofs.Lists.{drop-past'}
use Rattle.pads_image.specs.declared.entry.Entry.{Entry}
use Rattle.pads_image.specs.declared.op.Op.{Op}
use Rattle.pads_image.specs.declared.op.Op.TheVariants as op
use Rattle.pads_image.specs.Blocks.{arms_code, arms_size, bindings_of, blocks, case_layout, named, layout, part_layout, parts_code, parts_size}
use Rattle.pads_image.specs.Code.{code_from, decl_length, entries_from, length_of}
use Rattle.pads_image.specs.Validity.{longest}
use Rattle.pads_image.proofs.Lengths.{sized}
use Rattle.pads_compile.proofs.Sums.{first-of}

append-none : {X : Type 0} (xs : List X) → xs ++ [] ≡ xs
append-none [] = refl
append-none (x ∷ xs) = ap (λ rest. x ∷ rest) (append-none xs)

joined : (a b rest : List Op) (instruction : Op) → a ++ (b ++ instruction ∷ rest) ≡ ((a ++ b) ++ instruction ∷ []) ++ rest
joined a b rest instruction = sym (append_assoc (a ++ b) (instruction ∷ []) rest ∙ append_assoc a b (instruction ∷ rest))

-- code with a term and an instruction behind it
grown : (t : Term) (code : List Op) (instruction : Op) → length ((code ++ (layout t).code (length code)) ++ instruction ∷ []) ≡ length code + ((layout t).size + 1)
grown t code instruction =
    omega (
      arith,
      length-append (code ++ (layout t).code (length code)) (instruction ∷ []),
      length-append code ((layout t).code (length code)),
      sized t (length code),
    )

appended : (t : Term) (code : List Op) (instruction : Op) (rest : ℕ → List Op)
    → code ++ ((layout t).code (length code) ++ instruction ∷ rest (length code + ((layout t).size + 1)))
    ≡ ((code ++ (layout t).code (length code)) ++ instruction ∷ []) ++ rest (length ((code ++ (layout t).code (length code)) ++ instruction ∷ []))
appended t code instruction rest =
    joined code ((layout t).code (length code)) (rest (length code + ((layout t).size + 1))) instruction
    ∙ ap (λ n. ((code ++ (layout t).code (length code)) ++ instruction ∷ []) ++ rest n) (sym (grown t code instruction))

pub regrouped : (a b : List Op) (instruction : Op) → a ++ (b ++ instruction ∷ []) ≡ (a ++ b) ++ instruction ∷ []
regrouped a b instruction = sym (append_assoc a b (instruction ∷ []))

pub part-next : (parts : List Part) (whole code after : List Op) (i : ℕ) (part : Part) → i < length parts → part ≡ get_or parts i part
    → whole ≡ code ++ parts_code (map part_layout (drop i parts)) (length code)
    → after ≡ (code ++ (layout part.term).code (length code)) ++ op.Part part.name ∷ []
    → whole ≡ after ++ parts_code (map part_layout (drop (i + 1) parts)) (length after)
part-next parts whole code after i part more here so is =
    let b = layout part.term in
    let rest = λ (n : ℕ). parts_code (map part_layout (drop (i + 1) parts)) n in
    let behind : length code + b.size + 1 ≡ length code + (b.size + 1) = omega arith in
    so ∙ ap (λ left. code ++ parts_code (map part_layout left) (length code)) (first-of parts i part more here)
    ∙ ap (λ n. code ++ (b.code (length code) ++ op.Part part.name ∷ rest n)) behind
    ∙ appended part.term code (op.Part part.name) rest
    ∙ ap (λ code. code ++ rest (length code)) (sym is)

pub parts-done : (parts : List Part) (whole code : List Op) (i : ℕ) → length parts ≤ i
    → whole ≡ code ++ parts_code (map part_layout (drop i parts)) (length code) → code ≡ whole
parts-done parts whole code i over so =
    sym (so ∙ ap (λ left. code ++ parts_code (map part_layout left) (length code)) (drop-past' parts i over) ∙ append-none code)

-- there is room for the parts that are left
pub parts-left : (parts : List Part) (i : ℕ) (code after : List Op) (part : Part) → i < length parts → part ≡ get_or parts i part
    → length code + parts_size (map part_layout (drop i parts)) ≤ longest
    → after ≡ (code ++ (layout part.term).code (length code)) ++ op.Part part.name ∷ []
    → length after + parts_size (map part_layout (drop (i + 1) parts)) ≤ longest
parts-left parts i code after part more here room is =
    omega (arith, room, ap (λ left. parts_size (map part_layout left)) (first-of parts i part more here), ap length is ∙ grown part.term code (op.Part part.name))

-- branches, each with its instruction behind it
module _ {X : Type 0} (term_of : X → Term) where
  abbrev pub branch_sizes : List X → ℕ
  branch_sizes xs = arms_size (map (λ x. layout (term_of x)) xs)

  module _ (behind : ℕ → Op) where
    abbrev pub branch_code : List X → ℕ → ℕ → List Op
    branch_code xs number p = arms_code behind (map (λ x. layout (term_of x)) xs) number p

    pub branch-next : (xs : List X) (whole code after : List Op) (i : ℕ) (x : X) → i < length xs → x ≡ get_or xs i x
        → whole ≡ code ++ branch_code (drop i xs) i (length code)
        → after ≡ (code ++ (layout (term_of x)).code (length code)) ++ behind i ∷ []
        → whole ≡ after ++ branch_code (drop (i + 1) xs) (i + 1) (length after)
    branch-next xs whole code after i x more here so is =
        let b = layout (term_of x) in
        let rest = λ (n : ℕ). branch_code (drop (i + 1) xs) (i + 1) n in
        let past : length code + b.size + 1 ≡ length code + (b.size + 1) = omega arith in
        so ∙ ap (λ left. code ++ branch_code left i (length code)) (first-of xs i x more here)
        ∙ ap (λ n. code ++ (b.code (length code) ++ behind i ∷ rest n)) past
        ∙ appended (term_of x) code (behind i) rest
        ∙ ap (λ code. code ++ rest (length code)) (sym is)

    pub branches-left : (xs : List X) (i : ℕ) (code after : List Op) (x : X) → i < length xs → x ≡ get_or xs i x
        → length code + branch_sizes (drop i xs) ≤ longest
        → after ≡ (code ++ (layout (term_of x)).code (length code)) ++ behind i ∷ []
        → length after + branch_sizes (drop (i + 1) xs) ≤ longest
    branches-left xs i code after x more here room is =
        omega (arith, room, ap branch_sizes (first-of xs i x more here), ap length is ∙ grown (term_of x) code (behind i))

    pub branches-done : (xs : List X) (whole code : List Op) (i : ℕ) → length xs ≤ i
        → whole ≡ code ++ branch_code (drop i xs) i (length code) → code ≡ whole
    branches-done xs whole code i over so =
        sym (so ∙ ap (λ left. code ++ branch_code left i (length code)) (drop-past' xs i over) ∙ append-none code)

-- the cases of a switched union are branches
pub blocks-are : (cases : List Case) → blocks (map case_layout cases) ≡ map (λ case. layout case.arm.term) cases
blocks-are [] = refl
blocks-are (case ∷ cases) = ap (λ rest. layout case.arm.term ∷ rest) (blocks-are cases)

pub decl-next : (decls : List Decl) (whole code after : List Op) (i : ℕ) (decl : Decl) → i < length decls → decl ≡ get_or decls i decl
    → whole ≡ code ++ code_from (drop i decls) (length code)
    → after ≡ (code ++ (layout decl.body).code (length code)) ++ op.Return ∷ []
    → whole ≡ after ++ code_from (drop (i + 1) decls) (length after)
decl-next decls whole code after i decl more here so is =
    let rest = λ (n : ℕ). code_from (drop (i + 1) decls) n in
    so ∙ ap (λ left. code ++ code_from left (length code)) (first-of decls i decl more here)
    ∙ appended decl.body code op.Return rest
    ∙ ap (λ code. code ++ rest (length code)) (sym is)

pub entry-next : (decls : List Decl) (whole entries : List Entry) (code after : List Op) (entry : Entry) (i : ℕ) (decl : Decl) → i < length decls → decl ≡ get_or decls i decl
    → whole ≡ entries ++ entries_from (drop i decls) (length code)
    → after ≡ (code ++ (layout decl.body).code (length code)) ++ op.Return ∷ []
    → entry ≡ (record { first = length code; params = decl.params; set = decl.set; skeleton = skeleton_of decl.body })
    → whole ≡ (entries ++ entry ∷ []) ++ entries_from (drop (i + 1) decls) (length after)
entry-next decls whole entries code after entry i decl more here so is made =
    let rest = λ (n : ℕ). entries_from (drop (i + 1) decls) n in
    so ∙ ap (λ left. entries ++ entries_from left (length code)) (first-of decls i decl more here)
    ∙ ap (λ (first : Entry). entries ++ first ∷ rest (length code + decl_length decl)) (sym made)
    ∙ ap (λ n. entries ++ entry ∷ rest n) (sym (ap length is ∙ grown decl.body code op.Return))
    ∙ sym (append_assoc entries (entry ∷ []) (rest (length after)))

pub length-next : (decls : List Decl) (code after : List Op) (i : ℕ) (decl : Decl) → i < length decls → decl ≡ get_or decls i decl
    → length code + length_of (drop i decls) ≡ length_of decls
    → after ≡ (code ++ (layout decl.body).code (length code)) ++ op.Return ∷ []
    → length after + length_of (drop (i + 1) decls) ≡ length_of decls
length-next decls code after i decl more here so is =
    omega (arith, so, ap length_of (first-of decls i decl more here), ap length is ∙ grown decl.body code op.Return)

pub decls-done : (decls : List Decl) (whole code : List Op) (i : ℕ) → length decls ≤ i
    → whole ≡ code ++ code_from (drop i decls) (length code) → code ≡ whole
decls-done decls whole code i over so =
    sym (so ∙ ap (λ left. code ++ code_from left (length code)) (drop-past' decls i over) ∙ append-none code)

pub entries-done : (decls : List Decl) (whole entries : List Entry) (p i : ℕ) → length decls ≤ i
    → whole ≡ entries ++ entries_from (drop i decls) p → entries ≡ whole
entries-done decls whole entries p i over so =
    sym (so ∙ ap (λ left. entries ++ entries_from left p) (drop-past' decls i over) ∙ append-none entries)

-- how many parts are named
named-some : (name : Option ℕ) → is_some name ≡ true → bindings_of name ≡ 1
named-some None so = cc
named-some (Some name) so = refl

named-none : (name : Option ℕ) → is_some name ≡ false → bindings_of name ≡ 0
named-none None so = refl
named-none (Some name) so = cc

module _ (parts : List Part) (whole count i : ℕ) (part : Part) (more : i < length parts) (here : part ≡ get_or parts i part)
    (so : whole ≡ count + named (map part_layout (drop i parts))) where
  first : named (map part_layout (drop i parts)) ≡ bindings_of part.name + named (map part_layout (drop (i + 1) parts))
  first = ap (λ left. named (map part_layout left)) (first-of parts i part more here)

  pub named-next : is_some part.name ≡ true → whole ≡ count + 1 + named (map part_layout (drop (i + 1) parts))
  named-next there = omega (arith, so, first, named-some part.name there)

  pub nameless-next : is_some part.name ≡ false → whole ≡ count + named (map part_layout (drop (i + 1) parts))
  nameless-next none = omega (arith, so, first, named-none part.name none)

pub named-done : (parts : List Part) (whole count i : ℕ) → length parts ≤ i → whole ≡ count + named (map part_layout (drop i parts)) → count ≡ whole
named-done parts whole count i over so = omega (arith, so, ap (λ left. named (map part_layout left)) (drop-past' parts i over))
