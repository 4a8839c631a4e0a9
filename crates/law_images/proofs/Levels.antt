-- Heights and needs over code: what a need over it bounds at each of its instructions. Where the code of the
-- terms in a form leaves the height as it was, the form's does.
use Rattle.std.proofs.Common.{◌≡◌, ◌∙◌, ap, refl, subst, arith, ℕ, suc, ◌+◌, ◌-◌, ◌≤◌, max, Bool, false, if◌then◌else◌, List, [], ◌∷◌, ◌++◌, map, Option, Some, None, slice_get}
use Rattle.std.specs.Prelude.{⊤}
use Rattle.pads_expr.specs.declared.expr.Expr.{Expr}
use Rattle.pads_calc.specs.declared.term.Part.{Part}
use Rattle.pads_image.specs.declared.op.Op.{Op}
use Rattle.pads_image.specs.declared.op.Op.TheVariants as op
use Rattle.pads_image.specs.Blocks.{Block, CaseBlock, bindings_of, single, followed, parts_code, named, struct_block, arms_code, arms_size, alt_block, blocks, switch_block, scan_block, stop_code, sep_code, edge_at, elem_at, shut_at, seq_code, layout, part_layout}
use Rattle.pads_image.specs.Heights.{Deeper, later_arities, needs_from, next_arity, height_after, entries_at}
use Rattle.pads_image.specs.Variables.{is_return}
use Rattle.pads_image.proofs.Needs.{needs-cons}

module _ (deeper : Deeper) (most : ℕ) where
  -- at no instruction are there more entries than `most`, over those below the declaration's own
  abbrev pub AllBelow : ℕ → ℕ → List Op → Type 0
  AllBelow below h [] = ⊤
  AllBelow below h (instruction ∷ ops) = (below + entries_at deeper instruction h ≤ most) × AllBelow below (height_after instruction h) ops

  abbrev pub height_behind : List Op → ℕ → ℕ
  height_behind [] h = h
  height_behind (instruction ∷ ops) h = height_behind ops (height_after instruction h)

  pub below-left : (xs ys : List Op) (below h : ℕ) → AllBelow below h (xs ++ ys) → AllBelow below h xs
  below-left [] ys below h all = tt
  below-left (x ∷ xs) ys below h all = (all.0, below-left xs ys below (height_after x h) all.1)

  pub below-right : (xs ys : List Op) (below h g : ℕ) → height_behind xs h ≡ g → AllBelow below h (xs ++ ys) → AllBelow below g ys
  below-right [] ys below h g same all = subst (λ h. AllBelow below h ys) same all
  below-right (x ∷ xs) ys below h g same all = below-right xs ys below (height_after x h) g same all.1

  pub behind-append : (xs ys : List Op) (h : ℕ) → height_behind (xs ++ ys) h ≡ height_behind ys (height_behind xs h)
  behind-append [] ys h = refl
  behind-append (x ∷ xs) ys h = behind-append xs ys (height_after x h)

  -- the greatest number over some code, from one so far
  abbrev pub peak : List Op → ℕ → ℕ → ℕ
  peak [] h largest = largest
  peak (instruction ∷ ops) h largest = peak ops (height_after instruction h) (max largest (entries_at deeper instruction h))

  peak-grows : (ops : List Op) (h largest : ℕ) → largest ≤ peak ops h largest
  peak-grows [] h largest = omega arith
  peak-grows (instruction ∷ ops) h largest = omega (arith, peak-grows ops (height_after instruction h) (max largest (entries_at deeper instruction h)))

  pub peak-below : (ops : List Op) (below h largest : ℕ) → below + peak ops h largest ≤ most → AllBelow below h ops
  peak-below [] below h largest fits = tt
  peak-below (instruction ∷ ops) below h largest fits =
      let next = max largest (entries_at deeper instruction h) in
      (omega (arith, peak-grows ops (height_after instruction h) next, fits), peak-below ops below (height_after instruction h) next fits)

  -- code without the end of a declaration
  abbrev pub NoReturn : List Op → Type 0
  NoReturn [] = ⊤
  NoReturn (instruction ∷ ops) = (is_return instruction ≡ false) × NoReturn ops

  none-append : (xs ys : List Op) → NoReturn xs → NoReturn ys → NoReturn (xs ++ ys)
  none-append [] ys a b = b
  none-append (x ∷ xs) ys a b = (a.0, none-append xs ys a.1 b)

  pub needs-behind : (ops rest : List Op) (later : List ℕ) (h largest : ℕ) → NoReturn ops
      → needs_from deeper later h largest (ops ++ rest) ≡ needs_from deeper later (height_behind ops h) (peak ops h largest) rest
  needs-behind [] rest later h largest none = refl
  needs-behind (instruction ∷ ops) rest later h largest none =
      let next = max largest (entries_at deeper instruction h) in
      needs-cons deeper later h largest instruction (ops ++ rest)
      ∙ ap (λ (b : Bool). if b then max largest h ∷ needs_from deeper (later_arities later) (next_arity later) 0 (ops ++ rest)
      else needs_from deeper later (height_after instruction h) next (ops ++ rest)) none.0
      ∙ needs-behind ops rest later (height_after instruction h) next none.1

  -- code that leaves the height as it was
  pub record Levelled (b : Block) : Type 0 where
    pub level : (p h : ℕ) → height_behind (b.code p) h ≡ h
    pub none : (p : ℕ) → NoReturn (b.code p)

  height-on : (xs ys : List Op) (h g k : ℕ) → height_behind xs h ≡ g → height_behind ys g ≡ k → height_behind (xs ++ ys) h ≡ k
  height-on xs ys h g k left right = behind-append xs ys h ∙ ap (λ h. height_behind ys h) left ∙ right

  pub one-level : (instruction : Op) → ((h : ℕ) → height_after instruction h ≡ h) → is_return instruction ≡ false → Levelled (single instruction)
  one-level instruction same on = record { level = λ p h. same h; none = λ p. (on, tt) }

  pub followed-level : (b : Block) (instruction : Op) → Levelled b → ((h : ℕ) → height_after instruction h ≡ h) → is_return instruction ≡ false → Levelled (followed b instruction)
  followed-level b instruction inner same on = record {
    level = λ p h. behind-append (b.code p) (instruction ∷ []) h ∙ ap (height_after instruction) (inner.level p h) ∙ same h;
    none = λ p. none-append (b.code p) (instruction ∷ []) (inner.none p) (on, tt);
  }

  pub parts-level : (parts : List Part) → ((n : ℕ) (part : Part) → slice_get parts n ≡ Some part → Levelled (layout part.term)) → (p h : ℕ)
      → height_behind (parts_code (map part_layout parts) p) h ≡ h + named (map part_layout parts)
  parts-level [] each p h = omega arith
  parts-level (part ∷ parts) each p h =
      let b = layout part.term in
      let rest = parts_code (map part_layout parts) (p + b.size + 1) in
      behind-append (b.code p) (op.Part part.name ∷ rest) h
      ∙ ap (λ h. height_behind rest (h + bindings_of part.name)) ((each 0 part refl).level p h)
      ∙ parts-level parts (λ n part there. each (suc n) part there) (p + b.size + 1) (h + bindings_of part.name)
      ∙ (omega arith)

  parts-none : (parts : List Part) → ((n : ℕ) (part : Part) → slice_get parts n ≡ Some part → Levelled (layout part.term)) → (p : ℕ)
      → NoReturn (parts_code (map part_layout parts) p)
  parts-none [] each p = tt
  parts-none (part ∷ parts) each p =
      let b = layout part.term in
      none-append (b.code p) (op.Part part.name ∷ parts_code (map part_layout parts) (p + b.size + 1)) ((each 0 part refl).none p)
      (refl, parts-none parts (λ n part there. each (suc n) part there) (p + b.size + 1))

  pub struct-level : (parts : List Part) → ((n : ℕ) (part : Part) → slice_get parts n ≡ Some part → Levelled (layout part.term)) → Levelled (struct_block (map part_layout parts))
  struct-level parts each = record {
    level = λ p h.
        let code = parts_code (map part_layout parts) (p + 1) in
        let m = named (map part_layout parts) in
        let same : h + 1 + m - (m + 1) ≡ h = omega arith in
        behind-append code (op.Close m ∷ []) (h + 1) ∙ ap (λ h. h - (m + 1)) (parts-level parts each (p + 1) (h + 1)) ∙ same;
    none = λ p.
        let code = parts_code (map part_layout parts) (p + 1) in
        (refl, none-append code (op.Close (named (map part_layout parts)) ∷ []) (parts-none parts each (p + 1)) (refl, tt));
  }

  -- branches, each with one instruction behind it
  abbrev pub AllLevelled : List Block → Type 0
  AllLevelled [] = ⊤
  AllLevelled (b ∷ bs) = Levelled b × AllLevelled bs

  module _ (after : ℕ → Op) (same : (number h : ℕ) → height_after (after number) h ≡ h) (on : (number : ℕ) → is_return (after number) ≡ false) where
    arms-level : (arms : List Block) → AllLevelled arms → (number p h : ℕ) → height_behind (arms_code after arms number p) h ≡ h
    arms-level [] each number p h = refl
    arms-level (b ∷ arms) each number p h =
        let rest = arms_code after arms (number + 1) (p + b.size + 1) in
        height-on (b.code p) (after number ∷ rest) h h h (each.0.level p h)
        (ap (λ h. height_behind rest h) (same number h) ∙ arms-level arms each.1 (number + 1) (p + b.size + 1) h)

    arms-none : (arms : List Block) → AllLevelled arms → (number p : ℕ) → NoReturn (arms_code after arms number p)
    arms-none [] each number p = tt
    arms-none (b ∷ arms) each number p =
        none-append (b.code p) (after number ∷ arms_code after arms (number + 1) (p + b.size + 1)) (each.0.none p)
        (on number, arms-none arms each.1 (number + 1) (p + b.size + 1))

  pub tries-level : (end : ℕ) (arms : List Block) → AllLevelled arms → (number p h : ℕ) → height_behind (arms_code (λ number. op.Try number end) arms number p) h ≡ h
  tries-level end = arms-level (λ number. op.Try number end) (λ number h. refl) (λ number. refl)

  pub alt-level : (arms : List Block) → AllLevelled arms → Levelled (alt_block arms)
  alt-level arms each = record {
    level = λ p h.
        let end = p + (2 + arms_size arms) in
        let back : h + 1 - 1 ≡ h = omega arith in
        height-on (arms_code (λ number. op.Try number end) arms 0 (p + 1)) (op.NoArm ∷ []) (h + 1) (h + 1) h (tries-level end arms each 0 (p + 1) (h + 1)) back;
    none = λ p.
        let end = p + (2 + arms_size arms) in
        let after : ℕ → Op = λ number. op.Try number end in
        (refl, none-append (arms_code after arms 0 (p + 1)) (op.NoArm ∷ []) (arms-none after (λ number h. refl) (λ number. refl) arms each 0 (p + 1)) (refl, tt));
  }

  pub switch-level : (e : Expr) (cases : List CaseBlock) → AllLevelled (blocks cases) → Levelled (switch_block e cases)
  switch-level e cases each = record {
    level = λ p h.
        let end = p + (1 + arms_size (blocks cases)) in
        arms-level (λ number. op.Arm number end) (λ number h. refl) (λ number. refl) (blocks cases) each 0 (p + 1) h;
    none = λ p.
        let end = p + (1 + arms_size (blocks cases)) in
        (refl, arms-none (λ number. op.Arm number end) (λ number h. refl) (λ number. refl) (blocks cases) each 0 (p + 1));
  }

  pub scan-level : (b : Block) → Levelled b → Levelled (scan_block b)
  scan-level b inner = record {
    level = λ p h.
        let back : h + 1 - 1 ≡ h = omega arith in
        height-on (b.code (p + 1)) (op.ScanOn (p + 1) ∷ []) (h + 1) (h + 1) h (inner.level (p + 1) (h + 1)) back;
    none = λ p. (refl, none-append (b.code (p + 1)) (op.ScanOn (p + 1) ∷ []) (inner.none (p + 1)) (refl, tt));
  }

  -- arrays
  abbrev pub OptionLevelled : Option Block → Type 0
  OptionLevelled None = ⊤
  OptionLevelled (Some b) = Levelled b

  pub stop-level : (o : Option Block) → OptionLevelled o → (shut p h : ℕ) → height_behind (stop_code o shut p) h ≡ h
  stop-level None each shut p h = refl
  stop-level (Some b) each shut p h =
      let back : h + 1 - 1 ≡ h = omega arith in
      height-on (b.code (p + 1)) (op.Stop shut ∷ []) (h + 1) (h + 1) h (each.level (p + 1) (h + 1)) back

  stop-none : (o : Option Block) → OptionLevelled o → (shut p : ℕ) → NoReturn (stop_code o shut p)
  stop-none None each shut p = tt
  stop-none (Some b) each shut p = (refl, none-append (b.code (p + 1)) (op.Stop shut ∷ []) (each.none (p + 1)) (refl, tt))

  pub sep-level : (o : Option Block) → OptionLevelled o → (shut p h : ℕ) → height_behind (sep_code o shut p) h ≡ h
  sep-level None each shut p h = refl
  sep-level (Some b) each shut p h = height-on (b.code p) (op.Sep shut ∷ []) h h h (each.level p h) refl

  sep-none : (o : Option Block) → OptionLevelled o → (shut p : ℕ) → NoReturn (sep_code o shut p)
  sep-none None each shut p = tt
  sep-none (Some b) each shut p = none-append (b.code p) (op.Sep shut ∷ []) (each.none p) (refl, tt)

  module _ (stop sep : Option Block) (elem : Block) (of_stop : OptionLevelled stop) (of_sep : OptionLevelled sep) (of_elem : Levelled elem) (size last : Option Expr) (elts : ℕ) where
    pub seq-height : (p h : ℕ) → height_behind (seq_code stop sep elem p size last elts) h ≡ h
    seq-height p h =
        let shut = shut_at stop sep elem p in
        let first = op.Size size (shut + 1) ∷ op.Full last elts shut ∷ stop_code stop shut (p + 2) in
        let second = op.Edge shut ∷ op.Turn (elem_at stop sep elem p) ∷ sep_code sep shut (edge_at stop sep elem p + 2) in
        let third = elem.code (elem_at stop sep elem p) in
        let back : h + 1 + 1 - 1 - 1 ≡ h = omega arith in
        height-on ((first ++ second) ++ third) (op.Elem shut (p + 1) ∷ op.Shut ∷ []) h (h + 1 + 1) h
        (height-on (first ++ second) third h (h + 1 + 1) (h + 1 + 1)
        (height-on first second h (h + 1) (h + 1 + 1) (stop-level stop of_stop shut (p + 2) (h + 1)) (sep-level sep of_sep shut (edge_at stop sep elem p + 2) (h + 1 + 1)))
        (of_elem.level (elem_at stop sep elem p) (h + 1 + 1)))
        back

    pub seq-none : (p : ℕ) → NoReturn (seq_code stop sep elem p size last elts)
    seq-none p =
        let shut = shut_at stop sep elem p in
        let first = op.Size size (shut + 1) ∷ op.Full last elts shut ∷ stop_code stop shut (p + 2) in
        let second = op.Edge shut ∷ op.Turn (elem_at stop sep elem p) ∷ sep_code sep shut (edge_at stop sep elem p + 2) in
        let third = elem.code (elem_at stop sep elem p) in
        none-append ((first ++ second) ++ third) (op.Elem shut (p + 1) ∷ op.Shut ∷ [])
        (none-append (first ++ second) third
        (none-append first second (refl, (refl, stop-none stop of_stop shut (p + 2))) (refl, (refl, sep-none sep of_sep shut (edge_at stop sep elem p + 2))))
        (of_elem.none (elem_at stop sep elem p)))
        (refl, (refl, tt))
