-- Pieces of code that say nothing wrong and leave the names that are bound as they were.
use Rattle.std.proofs.Common.{◌≡◌, ◌∙◌, ap, refl, ℕ, ◌+◌, Bool, true, false, ◌&&◌, List, [], ◌∷◌, ◌++◌, append_assoc, Option, None, Some, if◌then◌else◌}
use Rattle.pads_expr.specs.declared.expr.Expr.{Expr}
use Rattle.pads_image.specs.declared.op.Op.{Op}
use Rattle.pads_image.specs.declared.op.Op.TheVariants as op
use Rattle.pads_image.specs.Blocks.{Block, CaseBlock, followed, arms_size, arms_code, alt_block, blocks, targets, switch_block, scan_block, stop_code, sep_code, edge_at, elem_at, shut_at, seq_code}
use Rattle.pads_image.specs.Variables.{code_stands, op_stands, scope_after, is_return, next_params, later_params, is_closed, option_closed}

module _ (arities : List ℕ) (later : List (List ℕ)) where
  -- code behind an instruction that says nothing wrong
  pub stands-one : (instruction : Op) (scope : List ℕ) (rest : List Op) → is_return instruction ≡ false → op_stands arities instruction scope ≡ true
      → code_stands arities later scope (instruction ∷ rest) ≡ code_stands arities later (scope_after instruction scope) rest
  unfolding code_stands
  stands-one instruction scope rest on stands =
      ap (λ (b : Bool). if b then code_stands arities (later_params later) (next_params later) rest
      else op_stands arities instruction scope && code_stands arities later (scope_after instruction scope) rest) on
      ∙ ap (λ b. b && code_stands arities later (scope_after instruction scope) rest) stands

  module _ (scope : List ℕ) where
    abbrev pub CodeStands : List Op → Type 0
    CodeStands code = (rest : List Op) → code_stands arities later scope (code ++ rest) ≡ code_stands arities later scope rest

    -- a block, wherever it begins
    abbrev pub StandsIn : Block → Type 0
    StandsIn b = (p : ℕ) → CodeStands (b.code p)

    abbrev pub EachStands : List Block → Type 0
    EachStands [] = Unit {0}
    EachStands (b ∷ bs) = StandsIn b × EachStands bs

    abbrev pub OptionStands : Option Block → Type 0
    OptionStands None = Unit {0}
    OptionStands (Some b) = StandsIn b

    pub one : (instruction : Op) → is_return instruction ≡ false → scope_after instruction scope ≡ scope → op_stands arities instruction scope ≡ true → CodeStands (instruction ∷ [])
    one instruction on same stands rest = stands-one instruction scope rest on stands ∙ ap (λ scope. code_stands arities later scope rest) same

    joined : (xs ys : List Op) → CodeStands xs → CodeStands ys → CodeStands (xs ++ ys)
    joined xs ys h k rest = ap (λ code. code_stands arities later scope code) (append_assoc xs ys rest) ∙ h (ys ++ rest) ∙ k rest

    -- an instruction, and the code behind it
    before : (instruction : Op) (code : List Op) → CodeStands (instruction ∷ []) → CodeStands code → CodeStands (instruction ∷ code)
    before instruction code h k = joined (instruction ∷ []) code h k

    pub followed-stands : (b : Block) (instruction : Op) → StandsIn b → CodeStands (instruction ∷ []) → StandsIn (followed b instruction)
    followed-stands b instruction h k p = joined (b.code p) (instruction ∷ []) (h p) k

    arms-stand : (behind : ℕ → Op) → ((number : ℕ) → CodeStands (behind number ∷ [])) → (bs : List Block) → EachStands bs → (number p : ℕ) → CodeStands (arms_code behind bs number p)
    arms-stand behind quiet [] h number p = λ rest. refl
    arms-stand behind quiet (b ∷ bs) h number p =
        let more = arms_code behind bs (number + 1) (p + b.size + 1) in
        joined (b.code p) (behind number ∷ more) (h.0 p) (before (behind number) more (quiet number) (arms-stand behind quiet bs h.1 (number + 1) (p + b.size + 1)))

    pub alt-stands : (bs : List Block) → EachStands bs → StandsIn (alt_block bs)
    alt-stands bs h p =
        let end = p + (2 + arms_size bs) in
        let code = arms_code (λ number. op.Try number end) bs 0 (p + 1) in
        before op.Mark (code ++ op.NoArm ∷ []) (one op.Mark refl refl refl)
        (joined code (op.NoArm ∷ []) (arms-stand (λ number. op.Try number end) (λ number. one (op.Try number end) refl refl refl) bs h 0 (p + 1)) (one op.NoArm refl refl refl))

    pub switch-stands : (e : Expr) (cases : List CaseBlock) → is_closed e scope ≡ true → EachStands (blocks cases) → StandsIn (switch_block e cases)
    switch-stands e cases bound h p =
        let end = p + (1 + arms_size (blocks cases)) in
        let first = op.Switch e (targets cases (p + 1)) end in
        before first (arms_code (λ number. op.Arm number end) (blocks cases) 0 (p + 1)) (one first refl refl bound)
        (arms-stand (λ number. op.Arm number end) (λ number. one (op.Arm number end) refl refl refl) (blocks cases) h 0 (p + 1))

    pub scan-stands : (b : Block) → StandsIn b → StandsIn (scan_block b)
    scan-stands b h p =
        let code = b.code (p + 1) in
        let end = op.ScanOn (p + 1) in
        before op.ScanFrom (code ++ end ∷ []) (one op.ScanFrom refl refl refl) (joined code (end ∷ []) (h (p + 1)) (one end refl refl refl))

    stop-stands : (o : Option Block) → OptionStands o → (shut p : ℕ) → CodeStands (stop_code o shut p)
    stop-stands None h shut p = λ rest. refl
    stop-stands (Some b) h shut p =
        let code = b.code (p + 1) in
        let end = op.Stop shut in
        before op.Mark (code ++ end ∷ []) (one op.Mark refl refl refl) (joined code (end ∷ []) (h (p + 1)) (one end refl refl refl))

    sep-stands : (o : Option Block) → OptionStands o → (shut p : ℕ) → CodeStands (sep_code o shut p)
    sep-stands None h shut p = λ rest. refl
    sep-stands (Some b) h shut p = joined (b.code p) (op.Sep shut ∷ []) (h p) (one (op.Sep shut) refl refl refl)

    pub seq-stands : (stop sep : Option Block) (elem : Block) → OptionStands stop → OptionStands sep → StandsIn elem → (size last : Option Expr) (elts : ℕ)
        → option_closed size scope ≡ true → option_closed last (elts ∷ scope) ≡ true → (p : ℕ) → CodeStands (seq_code stop sep elem p size last elts)
    seq-stands stop sep elem h k l size last elts sizes lasts p =
        let edge = edge_at stop sep elem p in
        let from = elem_at stop sep elem p in
        let shut = shut_at stop sep elem p in
        let first = op.Size size (shut + 1) in
        let second = op.Full last elts shut in
        let stops = stop_code stop shut (p + 2) in
        let seps = sep_code sep shut (edge + 2) in
        let again = op.Elem shut (p + 1) in
        let begins = before first (second ∷ stops) (one first refl refl sizes) (before second stops (one second refl refl lasts) (stop-stands stop h shut (p + 2))) in
        let turns = before (op.Edge shut) (op.Turn from ∷ seps) (one (op.Edge shut) refl refl refl) (before (op.Turn from) seps (one (op.Turn from) refl refl refl) (sep-stands sep k shut (edge + 2))) in
        let ends = before again (op.Shut ∷ []) (one again refl refl refl) (one op.Shut refl refl refl) in
        joined (((first ∷ second ∷ stops) ++ (op.Edge shut ∷ op.Turn from ∷ seps)) ++ elem.code from) (again ∷ op.Shut ∷ [])
        (joined ((first ∷ second ∷ stops) ++ (op.Edge shut ∷ op.Turn from ∷ seps)) (elem.code from)
        (joined (first ∷ second ∷ stops) (op.Edge shut ∷ op.Turn from ∷ seps) begins turns) (l from)) ends
