-- In the code of declarations that are well formed, all variables, calls and counts are there.
use Rattle.std.proofs.Common.{◌≡◌, ◌∙◌, sym, ap, refl, subst, arith, ℕ, suc, ◌+◌, true, false, ◌&&◌, nat_lt, List, [], ◌∷◌, ◌++◌, length, append_assoc, map, drop, Option, None, Some, option_map, slice_get}
use Rattle.std.specs.List.{list_all}
use Rattle.std.proofs.lemmas.Bool.{and_parts}
use Rattle.pads_expr.specs.declared.expr.Expr.{Expr}
use Rattle.pads_dispatch.specs.Labels.{labels_fit}
use Rattle.pads_calc.specs.declared.decl.Decl.{Decl}
use Rattle.pads_calc.specs.declared.term.Arm.{Arm}
use Rattle.pads_calc.specs.declared.term.Case.{Case}
use Rattle.pads_calc.specs.declared.term.Part.{Part}
use Rattle.pads_calc.specs.declared.term.Seq.{Seq}
use Rattle.pads_calc.specs.declared.term.Term.{Term}
use Rattle.pads_calc.specs.declared.term.Term.TheVariants as term
use Rattle.pads_module.specs.Counts.{few, counts_fit, option_counts, decl_counts}
use Rattle.pads_module.specs.Scopes.{in_scope, parts_in, arm_in, case_in, binding_of, bind_name, name_there, has_arity, exprs_in_scope, expr_in_scope, option_in_scope, option_term_in, decl_in_scope}
use Rattle.pads_module.proofs.CountRolls.{counts-Base, counts-Guard, counts-Absorb, counts-Scan, fit-parts, fit-arms, fit-cases, fit-elem, fit-sep, fit-stop}
use Rattle.pads_calc.proofs.Induction.{EachPart, EachArm, EachCase, WhereThere, InSeq, EachForm, each-term}
use Rattle.pads_module.proofs.TermRolls.{in-Base, in-Struct, in-Alt, in-Switch, in-Guard, in-Seq, in-Call, in-Compute, in-Absorb, in-Scan}
use Rattle.pads_image.specs.declared.op.Op.{Op}
use Rattle.pads_image.specs.declared.op.Op.TheVariants as op
use Rattle.pads_image.specs.Blocks.{Block, single, parts_code, named, bindings_of, struct_block, blocks, switch_block, layout, part_layout, case_layout, seq_layout}
use Rattle.pads_image.specs.Code.{code_from, decl_length}
use Rattle.pads_image.specs.Variables.{code_stands, op_stands, scope_after, is_return, next_params, later_params, is_closed, all_closed}
use Rattle.law_images.proofs.Closed.{both, closed, closed-all, closed-option}
use Rattle.pads_image.proofs.Layouts.{layout-Unit, layout-Base, layout-Lit, layout-Eor, layout-Struct, layout-Alt, layout-Switch, layout-Guard, layout-Seq, layout-Call, layout-Compute, layout-Absorb, layout-Scan}
use Rattle.law_images.proofs.StandingBlocks.{StandsIn, EachStands, OptionStands, stands-one, one, followed-stands, alt-stands, switch-stands, scan-stands, seq-stands}

module _ (names : ℕ) (arities : List ℕ) (later : List (List ℕ)) where
  abbrev Stands : Term → Type 0
  Stands t = (scope : List ℕ) → counts_fit t ≡ true → in_scope names arities t scope ≡ true → StandsIn arities later scope (layout t)

  by-layout : (t : Term) (b : Block) (scope : List ℕ) → layout t ≡ b → StandsIn arities later scope b → StandsIn arities later scope (layout t)
  by-layout t b scope is h = let P : Block → Type 0 = λ b. StandsIn arities later scope b in subst P (sym is) h

  -- a term of one instruction
  leaf : (t : Term) (instruction : Op) (scope : List ℕ) → layout t ≡ single instruction → is_return instruction ≡ false → scope_after instruction scope ≡ scope
      → op_stands arities instruction scope ≡ true → StandsIn arities later scope (layout t)
  leaf t instruction scope is on same stands = by-layout t (single instruction) scope is (λ p. one arities later scope instruction on same stands)

  -- the names behind a struct's parts
  abbrev names_behind : List Part → List ℕ → List ℕ
  names_behind [] scope = scope
  names_behind (part ∷ parts) scope = names_behind parts (bind_name part.name scope)

  drop-bound : (name : Option ℕ) (n : ℕ) (scope : List ℕ) → drop (bindings_of name + n) (bind_name name scope) ≡ drop n scope
  drop-bound None n scope = ap (λ n. drop n scope) (omega arith)
  drop-bound (Some name) n scope = let more : 1 + n ≡ suc n = omega arith in ap (λ n. drop n (name ∷ scope)) more

  drop-more : (parts : List Part) (n : ℕ) (scope : List ℕ) → drop (named (map part_layout parts) + n) (names_behind parts scope) ≡ drop n scope
  drop-more [] n scope = ap (λ n. drop n scope) (omega arith)
  drop-more (part ∷ parts) n scope =
      let m = named (map part_layout parts) in
      let same : bindings_of part.name + m + n ≡ m + (bindings_of part.name + n) = omega arith in
      ap (λ n. drop n (names_behind parts (bind_name part.name scope))) same
      ∙ drop-more parts (bindings_of part.name + n) (bind_name part.name scope)
      ∙ drop-bound part.name n scope

  drop-names : (parts : List Part) (scope : List ℕ) → drop (named (map part_layout parts)) (names_behind parts scope) ≡ scope
  drop-names parts scope =
      let m = named (map part_layout parts) in
      let same : m ≡ m + 0 = omega arith in
      ap (λ n. drop n (names_behind parts scope)) same ∙ drop-more parts 0 scope

  parts-stand : (parts : List Part) → EachPart Stands parts → list_all (λ part. counts_fit part.term) parts ≡ true
      → (scope : List ℕ) → parts_in (map (binding_of names arities) parts) scope ≡ true → (p : ℕ) (rest : List Op)
      → code_stands arities later scope (parts_code (map part_layout parts) p ++ rest) ≡ code_stands arities later (names_behind parts scope) rest
  parts-stand [] h fits scope bound p rest = refl
  parts-stand (part ∷ parts) h fits scope bound p rest =
      let b = layout part.term in
      let more = parts_code (map part_layout parts) (p + b.size + 1) in
      let f = and_parts (counts_fit part.term) (list_all (λ (part : Part). counts_fit part.term) parts) fits in
      let s = and_parts (in_scope names arities part.term scope) (parts_in (map (binding_of names arities) parts) (bind_name part.name scope)) bound in
      ap (λ code. code_stands arities later scope code) (append_assoc (b.code p) (op.Part part.name ∷ more) rest)
      ∙ h 0 part refl scope f.0 s.0 p (op.Part part.name ∷ (more ++ rest))
      ∙ stands-one arities later (op.Part part.name) scope (more ++ rest) refl refl
      ∙ parts-stand parts (λ n part there. h (suc n) part there) f.1 (bind_name part.name scope) s.1 (p + b.size + 1) rest

  struct-stands : (parts : List Part) → EachPart Stands parts → (scope : List ℕ) → counts_fit (term.Struct parts) ≡ true
      → in_scope names arities (term.Struct parts) scope ≡ true → StandsIn arities later scope (struct_block (map part_layout parts))
  struct-stands parts h scope fits bound p rest =
      let m = named (map part_layout parts) in
      let code = parts_code (map part_layout parts) (p + 1) in
      let inside = (and_parts (list_all (λ (part : Part). name_there names part.name) parts) (parts_in (map (binding_of names arities) parts) scope)
      (sym (in-Struct names arities parts scope) ∙ bound)).1 in
      stands-one arities later op.Open scope ((code ++ op.Close m ∷ []) ++ rest) refl refl
      ∙ ap (λ code. code_stands arities later scope code) (append_assoc code (op.Close m ∷ []) rest)
      ∙ parts-stand parts h (fit-parts parts fits) scope inside (p + 1) (op.Close m ∷ rest)
      ∙ stands-one arities later (op.Close m) (names_behind parts scope) rest refl refl
      ∙ ap (λ scope. code_stands arities later scope rest) (drop-names parts scope)

  guard-closed : (inner : Term) (binder : ℕ) (condition : Expr) (scope : List ℕ) → in_scope names arities (term.Guard inner binder condition) scope ≡ true
      → (in_scope names arities inner scope ≡ true) × (is_closed condition (binder ∷ scope) ≡ true)
  guard-closed inner binder condition scope bound =
      let all = and_parts (in_scope names arities inner scope && nat_lt binder names) (expr_in_scope names condition (binder ∷ scope))
      (sym (in-Guard names arities inner binder condition scope) ∙ bound) in
      let more = and_parts (in_scope names arities inner scope) (nat_lt binder names) all.0 in
      (more.0, closed names condition (binder ∷ scope) all.1)

  call-stands : (number : ℕ) (args : List Expr) (scope : List ℕ) → in_scope names arities (term.Call number args) scope ≡ true
      → (has_arity (slice_get arities number) (length args) && all_closed args scope) ≡ true
  call-stands number args scope bound =
      let all = and_parts (has_arity (slice_get arities number) (length args)) (exprs_in_scope names args scope) (sym (in-Call names arities number args scope) ∙ bound) in
      both (has_arity (slice_get arities number) (length args)) (all_closed args scope) all.0 (closed-all names args scope all.1)

  -- the branches of a union, and the cases of a switched one
  arms-stand : (arms : List Arm) → EachArm Stands arms → (scope : List ℕ) → list_all (λ arm. counts_fit arm.term) arms ≡ true
      → list_all (λ arm. arm_in names arities arm scope) arms ≡ true → EachStands arities later scope (map (λ arm. layout arm.term) arms)
  arms-stand [] h scope fits bound = tt
  arms-stand (arm ∷ arms) h scope fits bound =
      let f = and_parts (counts_fit arm.term) (list_all (λ (arm : Arm). counts_fit arm.term) arms) fits in
      let s = and_parts (arm_in names arities arm scope) (list_all (λ (arm : Arm). arm_in names arities arm scope) arms) bound in
      let inside = (and_parts (nat_lt arm.name names) (in_scope names arities arm.term scope) s.0).1 in
      (h 0 arm refl scope f.0 inside, arms-stand arms (λ n arm there. h (suc n) arm there) scope f.1 s.1)

  cases-stand : (cases : List Case) → EachCase Stands cases → (scope : List ℕ) → list_all (λ case. counts_fit case.arm.term) cases ≡ true
      → list_all (λ case. case_in names arities case scope) cases ≡ true → EachStands arities later scope (blocks (map case_layout cases))
  cases-stand [] h scope fits bound = tt
  cases-stand (case ∷ cases) h scope fits bound =
      let f = and_parts (counts_fit case.arm.term) (list_all (λ (case : Case). counts_fit case.arm.term) cases) fits in
      let s = and_parts (case_in names arities case scope) (list_all (λ (case : Case). case_in names arities case scope) cases) bound in
      let inside = (and_parts (nat_lt case.arm.name names) (in_scope names arities case.arm.term scope) s.0).1 in
      (h 0 case refl scope f.0 inside, cases-stand cases (λ n case there. h (suc n) case there) scope f.1 s.1)

  switch-stands-in : (e : Expr) (cases : List Case) → EachCase Stands cases → (scope : List ℕ) → counts_fit (term.Switch e cases) ≡ true
      → in_scope names arities (term.Switch e cases) scope ≡ true → StandsIn arities later scope (switch_block e (map case_layout cases))
  switch-stands-in e cases h scope fits bound =
      let inside = and_parts (expr_in_scope names e scope) (list_all (λ (case : Case). case_in names arities case scope) cases) (sym (in-Switch names arities e cases scope) ∙ bound) in
      switch-stands arities later scope e (map case_layout cases) (closed names e scope inside.0) (cases-stand cases h scope (fit-cases e cases fits) inside.1)

  -- the separator or the terminator of an array
  option-stands : (o : Option Term) → WhereThere Stands o → (scope : List ℕ) → option_counts o ≡ true → option_term_in names arities o scope ≡ true
      → OptionStands arities later scope (option_map layout o)
  option-stands None h scope fits bound = tt
  option-stands (Some t) h scope fits bound = h t refl scope fits bound

  seq-stands-in : (s : Seq) → InSeq Stands s → (scope : List ℕ) → counts_fit (term.Seq s) ≡ true → in_scope names arities (term.Seq s) scope ≡ true
      → StandsIn arities later scope (seq_layout s)
  seq-stands-in s h scope fits bound =
      let elem = in_scope names arities s.elem scope in
      let sep = option_term_in names arities s.sep scope in
      let stop = option_term_in names arities s.stop scope in
      let size = option_in_scope names s.size scope in
      let last = option_in_scope names s.last (s.elts ∷ scope) in
      let a = and_parts (elem && sep && stop && nat_lt s.elts names && size) last (sym (in-Seq names arities s scope) ∙ bound) in
      let b = and_parts (elem && sep && stop && nat_lt s.elts names) size a.0 in
      let c = and_parts (elem && sep && stop) (nat_lt s.elts names) b.0 in
      let d = and_parts (elem && sep) stop c.0 in
      let e = and_parts elem sep d.0 in
      seq-stands arities later scope (option_map layout s.stop) (option_map layout s.sep) (layout s.elem)
      (option-stands s.stop h.stop scope (fit-stop s fits) d.1) (option-stands s.sep h.sep scope (fit-sep s fits) e.1) (h.elem scope (fit-elem s fits) e.0)
      s.size s.last s.elts (closed-option names s.size scope b.1) (closed-option names s.last (s.elts ∷ scope) a.1)

  stands-forms : EachForm Stands
  stands-forms = record {
    of_unit = λ scope fits bound. leaf term.Unit op.Unit scope layout-Unit refl refl refl;
    of_base = λ base args scope fits bound. leaf (term.Base base args) (op.Base base args) scope (layout-Base base args) refl refl
        (both (labels_fit base) (all_closed args scope) (sym (counts-Base base args) ∙ fits) (closed-all names args scope (sym (in-Base names arities base args scope) ∙ bound)));
    of_lit = λ literal scope fits bound. leaf (term.Lit literal) (op.Lit literal) scope (layout-Lit literal) refl refl refl;
    of_eor = λ scope fits bound. leaf term.Eor op.Eor scope layout-Eor refl refl refl;
    of_struct = λ parts h scope fits bound. by-layout _ _ scope (layout-Struct parts) (struct-stands parts h scope fits bound);
    of_alt = λ arms h scope fits bound. by-layout _ _ scope (layout-Alt arms) (alt-stands arities later scope (map (λ (arm : Arm). layout arm.term) arms)
        (arms-stand arms h scope (fit-arms arms fits) (sym (in-Alt names arities arms scope) ∙ bound)));
    of_switch = λ e cases h scope fits bound. by-layout _ _ scope (layout-Switch e cases) (switch-stands-in e cases h scope fits bound);
    of_guard = λ inner binder condition h scope fits bound.
        let inside = guard-closed inner binder condition scope bound in
        by-layout _ _ scope (layout-Guard inner binder condition) (followed-stands arities later scope (layout inner) (op.Guard binder condition)
        (h scope (sym (counts-Guard inner binder condition) ∙ fits) inside.0) (one arities later scope (op.Guard binder condition) refl refl inside.1));
    of_seq = λ s h scope fits bound. by-layout _ _ scope (layout-Seq s) (seq-stands-in s h scope fits bound);
    of_call = λ number args scope fits bound. leaf (term.Call number args) (op.Call number args) scope (layout-Call number args) refl refl (call-stands number args scope bound);
    of_compute = λ e form scope fits bound. leaf (term.Compute e form) (op.Compute e form) scope (layout-Compute e form) refl refl
        (closed names e scope (sym (in-Compute names arities e form scope) ∙ bound));
    of_absorb = λ inner h scope fits bound. by-layout _ _ scope (layout-Absorb inner) (followed-stands arities later scope (layout inner) op.Absorb
        (h scope (sym (counts-Absorb inner) ∙ fits) (sym (in-Absorb names arities inner scope) ∙ bound)) (one arities later scope op.Absorb refl refl refl));
    of_scan = λ inner h scope fits bound. by-layout _ _ scope (layout-Scan inner) (scan-stands arities later scope (layout inner)
        (h scope (sym (counts-Scan inner) ∙ fits) (sym (in-Scan names arities inner scope) ∙ bound)));
  }

  pub stands : (t : Term) → Stands t
  stands = each-term Stands stands-forms

-- the parameters of declarations
abbrev pub params_in : List Decl → List (List ℕ)
params_in decls = map (λ decl. decl.params) decls

return-stands : (arities : List ℕ) (later : List (List ℕ)) (scope : List ℕ) (rest : List Op)
    → code_stands arities later scope (op.Return ∷ rest) ≡ code_stands arities (later_params later) (next_params later) rest
unfolding code_stands
return-stands arities later scope rest = refl

none-stand : (arities : List ℕ) (later : List (List ℕ)) (scope : List ℕ) → code_stands arities later scope [] ≡ true
unfolding code_stands
none-stand arities later scope = refl

pub decls-stand : (names : ℕ) (arities : List ℕ) (decls : List Decl) → list_all decl_counts decls ≡ true → list_all (decl_in_scope names arities) decls ≡ true
    → (p : ℕ) → code_stands arities (later_params (params_in decls)) (next_params (params_in decls)) (code_from decls p) ≡ true
decls-stand names arities [] fits bound p = none-stand arities [] []
decls-stand names arities (decl ∷ decls) fits bound p =
    let b = layout decl.body in
    let rest = code_from decls (p + decl_length decl) in
    let f = and_parts (decl_counts decl) (list_all decl_counts decls) fits in
    let s = and_parts (decl_in_scope names arities decl) (list_all (decl_in_scope names arities) decls) bound in
    let inside = and_parts (nat_lt decl.name names && list_all (λ name. nat_lt name names) decl.params) (in_scope names arities decl.body decl.params) s.0 in
    stands names arities (params_in decls) decl.body decl.params (and_parts (few decl.params) (counts_fit decl.body) f.0).1 inside.1 p (op.Return ∷ rest)
    ∙ return-stands arities (params_in decls) decl.params rest
    ∙ decls-stand names arities decls f.1 s.1 (p + decl_length decl)
