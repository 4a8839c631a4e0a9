use Rattle.std.proofs.lemmas.Result.{on_ok_weaker}
use Rattle.std.proofs.Common.{◌≡◌, ◌∙◌, sym, ap, refl, subst, arith, true, ℕ, ◌<◌, ◌≤◌, ◌+◌, ◌*◌, ◌++◌, ◌∷◌, [], List, length, map, option_map}
use denote.Param.Weighed.{most}
use Rattle.pads_calc.specs.declared.term.Arm.{Arm, size-Arm}
use Rattle.pads_calc.specs.declared.term.Case.{Case, size-Case}
use Rattle.pads_calc.specs.declared.term.Part.{size-Part}
use Rattle.pads_calc.specs.declared.term.Seq.{Seq, size-Seq}
use Rattle.pads_calc.specs.declared.term.Term.{Term, size-Term}
use Rattle.pads_calc.specs.declared.term.Term.TheVariants as term
use Rattle.pads_calc.proofs.Sizes.{size-Struct, size-Alt, size-Switch, size-Guard, size-of_Seq, size-elem, size-Absorb, size-Scan}
use Rattle.pads_module.specs.Counts.{counts_fit}
use Rattle.pads_module.proofs.CountRolls.{few-parts, fit-parts, few-arms, fit-arms, few-cases, fit-cases, fit-elem, fit-sep, fit-stop, counts-Guard, counts-Absorb, counts-Scan}
use Rattle.pads_image.specs.declared.op.Op.{Op}
use Rattle.pads_image.specs.declared.op.Op.TheVariants as op
use Rattle.pads_image.specs.Blocks.{layout, part_layout, case_layout, parts_code, arms_code, arms_size, elem_at, shut_at}
use Rattle.pads_image.specs.Validity.{longest}
use Rattle.pads_compile.proofs.Appended.{part-next, parts-left, branch-next, branches-left, branches-done, branch_code, blocks-are}
use Rattle.pads_compile.proofs.ArrayCode.{elem_code, turn-place, elem-place, made}
use Rattle.pads_compile.proofs.Sums as sums
use Rattle.pads_compile.proofs.Weights.{option_weight, sep-falls}
use Rattle.pads_compile.proofs.emit.+emit.Goals as goal

-- a term's form: what falls, what is counted, and what its code takes
pub emit-emit_struct-requires : goal.emit-emit_struct-requires
emit-emit_struct-requires t c =
    let parts = c.as_slice-in-Struct.result.now in
    let is : c.args.term.now ≡ term.Struct parts = c.in-Struct.is ∙ ap term.Struct (sym c.as_slice-in-Struct.ensures.items) in
    let smaller : most size-Part parts < size-Term c.args.term.now = subst (λ (x : Term). most size-Part parts < size-Term x) (sym is) (size-Struct parts) in
    let falls : 4 * most size-Part parts + 2 < t = omega (arith, smaller, c.decreases) in
    let counted : counts_fit (term.Struct parts) ≡ true = ap counts_fit (sym is) ∙ c.requires.counts in
    let takes = ap (λ (x : Term). (layout x).size) is ∙ sums.size-Struct parts in
    (falls, (few-parts parts counted, (fit-parts parts counted, omega (arith, c.requires.short, takes))))

pub emit-emit_alt-requires : goal.emit-emit_alt-requires
emit-emit_alt-requires t c =
    let arms = c.as_slice-in-Alt.result.now in
    let is : c.args.term.now ≡ term.Alt arms = c.in-Alt.is ∙ ap term.Alt (sym c.as_slice-in-Alt.ensures.items) in
    let smaller : most size-Arm arms < size-Term c.args.term.now = subst (λ (x : Term). most size-Arm arms < size-Term x) (sym is) (size-Alt arms) in
    let falls : 4 * most size-Arm arms + 2 < t = omega (arith, smaller, c.decreases) in
    let counted : counts_fit (term.Alt arms) ≡ true = ap counts_fit (sym is) ∙ c.requires.counts in
    let takes = ap (λ (x : Term). (layout x).size) is ∙ sums.size-Alt arms in
    (falls, (few-arms arms counted, (fit-arms arms counted, omega (arith, c.requires.short, takes))))

pub emit-emit_switch-requires : goal.emit-emit_switch-requires
emit-emit_switch-requires t c =
    let e = c.in-Switch.e in
    let cases = c.as_slice-in-Switch.result.now in
    let is : c.args.term.now ≡ term.Switch e cases = c.in-Switch.is ∙ ap (term.Switch e) (sym c.as_slice-in-Switch.ensures.items) in
    let smaller : most size-Case cases < size-Term c.args.term.now = subst (λ (x : Term). most size-Case cases < size-Term x) (sym is) (size-Switch e cases) in
    let falls : 4 * most size-Case cases + 2 < t = omega (arith, smaller, c.decreases) in
    let counted : counts_fit (term.Switch e cases) ≡ true = ap counts_fit (sym is) ∙ c.requires.counts in
    let takes = ap (λ (x : Term). (layout x).size) is ∙ sums.size-Switch e cases in
    (falls, (few-cases e cases counted, (fit-cases e cases counted, omega (arith, c.requires.short, takes))))

pub emit-emit_guard-requires : goal.emit-emit_guard-requires
emit-emit_guard-requires t c =
    let inner = c.get.result.now in
    let is : c.args.term.now ≡ term.Guard inner c.in-Guard.binder c.in-Guard.condition =
    c.in-Guard.is ∙ ap (λ inner. term.Guard inner c.in-Guard.binder c.in-Guard.condition) (sym c.get.ensures.value) in
    let smaller : size-Term inner < size-Term c.args.term.now =
    subst (λ (x : Term). size-Term inner < size-Term x) (sym is) (size-Guard inner c.in-Guard.binder c.in-Guard.condition) in
    let falls : 4 * size-Term inner + 1 < t = omega (arith, smaller, c.decreases) in
    let takes = ap (λ (x : Term). (layout x).size) is ∙ sums.size-Guard inner c.in-Guard.binder c.in-Guard.condition in
    (falls, (sym (counts-Guard inner c.in-Guard.binder c.in-Guard.condition) ∙ ap counts_fit (sym is) ∙ c.requires.counts, omega (arith, c.requires.short, takes)))

pub emit-emit_seq-requires : goal.emit-emit_seq-requires
emit-emit_seq-requires t c =
    let s = c.get-in-Seq.result.now in
    let is : c.args.term.now ≡ term.Seq s = c.in-Seq.is ∙ ap term.Seq (sym c.get-in-Seq.ensures.value) in
    let smaller : size-Seq s < size-Term c.args.term.now = subst (λ (x : Term). size-Seq s < size-Term x) (sym is) (size-of_Seq s) in
    let falls : 4 * size-Seq s + 1 < t = omega (arith, smaller, c.decreases) in
    let counted : counts_fit (term.Seq s) ≡ true = ap counts_fit (sym is) ∙ c.requires.counts in
    let takes = ap (λ (x : Term). (layout x).size) is ∙ sums.size-Seq s in
    (falls, (fit-elem s counted, (fit-sep s counted, (fit-stop s counted, omega (arith, c.requires.short, takes)))))

pub emit-emit_absorb-requires : goal.emit-emit_absorb-requires
emit-emit_absorb-requires t c =
    let inner = c.get-in-Absorb.result.now in
    let is : c.args.term.now ≡ term.Absorb inner = c.in-Absorb.is ∙ ap (λ inner. term.Absorb inner) (sym c.get-in-Absorb.ensures.value) in
    let smaller : size-Term inner < size-Term c.args.term.now = subst (λ (x : Term). size-Term inner < size-Term x) (sym is) (size-Absorb inner) in
    let falls : 4 * size-Term inner + 1 < t = omega (arith, smaller, c.decreases) in
    let takes = ap (λ (x : Term). (layout x).size) is ∙ sums.size-Absorb inner in
    (falls, (sym (counts-Absorb inner) ∙ ap counts_fit (sym is) ∙ c.requires.counts, omega (arith, c.requires.short, takes)))

pub emit-emit_scan-requires : goal.emit-emit_scan-requires
emit-emit_scan-requires t c =
    let inner = c.get-in-Scan.result.now in
    let is : c.args.term.now ≡ term.Scan inner = c.in-Scan.is ∙ ap (λ inner. term.Scan inner) (sym c.get-in-Scan.ensures.value) in
    let smaller : size-Term inner < size-Term c.args.term.now = subst (λ (x : Term). size-Term inner < size-Term x) (sym is) (size-Scan inner) in
    let falls : 4 * size-Term inner + 1 < t = omega (arith, smaller, c.decreases) in
    let takes = ap (λ (x : Term). (layout x).size) is ∙ sums.size-Scan inner in
    (falls, (sym (counts-Scan inner) ∙ ap counts_fit (sym is) ∙ c.requires.counts, omega (arith, c.requires.short, takes)))

-- one part, branch or case more
pub emit_parts-loop-part-preserved : goal.emit_parts-loop-part-preserved
emit_parts-loop-part-preserved t c =
    let parts = c.args.parts.now in
    let part = c.part-item.result in
    let code = c.loop-part.code in
    let i = c.loop-part.part-index in
    let grown = c.in_ok-push.ensures.ok ∙ ap (λ (code : List Op). code ++ op.Part part.name ∷ []) c.in_ok-emit.ensures.code in (
      part-next parts (c.args.code.now ++ parts_code (map part_layout parts) (length c.args.code.now)) code c.push.new.self i part c.loop-part-test.true c.part-item.is
          c.loop-part.invariant.0 grown,
      parts-left parts i code c.push.new.self part c.loop-part-test.true c.part-item.is c.loop-part.invariant.1 grown,
    )

pub emit_arms-loop-arm-preserved : goal.emit_arms-loop-arm-preserved
emit_arms-loop-arm-preserved t c =
    let of_arm : Arm → Term = λ arm. arm.term in
    let behind : ℕ → Op = λ number. op.Try number c.args.end in
    let arms = c.args.arms.now in
    let arm = c.arm-item.result in
    let code = c.loop-arm.code in
    let i = c.loop-arm.arm-index in
    let grown = c.in_ok-push.ensures.ok ∙ ap (λ (code : List Op). code ++ op.Try c.loop-arm.number c.args.end ∷ []) c.in_ok-emit.ensures.code
    ∙ ap (λ number. (code ++ (layout arm.term).code (length code)) ++ op.Try number c.args.end ∷ []) c.loop-arm.invariant.2 in (
      branch-next of_arm behind arms (c.args.code.now ++ branch_code of_arm behind arms 0 (length c.args.code.now)) code c.push.new.self i arm c.loop-arm-test.true c.arm-item.is
          c.loop-arm.invariant.0 grown,
      branches-left of_arm behind arms i code c.push.new.self arm c.loop-arm-test.true c.arm-item.is c.loop-arm.invariant.1 grown,
      omega (arith, c.loop-arm.invariant.2),
    )

pub emit_cases-loop-case-init : goal.emit_cases-loop-case-init
emit_cases-loop-case-init t c =
    (refl, omega (arith, c.requires.short, ap arms_size (blocks-are c.args.cases.now)), refl)

pub emit_cases-loop-case-preserved : goal.emit_cases-loop-case-preserved
emit_cases-loop-case-preserved t c =
    let of_case : Case → Term = λ case. case.arm.term in
    let behind : ℕ → Op = λ number. op.Arm number c.args.end in
    let cases = c.args.cases.now in
    let case = c.case-item.result in
    let code = c.loop-case.code in
    let i = c.loop-case.case-index in
    let grown = c.in_ok-push.ensures.ok ∙ ap (λ (code : List Op). code ++ op.Arm c.loop-case.number c.args.end ∷ []) c.in_ok-emit.ensures.code
    ∙ ap (λ number. (code ++ (layout case.arm.term).code (length code)) ++ op.Arm number c.args.end ∷ []) c.loop-case.invariant.2 in (
      branch-next of_case behind cases (c.args.code.now ++ branch_code of_case behind cases 0 (length c.args.code.now)) code c.push.new.self i case c.loop-case-test.true c.case-item.is
          c.loop-case.invariant.0 grown,
      branches-left of_case behind cases i code c.push.new.self case c.loop-case-test.true c.case-item.is c.loop-case.invariant.1 grown,
      omega (arith, c.loop-case.invariant.2),
    )

pub emit_cases-returns : goal.emit_cases-returns
emit_cases-returns t c =
    let of_case : Case → Term = λ case. case.arm.term in
    let behind : ℕ → Op = λ number. op.Arm number c.args.end in
    let cases = c.args.cases.now in
    let code = c.args.code.now in
    record {
      code = branches-done of_case behind cases (code ++ branch_code of_case behind cases 0 (length code)) c.loop-case.code c.loop-case.case-index (omega arith) c.loop-case.invariant.0
          ∙ ap (λ branches. code ++ arms_code behind branches 0 (length code)) (sym (blocks-are cases));
    }

-- an array
pub emit_seq-emit_turn-requires : goal.emit_seq-emit_turn-requires
emit_seq-emit_turn-requires t c =
    let s = c.args.seq.now in
    let falls : option_weight s.sep + 1 < t = omega (arith, sep-falls s, c.decreases) in
    let place = turn-place s c.args.code.now c.emit_begin.new.code c.seq_places-elem.result.shut c.in_ok-emit_begin.ensures.code in
    (falls, (c.requires.sep, omega (arith, c.requires.short, place)))

pub emit_seq-emit_elem-requires : goal.emit_seq-emit_elem-requires
emit_seq-emit_elem-requires t c =
    let s = c.args.seq.now in
    let falls : 4 * size-Term s.elem + 1 < t = omega (arith, size-elem s, c.decreases) in
    let first = turn-place s c.args.code.now c.emit_begin.new.code c.seq_places-elem.result.shut c.in_ok-emit_begin.ensures.code in
    let second = elem-place s c.emit_begin.new.code c.emit_turn.new.code c.seq_places-elem.result.elem c.seq_places-elem.result.shut c.in_ok-emit_turn.ensures.code in
    (falls, (c.requires.elem, omega (arith, c.requires.short, first, second)))

pub emit_seq-returns : goal.emit_seq-returns
emit_seq-returns t c =
    let s = c.args.seq.now in
    let begin : c.len-begin.result ≡ length c.args.code.now = omega (arith, c.len-begin.ensures.length, c.requires.short) in
    let stop = option_map layout s.stop in
    let sep = option_map layout s.sep in
    let b = c.emit_turn.new.code in
    let shut = c.seq_places-elem.result.shut in
    record {
      code = on_ok_weaker c.emit_elem.result (λ is. made s c.args.code.now c.emit_begin.new.code b c.emit_elem.new.code c.seq_places-elem.result.elem shut
          (c.seq_places-elem.ensures.elem ∙ ap (λ p. elem_at stop sep (layout s.elem) p) begin)
          (c.seq_places-elem.ensures.shut ∙ ap (λ p. shut_at stop sep (layout s.elem) p) begin)
          c.in_ok-emit_begin.ensures.code c.in_ok-emit_turn.ensures.code
          (is ∙ ap (λ p. b ++ elem_code s shut (p + 1) (length b)) begin)) c.emit_elem.ensures.code;
    }
