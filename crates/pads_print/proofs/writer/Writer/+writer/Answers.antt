use Rattle.std.proofs.Common.{◌≡◌, ◌≢◌, ◌∙◌, sym, ap, ◌+◌, ◌-◌, ◌*◌, ◌<◌, ◌≤◌, true, false, ◌∷◌, length, reverse, map, drop, arith, Some, None, slice_get}
use Rattle.pads_value.specs.declared.value.Val.{out-Val}
use Rattle.pads_calc.specs.declared.term.Term.{size-Term}
use Rattle.pads_calc.specs.declared.term.Term.TheVariants as term
use Rattle.pads_calc.specs.Arguments.{arguments}
use Rattle.pads_calc.specs.Structs.{bind}
use Rattle.pads_forms.specs.Shapes.{branch_in}
use Rattle.law_canonical.specs.Canonical.{canon, call_spelled, is_unit, of_branch}
use Rattle.law_canonical.proofs.Rolls.{spelled-Absorb}
use Rattle.law_canonical.proofs.Spelled.{branch-bytes}
use Rattle.pads_steps.proofs.Weights.{weight, weight-call}
use Rattle.pads_print.specs.Writes.{arm_spells, behind, case_spells, filled}
use Rattle.pads_print.proofs.Writing.{absorbed-kept, arm-there, arm-past, case-there, case-past, call-deep, call-unargued, call-undeclared, call-found, uneven-parts, parts-done, parts_spell, part-none, part-next, struct-opens, there-next}
use Rattle.pads_print.proofs.writer.Writer.+writer.Goals as goal

pub write-returns-else-not-is_unit : goal.write-returns-else-not-is_unit
write-returns-else-not-is_unit t c =
    let decls = c.args.self.now.decls.now in
    let kept : is_unit (out-Val c.args.value.now) ≡ true = sym c.is_unit.ensures.unit ∙ c.if-not-is_unit.false in
    let same = spelled-Absorb (call_spelled decls c.args.depth) c.in-Absorb.inner (reverse c.args.env.now) c.args.value.now
    ∙ absorbed-kept decls c.args.depth c.in-Absorb.inner (reverse c.args.env.now) c.args.value.now kept in
    record { written = rw (c.in-Absorb.is, same, ← c.get-in-Absorb.ensures.value) c.write-in-Absorb.ensures.written }

pub write_alt-returns-in-Some : goal.write_alt-returns-in-Some
write_alt-returns-in-Some t c =
    let decls = c.args.self.now.decls.now in
    let env = reverse c.args.env.now in
    let there : slice_get c.args.arms.now c.in-Branch.number ≡ Some c.in-Some.arm.now = sym c.in-Some.ensures.item in
    let spells = arm-there decls c.args.depth c.args.arms.now c.in-Branch.number c.in-Some.arm.now there in
    let same = branch-bytes (map (arm_spells decls c.args.depth) c.args.arms.now) c.in-Branch.number (canon decls c.args.depth c.in-Some.arm.now.term) env c.in-Branch.inner spells in
    record { written = rw (c.in-Branch.is, same, ← c.get.ensures.value) c.write.ensures.written }

pub write_alt-returns-in-None : goal.write_alt-returns-in-None
write_alt-returns-in-None t c =
    let decls = c.args.self.now.decls.now in
    let past : slice_get c.args.arms.now c.in-Branch.number ≡ None = sym c.in-None.ensures.item in
    let none = arm-past decls c.args.depth c.args.arms.now c.in-Branch.number (reverse c.args.env.now) c.in-Branch.inner past in
    record { written = sym (ap (behind _) (ap (λ v. of_branch (map (arm_spells decls c.args.depth) c.args.arms.now) (reverse c.args.env.now) (branch_in (out-Val v))) c.in-Branch.is ∙ none)) }

pub write_call-returns-then-depth-eq0 : goal.write_call-returns-then-depth-eq0
write_call-returns-then-depth-eq0 t c =
    record { written = sym (ap (behind _) (call-deep c.args.self.now.decls.now c.args.number c.args.args.now (reverse c.args.env.now) c.args.value.now c.args.depth c.if-depth-eq0.true)) }

pub write_call-returns-in_default : goal.write_call-returns-in_default
write_call-returns-in_default t c =
    let none : arguments c.args.args.now (reverse c.args.env.now) ≡ None = sym c.in_ok-args.ensures.arguments ∙ c.in_default.is in
    record { written = sym (ap (behind _) (call-unargued c.args.self.now.decls.now c.args.number c.args.args.now (reverse c.args.env.now) c.args.value.now c.args.depth c.if-depth-eq0.false none)) }

pub write_call-returns-in_default-item : goal.write_call-returns-in_default-item
write_call-returns-in_default-item t c =
    let argued : arguments c.args.args.now (reverse c.args.env.now) ≡ Some c.in-Some.args = sym c.in_ok-args.ensures.arguments ∙ c.in-Some.is in
    record {
      written = sym (ap (behind _) (call-undeclared c.args.self.now.decls.now c.args.number c.args.args.now (reverse c.args.env.now) c.args.value.now c.args.depth c.in-Some.args c.if-depth-eq0.false argued (sym c.in_default-item.ensures.item)));
    }

pub write_call-write-requires : goal.write_call-write-requires
write_call-write-requires t c =
    let there : slice_get c.args.self.now.decls.now c.args.number ≡ Some c.in-Some-item.decl.now = sym c.in-Some-item.ensures.item in
    let is : c.args.depth * weight c.args.self.now.decls.now ≡ t = c.decreases in
    let falls = weight-call c.args.self.now.decls.now c.args.number c.in-Some-item.decl.now c.args.depth c.if-depth-eq0.false there in
    let less : (c.args.depth - 1) * weight c.args.self.now.decls.now + 4 * size-Term c.in-Some-item.decl.now.body < t = rw is at falls in
    (less, tt)

pub write_call-returns : goal.write_call-returns
write_call-returns t c =
    let there : slice_get c.args.self.now.decls.now c.args.number ≡ Some c.in-Some-item.decl.now = sym c.in-Some-item.ensures.item in
    let argued : arguments c.args.args.now (reverse c.args.env.now) ≡ Some c.in-Some.args = sym c.in_ok-args.ensures.arguments ∙ c.in-Some.is in
    record {
      written = rw (call-found c.args.self.now.decls.now c.args.number c.args.args.now (reverse c.args.env.now) c.args.value.now c.args.depth c.in-Some.args c.in-Some-item.decl.now c.if-depth-eq0.false argued there, ← c.as_slice.ensures.items, ← c.in_ok-own.ensures.bound, ← c.in_ok-scope.ensures.pairs, ← c.as_slice-2.ensures.value)
          c.write.ensures.written;
    }

pub write_switch-returns-in-Some : goal.write_switch-returns-in-Some
write_switch-returns-in-Some t c =
    let decls = c.args.self.now.decls.now in
    let env = reverse c.args.env.now in
    let there : slice_get c.args.cases.now c.in-Branch.number ≡ Some c.in-Some.case.now = sym c.in-Some.ensures.item in
    let spells = case-there decls c.args.depth c.args.cases.now c.in-Branch.number c.in-Some.case.now there in
    let same = branch-bytes (map (case_spells decls c.args.depth) c.args.cases.now) c.in-Branch.number (canon decls c.args.depth c.in-Some.case.now.arm.term) env c.in-Branch.inner spells in
    record { written = rw (c.in-Branch.is, same, ← c.get.ensures.value) c.write.ensures.written }

pub write_switch-returns-in-None : goal.write_switch-returns-in-None
write_switch-returns-in-None t c =
    let decls = c.args.self.now.decls.now in
    let past : slice_get c.args.cases.now c.in-Branch.number ≡ None = sym c.in-None.ensures.item in
    let none = case-past decls c.args.depth c.args.cases.now c.in-Branch.number (reverse c.args.env.now) c.in-Branch.inner past in
    record { written = sym (ap (behind _) (ap (λ v. of_branch (map (case_spells decls c.args.depth) c.args.cases.now) (reverse c.args.env.now) (branch_in (out-Val v))) c.in-Branch.is ∙ none)) }

pub write_struct-returns-then-values-parts : goal.write_struct-returns-then-values-parts
write_struct-returns-then-values-parts t c =
    let decls = c.args.self.now.decls.now in
    let env = reverse c.args.env.now in
    let differ : length c.in-Tuple.values ≢ length c.args.parts.now = rw c.as_slice-values.ensures.items at c.if-values-parts.true in
    let opens = struct-opens decls c.args.depth c.args.parts.now env c.args.value.now c.in-Tuple.values c.in-Tuple.is in
    record { written = sym (ap (behind _) (opens ∙ uneven-parts decls c.args.depth c.args.parts.now env c.in-Tuple.values differ)) }

pub write_struct-returns-then-not-branch : goal.write_struct-returns-then-not-branch
write_struct-returns-then-not-branch t c =
    let decls = c.args.self.now.decls.now in
    let parts = c.args.parts.now in
    let values = c.as_slice-values.result.now in
    let env = reverse c.args.env.now in
    let at = c.loop-at.at in
    let part = c.index-parts-at.result in
    let value = c.index-values-at.result in
    let opens = struct-opens decls c.args.depth parts env c.args.value.now c.in-Tuple.values c.in-Tuple.is
    ∙ ap (parts_spell decls c.args.depth parts env) (sym c.as_slice-values.ensures.items) in
    let there : at < length values = omega (arith, c.loop-at-test.true, c.if-values-parts.false) in
    let none : filled false c.write.new.out ≡ behind c.loop-at.out (canon decls c.args.depth part.term (reverse c.loop-at.scope.items) value) =
    rw (c.if-not-branch.true, c.as_slice.ensures.value) at c.in_ok-write.ensures.written in
    let whole = part-none decls c.args.depth parts values (reverse c.loop-at.scope.items) at part value c.loop-at.out c.write.new.out
    (there-next parts at part c.loop-at-test.true c.index-parts-at.is) (there-next values at value there c.index-values-at.is) none in
    record { written = sym (ap (behind c.args.out.now) opens ∙ c.loop-at.invariant ∙ whole) }

pub write_struct-loop-at-preserved : goal.write_struct-loop-at-preserved
write_struct-loop-at-preserved t c =
    let decls = c.args.self.now.decls.now in
    let parts = c.args.parts.now in
    let values = c.as_slice-values.result.now in
    let at = c.loop-at.at in
    let part = c.index-parts-at.result in
    let value = c.index-values-at.result in
    let again = c.index-values-at-in-loop-at.result in
    let there : at < length values = omega (arith, c.loop-at-test.true, c.if-values-parts.false) in
    let here = there-next values at value there c.index-values-at.is in
    let same : value ≡ again = let e : value ∷ drop (at + 1) values ≡ again ∷ drop (at + 1) values = sym here ∙ there-next values at again there c.index-values-at-in-loop-at.is in cc in
    let all : filled true c.write.new.out ≡ behind c.loop-at.out (canon decls c.args.depth part.term (reverse c.loop-at.scope.items) value) =
    rw (c.if-not-branch.false, c.as_slice.ensures.value) at c.in_ok-write.ensures.written in
    let next = part-next decls c.args.depth parts values (reverse c.loop-at.scope.items) at part value c.loop-at.out c.write.new.out
    (there-next parts at part c.loop-at-test.true c.index-parts-at.is) here all in
    let bound : reverse c.bind.new.scope.items ≡ bind part.name value (reverse c.loop-at.scope.items) =
    c.in_ok-bind.ensures.bound ∙ ap (λ value. bind part.name value (reverse c.loop-at.scope.items)) (sym same) in
    c.loop-at.invariant ∙ next ∙ ap (λ env. behind c.write.new.out (parts_spell decls c.args.depth (drop (at + 1) parts) env (drop (at + 1) values))) (sym bound)

pub write_struct-returns : goal.write_struct-returns
write_struct-returns t c =
    let decls = c.args.self.now.decls.now in
    let parts = c.args.parts.now in
    let values = c.as_slice-values.result.now in
    let env = reverse c.args.env.now in
    let at = c.loop-at.at in
    let opens = struct-opens decls c.args.depth parts env c.args.value.now c.in-Tuple.values c.in-Tuple.is
    ∙ ap (parts_spell decls c.args.depth parts env) (sym c.as_slice-values.ensures.items) in
    let past : length values ≤ at = omega (arith, c.loop-at-test.false, c.if-values-parts.false) in
    let done = parts-done decls c.args.depth parts values (reverse c.loop-at.scope.items) at c.loop-at.out c.loop-at-test.false past in
    record { written = done ∙ sym (ap (behind c.args.out.now) opens ∙ c.loop-at.invariant) }
