use Rattle.std.proofs.Common.{◌≡◌, ◌∙◌, ◌++◌, ◌∷◌, sym, subst, ap, List, ℕ, length, take, get_or, encode_utf8_all, append_assoc, arith, []}
use Rattle.std.proofs.lemmas.List.{drop_all}
use Rattle.std.proofs.lemmas.Result.{on_ok_weaker}
use Rattle.serde_json.specs.Data.{Data, object}
use Rattle.serde_json.specs.Written.{compact_text, members_text}
use Rattle.pads_value.specs.declared.value.Val.{Val}
use Rattle.pads_calc.specs.declared.decl.Decl.{Decl}
use Rattle.pads_calc.specs.declared.term.Part.{Part}
use Rattle.pads_json.specs.Members.{IsOrderOf, key_at, members_at, numbers_of, part_told}
use Rattle.pads_json.specs.Values.{shown, parts_told}
use Rattle.pads_json.proofs.Members.{element_next, number_next_told, parts_told_in_order}
use Rattle.pads_json.proofs.value.+value.Goals as goal

pub write_elements-elements-preserved : goal.write_elements-elements-preserved
write_elements-elements-preserved t c =
    element_next (shown c.args.terms.now.bare.decls.now c.args.terms.now.keys.now) c.args.depth c.args.elem.now c.args.values.now c.elements.element-index _ _ _ _ _ _ _
    (omega arith) (omega (arith, c.elements-test.true)) c.element-item.is c.in_ok-write_comma.ensures.written c.in_ok-write_value.ensures.written c.elements.invariant

pub write_members-members-preserved : goal.write_members-members-preserved
write_members-members-preserved t c =
    let told = part_told c.args.terms.now.bare.decls.now c.args.terms.now.keys.now c.args.depth c.args.parts.now c.args.values.now in
    let key = c.key_of.ensures.key ∙ ap (λ (names : List (List ℕ)). key_at names c.args.parts.now (get_or c.args.numbers.now c.members.number-index 0)) c.keys.ensures.same in
    number_next_told told (key_at c.args.terms.now.keys.now c.args.parts.now) c.args.numbers.now c.members.number-index _ c.members.later
    (encode_utf8_all c.key_of.result.now) c.members.out _ _ _ (omega arith) (omega (arith, c.members-test.true)) key
    c.in_ok-write.ensures.written c.in_ok-write_part.ensures.written c.members.invariant

pub write_members-returns : goal.write_members-returns
write_members-returns t c =
    let told = part_told c.args.terms.now.bare.decls.now c.args.terms.now.keys.now c.args.depth c.args.parts.now c.args.values.now in
    record {
      written = on_ok_weaker c.push-2.result (λ e. e
          ∙ ap (λ (numbers : List ℕ). c.members.out ++ members_text c.members.later (members_at told (numbers_of c.args.terms.now.keys.now c.args.parts.now numbers)))
          (sym (drop_all c.members.number-index c.args.numbers.now (omega (arith, c.members-test.false))))
          ∙ c.members.invariant
          ∙ append_assoc c.args.out.now (123 ∷ []) _) c.push-2.ensures.ok;
    }

-- where the numbers are in the order of the keys
ordered : (decls : List Decl) (names : List (List ℕ)) (depth : ℕ) (parts : List Part) (values : List Val) (numbers old new : List ℕ)
    → length values ≡ length parts → IsOrderOf names parts numbers
    → new ≡ old ++ compact_text (object (members_at (part_told decls names depth parts values) (numbers_of names parts numbers)))
    → new ≡ old ++ compact_text (parts_told decls names depth parts values)
ordered decls names depth parts values numbers old new counts order e =
    e ∙ ap (λ (d : Data). old ++ compact_text d) (parts_told_in_order decls names depth parts values numbers counts order)

pub write_in_order-returns : goal.write_in_order-returns
write_in_order-returns t c =
    let order = subst (λ (names : List (List ℕ)). IsOrderOf names c.args.parts.now (take c.put_in_order-count.result c.put_in_order-count.new.order)) c.keys.ensures.same c.put_in_order-count.ensures.order in
    record {
      written = on_ok_weaker c.write_members.result
          (ordered c.args.terms.now.bare.decls.now c.args.terms.now.keys.now c.args.depth c.args.parts.now c.args.values.now _ c.args.out.now _ c.requires.counts order) c.write_members.ensures.written;
    }

pub write_parts-returns-in-Some : goal.write_parts-returns-in-Some
write_parts-returns-in-Some t c =
    record {
      written = on_ok_weaker c.write_members.result
          (ordered c.args.terms.now.bare.decls.now c.args.terms.now.keys.now c.args.depth c.args.parts.now c.args.values.now c.in-Some.numbers.now c.args.out.now _ c.requires.counts c.in-Some.ensures.order)
          c.write_members.ensures.written;
    }
