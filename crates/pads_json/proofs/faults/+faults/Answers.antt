use Rattle.std.proofs.Common.{◌∙◌, ◌++◌, List, Option, None, sym, ap, option_map, arith}
use Rattle.std.proofs.lemmas.List.{append-nil}
use Rattle.std.proofs.lemmas.Result.{on_ok_weaker}
use Rattle.std.specs.Option.{option_copied}
use Rattle.pads_value.specs.declared.descriptor.Pd.{Pd}
use Rattle.pads_json.specs.Faults.{kid_told, kids_told, listed}
use Rattle.pads_forms.specs.Forms.{form_seen}
use Rattle.pads_forms.specs.Slots.{Slot}
use Rattle.pads_json.specs.Places.{steps}
use Rattle.pads_json.proofs.FaultLayers.{bare_written, faults_written, kid_next}
use Rattle.pads_json.proofs.faults.+faults.Goals as goal
use Rattle.pads_json.proofs.faults.+faults.Goals.{write_kids-then-not-is_bare+in_ok-write_kid, write_kids-else-not-is_bare}

pub write_faults-returns-in-None : goal.write_faults-returns-in-None
write_faults-returns-in-None t c =
    let found = sym c.form_at.ensures.form ∙ ap (option_map form_seen) c.in-None.is in
    record {
      faults = faults_written c.args.terms.now.decls.now c.args.terms.now.names.now c.args.pd.now (steps c.args.place.now) (option_copied c.args.value) c.args.depth c.args.term.now
          None _ _ _ c.in_ok-write_own.ensures.own found (sym (append-nil c.write_own.new.out));
    }

pub write_faults-returns-in-Some : goal.write_faults-returns-in-Some
write_faults-returns-in-Some t c =
    let decls = c.args.terms.now.decls.now in
    let names = c.args.terms.now.names.now in
    let found = sym c.form_at.ensures.form ∙ ap (option_map form_seen) c.in-Some.is in
    let kids = ap (λ (kids : List Pd). c.write_own.new.out ++ listed (kids_told decls names (steps c.args.place.now) (option_copied c.args.value) (form_seen c.in-Some.form) kids)) c.as_slice.ensures.items in
    record {
      faults = on_ok_weaker c.write_kids.result (λ e. faults_written decls names c.args.pd.now (steps c.args.place.now) (option_copied c.args.value) c.args.depth c.args.term.now
          _ _ _ _ c.in_ok-write_own.ensures.own found (e ∙ kids)) c.write_kids.ensures.faults;
    }

pub write_kids-kids-preserved : goal.write_kids-kids-preserved
write_kids-kids-preserved t c =
    let decls = c.args.terms.now.decls.now in
    let names = c.args.terms.now.names.now in
    let place = steps c.args.place.now in
    let value = option_copied c.args.value in
    let form = form_seen c.args.form in
    elim c.if-not-is_bare.branch [
      | write_kids-then-not-is_bare+in_ok-write_kid w ↦
          let kid = w.index-kids-i-then-not-is_bare.result in
          let given = ap (λ (slot : Option Slot). c.kids.out ++ listed (kid_told decls names place form.depth slot kid)) w.slot_at-slot.ensures.slot in
          kid_next decls names place value form c.args.kids.now c.kids.i _ kid c.kids.out _ _ (omega arith) (omega (arith, c.kids-test.true))
          w.index-kids-i-then-not-is_bare.is (w.out-is ∙ w.in_ok-write_kid.ensures.faults ∙ given) c.kids.invariant
      | write_kids-else-not-is_bare w ↦
          kid_next decls names place value form c.args.kids.now c.kids.i _ c.index-kids-i.result c.kids.out _ _ (omega arith) (omega (arith, c.kids-test.true))
          c.index-kids-i.is (w.out-is ∙ bare_written decls names place form.depth _ c.index-kids-i.result c.kids.out (sym c.is_bare.ensures.bare ∙ w.if-not-is_bare.false)) c.kids.invariant
    ]
