use Rattle.std.proofs.Common.{◌≡◌, ◌∙◌, ap, sym, refl, Bool, true, false, not, ◌&&◌, ◌∷◌, if◌then◌else◌, reverse, Option, Some, slice_get}
use Rattle.pads_value.specs.declared.cause.Cause.TheVariants as cause
use Rattle.pads_value.specs.declared.descriptor.Pd.{out-Pd}
use Rattle.pads_value.specs.declared.value.Val.{Val}
use Rattle.pads_calc.specs.declared.reading.Reading.{Reading}
use Rattle.pads_calc.specs.Arguments.{is_true}
use Rattle.pads_calc.specs.Readings.{is_ok}
use Rattle.pads_calc.specs.Wrappers.{constrained}
use Rattle.pads_calc.proofs.CleanNodes.{caused-unclean}
use Rattle.pads_image.specs.declared.op.Op.{Op}
use Rattle.pads_image.specs.declared.op.Op.TheVariants as op
use Rattle.pads_machine.specs.Known.{guarded_by}
use Rattle.pads_machine.proofs.constraint.Constraint.holds.Goals as goal

clean-with : (r : Reading) (ok truth : Bool) → is_ok r ≡ ok → is_ok (if ok && not truth then constrained r else r) ≡ ok && truth
clean-with r true true is = is
clean-with r true false is = caused-unclean cause.Constraint (out-Pd r.pd).span.begin r
clean-with r false truth is = is

pub returns-in-Some-Guard : goal.returns-in-Some-Guard
returns-in-Some-Guard c = record {
  holds = λ r is.
      let binder = c.in-Some-Guard.binder in
      let condition = c.in-Some-Guard.condition in
      let env = reverse c.args.self.now.seen in
      let there : slice_get c.args.code.now c.args.self.now.address ≡ Some (op.Guard binder condition) = sym c.in-Some-Guard.ensures.op ∙ ap (λ (o : Op). Some o) c.in-Some-Guard.field-0-is in
      let truth : is_true condition ((binder, r.value) ∷ env) ≡ c.is_true_of.result =
      ap (λ (v : Val). is_true condition ((binder, v) ∷ env)) is
      ∙ ap (λ bindings. is_true condition ((binder, c.args.value.now) ∷ reverse bindings)) (sym c.as_slice.ensures.items)
      ∙ sym c.is_true_of.ensures.truth in
      ap (λ (found : Option Op). is_ok (guarded_by found env r)) there
      ∙ clean-with r (is_ok r) (is_true condition ((binder, r.value) ∷ env)) refl
      ∙ ap (λ (truth : Bool). is_ok r && truth) truth;
}
