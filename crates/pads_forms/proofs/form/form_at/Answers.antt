use Rattle.std.proofs.Common.{◌∙◌, sym, ap, arith, slice_get}
use Rattle.std.specs.Option.{option_copied}
use Rattle.pads_calc.specs.declared.term.Term.{out-Term}
use Rattle.pads_calc.specs.declared.term.Term.TheVariants.{outs-Call}
use Rattle.pads_forms.specs.Forms.{called, form_from}
use Rattle.pads_forms.proofs.Calls.{form_called, form_nowhere}
use Rattle.pads_forms.proofs.form.form_at.Goals as goal

pub calls-preserved : goal.calls-preserved
calls-preserved c =
    let decls = c.args.terms.now.decls.now in
    let call = ap (λ t. called (out-Term t)) c.in-Call.is ∙ ap called (outs-Call _ _) in
    let there = ap (slice_get decls) (sym c.from.ensures) ∙ sym c.get.ensures.item ∙ ap option_copied c.in-Some.is in
    rw c.through-term-in-Some.ensures.term
    (sym (form_called decls c.args.absorbs c.calls.depth c.calls.term.now _ c.in-Some.decl.now call (omega (arith, c.if-depth-eq0.false)) there) ∙ c.calls.invariant)

pub returns-in-None : goal.returns-in-None
returns-in-None c =
    let decls = c.args.terms.now.decls.now in
    let call = ap (λ t. called (out-Term t)) c.in-Call.is ∙ ap called (outs-Call _ _) in
    let nowhere = ap (slice_get decls) (sym c.from.ensures) ∙ sym c.get.ensures.item ∙ ap option_copied c.in-None.is in
    record {
      form =
          sym (form_nowhere decls c.args.absorbs c.calls.depth c.calls.term.now _ call (omega (arith, c.if-depth-eq0.false)) nowhere)
          ∙ c.calls.invariant ∙ ap (form_from decls c.args.absorbs c.args.calls) c.through-term.ensures.term;
    }
