use Rattle.std.proofs.Common.{◌∙◌, sym, ap}
use Rattle.pads_calc.specs.declared.term.Term.{out-Term}
use Rattle.pads_calc.specs.declared.term.Term.TheVariants.{outs-Guard, outs-Scan, outs-Absorb}
use Rattle.pads_forms.proofs.Passing.{next, through_inside, next_absorb}
use Rattle.pads_forms.proofs.form.through.Goals as goal

pub inside-preserved-in-Guard : goal.inside-preserved-in-Guard
inside-preserved-in-Guard c =
    let inside = ap (λ t. next c.args.absorbs (out-Term t)) c.in-Guard.is ∙ ap (next c.args.absorbs) (outs-Guard _ _ _) in
    rw c.get-term.ensures.value (sym (through_inside c.args.absorbs c.inside.term.now _ inside) ∙ c.inside.invariant)

pub inside-preserved-in-Scan : goal.inside-preserved-in-Scan
inside-preserved-in-Scan c =
    let inside = ap (λ t. next c.args.absorbs (out-Term t)) c.in-Scan.is ∙ ap (next c.args.absorbs) (outs-Scan _) in
    rw c.get-term-in-Scan.ensures.value (sym (through_inside c.args.absorbs c.inside.term.now _ inside) ∙ c.inside.invariant)

pub inside-preserved : goal.inside-preserved
inside-preserved c =
    let inside = ap (λ t. next c.args.absorbs (out-Term t)) c.in-Absorb.is ∙ ap (next c.args.absorbs) (outs-Absorb _) ∙ next_absorb c.args.absorbs _ c.if-not-absorbs.false in
    rw c.get-term-in-Absorb.ensures.value (sym (through_inside c.args.absorbs c.inside.term.now _ inside) ∙ c.inside.invariant)
