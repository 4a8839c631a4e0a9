use Rattle.std.proofs.Common.{◌∙◌, sym, ap}
use Rattle.pads_calc.specs.declared.term.Term.{Term}
use Rattle.pads_plan.specs.Expansion.{expand}
use Rattle.pads_plan.proofs.Rolls.{guard_inside, scan_inside, absorb_inside}
use Rattle.pads_plan.proofs.listing.inside.Goals as goal

pub inside-preserved-in-Guard : goal.inside-preserved-in-Guard
inside-preserved-in-Guard c = λ names call.
    c.inside.invariant names call ∙ ap (λ (t : Term). (expand names call t).listed) c.in-Guard.is
    ∙ guard_inside names call c.in-Guard.inner c.in-Guard.field-1 c.in-Guard.field-2
    ∙ ap (λ (t : Term). (expand names call t).listed) (sym c.get-term.ensures.value)

pub inside-preserved-in-Scan : goal.inside-preserved-in-Scan
inside-preserved-in-Scan c = λ names call.
    c.inside.invariant names call ∙ ap (λ (t : Term). (expand names call t).listed) c.in-Scan.is
    ∙ scan_inside names call c.in-Scan.inner
    ∙ ap (λ (t : Term). (expand names call t).listed) (sym c.get-term-in-Scan.ensures.value)

pub inside-preserved : goal.inside-preserved
inside-preserved c = λ names call.
    c.inside.invariant names call ∙ ap (λ (t : Term). (expand names call t).listed) c.in-Absorb.is
    ∙ absorb_inside names call c.in-Absorb.inner
    ∙ ap (λ (t : Term). (expand names call t).listed) (sym c.get-term-in-Absorb.ensures.value)
