use Rattle.std.proofs.Common.{◌≡◌}
use Rattle.pads_forms.specs.Forms.{form_from}
use Rattle.pads_forms.proofs.form.form_at.Given as goal

-- the way on leads to the same form
abbrev pub invariant-calls : goal.invariant-calls
invariant-calls l = form_from l.terms.decls.now l.absorbs l.depth l.term ≡ form_from l.terms.decls.now l.absorbs l.initial.depth l.initial.term

abbrev pub decreases-calls : goal.decreases-calls
decreases-calls l = l.depth
