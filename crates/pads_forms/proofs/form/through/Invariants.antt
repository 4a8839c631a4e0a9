use Rattle.std.proofs.Common.{◌≡◌}
use Rattle.pads_forms.specs.Forms.{through}
use Rattle.pads_forms.proofs.form.through.Given as goal

-- the way on leads to the same form
abbrev pub invariant-inside : goal.invariant-inside
invariant-inside l = through l.absorbs l.term ≡ through l.absorbs l.initial.term
