use Rattle.std.proofs.Common.{◌∙◌, refl}
use Rattle.pads_judge.specs.Scopes.{names_in_scope}
use Rattle.pads_judge.proofs.FormLemmas.{pforall_told}
use Rattle.pads_judge.proofs.ScopeLemmas.{in_hiding}
use Rattle.pads_judge.proofs.judging.+judge.Goals as goal

pub judge-returns-in-Pforall : goal.judge-returns-in-Pforall
judge-returns-in-Pforall t c = record {
  judged =
      pforall_told _ (names_in_scope c.args.scope.now) _ _ c.in-Pforall.at c.in-Pforall.variable c.in-Pforall.low c.in-Pforall.high c.in-Pforall.body _ _ _ _ _ _ _
      c.in-Pforall.is c.get-in-Pforall.ensures.value c.get-in-Pforall-2.ensures.value c.get-in-Pforall-3.ensures.value
      (in_hiding _ _ _ ∙ rw (c.as_slice-name.ensures.items, c.plain-num.ensures.plain) refl)
      c.judge-low.ensures.judged c.judge-high.ensures.judged c.judge-body.ensures.judged c.pforall.ensures.form;
}
