use Rattle.std.proofs.Common.{◌∙◌, sym, arith}
use Rattle.pads_json.proofs.Quiet.{bare_quiet, quiet_next}
use Rattle.pads_json.proofs.faults.+quiet.Goals as goal
use Rattle.pads_json.proofs.faults.+quiet.Goals.{are_quiet-else-not-is_bare-via-then-not-is_bare+else-not-is_quiet, are_quiet-else-not-is_bare-via-else-not-is_bare}

pub are_quiet-kids-preserved : goal.are_quiet-kids-preserved
are_quiet-kids-preserved t c =
    elim c.else-not-is_bare.branch [
      | are_quiet-else-not-is_bare-via-then-not-is_bare+else-not-is_quiet w ↦
          quiet_next c.args.kids.now c.kids.i _ w.index-kids-i-then-not-is_bare.result (omega arith) (omega (arith, c.kids-test.true)) w.index-kids-i-then-not-is_bare.is
          (sym w.is_quiet.ensures.quiet ∙ w.if-not-is_quiet.false) c.kids.invariant
      | are_quiet-else-not-is_bare-via-else-not-is_bare w ↦
          quiet_next c.args.kids.now c.kids.i _ c.index-kids-i.result (omega arith) (omega (arith, c.kids-test.true)) c.index-kids-i.is
          (bare_quiet c.index-kids-i.result (sym c.is_bare.ensures.bare ∙ w.if-not-is_bare.false)) c.kids.invariant
    ]
