use Rattle.std.proofs.Common.{◌∙◌, None, Some, refl}
use Rattle.pads_io.specs.Calls.{goes, stays}
use Rattle.pads_io.proofs.Partly.{Partly-more, Partly-none}
use Rattle.pads_io.proofs.whole.write_all.Goals as goal

pub loop-rest-preserved : goal.loop-rest-preserved
loop-rest-preserved g c = record {
  partly = Partly-more _ _ _ _ _ _ c.loop-rest.invariant.partly c.in-Ok.ensures.bytes;
  calls = goes c.loop-rest.invariant.calls (Some c.in-Ok.taken, refl, c.in-Ok.ensures.call, refl);
  stays = c.in-Ok.ensures.cause.stays ∙ c.loop-rest.invariant.stays;
}

pub returns-in_default-clause-calls : goal.returns-in_default-clause-calls
returns-in_default-clause-calls g c = goes c.loop-rest.invariant.calls (None, refl, c.in_default.ensures.call, refl)

pub loop-rest-init : goal.loop-rest-init
loop-rest-init g c = record { partly = Partly-none _ _; calls = stays; stays = refl }
