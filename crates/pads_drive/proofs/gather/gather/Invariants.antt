use Rattle.pads_drive.proofs.Sharing.{GatheredSoFar}
use Rattle.pads_drive.proofs.gather.gather.Given as goal

-- the parts so far are put together
abbrev pub invariant-parts : goal.invariant-parts
invariant-parts g l = GatheredSoFar (g.C.Command.work l.command) (g.C.Command.share_of l.command) l.fn.parts l.part-iterator.rest.items l.output l.initial.tally l.tally
