use denote.Param.Send.{sendable}
use Rattle.std.proofs.Common.{refl}
use Rattle.pads_io.proofs.Calls.{reads-alone}
use Rattle.pads_module.specs.Modules.{contents}
use Rattle.pads_tool.proofs.Texts.{if-known}
use Rattle.pads_tool.proofs.Sums.{none-summed}
use Rattle.pads_tool.proofs.Crossing.{machine_send, sums_sync}
use Rattle.pads_tool.proofs.summary.summed.Goals as goal

pub drive-requires-clause-none_counted : goal.drive-requires-clause-none_counted
drive-requires-clause-none_counted g c κs within = none-summed (contents c.args.command.now.reader.module) c.args.summary c.requires.plan c.requires.empty c.requires.unspent

pub drive-requires-send-C-Reader : goal.drive-requires-send-C-Reader
drive-requires-send-C-Reader g c κs within = search (machine_send, sendable) depth 60 fits 20000

pub drive-requires-sync-C : goal.drive-requires-sync-C
drive-requires-sync-C g c κs within = search (sums_sync, sendable) depth 60 fits 20000

pub returns-in-Ok-Finished-clause-calls : goal.returns-in-Ok-Finished-clause-calls
returns-in-Ok-Finished-clause-calls g c = let d = c.drive.ensures.calls in reads-alone g.S.Source.reads _ _ c.args.source.now c.drive.new.source _ _ _ _ d.0 d.1 d.2

pub returns-in-Ok-ReadFault-clause-calls : goal.returns-in-Ok-ReadFault-clause-calls
returns-in-Ok-ReadFault-clause-calls g c = let d = c.drive.ensures.calls in reads-alone g.S.Source.reads _ _ c.args.source.now c.drive.new.source _ _ _ _ d.0 d.1 d.2

pub returns-in-Ok-TooLong-clause-calls : goal.returns-in-Ok-TooLong-clause-calls
returns-in-Ok-TooLong-clause-calls g c = let d = c.drive.ensures.calls in reads-alone g.S.Source.reads _ _ c.args.source.now c.drive.new.source _ _ _ _ d.0 d.1 d.2

pub returns-in-Err-Limit-clause-calls : goal.returns-in-Err-Limit-clause-calls
returns-in-Err-Limit-clause-calls g c = let d = c.drive.ensures.calls in reads-alone g.S.Source.reads _ _ c.args.source.now c.drive.new.source _ _ _ _ d.0 d.1 d.2

pub returns-in-Ok-TooLong-clause-gives : goal.returns-in-Ok-TooLong-clause-gives
returns-in-Ok-TooLong-clause-gives g c = if-known _ _ (g.S.Source.left c.args.source.now) (λ input p. (p.0, p.1, p.2, p.4)) (rw c.in-Ok-TooLong.field-0-is at c.in-Ok-TooLong.ensures.gives)

pub returns : goal.returns
returns g c = record {
  gives = tt;
  calls = let d = c.drive.ensures.calls in reads-alone g.S.Source.reads _ _ c.args.source.now c.drive.new.source _ _ _ _ d.0 d.1 d.2;
  source_kept = λ reads wants passes. absurd (wants refl);
  source_well = tt;
}
