use Rattle.std.proofs.Common.{true}
use Rattle.pads_io.specs.Calls.{stays}
use Rattle.pads_orders.specs.Orders.{order_of}
use Rattle.pads_tool.specs.Promises.{Keeps, counts, seen}
use Rattle.pads_tool.specs.declared.ending.Ending.TheVariants as ending
use Rattle.pads_tool.specs.FileReads.{file_of}
use Rattle.pads_tool.proofs.FileReads.{reads-nothing, reads-ordered}
use Rattle.pads_tool.proofs.Promises.{early}
use Rattle.pads_tool.proofs.Statuses.{obeyed, ordered-by}
use Rattle.pads_tool.proofs.running.obey.Goals as goal

pub returns-in-Ok-clause-gives : goal.returns-in-Ok-clause-gives
returns-in-Ok-clause-gives g c =
    obeyed c.args.words.now
    (seen (g.F.Files.content c.args.files.now) (g.S.Source.left c.args.source.now) (g.S.Source.left c.perform.new.source)
    (g.K.Sink.written c.args.out.now) (g.K.Sink.written c.perform.new.out) (g.E.Sink.written c.args.notes.now) (g.E.Sink.written c.perform.new.notes))
    (counts (g.F.Files.faults c.args.files.now) (g.F.Files.faults c.perform.new.files) (g.S.Source.faults c.args.source.now) (g.S.Source.faults c.perform.new.source)
    (g.K.Sink.faults c.args.out.now) (g.K.Sink.faults c.perform.new.out) (g.E.Sink.faults c.args.notes.now) (g.E.Sink.faults c.perform.new.notes))
    c.in-Ok.order c.perform.result c.in-Ok.ensures.order c.perform.ensures.gives

pub returns-in-Err-Memory-clause-gives : goal.returns-in-Err-Memory-clause-gives
returns-in-Err-Memory-clause-gives g c =
    ordered-by (λ promise. Keeps promise
    (seen (g.F.Files.content c.args.files.now) (g.S.Source.left c.args.source.now) (g.S.Source.left c.args.source.now)
    (g.K.Sink.written c.args.out.now) (g.K.Sink.written c.args.out.now) (g.E.Sink.written c.args.notes.now) (g.E.Sink.written c.args.notes.now))
    (counts (g.F.Files.faults c.args.files.now) (g.F.Files.faults c.args.files.now) (g.S.Source.faults c.args.source.now) (g.S.Source.faults c.args.source.now)
    (g.K.Sink.faults c.args.out.now) (g.K.Sink.faults c.args.out.now) (g.E.Sink.faults c.args.notes.now) (g.E.Sink.faults c.args.notes.now))
    ending.Memory) (order_of c.args.words.now)
    (λ none. let fault = c.in-Err-Memory.ensures.usage.1 none in let memory = c.in-Err-Memory.field-0-is in cc)
    (λ asked. early asked (g.F.Files.content c.args.files.now) (g.S.Source.left c.args.source.now) (g.K.Sink.written c.args.out.now) (g.E.Sink.written c.args.notes.now))

pub returns-in-Ok-clause-reads : goal.returns-in-Ok-clause-reads
returns-in-Ok-clause-reads g c = reads-ordered g.F.Files.reads c.args.words.now c.in-Ok.order c.args.files.now c.perform.new.files c.in-Ok.ensures.order c.perform.ensures.reads

pub returns-in-Err-Fault-clause-reads : goal.returns-in-Err-Fault-clause-reads
returns-in-Err-Fault-clause-reads g c = λ asked is. reads-nothing g.F.Files.reads (file_of asked) c.args.files.now

pub returns-in-Err-Fault-clause-calls : goal.returns-in-Err-Fault-clause-calls
returns-in-Err-Fault-clause-calls g c = (true, true, stays)

pub returns-in-Err-Memory-clause-reads : goal.returns-in-Err-Memory-clause-reads
returns-in-Err-Memory-clause-reads g c = λ asked is. reads-nothing g.F.Files.reads (file_of asked) c.args.files.now

pub returns-in-Err-Memory-clause-calls : goal.returns-in-Err-Memory-clause-calls
returns-in-Err-Memory-clause-calls g c = (true, true, stays)
