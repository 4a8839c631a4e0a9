use Rattle.std.proofs.Common.{subst, ap, ◌∙◌, true, false, ◌≡◌}
use Rattle.pads_tool.specs.Causes.{SinkFailed}
use Rattle.pads_tool.specs.Endings.{status_of}
use Rattle.pads_tool.specs.Promises.{counts, seen}
use Rattle.pads_tool.specs.Running.{Ordered, IsBeforeInput, IsQuiet}
use Rattle.pads_tool.specs.declared.status.Status.TheVariants as status
use Rattle.pads_tool.proofs.Promises.{ordered-still}
use Rattle.pads_tool.proofs.Statuses.{at-status, before-last, fair, fair-before, kept, none-left, nothing, reason, usage-is}
use Rattle.pads_tool.proofs.running.run.Goals as goal

pub returns-clause-done : goal.returns-clause-done
returns-clause-done g c = λ same. ordered-still c.args.words.now true (g.F.Files.content c.args.files.now) (g.S.Source.left c.args.source.now) (g.S.Source.left c.obey-ending.new.source)
    (g.K.Sink.written c.args.out.now) (g.K.Sink.written c.obey-ending.new.out) (g.E.Sink.written c.args.notes.now) (g.E.Sink.written c.obey-ending.new.notes) (g.E.Sink.written c.close.new.notes)
    (none-left c.obey-ending.result c.close.result status.Done _ _ _ _ c.close.ensures.status same tt c.close.ensures.words)
    ((at-status c.args.words.now
    (seen (g.F.Files.content c.args.files.now) (g.S.Source.left c.args.source.now) (g.S.Source.left c.obey-ending.new.source)
    (g.K.Sink.written c.args.out.now) (g.K.Sink.written c.obey-ending.new.out) (g.E.Sink.written c.args.notes.now) (g.E.Sink.written c.obey-ending.new.notes))
    (counts (g.F.Files.faults c.args.files.now) (g.F.Files.faults c.obey-ending.new.files) (g.S.Source.faults c.args.source.now) (g.S.Source.faults c.obey-ending.new.source)
    (g.K.Sink.faults c.args.out.now) (g.K.Sink.faults c.obey-ending.new.out) (g.E.Sink.faults c.args.notes.now) (g.E.Sink.faults c.obey-ending.new.notes))
    c.obey-ending.result c.close.result status.Done c.close.ensures.status same c.obey-ending.ensures.gives).0)

pub returns-clause-dirty : goal.returns-clause-dirty
returns-clause-dirty g c = λ same. ordered-still c.args.words.now false (g.F.Files.content c.args.files.now) (g.S.Source.left c.args.source.now) (g.S.Source.left c.obey-ending.new.source)
    (g.K.Sink.written c.args.out.now) (g.K.Sink.written c.obey-ending.new.out) (g.E.Sink.written c.args.notes.now) (g.E.Sink.written c.obey-ending.new.notes) (g.E.Sink.written c.close.new.notes)
    (none-left c.obey-ending.result c.close.result status.Dirty _ _ _ _ c.close.ensures.status same tt c.close.ensures.words)
    ((at-status c.args.words.now
    (seen (g.F.Files.content c.args.files.now) (g.S.Source.left c.args.source.now) (g.S.Source.left c.obey-ending.new.source)
    (g.K.Sink.written c.args.out.now) (g.K.Sink.written c.obey-ending.new.out) (g.E.Sink.written c.args.notes.now) (g.E.Sink.written c.obey-ending.new.notes))
    (counts (g.F.Files.faults c.args.files.now) (g.F.Files.faults c.obey-ending.new.files) (g.S.Source.faults c.args.source.now) (g.S.Source.faults c.obey-ending.new.source)
    (g.K.Sink.faults c.args.out.now) (g.K.Sink.faults c.obey-ending.new.out) (g.E.Sink.faults c.args.notes.now) (g.E.Sink.faults c.obey-ending.new.notes))
    c.obey-ending.result c.close.result status.Dirty c.close.ensures.status same c.obey-ending.ensures.gives).0)

pub returns-clause-usage : goal.returns-clause-usage
returns-clause-usage g c = usage-is c.args.words.now
    (seen (g.F.Files.content c.args.files.now) (g.S.Source.left c.args.source.now) (g.S.Source.left c.obey-ending.new.source)
    (g.K.Sink.written c.args.out.now) (g.K.Sink.written c.obey-ending.new.out) (g.E.Sink.written c.args.notes.now) (g.E.Sink.written c.obey-ending.new.notes))
    (counts (g.F.Files.faults c.args.files.now) (g.F.Files.faults c.obey-ending.new.files) (g.S.Source.faults c.args.source.now) (g.S.Source.faults c.obey-ending.new.source)
    (g.K.Sink.faults c.args.out.now) (g.K.Sink.faults c.obey-ending.new.out) (g.E.Sink.faults c.args.notes.now) (g.E.Sink.faults c.obey-ending.new.notes))
    c.obey-ending.result c.close.result c.close.ensures.status c.obey-ending.ensures.gives

pub returns-clause-file_fault : goal.returns-clause-file_fault
returns-clause-file_fault g c = λ same.
    let at = at-status c.args.words.now
    (seen (g.F.Files.content c.args.files.now) (g.S.Source.left c.args.source.now) (g.S.Source.left c.obey-ending.new.source)
    (g.K.Sink.written c.args.out.now) (g.K.Sink.written c.obey-ending.new.out) (g.E.Sink.written c.args.notes.now) (g.E.Sink.written c.obey-ending.new.notes))
    (counts (g.F.Files.faults c.args.files.now) (g.F.Files.faults c.obey-ending.new.files) (g.S.Source.faults c.args.source.now) (g.S.Source.faults c.obey-ending.new.source)
    (g.K.Sink.faults c.args.out.now) (g.K.Sink.faults c.obey-ending.new.out) (g.E.Sink.faults c.args.notes.now) (g.E.Sink.faults c.obey-ending.new.notes))
    c.obey-ending.result c.close.result status.FileFault c.close.ensures.status same c.obey-ending.ensures.gives in
    (at.1, at.0)

pub returns-clause-read_fault : goal.returns-clause-read_fault
returns-clause-read_fault g c = λ same. (at-status c.args.words.now
    (seen (g.F.Files.content c.args.files.now) (g.S.Source.left c.args.source.now) (g.S.Source.left c.obey-ending.new.source)
    (g.K.Sink.written c.args.out.now) (g.K.Sink.written c.obey-ending.new.out) (g.E.Sink.written c.args.notes.now) (g.E.Sink.written c.obey-ending.new.notes))
    (counts (g.F.Files.faults c.args.files.now) (g.F.Files.faults c.obey-ending.new.files) (g.S.Source.faults c.args.source.now) (g.S.Source.faults c.obey-ending.new.source)
    (g.K.Sink.faults c.args.out.now) (g.K.Sink.faults c.obey-ending.new.out) (g.E.Sink.faults c.args.notes.now) (g.E.Sink.faults c.obey-ending.new.notes))
    c.obey-ending.result c.close.result status.ReadFault c.close.ensures.status same c.obey-ending.ensures.gives).0

pub returns-clause-write_fault : goal.returns-clause-write_fault
returns-clause-write_fault g c = λ same. before-last c.args.words.now (g.F.Files.content c.args.files.now) c.close.result c.obey-ending.result
    (g.E.Sink.written c.obey-ending.new.notes) (g.E.Sink.written c.close.new.notes) (g.E.Sink.faults c.obey-ending.new.notes) (g.E.Sink.faults c.close.new.notes)
    (λ noted count. Ordered c.args.words.now (λ promise. SinkFailed promise.writes_notes (g.K.Sink.faults c.args.out.now) (g.K.Sink.faults c.obey-ending.new.out) (g.E.Sink.faults c.args.notes.now) count))
    c.close.ensures.status
    (reason c.args.words.now
    (seen (g.F.Files.content c.args.files.now) (g.S.Source.left c.args.source.now) (g.S.Source.left c.obey-ending.new.source)
    (g.K.Sink.written c.args.out.now) (g.K.Sink.written c.obey-ending.new.out) (g.E.Sink.written c.args.notes.now) (g.E.Sink.written c.obey-ending.new.notes))
    (counts (g.F.Files.faults c.args.files.now) (g.F.Files.faults c.obey-ending.new.files) (g.S.Source.faults c.args.source.now) (g.S.Source.faults c.obey-ending.new.source)
    (g.K.Sink.faults c.args.out.now) (g.K.Sink.faults c.obey-ending.new.out) (g.E.Sink.faults c.args.notes.now) (g.E.Sink.faults c.obey-ending.new.notes))
    c.obey-ending.result c.obey-ending.ensures.gives)
    c.close.ensures.words
    ((at-status c.args.words.now
    (seen (g.F.Files.content c.args.files.now) (g.S.Source.left c.args.source.now) (g.S.Source.left c.obey-ending.new.source)
    (g.K.Sink.written c.args.out.now) (g.K.Sink.written c.obey-ending.new.out) (g.E.Sink.written c.args.notes.now) (g.E.Sink.written c.obey-ending.new.notes))
    (counts (g.F.Files.faults c.args.files.now) (g.F.Files.faults c.obey-ending.new.files) (g.S.Source.faults c.args.source.now) (g.S.Source.faults c.obey-ending.new.source)
    (g.K.Sink.faults c.args.out.now) (g.K.Sink.faults c.obey-ending.new.out) (g.E.Sink.faults c.args.notes.now) (g.E.Sink.faults c.obey-ending.new.notes))
    c.obey-ending.result c.close.result status.WriteFault c.close.ensures.status same c.obey-ending.ensures.gives).0)

pub returns-clause-kept : goal.returns-clause-kept
returns-clause-kept g c = kept c.args.words.now
    (seen (g.F.Files.content c.args.files.now) (g.S.Source.left c.args.source.now) (g.S.Source.left c.obey-ending.new.source)
    (g.K.Sink.written c.args.out.now) (g.K.Sink.written c.obey-ending.new.out) (g.E.Sink.written c.args.notes.now) (g.E.Sink.written c.obey-ending.new.notes))
    (counts (g.F.Files.faults c.args.files.now) (g.F.Files.faults c.obey-ending.new.files) (g.S.Source.faults c.args.source.now) (g.S.Source.faults c.obey-ending.new.source)
    (g.K.Sink.faults c.args.out.now) (g.K.Sink.faults c.obey-ending.new.out) (g.E.Sink.faults c.args.notes.now) (g.E.Sink.faults c.obey-ending.new.notes))
    c.obey-ending.result c.close.result c.close.ensures.status c.obey-ending.ensures.gives

pub returns-clause-limit : goal.returns-clause-limit
returns-clause-limit g c = λ same. before-last c.args.words.now (g.F.Files.content c.args.files.now) c.close.result c.obey-ending.result
    (g.E.Sink.written c.obey-ending.new.notes) (g.E.Sink.written c.close.new.notes) (g.E.Sink.faults c.obey-ending.new.notes) (g.E.Sink.faults c.close.new.notes)
    (λ noted count. Ordered c.args.words.now (λ promise. promise.stops_at_count
    (seen (g.F.Files.content c.args.files.now) (g.S.Source.left c.args.source.now) (g.S.Source.left c.obey-ending.new.source)
    (g.K.Sink.written c.args.out.now) (g.K.Sink.written c.obey-ending.new.out) (g.E.Sink.written c.args.notes.now) noted)))
    c.close.ensures.status
    (reason c.args.words.now
    (seen (g.F.Files.content c.args.files.now) (g.S.Source.left c.args.source.now) (g.S.Source.left c.obey-ending.new.source)
    (g.K.Sink.written c.args.out.now) (g.K.Sink.written c.obey-ending.new.out) (g.E.Sink.written c.args.notes.now) (g.E.Sink.written c.obey-ending.new.notes))
    (counts (g.F.Files.faults c.args.files.now) (g.F.Files.faults c.obey-ending.new.files) (g.S.Source.faults c.args.source.now) (g.S.Source.faults c.obey-ending.new.source)
    (g.K.Sink.faults c.args.out.now) (g.K.Sink.faults c.obey-ending.new.out) (g.E.Sink.faults c.args.notes.now) (g.E.Sink.faults c.obey-ending.new.notes))
    c.obey-ending.result c.obey-ending.ensures.gives)
    c.close.ensures.words
    ((at-status c.args.words.now
    (seen (g.F.Files.content c.args.files.now) (g.S.Source.left c.args.source.now) (g.S.Source.left c.obey-ending.new.source)
    (g.K.Sink.written c.args.out.now) (g.K.Sink.written c.obey-ending.new.out) (g.E.Sink.written c.args.notes.now) (g.E.Sink.written c.obey-ending.new.notes))
    (counts (g.F.Files.faults c.args.files.now) (g.F.Files.faults c.obey-ending.new.files) (g.S.Source.faults c.args.source.now) (g.S.Source.faults c.obey-ending.new.source)
    (g.K.Sink.faults c.args.out.now) (g.K.Sink.faults c.obey-ending.new.out) (g.E.Sink.faults c.args.notes.now) (g.E.Sink.faults c.obey-ending.new.notes))
    c.obey-ending.result c.close.result status.Limit c.close.ensures.status same c.obey-ending.ensures.gives).0)

pub returns-clause-completeness : goal.returns-clause-completeness
returns-clause-completeness g c = λ f. fair c.args.words.now
    (seen (g.F.Files.content c.args.files.now) (g.S.Source.left c.args.source.now) (g.S.Source.left c.obey-ending.new.source)
    (g.K.Sink.written c.args.out.now) (g.K.Sink.written c.obey-ending.new.out) (g.E.Sink.written c.args.notes.now) (g.E.Sink.written c.obey-ending.new.notes))
    (counts (g.F.Files.faults c.args.files.now) (g.F.Files.faults c.obey-ending.new.files) (g.S.Source.faults c.args.source.now) (g.S.Source.faults c.obey-ending.new.source)
    (g.K.Sink.faults c.args.out.now) (g.K.Sink.faults c.obey-ending.new.out) (g.E.Sink.faults c.args.notes.now) (g.E.Sink.faults c.obey-ending.new.notes))
    (fair-before c.args.words.now (g.F.Files.content c.args.files.now) (g.S.Source.left c.args.source.now) _ _ _ _ _ _ _ _ _ c.close.ensures.words.later f)
    c.obey-ending.result c.close.result c.close.ensures.status c.obey-ending.ensures.gives

pub returns-clause-nothing : goal.returns-clause-nothing
returns-clause-nothing g c = nothing c.args.words.now
    (seen (g.F.Files.content c.args.files.now) (g.S.Source.left c.args.source.now) (g.S.Source.left c.obey-ending.new.source)
    (g.K.Sink.written c.args.out.now) (g.K.Sink.written c.obey-ending.new.out) (g.E.Sink.written c.args.notes.now) (g.E.Sink.written c.obey-ending.new.notes))
    (counts (g.F.Files.faults c.args.files.now) (g.F.Files.faults c.obey-ending.new.files) (g.S.Source.faults c.args.source.now) (g.S.Source.faults c.obey-ending.new.source)
    (g.K.Sink.faults c.args.out.now) (g.K.Sink.faults c.obey-ending.new.out) (g.E.Sink.faults c.args.notes.now) (g.E.Sink.faults c.obey-ending.new.notes))
    c.obey-ending.result c.close.result c.close.ensures.status c.obey-ending.ensures.gives

pub returns-clause-complete : goal.returns-clause-complete
returns-clause-complete g c = λ same. before-last c.args.words.now (g.F.Files.content c.args.files.now) c.close.result c.obey-ending.result
    (g.E.Sink.written c.obey-ending.new.notes) (g.E.Sink.written c.close.new.notes) (g.E.Sink.faults c.obey-ending.new.notes) (g.E.Sink.faults c.close.new.notes)
    (λ noted count. Ordered c.args.words.now (λ promise. promise.stops_reading
    (seen (g.F.Files.content c.args.files.now) (g.S.Source.left c.args.source.now) (g.S.Source.left c.obey-ending.new.source)
    (g.K.Sink.written c.args.out.now) (g.K.Sink.written c.obey-ending.new.out) (g.E.Sink.written c.args.notes.now) noted)))
    c.close.ensures.status
    (reason c.args.words.now
    (seen (g.F.Files.content c.args.files.now) (g.S.Source.left c.args.source.now) (g.S.Source.left c.obey-ending.new.source)
    (g.K.Sink.written c.args.out.now) (g.K.Sink.written c.obey-ending.new.out) (g.E.Sink.written c.args.notes.now) (g.E.Sink.written c.obey-ending.new.notes))
    (counts (g.F.Files.faults c.args.files.now) (g.F.Files.faults c.obey-ending.new.files) (g.S.Source.faults c.args.source.now) (g.S.Source.faults c.obey-ending.new.source)
    (g.K.Sink.faults c.args.out.now) (g.K.Sink.faults c.obey-ending.new.out) (g.E.Sink.faults c.args.notes.now) (g.E.Sink.faults c.obey-ending.new.notes))
    c.obey-ending.result c.obey-ending.ensures.gives)
    c.close.ensures.words
    ((at-status c.args.words.now
    (seen (g.F.Files.content c.args.files.now) (g.S.Source.left c.args.source.now) (g.S.Source.left c.obey-ending.new.source)
    (g.K.Sink.written c.args.out.now) (g.K.Sink.written c.obey-ending.new.out) (g.E.Sink.written c.args.notes.now) (g.E.Sink.written c.obey-ending.new.notes))
    (counts (g.F.Files.faults c.args.files.now) (g.F.Files.faults c.obey-ending.new.files) (g.S.Source.faults c.args.source.now) (g.S.Source.faults c.obey-ending.new.source)
    (g.K.Sink.faults c.args.out.now) (g.K.Sink.faults c.obey-ending.new.out) (g.E.Sink.faults c.args.notes.now) (g.E.Sink.faults c.obey-ending.new.notes))
    c.obey-ending.result c.close.result status.ReadFault c.close.ensures.status same c.obey-ending.ensures.gives).1)

pub returns-clause-too_long : goal.returns-clause-too_long
returns-clause-too_long g c = λ same. before-last c.args.words.now (g.F.Files.content c.args.files.now) c.close.result c.obey-ending.result
    (g.E.Sink.written c.obey-ending.new.notes) (g.E.Sink.written c.close.new.notes) (g.E.Sink.faults c.obey-ending.new.notes) (g.E.Sink.faults c.close.new.notes)
    (λ noted count. Ordered c.args.words.now (λ promise. promise.stops_at_limit
    (seen (g.F.Files.content c.args.files.now) (g.S.Source.left c.args.source.now) (g.S.Source.left c.obey-ending.new.source)
    (g.K.Sink.written c.args.out.now) (g.K.Sink.written c.obey-ending.new.out) (g.E.Sink.written c.args.notes.now) noted)))
    c.close.ensures.status
    (reason c.args.words.now
    (seen (g.F.Files.content c.args.files.now) (g.S.Source.left c.args.source.now) (g.S.Source.left c.obey-ending.new.source)
    (g.K.Sink.written c.args.out.now) (g.K.Sink.written c.obey-ending.new.out) (g.E.Sink.written c.args.notes.now) (g.E.Sink.written c.obey-ending.new.notes))
    (counts (g.F.Files.faults c.args.files.now) (g.F.Files.faults c.obey-ending.new.files) (g.S.Source.faults c.args.source.now) (g.S.Source.faults c.obey-ending.new.source)
    (g.K.Sink.faults c.args.out.now) (g.K.Sink.faults c.obey-ending.new.out) (g.E.Sink.faults c.args.notes.now) (g.E.Sink.faults c.obey-ending.new.notes))
    c.obey-ending.result c.obey-ending.ensures.gives)
    c.close.ensures.words
    ((at-status c.args.words.now
    (seen (g.F.Files.content c.args.files.now) (g.S.Source.left c.args.source.now) (g.S.Source.left c.obey-ending.new.source)
    (g.K.Sink.written c.args.out.now) (g.K.Sink.written c.obey-ending.new.out) (g.E.Sink.written c.args.notes.now) (g.E.Sink.written c.obey-ending.new.notes))
    (counts (g.F.Files.faults c.args.files.now) (g.F.Files.faults c.obey-ending.new.files) (g.S.Source.faults c.args.source.now) (g.S.Source.faults c.obey-ending.new.source)
    (g.K.Sink.faults c.args.out.now) (g.K.Sink.faults c.obey-ending.new.out) (g.E.Sink.faults c.args.notes.now) (g.E.Sink.faults c.obey-ending.new.notes))
    c.obey-ending.result c.close.result status.TooLong c.close.ensures.status same c.obey-ending.ensures.gives))

pub returns-clause-prefix : goal.returns-clause-prefix
returns-clause-prefix g c = λ same. before-last c.args.words.now (g.F.Files.content c.args.files.now) c.close.result c.obey-ending.result
    (g.E.Sink.written c.obey-ending.new.notes) (g.E.Sink.written c.close.new.notes) (g.E.Sink.faults c.obey-ending.new.notes) (g.E.Sink.faults c.close.new.notes)
    (λ noted count. Ordered c.args.words.now (λ promise. promise.stops_writing
    (seen (g.F.Files.content c.args.files.now) (g.S.Source.left c.args.source.now) (g.S.Source.left c.obey-ending.new.source)
    (g.K.Sink.written c.args.out.now) (g.K.Sink.written c.obey-ending.new.out) (g.E.Sink.written c.args.notes.now) noted)))
    c.close.ensures.status
    (reason c.args.words.now
    (seen (g.F.Files.content c.args.files.now) (g.S.Source.left c.args.source.now) (g.S.Source.left c.obey-ending.new.source)
    (g.K.Sink.written c.args.out.now) (g.K.Sink.written c.obey-ending.new.out) (g.E.Sink.written c.args.notes.now) (g.E.Sink.written c.obey-ending.new.notes))
    (counts (g.F.Files.faults c.args.files.now) (g.F.Files.faults c.obey-ending.new.files) (g.S.Source.faults c.args.source.now) (g.S.Source.faults c.obey-ending.new.source)
    (g.K.Sink.faults c.args.out.now) (g.K.Sink.faults c.obey-ending.new.out) (g.E.Sink.faults c.args.notes.now) (g.E.Sink.faults c.obey-ending.new.notes))
    c.obey-ending.result c.obey-ending.ensures.gives)
    c.close.ensures.words
    ((at-status c.args.words.now
    (seen (g.F.Files.content c.args.files.now) (g.S.Source.left c.args.source.now) (g.S.Source.left c.obey-ending.new.source)
    (g.K.Sink.written c.args.out.now) (g.K.Sink.written c.obey-ending.new.out) (g.E.Sink.written c.args.notes.now) (g.E.Sink.written c.obey-ending.new.notes))
    (counts (g.F.Files.faults c.args.files.now) (g.F.Files.faults c.obey-ending.new.files) (g.S.Source.faults c.args.source.now) (g.S.Source.faults c.obey-ending.new.source)
    (g.K.Sink.faults c.args.out.now) (g.K.Sink.faults c.obey-ending.new.out) (g.E.Sink.faults c.args.notes.now) (g.E.Sink.faults c.obey-ending.new.notes))
    c.obey-ending.result c.close.result status.WriteFault c.close.ensures.status same c.obey-ending.ensures.gives).1)

pub returns-clause-ahead : goal.returns-clause-ahead
returns-clause-ahead g c = λ same. before-last c.args.words.now (g.F.Files.content c.args.files.now) c.close.result c.obey-ending.result
    (g.E.Sink.written c.obey-ending.new.notes) (g.E.Sink.written c.close.new.notes) (g.E.Sink.faults c.obey-ending.new.notes) (g.E.Sink.faults c.close.new.notes)
    (λ noted count. Ordered c.args.words.now (λ promise. promise.stays_near
    (seen (g.F.Files.content c.args.files.now) (g.S.Source.left c.args.source.now) (g.S.Source.left c.obey-ending.new.source)
    (g.K.Sink.written c.args.out.now) (g.K.Sink.written c.obey-ending.new.out) (g.E.Sink.written c.args.notes.now) noted)))
    c.close.ensures.status
    (reason c.args.words.now
    (seen (g.F.Files.content c.args.files.now) (g.S.Source.left c.args.source.now) (g.S.Source.left c.obey-ending.new.source)
    (g.K.Sink.written c.args.out.now) (g.K.Sink.written c.obey-ending.new.out) (g.E.Sink.written c.args.notes.now) (g.E.Sink.written c.obey-ending.new.notes))
    (counts (g.F.Files.faults c.args.files.now) (g.F.Files.faults c.obey-ending.new.files) (g.S.Source.faults c.args.source.now) (g.S.Source.faults c.obey-ending.new.source)
    (g.K.Sink.faults c.args.out.now) (g.K.Sink.faults c.obey-ending.new.out) (g.E.Sink.faults c.args.notes.now) (g.E.Sink.faults c.obey-ending.new.notes))
    c.obey-ending.result c.obey-ending.ensures.gives)
    c.close.ensures.words
    ((at-status c.args.words.now
    (seen (g.F.Files.content c.args.files.now) (g.S.Source.left c.args.source.now) (g.S.Source.left c.obey-ending.new.source)
    (g.K.Sink.written c.args.out.now) (g.K.Sink.written c.obey-ending.new.out) (g.E.Sink.written c.args.notes.now) (g.E.Sink.written c.obey-ending.new.notes))
    (counts (g.F.Files.faults c.args.files.now) (g.F.Files.faults c.obey-ending.new.files) (g.S.Source.faults c.args.source.now) (g.S.Source.faults c.obey-ending.new.source)
    (g.K.Sink.faults c.args.out.now) (g.K.Sink.faults c.obey-ending.new.out) (g.E.Sink.faults c.args.notes.now) (g.E.Sink.faults c.obey-ending.new.notes))
    c.obey-ending.result c.close.result status.WriteFault c.close.ensures.status same c.obey-ending.ensures.gives).2)

pub returns-clause-memory : goal.returns-clause-memory
returns-clause-memory g c = λ same. before-last c.args.words.now (g.F.Files.content c.args.files.now) c.close.result c.obey-ending.result
    (g.E.Sink.written c.obey-ending.new.notes) (g.E.Sink.written c.close.new.notes) (g.E.Sink.faults c.obey-ending.new.notes) (g.E.Sink.faults c.close.new.notes)
    (λ noted count. Ordered c.args.words.now (λ promise. promise.stops_early
    (seen (g.F.Files.content c.args.files.now) (g.S.Source.left c.args.source.now) (g.S.Source.left c.obey-ending.new.source)
    (g.K.Sink.written c.args.out.now) (g.K.Sink.written c.obey-ending.new.out) (g.E.Sink.written c.args.notes.now) noted)))
    c.close.ensures.status
    (reason c.args.words.now
    (seen (g.F.Files.content c.args.files.now) (g.S.Source.left c.args.source.now) (g.S.Source.left c.obey-ending.new.source)
    (g.K.Sink.written c.args.out.now) (g.K.Sink.written c.obey-ending.new.out) (g.E.Sink.written c.args.notes.now) (g.E.Sink.written c.obey-ending.new.notes))
    (counts (g.F.Files.faults c.args.files.now) (g.F.Files.faults c.obey-ending.new.files) (g.S.Source.faults c.args.source.now) (g.S.Source.faults c.obey-ending.new.source)
    (g.K.Sink.faults c.args.out.now) (g.K.Sink.faults c.obey-ending.new.out) (g.E.Sink.faults c.args.notes.now) (g.E.Sink.faults c.obey-ending.new.notes))
    c.obey-ending.result c.obey-ending.ensures.gives)
    c.close.ensures.words
    ((at-status c.args.words.now
    (seen (g.F.Files.content c.args.files.now) (g.S.Source.left c.args.source.now) (g.S.Source.left c.obey-ending.new.source)
    (g.K.Sink.written c.args.out.now) (g.K.Sink.written c.obey-ending.new.out) (g.E.Sink.written c.args.notes.now) (g.E.Sink.written c.obey-ending.new.notes))
    (counts (g.F.Files.faults c.args.files.now) (g.F.Files.faults c.obey-ending.new.files) (g.S.Source.faults c.args.source.now) (g.S.Source.faults c.obey-ending.new.source)
    (g.K.Sink.faults c.args.out.now) (g.K.Sink.faults c.obey-ending.new.out) (g.E.Sink.faults c.args.notes.now) (g.E.Sink.faults c.obey-ending.new.notes))
    c.obey-ending.result c.close.result status.Memory c.close.ensures.status same c.obey-ending.ensures.gives))

pub returns-clause-untouched : goal.returns-clause-untouched
returns-clause-untouched g c = λ before. c.obey-ending.ensures.untouched (subst IsBeforeInput c.close.ensures.status before)

pub returns-clause-last_words : goal.returns-clause-last_words
returns-clause-last_words g c = before-last c.args.words.now (g.F.Files.content c.args.files.now) c.close.result c.obey-ending.result
    (g.E.Sink.written c.obey-ending.new.notes) (g.E.Sink.written c.close.new.notes) (g.E.Sink.faults c.obey-ending.new.notes) (g.E.Sink.faults c.close.new.notes)
    (λ noted count. IsQuiet c.args.words.now c.close.result → (noted ≡ g.E.Sink.written c.args.notes.now) × (count ≡ g.E.Sink.faults c.args.notes.now))
    c.close.ensures.status
    (reason c.args.words.now
    (seen (g.F.Files.content c.args.files.now) (g.S.Source.left c.args.source.now) (g.S.Source.left c.obey-ending.new.source)
    (g.K.Sink.written c.args.out.now) (g.K.Sink.written c.obey-ending.new.out) (g.E.Sink.written c.args.notes.now) (g.E.Sink.written c.obey-ending.new.notes))
    (counts (g.F.Files.faults c.args.files.now) (g.F.Files.faults c.obey-ending.new.files) (g.S.Source.faults c.args.source.now) (g.S.Source.faults c.obey-ending.new.source)
    (g.K.Sink.faults c.args.out.now) (g.K.Sink.faults c.obey-ending.new.out) (g.E.Sink.faults c.args.notes.now) (g.E.Sink.faults c.obey-ending.new.notes))
    c.obey-ending.result c.obey-ending.ensures.gives)
    c.close.ensures.words
    (λ quiet. let same = c.obey-ending.ensures.quiet (subst (IsQuiet c.args.words.now) c.close.ensures.status quiet) in (ap g.E.Sink.written same, ap g.E.Sink.faults same))

pub returns-clause-notes_told : goal.returns-clause-notes_told
returns-clause-notes_told g c = λ other. before-last c.args.words.now (g.F.Files.content c.args.files.now) c.close.result c.obey-ending.result
    (g.E.Sink.written c.obey-ending.new.notes) (g.E.Sink.written c.close.new.notes) (g.E.Sink.faults c.obey-ending.new.notes) (g.E.Sink.faults c.close.new.notes)
    (λ noted count. count ≡ g.E.Sink.faults c.args.notes.now)
    c.close.ensures.status
    (reason c.args.words.now
    (seen (g.F.Files.content c.args.files.now) (g.S.Source.left c.args.source.now) (g.S.Source.left c.obey-ending.new.source)
    (g.K.Sink.written c.args.out.now) (g.K.Sink.written c.obey-ending.new.out) (g.E.Sink.written c.args.notes.now) (g.E.Sink.written c.obey-ending.new.notes))
    (counts (g.F.Files.faults c.args.files.now) (g.F.Files.faults c.obey-ending.new.files) (g.S.Source.faults c.args.source.now) (g.S.Source.faults c.obey-ending.new.source)
    (g.K.Sink.faults c.args.out.now) (g.K.Sink.faults c.obey-ending.new.out) (g.E.Sink.faults c.args.notes.now) (g.E.Sink.faults c.obey-ending.new.notes))
    c.obey-ending.result c.obey-ending.ensures.gives)
    c.close.ensures.words
    (c.obey-ending.ensures.notes_kept (λ e. other (c.close.ensures.status ∙ ap status_of e)))

pub returns-clause-files_told : goal.returns-clause-files_told
returns-clause-files_told g c = λ other. c.obey-ending.ensures.files_kept (λ e. other (c.close.ensures.status ∙ ap status_of e))

pub returns-clause-out_told : goal.returns-clause-out_told
returns-clause-out_told g c = λ other. c.obey-ending.ensures.out_kept (λ e. other (c.close.ensures.status ∙ ap status_of e))

pub returns-clause-source_told : goal.returns-clause-source_told
returns-clause-source_told g c = λ reads writes wants passes. c.obey-ending.ensures.source_kept (λ e. reads (c.close.ensures.status ∙ ap status_of e))
    (λ e. writes (c.close.ensures.status ∙ ap status_of e)) (λ e. wants (c.close.ensures.status ∙ ap status_of e)) (λ e. passes (c.close.ensures.status ∙ ap status_of e))

pub returns-clause-calls : goal.returns-clause-calls
returns-clause-calls g c = (c.obey-ending.new.notes, c.obey-ending.ensures.calls, c.close.ensures.calls.0, c.close.ensures.calls.1)
