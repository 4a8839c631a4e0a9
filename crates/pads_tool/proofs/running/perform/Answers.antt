use Rattle.std.proofs.Common.{rules, true}
use Rattle.pads_io.proofs.Calls.{out-writes, with-notes}
use Rattle.pads_orders.specs.declared.order.Order.TheVariants as order
use Rattle.pads_tool.specs.Promises.{counts, seen}
use Rattle.pads_tool.proofs.Promises.{same-order-keeps}
use Rattle.pads_tool.proofs.running.perform.Goals as goal

pub returns-in-Check-clause-gives : goal.returns-in-Check-clause-gives
returns-in-Check-clause-gives g c =
    same-order-keeps c.args.order.now (order.Check c.as_str.result.now c.in-Check.settings)
    (seen (g.F.Files.content c.args.files.now) (g.S.Source.left c.args.source.now) (g.S.Source.left c.args.source.now)
    (g.K.Sink.written c.args.out.now) (g.K.Sink.written c.check.new.out) (g.E.Sink.written c.args.notes.now) (g.E.Sink.written c.args.notes.now))
    (counts (g.F.Files.faults c.args.files.now) (g.F.Files.faults c.check.new.files) (g.S.Source.faults c.args.source.now) (g.S.Source.faults c.args.source.now)
    (g.K.Sink.faults c.args.out.now) (g.K.Sink.faults c.check.new.out) (g.E.Sink.faults c.args.notes.now) (g.E.Sink.faults c.args.notes.now))
    c.check.result (search rules) (c.check.ensures.gives (g.S.Source.left c.args.source.now) (g.S.Source.left c.args.source.now)
    (g.E.Sink.written c.args.notes.now) (g.E.Sink.written c.args.notes.now) (g.S.Source.faults c.args.source.now) (g.S.Source.faults c.args.source.now)
    (g.E.Sink.faults c.args.notes.now) (g.E.Sink.faults c.args.notes.now))

pub returns-in-Parse-clause-gives : goal.returns-in-Parse-clause-gives
returns-in-Parse-clause-gives g c =
    same-order-keeps c.args.order.now (order.Parse c.as_str-in-Parse.result.now c.in-Parse.settings c.in-Parse.mask)
    (seen (g.F.Files.content c.args.files.now) (g.S.Source.left c.args.source.now) (g.S.Source.left c.parse.new.source)
    (g.K.Sink.written c.args.out.now) (g.K.Sink.written c.parse.new.out) (g.E.Sink.written c.args.notes.now) (g.E.Sink.written c.args.notes.now))
    (counts (g.F.Files.faults c.args.files.now) (g.F.Files.faults c.parse.new.files) (g.S.Source.faults c.args.source.now) (g.S.Source.faults c.parse.new.source)
    (g.K.Sink.faults c.args.out.now) (g.K.Sink.faults c.parse.new.out) (g.E.Sink.faults c.args.notes.now) (g.E.Sink.faults c.args.notes.now))
    c.parse.result (search rules) (c.parse.ensures.gives (g.E.Sink.written c.args.notes.now) (g.E.Sink.faults c.args.notes.now))

pub returns-in-Print-clause-gives : goal.returns-in-Print-clause-gives
returns-in-Print-clause-gives g c =
    same-order-keeps c.args.order.now (order.Print c.as_str-in-Print.result.now c.in-Print.settings)
    (seen (g.F.Files.content c.args.files.now) (g.S.Source.left c.args.source.now) (g.S.Source.left c.print.new.source)
    (g.K.Sink.written c.args.out.now) (g.K.Sink.written c.print.new.out) (g.E.Sink.written c.args.notes.now) (g.E.Sink.written c.print.new.notes))
    (counts (g.F.Files.faults c.args.files.now) (g.F.Files.faults c.print.new.files) (g.S.Source.faults c.args.source.now) (g.S.Source.faults c.print.new.source)
    (g.K.Sink.faults c.args.out.now) (g.K.Sink.faults c.print.new.out) (g.E.Sink.faults c.args.notes.now) (g.E.Sink.faults c.print.new.notes))
    c.print.result (search rules) c.print.ensures.gives

pub returns-in-Summary-clause-gives : goal.returns-in-Summary-clause-gives
returns-in-Summary-clause-gives g c =
    same-order-keeps c.args.order.now (order.Summary c.as_str-in-Summary.result.now c.in-Summary.settings c.in-Summary.mask)
    (seen (g.F.Files.content c.args.files.now) (g.S.Source.left c.args.source.now) (g.S.Source.left c.summary.new.source)
    (g.K.Sink.written c.args.out.now) (g.K.Sink.written c.summary.new.out) (g.E.Sink.written c.args.notes.now) (g.E.Sink.written c.args.notes.now))
    (counts (g.F.Files.faults c.args.files.now) (g.F.Files.faults c.summary.new.files) (g.S.Source.faults c.args.source.now) (g.S.Source.faults c.summary.new.source)
    (g.K.Sink.faults c.args.out.now) (g.K.Sink.faults c.summary.new.out) (g.E.Sink.faults c.args.notes.now) (g.E.Sink.faults c.args.notes.now))
    c.summary.result (search rules) (c.summary.ensures.gives (g.E.Sink.written c.args.notes.now) (g.E.Sink.written c.args.notes.now)
    (g.E.Sink.faults c.args.notes.now) (g.E.Sink.faults c.args.notes.now))

pub returns-in-Selftest-clause-gives : goal.returns-in-Selftest-clause-gives
returns-in-Selftest-clause-gives g c =
    same-order-keeps c.args.order.now (order.Selftest c.in-Selftest.records c.in-Selftest.settings)
    (seen (g.F.Files.content c.args.files.now) (g.S.Source.left c.args.source.now) (g.S.Source.left c.args.source.now)
    (g.K.Sink.written c.args.out.now) (g.K.Sink.written c.selftest.new.out) (g.E.Sink.written c.args.notes.now) (g.E.Sink.written c.args.notes.now))
    (counts (g.F.Files.faults c.args.files.now) (g.F.Files.faults c.args.files.now) (g.S.Source.faults c.args.source.now) (g.S.Source.faults c.args.source.now)
    (g.K.Sink.faults c.args.out.now) (g.K.Sink.faults c.selftest.new.out) (g.E.Sink.faults c.args.notes.now) (g.E.Sink.faults c.args.notes.now))
    c.selftest.result (search rules) (c.selftest.ensures.gives (g.F.Files.content c.args.files.now) (g.S.Source.left c.args.source.now) (g.S.Source.left c.args.source.now)
    (g.E.Sink.written c.args.notes.now) (g.E.Sink.written c.args.notes.now) (g.F.Files.faults c.args.files.now) (g.F.Files.faults c.args.files.now)
    (g.S.Source.faults c.args.source.now) (g.S.Source.faults c.args.source.now) (g.E.Sink.faults c.args.notes.now) (g.E.Sink.faults c.args.notes.now))

pub returns-in-Query-clause-gives : goal.returns-in-Query-clause-gives
returns-in-Query-clause-gives g c =
    same-order-keeps c.args.order.now (order.Query c.in-Query.question c.in-Query.settings c.in-Query.mask)
    (seen (g.F.Files.content c.args.files.now) (g.S.Source.left c.args.source.now) (g.S.Source.left c.query.new.source)
    (g.K.Sink.written c.args.out.now) (g.K.Sink.written c.query.new.out) (g.E.Sink.written c.args.notes.now) (g.E.Sink.written c.args.notes.now))
    (counts (g.F.Files.faults c.args.files.now) (g.F.Files.faults c.query.new.files) (g.S.Source.faults c.args.source.now) (g.S.Source.faults c.query.new.source)
    (g.K.Sink.faults c.args.out.now) (g.K.Sink.faults c.query.new.out) (g.E.Sink.faults c.args.notes.now) (g.E.Sink.faults c.args.notes.now))
    c.query.result (search rules) (c.query.ensures.gives (g.E.Sink.written c.args.notes.now) (g.E.Sink.faults c.args.notes.now))

pub returns-in-Check-clause-calls : goal.returns-in-Check-clause-calls
returns-in-Check-clause-calls g c =
    let wrote = c.check.ensures.calls in (true, wrote.0, out-writes g.S.Source.reads g.K.Sink.writes g.E.Sink.writes true c.args.source.now c.args.notes.now wrote.1)

pub returns-in-Selftest-clause-calls : goal.returns-in-Selftest-clause-calls
returns-in-Selftest-clause-calls g c =
    let wrote = c.selftest.ensures.calls in (true, wrote.0, out-writes g.S.Source.reads g.K.Sink.writes g.E.Sink.writes true c.args.source.now c.args.notes.now wrote.1)

pub returns-in-Parse-clause-calls : goal.returns-in-Parse-clause-calls
returns-in-Parse-clause-calls g c =
    let did = c.parse.ensures.calls in (did.0, did.1, with-notes g.S.Source.reads g.K.Sink.writes g.E.Sink.writes c.args.notes.now did.2)

pub returns-in-Summary-clause-calls : goal.returns-in-Summary-clause-calls
returns-in-Summary-clause-calls g c =
    let did = c.summary.ensures.calls in (did.0, did.1, with-notes g.S.Source.reads g.K.Sink.writes g.E.Sink.writes c.args.notes.now did.2)

pub returns-in-Query-clause-calls : goal.returns-in-Query-clause-calls
returns-in-Query-clause-calls g c =
    let did = c.query.ensures.calls in (did.0, did.1, with-notes g.S.Source.reads g.K.Sink.writes g.E.Sink.writes c.args.notes.now did.2)
