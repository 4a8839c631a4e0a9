use Rattle.std.proofs.Common.{◌≡◌, ◌∙◌, ap, nat_eq, refl, true}
use Rattle.pads_io.specs.Calls.{stays}
use Rattle.pads_module.specs.Modules.{contents}
use Rattle.pads_tool.proofs.Promises.{test-stopped, test-told}
use Rattle.pads_tool.proofs.Tested.{counted-clean}
use Rattle.pads_tool.specs.Describing.{described}
use Rattle.pads_tool.specs.Promises.{counts, seen}
use Rattle.pads_tool.specs.Testing.{all_clean, rows_tested, tallied, tally_line, selftest_line}
use Rattle.pads_tool.specs.declared.test_tally.TestTally.{TestTally}
use Rattle.pads_tool.proofs.selftest.selftest.Goals as goal

pub returns-in-Err-clause-gives : goal.returns-in-Err-clause-gives
returns-in-Err-clause-gives g c = λ content left left' noted noted' files files' source source' notes notes'.
    test-stopped c.args.records c.args.settings.now (seen content left left' (g.K.Sink.written c.args.out.now) (g.K.Sink.written c.args.out.now) noted noted')
    (counts files files' source source' (g.K.Sink.faults c.args.out.now) (g.K.Sink.faults c.args.out.now) notes notes') c.in-Err.ending refl c.in-Err.ensures.stops

pub returns-in-Ok-tested-clause-gives : goal.returns-in-Ok-tested-clause-gives
returns-in-Ok-tested-clause-gives g c = λ content left left' noted noted' files files' source source' notes notes'.
    let d = described (contents c.in-Ok.reader.module) c.args.settings.now.cutting in
    let records = c.args.records in
    let tally : c.in-Ok-tested.tally ≡ tallied d (rows_tested d records) = c.in-Ok-tested.ensures.tally in
    let text : c.as_slice.result.now ≡ selftest_line d records =
    c.as_slice.ensures.value ∙ c.line.ensures.line ∙ ap (λ (t : TestTally). tally_line t c.bytes_made-bytes.result) tally
    ∙ ap (tally_line (tallied d (rows_tested d records))) c.bytes_made-bytes.ensures.bytes in
    let well : c.are_clean.result ≡ all_clean d records = c.are_clean.ensures.clean ∙ ap (λ (t : TestTally). nat_eq t.clean t.records) tally ∙ counted-clean (rows_tested d records) in
    test-told records c.args.settings.now (seen content left left' (g.K.Sink.written c.args.out.now) (g.K.Sink.written c.tell.new.out) noted noted')
    (counts files files' source source' (g.K.Sink.faults c.args.out.now) (g.K.Sink.faults c.tell.new.out) notes notes') (contents c.in-Ok.reader.module) c.tell.result c.in-Ok.ensures.read
    (rw (text, well) at c.tell.ensures.tells)

pub returns-in-Err-clause-calls : goal.returns-in-Err-clause-calls
returns-in-Err-clause-calls g c = (true, stays)

pub returns-clause-calls : goal.returns-clause-calls
returns-clause-calls g c = (true, stays)
