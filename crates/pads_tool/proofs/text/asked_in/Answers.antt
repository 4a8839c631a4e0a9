use Rattle.pads_module.specs.Modules.{contents}
use Rattle.pads_tool.proofs.Queries.{asked-gives, asked-stops}
use Rattle.pads_tool.proofs.text.asked_in.Goals as goal

pub asked_by-requires : goal.asked_by-requires
asked_by-requires g c =
    let d = rw c.as_slice.ensures.items at c.in-Ok-described_by.ensures.described in
    record { accepted = rw c.as_slice-in-Ok-masked.ensures.items (d.tree, d.accepted); scan = c.requires.scan }

pub returns-in-Ok-masked-clause-asked : goal.returns-in-Ok-masked-clause-asked
returns-in-Ok-masked-clause-asked g c =
    let d = rw c.as_slice.ensures.items at c.in-Ok-described_by.ensures.described in
    asked-gives (g.F.Files.content c.args.files.now c.args.asks.now.description) c.args.coding c.args.mask.now c.args.asks.now
    c.in-Ok.text (rw c.as_str.ensures.text at c.in-Ok.ensures.text) (contents c.in-Ok-described_by.whole) d c.in-Ok-masked.ensures.masked.0
    (contents c.in-Ok-masked.made) c.in-Ok-masked.ensures.masked.1 c.args.scan c.asked_by.result c.asked_by.ensures.made c.asked_by.ensures.small
    (c.asked_by.ensures.asked d.tree (rw c.as_slice-in-Ok-masked.ensures.items d.accepted))

pub returns-in-Ok-masked-clause-stops : goal.returns-in-Ok-masked-clause-stops
returns-in-Ok-masked-clause-stops g c =
    let d = rw c.as_slice.ensures.items at c.in-Ok-described_by.ensures.described in
    asked-stops (g.F.Files.content c.args.files.now c.args.asks.now.description) c.args.coding c.args.mask.now c.args.asks.now
    c.in-Ok.text (rw c.as_str.ensures.text at c.in-Ok.ensures.text) (contents c.in-Ok-described_by.whole) d c.in-Ok-masked.ensures.masked.0
    (contents c.in-Ok-masked.made) c.in-Ok-masked.ensures.masked.1 (g.F.Files.faults c.args.files.now) (g.F.Files.faults c.text_in.new.files) c.asked_by.result
    (c.asked_by.ensures.stops d.tree (rw c.as_slice-in-Ok-masked.ensures.items d.accepted))
