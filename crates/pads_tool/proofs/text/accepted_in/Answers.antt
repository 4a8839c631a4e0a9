use Rattle.std.proofs.Common.{arith}
use Rattle.pads_describe.specs.Answers.{IsAcceptedWith}
use Rattle.pads_describe.specs.Describing.{Describes}
use Rattle.pads_module.specs.Modules.{contents}
use Rattle.pads_tool.proofs.Accepted.{accepted-with}
use Rattle.pads_tool.proofs.Described.{undescribed-stop}
use Rattle.pads_tool.proofs.Texts.{if-known}
use Rattle.pads_tool.proofs.text.accepted_in.Goals as goal

pub returns-in-Err-clause-stops : goal.returns-in-Err-clause-stops
returns-in-Err-clause-stops g c =
    undescribed-stop (g.F.Files.content c.args.files.now c.args.name.now) c.args.coding
    (g.F.Files.faults c.args.files.now) (g.F.Files.faults c.described_in.new.files) c.in-Err.ending c.in-Err.ensures.stops

pub returns-then-image_length-gt-LONGEST-clause-stops : goal.returns-then-image_length-gt-LONGEST-clause-stops
returns-then-image_length-gt-LONGEST-clause-stops g c = (contents c.in-Ok.made, c.in-Ok.ensures.described, omega (arith, c.if-image_length-gt-LONGEST.true, c.image_length.ensures.length))

pub returns-clause-accepted : goal.returns-clause-accepted
returns-clause-accepted g c =
    if-known (λ text. Describes text c.args.coding (contents c.in-Ok.made)) (λ text. IsAcceptedWith text c.len.result) (g.F.Files.content c.args.files.now c.args.name.now)
    (λ text d. accepted-with text c.args.coding (contents c.in-Ok.made) d c.len.result c.len.ensures.length) c.in-Ok.ensures.described

pub returns-clause-small : goal.returns-clause-small
returns-clause-small g c = (contents c.in-Ok.made, (c.in-Ok.ensures.described, omega (arith, c.if-image_length-gt-LONGEST.false, c.image_length.ensures.length)))
