use Rattle.std.proofs.Common.{◌∙◌, ◌&&◌, ap, refl}
use Rattle.pads_module.specs.Modules.{contents}
use Rattle.pads_tool.proofs.Counted.{counted-more}
use Rattle.pads_tool.specs.Describing.{described}
use Rattle.pads_tool.specs.Printing.{is_printed, told_of}
use Rattle.pads_tool.proofs.print.PrintsCommand.give.Goals as goal

pub returns-clause-share : goal.returns-clause-share
returns-clause-share c = λ before t. record {
  is = counted-more (λ row. is_printed (told_of (described (contents c.args.self.now.reader.module) c.args.self.now.cutting) row)) c.args.row.now _ _ (c.are_printed.ensures.printed ∙ ap (λ told. c.args.share.now && is_printed told) c.in-Ok.ensures.told) before t.is;
  within = refl;
}
