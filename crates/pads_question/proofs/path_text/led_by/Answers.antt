use Rattle.pads_module.specs.Modules.{contents}
use Rattle.pads_syntax_path.specs.declared.path.Path.{Path}
use Rattle.pads_question.specs.declared.path_text.Led.{Led}
use Rattle.pads_question.specs.Questions.{IsPathRefused}
use Rattle.pads_question.proofs.Moved.{handed_on}
use Rattle.pads_question.proofs.path_text.led_by.Goals as goal

pub returns-in-Err-clause-refused : goal.returns-in-Err-clause-refused
returns-in-Err-clause-refused c =
    let m = contents c.args.module.now in
    handed_on Path Led c.in-Err.refusal (IsPathRefused m c.args.text.now) (c.in-Err.ensures.refused m)
