use Rattle.std.proofs.Common.{◌∙◌}
use Rattle.pads_code.specs.CodePage.{points_of}
use Rattle.pads_bases.proofs.AddressLemmas.{digits_class}
use Rattle.pads_bases.proofs.address.digit_run.Goals as goal

pub returns-clause-run : goal.returns-clause-run
returns-clause-run c = c.class_run.ensures.run ∙ digits_class (points_of c.args.coding c.args.bytes.now)
