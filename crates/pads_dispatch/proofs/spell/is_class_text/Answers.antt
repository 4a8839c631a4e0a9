use Rattle.std.proofs.Common.{◌∙◌, sym}
use Rattle.pads_bases.specs.Classes.{is_class, has_point}
use Rattle.pads_dispatch.proofs.Classes.{has_all}
use Rattle.pads_dispatch.proofs.spell.is_class_text.Goals as goal

pub returns-then-not-is_empty : goal.returns-then-not-is_empty
returns-then-not-is_empty c =
    record { text = c.all_in_class.ensures.all ∙ has_all (has_point c.args.class.now) (is_class c.args.class.now) c.args.text.now (sym c.is_empty.ensures ∙ c.if-not-is_empty.true) }
