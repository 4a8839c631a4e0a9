use Rattle.pads_lex.proofs.CutLaws.{one_cut, one_break, no_cut_breaks, cut_or_breaks}
use Rattle.pads_lex.proofs.laws.each_text_has_one_reading.Goals as goal

pub returns-clause-tokens : goal.returns-clause-tokens
returns-clause-tokens c text one other = one_cut text one other

pub returns-clause-faults : goal.returns-clause-faults
returns-clause-faults c text one other at place = one_break text one other at place

pub returns-clause-not_both : goal.returns-clause-not_both
returns-clause-not_both c text tokens kind at = no_cut_breaks text tokens kind at

pub returns-clause-either : goal.returns-clause-either
returns-clause-either c text = cut_or_breaks text
