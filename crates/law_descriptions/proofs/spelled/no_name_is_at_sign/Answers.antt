use Rattle.law_descriptions.proofs.NoAtSign.{tree-spelled}
use Rattle.law_descriptions.proofs.spelled.no_name_is_at_sign.Goals as goal

pub returns : goal.returns
returns c = record { spelled = tree-spelled }
