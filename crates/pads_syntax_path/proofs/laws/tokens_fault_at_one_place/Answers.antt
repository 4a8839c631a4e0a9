use Rattle.pads_syntax_path.proofs.PathLaws.{one_fault}
use Rattle.pads_syntax_path.proofs.laws.tokens_fault_at_one_place.Goals as goal

pub returns : goal.returns
returns c = record { one = one_fault }
