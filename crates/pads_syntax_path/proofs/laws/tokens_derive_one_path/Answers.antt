use Rattle.pads_syntax_path.proofs.PathLaws.{one_path}
use Rattle.pads_syntax_path.proofs.laws.tokens_derive_one_path.Goals as goal

pub returns : goal.returns
returns c = record { one = one_path }
