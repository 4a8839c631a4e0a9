use Rattle.pads_syntax_path.proofs.PathLaws.{path_or_fault}
use Rattle.pads_syntax_path.proofs.laws.tokens_derive_a_path_or_fault.Goals as goal

pub returns : goal.returns
returns c = record { either = path_or_fault }
