use Rattle.pads_syntax_path.proofs.PathLaws.{not_both}
use Rattle.pads_syntax_path.proofs.laws.no_tokens_derive_a_path_and_fault.Goals as goal

pub returns : goal.returns
returns c = record { never = not_both }
