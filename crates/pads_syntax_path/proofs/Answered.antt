-- What a call's answer tells: its path or its fault, and no other.
use Rattle.std.proofs.Common.{Result, Ok, Err, IfOk, ap}
use Rattle.pads_value.specs.declared.memory.Refusal.{Refusal}
use Rattle.pads_value.specs.declared.memory.Refusal.TheVariants as refusal
use Rattle.pads_value.specs.Refusals.{Gives, OnFault}
use Rattle.pads_grammar.specs.Kinds.{Tokens}
use Rattle.pads_syntax.specs.Trees.{StandsAt}
use Rattle.pads_syntax.specs.declared.fault.SyntaxFault.{SyntaxFault}
use Rattle.pads_syntax_path.specs.Answers.{Answers}
use Rattle.pads_syntax_path.specs.Trees.{IsPath, IsPathFault}
use Rattle.pads_syntax_path.specs.declared.path.Path.{Path}
use Rattle.pads_syntax_path.proofs.PathLaws.{one_path, not_both}

module _ (ts : Tokens) where
  pub answer_found : (r : Result Path (Refusal SyntaxFault)) → Answers ts r → IfOk r (λ tree. IsPath tree ts)
  answer_found (Ok tree) a = a
  answer_found (Err e) a = tt

  pub answer_only : (r : Result Path (Refusal SyntaxFault)) → Answers ts r → (tree : Path) → IsPath tree ts → Gives r (Ok tree)
  answer_only (Ok given) a tree w = ap Ok (one_path ts tree given w a)
  answer_only (Err (refusal.Fault fault)) a tree w = absurd (not_both ts tree fault.token w a.0)
  answer_only (Err refusal.Memory) a tree w = tt

  pub answer_fault : (r : Result Path (Refusal SyntaxFault)) → Answers ts r → OnFault r (λ fault. IsPathFault ts fault.token)
  answer_fault (Ok tree) a = tt
  answer_fault (Err (refusal.Fault fault)) a = a.0
  answer_fault (Err refusal.Memory) a = tt

  pub answer_place : (r : Result Path (Refusal SyntaxFault)) → Answers ts r → OnFault r (λ fault. StandsAt ts fault.token fault.at)
  answer_place (Ok tree) a = tt
  answer_place (Err (refusal.Fault fault)) a = a.1
  answer_place (Err refusal.Memory) a = tt
