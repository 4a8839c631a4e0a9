-- What a call's answer tells: its tree or its fault, and no other.
use Rattle.std.proofs.Common.{Result, Ok, Err, IfOk, ap}
use Rattle.pads_value.specs.declared.memory.Refusal.{Refusal}
use Rattle.pads_value.specs.declared.memory.Refusal.TheVariants as refusal
use Rattle.pads_lex.specs.declared.token.Token.{Token}
use Rattle.pads_grammar.specs.declared.kind.Kind.TheVariants as kind
use Rattle.pads_grammar.specs.Kinds.{Tokens, is}
use Rattle.pads_grammar.specs.Grammar.{Grammar, Decides}
use Rattle.pads_grammar.specs.Whole.{Whole, IsFirstFault}
use Rattle.pads_syntax.specs.declared.fault.SyntaxFault.{SyntaxFault}
use Rattle.pads_syntax.specs.Trees.{StandsAt}
use Rattle.pads_syntax.specs.Answers.{Answers}
use Rattle.pads_value.specs.Refusals.{Gives, OnFault}
use Rattle.pads_syntax.proofs.TreeLaws.{one, not_both}

module _ {A B : Type 0} (g : Grammar A) (make : A → Token → B) (d : Decides g (is kind.End)) (ts : Tokens) where
  pub answer_found : (r : Result B (Refusal SyntaxFault)) → Answers g make ts r → IfOk r (λ tree. Whole g make tree ts)
  answer_found (Ok tree) a = a
  answer_found (Err e) a = tt

  pub answer_only : (r : Result B (Refusal SyntaxFault)) → Answers g make ts r → (tree : B) → Whole g make tree ts → Gives r (Ok tree)
  answer_only (Ok given) a tree w = ap Ok (one g make d ts tree given w a)
  answer_only (Err (refusal.Fault fault)) a tree w = absurd (not_both g make d ts tree fault.token w a.0)
  answer_only (Err refusal.Memory) a tree w = tt

  pub answer_fault : (r : Result B (Refusal SyntaxFault)) → Answers g make ts r → OnFault r (λ fault. IsFirstFault g make ts fault.token)
  answer_fault (Ok tree) a = tt
  answer_fault (Err (refusal.Fault fault)) a = a.0
  answer_fault (Err refusal.Memory) a = tt

  pub answer_place : (r : Result B (Refusal SyntaxFault)) → Answers g make ts r → OnFault r (λ fault. StandsAt ts fault.token fault.at)
  answer_place (Ok tree) a = tt
  answer_place (Err (refusal.Fault fault)) a = a.1
  answer_place (Err refusal.Memory) a = tt
