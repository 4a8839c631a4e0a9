-- What a call answers about a list of tokens.
use Rattle.std.specs.Prelude.{[], ◌∷◌, Result, Ok, Err, cond}
use Rattle.pads_value.specs.declared.memory.Refusal.{Refusal}
use Rattle.pads_value.specs.declared.memory.Refusal.TheVariants as refusal
use Rattle.pads_lex.specs.declared.token.Token.{Token}
use Rattle.pads_grammar.specs.declared.kind.Kind.TheVariants as kind
use Rattle.pads_grammar.specs.Kinds.{Tokens, is, kind_of}
use Rattle.pads_grammar.specs.Grammar.{Grammar}
use Rattle.pads_grammar.specs.Whole.{Whole, IsFirstFault}
use Rattle.pads_syntax.specs.declared.fault.SyntaxFault.{SyntaxFault}
use Rattle.pads_syntax.specs.Trees.{StandsAt}

-- The tree that is given is derived; the fault that is told is the first, and stands at its place.
abbrev pub Answers : {A B : Type 0} → Grammar A → (A → Token → B) → Tokens → Result B (Refusal SyntaxFault) → Type 0
Answers g make ts (Ok tree) = Whole g make tree ts
Answers g make ts (Err (refusal.Fault fault)) = IsFirstFault g make ts fault.token × StandsAt ts fault.token fault.at
Answers g make ts (Err refusal.Memory) = Unit {0}

-- What is left behind an end token, where one stands first.
abbrev pub past_end : Tokens → Tokens
past_end [] = []
past_end (t ∷ ts) = cond (is kind.End (kind_of t.kind)) ts (t ∷ ts)
