-- How a text is read from the left, step by step. That this is what the rules of `Cut` say is proved.
use Rattle.std.specs.Prelude.{ℕ, zero, suc, ◌+◌, ◌-◌, List, [], ◌∷◌, ◌++◌, Result, Ok, Err}
use Rattle.pads_lex.specs.Steps.{step_of}
use Rattle.pads_lex.specs.Cut.{token_of}
use Rattle.pads_lex.specs.declared.token.Token.{Token}
use Rattle.pads_lex.specs.declared.token.TokenKind.TheVariants as kind
use Rattle.pads_lex.specs.declared.fault.LexFault.{LexFault}
use Rattle.pads_lex.specs.declared.step.Step.{Step}
use Rattle.pads_lex.specs.declared.step.Step.TheVariants as step_is

-- What a text is, by what stands at the offset `at` behind the tokens `front`. What stands there goes on behind its
-- first byte, with its others left to pass over.
abbrev pub tokens_by : ℕ → List Token → Step → (ℕ → List Token → Result (List Token) LexFault) → Result (List Token) LexFault
tokens_by at front (step_is.Gap size) go_on = go_on (size - 1) front
tokens_by at front (step_is.Stands size token) go_on = go_on (size - 1) (front ++ token_of token at (at + size) ∷ [])
tokens_by at front (step_is.Fault kind offset) go_on = Err (record { kind = kind; at = at + offset })

-- The tokens of a text that goes on with these bytes, of which `left` belong to what is read already.
unfoldable pub tokens_from : ℕ → ℕ → List Token → List ℕ → Result (List Token) LexFault
tokens_from left at front [] = Ok (front ++ token_of kind.End at at ∷ [])
tokens_from (suc left) at front (byte ∷ z) = tokens_from left (at + 1) front z
tokens_from zero at front (byte ∷ z) =
    tokens_by at front (step_of (byte ∷ z)) (λ left more. tokens_from left (at + 1) more z)
