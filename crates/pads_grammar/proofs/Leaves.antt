-- The reading of one token.
use Rattle.std.proofs.Common.{◌≡◌, Bool, true, false, Ok, Err, [], ◌∷◌, refl}
use Rattle.pads_lex.specs.declared.token.Token.{Token}
use Rattle.pads_grammar.specs.declared.kind.Kind.{Kind}
use Rattle.pads_grammar.specs.Kinds.{Tokens, is, kind_of, starts_with}
use Rattle.pads_grammar.specs.Grammar.{read_token}

pub token_read : {A : Type 0} (k : Kind) (take : Token → A) (whole : Tokens) (t : Token) (ts : Tokens) → whole ≡ t ∷ ts → is k (kind_of t.kind) ≡ true → read_token k take whole ≡ Ok (take t, ts)
token_read k take whole t ts w h = rw w (rw h refl)

pub token_missing : {A : Type 0} (k : Kind) (take : Token → A) (whole : Tokens) → starts_with k whole ≡ false → read_token k take whole ≡ Err whole
token_missing k take [] h = refl
token_missing k take (t ∷ ts) h = rw h refl

pub starts_first : (k : Kind) (whole : Tokens) (t : Token) (ts : Tokens) (b : Bool) → whole ≡ t ∷ ts → is k (kind_of t.kind) ≡ b → starts_with k whole ≡ b
starts_first k whole t ts b w h = rw w h

pub ruleset leaves = (token_read, token_missing)
