-- The laws of the parts of a grammar but the repetitions.
use Rattle.std.proofs.Common.{◌≡◌, Bool, true, false, ◌||◌, ◌&&◌, Ok, Err, [], ◌∷◌, ◌++◌, cond, refl, sym, ◌∙◌, ap}
use denote.Enum.Bare.{same_true, true_same}
use Rattle.pads_lex.specs.contracts.token.Keyword.{the_type as keyword_type}
use Rattle.pads_lex.specs.contracts.token.Mark.{the_type as mark_type}
use Rattle.pads_lex.specs.declared.token.Token.{Token}
use Rattle.pads_grammar.specs.declared.kind.Kind.{Kind}
use Rattle.pads_grammar.specs.declared.kind.Kind.TheVariants as kind
use Rattle.pads_grammar.specs.Kinds.{Tokens, is, peek, kind_of}
use Rattle.pads_grammar.specs.Grammar.{IsToken, read_token}
use Rattle.pads_grammar.specs.Laws.{Told, Lawful, Inhabited}

pub or-only : (a b c : Bool) → a ≡ false → (b || (a && c)) ≡ true → b ≡ true
or-only true b c e h = cc
or-only false true c e h = refl
or-only false false c e h = h

pub front_peek : (front ts more : Tokens) → peek more ≡ peek ts → peek (front ++ more) ≡ peek (front ++ ts)
front_peek [] ts more h = h
front_peek (t ∷ front) ts more h = refl

-- The peek of what is put together, read from the whole.
pub next_peek : (front rest more whole : Tokens) → whole ≡ front ++ rest → peek more ≡ peek rest → peek (front ++ more) ≡ peek whole
next_peek front rest more whole w h = rw w (front_peek front rest more h)

-- what goes on at these tokens goes on where others follow that begin alike
pub goes_alike : (goes : Kind → Bool) (b : Bool) (whole front rest more : Tokens) → goes (peek whole) ≡ b → whole ≡ front ++ rest → peek more ≡ peek rest → goes (peek (front ++ more)) ≡ b
goes_alike goes b whole front rest more h w e = ap goes (next_peek front rest more whole w e) ∙ h

pub is-same : (k j : Kind) → is k j ≡ true → k ≡ j
is-same (kind.Keyword a) (kind.Keyword b) h = ap kind.Keyword (same_true keyword_type tt a b h)
is-same (kind.Mark a) (kind.Mark b) h = ap kind.Mark (same_true mark_type tt a b h)
is-same kind.Name kind.Name h = refl
is-same kind.Number kind.Number h = refl
is-same kind.Negative kind.Negative h = refl
is-same kind.Char kind.Char h = refl
is-same kind.Text kind.Text h = refl
is-same kind.End kind.End h = refl
is-same _ _ h = cc

is-itself : (k : Kind) → is k k ≡ true
is-itself (kind.Keyword a) = true_same keyword_type a a refl
is-itself (kind.Mark a) = true_same mark_type a a refl
is-itself kind.Name = refl
is-itself _ = refl

pub same-is : (k j : Kind) → k ≡ j → is k j ≡ true
same-is k j h = sym (ap (is k) h) ∙ is-itself k

module _ {A : Type 0} (k : Kind) (take : Token → A) (quiet : is k kind.End ≡ false) where
  token_fault : (more : Tokens) → is k (peek more) ≡ false → read_token k take more ≡ Err more
  token_fault [] h = refl
  token_fault (t ∷ more) h = rw h refl

  fault_told : (ts : Tokens) → is k (peek ts) ≡ false → Inhabited (IsToken k take) → Told (read_token k take) (IsToken k take) ts (Err ts)
  fault_told ts h has = record {
    front = [];
    whole = refl;
    stays = λ more e. token_fault more (ap (is k) e ∙ h);
    value = has.value;
    back = has.tokens;
    completed = has.derived;
  }

  token_told-is : (t : Token) (ts : Tokens) (b : Bool) → is k (kind_of t.kind) ≡ b → Inhabited (IsToken k take) → Told (read_token k take) (IsToken k take) (t ∷ ts) (cond b (Ok (take t, ts)) (Err (t ∷ ts)))
  token_told-is t ts true h has = record {
    front = t ∷ [];
    whole = refl;
    derived = record { token = t; alone = refl; kind = sym (is-same k (kind_of t.kind) h); taken = refl };
    stays = λ more e. rw h refl;
  }
  token_told-is t ts false h has = fault_told (t ∷ ts) h has

  token_told : (ts : Tokens) → Inhabited (IsToken k take) → Told (read_token k take) (IsToken k take) ts (read_token k take ts)
  token_told [] has = fault_told [] quiet has
  token_told (t ∷ ts) has = token_told-is t ts (is k (kind_of t.kind)) refl has

  token_only : (a : A) (front rest : Tokens) → IsToken k take a front → read_token k take (front ++ rest) ≡ Ok (a, rest)
  token_only a front rest d = rw d.alone (rw (same-is k (kind_of d.token.kind) (sym d.kind)) (ap (λ x. Ok (x, rest)) d.taken))

  token_starts : (a : A) (front rest : Tokens) → IsToken k take a front → is k (peek (front ++ rest)) ≡ true
  token_starts a front rest d = rw d.alone (same-is k (kind_of d.token.kind) (sym d.kind))

  pub lawful-token : (I F : Kind → Bool) → Inhabited (IsToken k take) → ((j : Kind) → is k j ≡ true → I j ≡ true) → Lawful (read_token k take) (IsToken k take) I F
  lawful-token I F has begins = record {
    told = λ ts. token_told ts has;
    only = λ a front rest d f. token_only a front rest d;
    starts = λ a front rest d f. begins (peek (front ++ rest)) (token_starts a front rest d);
  }
