-- Grammars of tokens, and what they mean. A grammar is written with the marks of the usual notation:
-- one token, one part after another, a choice, a part that may be left out, repetition. `Derives` is
-- its meaning, by splitting the list of tokens. `reads` is a reader that decides by one token and
-- never looks back.
use Rattle.std.specs.Prelude.{◌≡◌, ℕ, zero, suc, Bool, true, false, ◌&&◌, ◌||◌, Option, Some, None, Result, Ok, Err, List, [], ◌∷◌, ◌++◌, length, cond, ◌⊎◌}
use Rattle.pads_lex.specs.declared.token.Keyword.{Keyword}
use Rattle.pads_lex.specs.declared.token.Mark.{Mark}
use Rattle.pads_lex.specs.declared.token.Token.{Token}
use Rattle.pads_grammar.specs.declared.kind.Kind.{Kind}
use Rattle.pads_grammar.specs.declared.kind.Kind.TheVariants as kind
use Rattle.pads_grammar.specs.Kinds.{Tokens, is, peek, kind_of}

pub data Grammar : Type 0 → Type 1 where
  -- one token of a kind, and what is taken of it
  token : {A : Type 0} → Kind → (Token → A) → Grammar A
  -- the first part, then the second
  pair : {A B : Type 0} → Grammar A → Grammar B → Grammar (A × B)
  -- the same tokens, read as something else
  apply : {A B : Type 0} → (A → B) → Grammar A → Grammar B
  -- one of two
  either : {A : Type 0} → Grammar A → Grammar A → Grammar A
  -- a part that may be left out
  optional : {A : Type 0} → Grammar A → Grammar (Option A)
  -- any number of times
  many : {A : Type 0} → Grammar A → Grammar (List A)
  -- any number of times, each behind a token of that kind, which may also stand last
  rest_of : {A : Type 0} → Kind → Grammar A → Grammar (List A)

-- A mark or a keyword, by the place of its first byte.
abbrev pub mark : Mark → Grammar ℕ
mark m = token (kind.Mark m) (λ t. t.begin)

abbrev pub keyword : Keyword → Grammar ℕ
keyword k = token (kind.Keyword k) (λ t. t.begin)

infixl 20 ◌&◌
abbrev pub ◌&◌ : {A B : Type 0} → Grammar A → Grammar B → Grammar (A × B)
g & h = pair g h

-- Both parts, of which the first is kept.
infixl 20 ◌<*◌
abbrev pub ◌<*◌ : {A B : Type 0} → Grammar A → Grammar B → Grammar A
g <* h = apply (λ both. both.0) (pair g h)

-- Both parts, of which the second is kept.
infixl 20 ◌*>◌
abbrev pub ◌*>◌ : {A B : Type 0} → Grammar A → Grammar B → Grammar B
g *> h = apply (λ both. both.1) (pair g h)

infixr 15 ◌or◌
abbrev pub ◌or◌ : {A : Type 0} → Grammar A → Grammar A → Grammar A
g or h = either g h

-- What a list of tokens may be read as.
abbrev pub Rule : Type 0 → Type 1
Rule A = A → Tokens → Type 0

-- The tokens fall into a front and a back.
pub record Split (P Q : Tokens → Type 0) (ts : Tokens) : Type 0 where
  pub front : Tokens
  pub back : Tokens
  pub whole : ts ≡ front ++ back
  pub first : P front
  pub second : Q back

pub record IsToken (k : Kind) {A : Type 0} (take : Token → A) (a : A) (ts : Tokens) : Type 0 where
  pub token : Token
  pub alone : ts ≡ token ∷ []
  pub kind : kind_of token.kind ≡ k
  pub taken : take token ≡ a

abbrev pub Maybe : {A : Type 0} → Rule A → Rule (Option A)
Maybe P None ts = ts ≡ []
Maybe P (Some a) ts = P a ts

abbrev pub Many : {A : Type 0} → Rule A → Rule (List A)
Many P [] ts = ts ≡ []
Many P (x ∷ xs) ts = Split (P x) (Many P xs) ts

abbrev pub Rest : {A : Type 0} → Kind → Rule A → Rule (List A)
Rest k P [] ts = (ts ≡ []) ⊎ ((t : Token) × IsToken k (λ s. s) t ts)
Rest k P (x ∷ xs) ts = Split (λ front. (t : Token) × IsToken k (λ s. s) t front) (Split (P x) (Rest k P xs)) ts

pub record Applied {A B : Type 0} (f : A → B) (P : Rule A) (b : B) (ts : Tokens) : Type 0 where
  pub value : A
  pub is : f value ≡ b
  pub derived : P value ts

-- These tokens derive this value.
abbrev pub Derives : {A : Type 0} → Grammar A → Rule A
Derives (token k take) a ts = IsToken k take a ts
Derives (pair g h) both ts = Split (Derives g both.0) (Derives h both.1) ts
Derives (apply f g) b ts = Applied f (Derives g) b ts
Derives (either g h) a ts = Derives g a ts ⊎ Derives h a ts
Derives (optional g) a ts = Maybe (Derives g) a ts
Derives (many g) xs ts = Many (Derives g) xs ts
Derives (rest_of k g) xs ts = Rest k (Derives g) xs ts

-- Whether the grammar derives the empty list of tokens.
abbrev pub nullable : {A : Type 0} → Grammar A → Bool
nullable (token k take) = false
nullable (pair g h) = nullable g && nullable h
nullable (apply f g) = nullable g
nullable (either g h) = nullable g || nullable h
nullable (optional g) = true
nullable (many g) = true
nullable (rest_of k g) = true

-- The kinds that a derived list of tokens may begin with.
abbrev pub begins : {A : Type 0} → Grammar A → Kind → Bool
begins (token k take) j = is k j
begins (pair g h) j = begins g j || (nullable g && begins h j)
begins (apply f g) j = begins g j
begins (either g h) j = begins g j || begins h j
begins (optional g) j = begins g j
begins (many g) j = begins g j
begins (rest_of k g) j = is k j

-- What is read and the tokens behind it; or the tokens from the first on that can't stand there.
abbrev pub Outcome : Type 0 → Type 0
Outcome A = Result (A × Tokens) Tokens

abbrev pub then_read : {A B : Type 0} → Outcome A → (A → Tokens → Outcome B) → Outcome B
then_read (Ok read) f = f read.0 read.1
then_read (Err ts) f = Err ts

abbrev pub read_token : {A : Type 0} → Kind → (Token → A) → Tokens → Outcome A
read_token k take [] = Err []
read_token k take (t ∷ ts) = cond (is k (kind_of t.kind)) (Ok (take t, ts)) (Err (t ∷ ts))

-- At most that number of times, as long as the next token may begin it.
abbrev pub read_many : {A : Type 0} → (Kind → Bool) → (Tokens → Outcome A) → ℕ → Tokens → Outcome (List A)
read_many goes item zero ts = Ok ([], ts)
read_many goes item (suc n) ts = cond (goes (peek ts))
    (then_read (item ts) (λ a mid. then_read (read_many goes item n mid) (λ xs rest. Ok (a ∷ xs, rest))))
    (Ok ([], ts))

abbrev pub behind : Tokens → Tokens
behind [] = []
behind (t ∷ ts) = ts

abbrev pub read_rest : {A : Type 0} → Kind → (Kind → Bool) → (Tokens → Outcome A) → ℕ → Tokens → Outcome (List A)
read_rest k goes item zero ts = Ok ([], ts)
read_rest k goes item (suc n) ts = cond (is k (peek ts))
    (cond (goes (peek (behind ts)))
    (then_read (item (behind ts)) (λ a mid. then_read (read_rest k goes item n mid) (λ xs rest. Ok (a ∷ xs, rest))))
    (Ok ([], behind ts)))
    (Ok ([], ts))

abbrev pub reads : {A : Type 0} → Grammar A → Tokens → Outcome A
reads (token k take) ts = read_token k take ts
reads (pair g h) ts = then_read (reads g ts) (λ a mid. then_read (reads h mid) (λ b rest. Ok ((a, b), rest)))
reads (apply f g) ts = then_read (reads g ts) (λ a rest. Ok (f a, rest))
reads (either g h) ts = cond (begins g (peek ts)) (reads g ts) (reads h ts)
reads (optional g) ts = cond (begins g (peek ts)) (then_read (reads g ts) (λ a rest. Ok (Some a, rest))) (Ok (None, ts))
reads (many g) ts = read_many (begins g) (reads g) (length ts) ts
reads (rest_of k g) ts = read_rest k (begins g) (reads g) (length ts) ts

-- The kinds that may come first where the grammar is followed by one of these.
abbrev pub ahead : {A : Type 0} → Grammar A → (Kind → Bool) → Kind → Bool
ahead g F j = begins g j || (nullable g && F j)

abbrev pub Apart : (Kind → Bool) → (Kind → Bool) → Type 0
Apart I F = (j : Kind) → I j ≡ true → F j ≡ false

-- One token decides at each place, where the grammar is followed by a token of these kinds.
abbrev pub Decides : {A : Type 0} → Grammar A → (Kind → Bool) → Type 0
Decides (token k take) F = is k kind.End ≡ false
Decides (pair g h) F = Decides g (ahead h F) × Decides h F
Decides (apply f g) F = Decides g F
Decides (either g h) F = Decides g F × Decides h F × (nullable g ≡ false) × Apart (begins g) (ahead h F)
Decides (optional g) F = Decides g F × (nullable g ≡ false) × Apart (begins g) F
Decides (many g) F = Decides g (λ j. begins g j || F j) × (nullable g ≡ false) × Apart (begins g) F × (begins g kind.End ≡ false)
Decides (rest_of k g) F = Decides g (λ j. is k j || F j) × (nullable g ≡ false) × Apart (begins g) F × (F k ≡ false) × (is k kind.End ≡ false)
