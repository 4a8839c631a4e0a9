-- What a reader owes to a rule. What it reads is derived; what is derived is read, where one of the
-- kinds of F follows; where it stops at a fault, the tokens before the fault begin a derived list, and
-- no token of that kind goes on there, whatever stands behind it.
use Rattle.std.specs.Prelude.{◌≡◌, Bool, true, Ok, Err, ◌++◌}
use Rattle.pads_grammar.specs.declared.kind.Kind.{Kind}
use Rattle.pads_grammar.specs.Kinds.{Tokens, peek}
use Rattle.pads_grammar.specs.Grammar.{Rule, Outcome}

-- The front was read as a, and would be, whatever stands there from the next token on, if it is of the same kind.
pub record Found {A : Type 0} (p : Tokens → Outcome A) (P : Rule A) (ts : Tokens) (a : A) (rest : Tokens) : Type 0 where
  pub front : Tokens
  pub whole : ts ≡ front ++ rest
  pub derived : P a front
  pub stays : (more : Tokens) → peek more ≡ peek rest → p (front ++ more) ≡ Ok (a, more)

-- The front begins a derived list, and the next token is at fault, and each of its kind, whatever stands behind it.
pub record Fault {A : Type 0} (p : Tokens → Outcome A) (P : Rule A) (ts rest : Tokens) : Type 0 where
  pub front : Tokens
  pub whole : ts ≡ front ++ rest
  pub stays : (more : Tokens) → peek more ≡ peek rest → p (front ++ more) ≡ Err more
  pub value : A
  pub back : Tokens
  pub completed : P value (front ++ back)

abbrev pub Told : {A : Type 0} → (Tokens → Outcome A) → Rule A → Tokens → Outcome A → Type 0
Told p P ts (Ok read) = Found p P ts read.0 read.1
Told p P ts (Err rest) = Fault p P ts rest

pub record Lawful {A : Type 0} (p : Tokens → Outcome A) (P : Rule A) (I F : Kind → Bool) : Type 0 where
  pub told : (ts : Tokens) → Told p P ts (p ts)
  pub only : (a : A) (front rest : Tokens) → P a front → F (peek rest) ≡ true → p (front ++ rest) ≡ Ok (a, rest)
  pub starts : (a : A) (front rest : Tokens) → P a front → F (peek rest) ≡ true → I (peek (front ++ rest)) ≡ true

pub record Inhabited {A : Type 0} (P : Rule A) : Type 0 where
  pub value : A
  pub tokens : Tokens
  pub derived : P value tokens
