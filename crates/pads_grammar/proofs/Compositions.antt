-- The laws of a pair, of what is applied, of a choice and of what may be left out.
use Rattle.std.proofs.Common.{◌≡◌, Bool, true, false, Option, Some, None, Ok, Err, [], ◌++◌, cond, ◌⊎◌, inl, inr, refl, sym, ◌∙◌, ap, append_assoc}
use Rattle.pads_grammar.specs.declared.kind.Kind.{Kind}
use Rattle.pads_grammar.specs.Kinds.{Tokens, peek}
use Rattle.pads_grammar.specs.Grammar.{Rule, Split, Maybe, Applied, Outcome, then_read, Apart}
use Rattle.pads_grammar.specs.Laws.{Found, Told, Lawful, Inhabited}
use Rattle.pads_grammar.proofs.Parts.{next_peek, goes_alike}

-- What is derived is not empty.
abbrev pub NotEmpty : {A : Type 0} → Rule A → Type 0
NotEmpty {A} P = (a : A) → P a [] → ⊥

module _ {A B : Type 0} (p : Tokens → Outcome A) (P : Rule A) (q : Tokens → Outcome B) (Q : Rule B) where
  abbrev pair_read : Tokens → Outcome (A × B)
  pair_read ts = then_read (p ts) (λ a mid. then_read (q mid) (λ b rest. Ok ((a, b), rest)))

  abbrev Both : Rule (A × B)
  Both both ts = Split (P both.0) (Q both.1) ts

  pair_stays : (f g more : Tokens) (a : A) → p (f ++ (g ++ more)) ≡ Ok (a, g ++ more) → pair_read ((f ++ g) ++ more) ≡ then_read (q (g ++ more)) (λ b rest. Ok ((a, b), rest))
  pair_stays f g more a h = rw append_assoc (rw h refl)

  second_told : (ts : Tokens) (a : A) (mid : Tokens) → Found p P ts a mid → (r : Outcome B) → Told q Q mid r → Told pair_read Both ts (then_read r (λ b rest. Ok ((a, b), rest)))
  second_told ts a mid f (Ok read) g = record {
    front = f.front ++ g.front;
    whole = f.whole ∙ (ap (λ xs. f.front ++ xs) g.whole ∙ sym (append_assoc f.front g.front read.1));
    derived = record { front = f.front; back = g.front; whole = refl; first = f.derived; second = g.derived };
    stays = λ more e. pair_stays f.front g.front more a (f.stays (g.front ++ more) (next_peek g.front read.1 more mid g.whole e))
        ∙ ap (λ r. then_read r (λ b rest. Ok ((a, b), rest))) (g.stays more e);
  }
  second_told ts a mid f (Err rest) g = record {
    front = f.front ++ g.front;
    whole = f.whole ∙ (ap (λ xs. f.front ++ xs) g.whole ∙ sym (append_assoc f.front g.front rest));
    stays = λ more e. pair_stays f.front g.front more a (f.stays (g.front ++ more) (next_peek g.front rest more mid g.whole e))
        ∙ ap (λ r. then_read r (λ b rest. Ok ((a, b), rest))) (g.stays more e);
    value = (a, g.value);
    back = g.back;
    completed = record { front = f.front; back = g.front ++ g.back; whole = append_assoc f.front g.front g.back; first = f.derived; second = g.completed };
  }

  first_told : (ts : Tokens) (r : Outcome A) → Told p P ts r → ((mid : Tokens) → Told q Q mid (q mid)) → Inhabited Q → Told pair_read Both ts (then_read r (λ a mid. then_read (q mid) (λ b rest. Ok ((a, b), rest))))
  first_told ts (Ok read) f told has = second_told ts read.0 read.1 f (q read.1) (told read.1)
  first_told ts (Err rest) f told has = record {
    front = f.front;
    whole = f.whole;
    stays = λ more e. ap (λ r. then_read r (λ a mid. then_read (q mid) (λ b rest. Ok ((a, b), rest)))) (f.stays more e);
    value = (f.value, has.value);
    back = f.back ++ has.tokens;
    completed = record { front = f.front ++ f.back; back = has.tokens; whole = sym (append_assoc f.front f.back has.tokens); first = f.completed; second = has.derived };
  }

  pub lawful-pair : (I M F : Kind → Bool) → Lawful p P I M → Lawful q Q M F → Inhabited Q → Lawful pair_read Both I F
  lawful-pair I M F first second has = record {
    told = λ ts. first_told ts (p ts) (first.told ts) second.told has;
    only = λ both front rest d f. rw d.whole (pair_stays d.front d.back rest both.0 (first.only both.0 d.front (d.back ++ rest) d.first (second.starts both.1 d.back rest d.second f))
        ∙ ap (λ r. then_read r (λ b rest. Ok ((both.0, b), rest))) (second.only both.1 d.back rest d.second f));
    starts = λ both front rest d f. rw d.whole (rw append_assoc (first.starts both.0 d.front (d.back ++ rest) d.first (second.starts both.1 d.back rest d.second f)));
  }

module _ {A B : Type 0} (h : A → B) (p : Tokens → Outcome A) (P : Rule A) where
  abbrev apply_read : Tokens → Outcome B
  apply_read ts = then_read (p ts) (λ a rest. Ok (h a, rest))

  apply_told : (ts : Tokens) (r : Outcome A) → Told p P ts r → Told apply_read (Applied h P) ts (then_read r (λ a rest. Ok (h a, rest)))
  apply_told ts (Ok read) f = record {
    front = f.front;
    whole = f.whole;
    derived = record { value = read.0; is = refl; derived = f.derived };
    stays = λ more e. ap (λ r. then_read r (λ a rest. Ok (h a, rest))) (f.stays more e);
  }
  apply_told ts (Err rest) f = record {
    front = f.front;
    whole = f.whole;
    stays = λ more e. ap (λ r. then_read r (λ a rest. Ok (h a, rest))) (f.stays more e);
    value = h f.value;
    back = f.back;
    completed = record { value = f.value; is = refl; derived = f.completed };
  }

  pub lawful-apply : (I F : Kind → Bool) → Lawful p P I F → Lawful apply_read (Applied h P) I F
  lawful-apply I F law = record {
    told = λ ts. apply_told ts (p ts) (law.told ts);
    only = λ b front rest d f. ap (λ r. then_read r (λ a rest. Ok (h a, rest))) (law.only d.value front rest d.derived f) ∙ ap (λ x. Ok (x, rest)) d.is;
    starts = λ b front rest d f. law.starts d.value front rest d.derived f;
  }

module _ {A : Type 0} (goes : Kind → Bool) (p : Tokens → Outcome A) (P : Rule A) (q : Tokens → Outcome A) (Q : Rule A) where
  abbrev either_read : Tokens → Outcome A
  either_read ts = cond (goes (peek ts)) (p ts) (q ts)

  abbrev Either : Rule A
  Either a ts = P a ts ⊎ Q a ts

  either_first : (ts : Tokens) → goes (peek ts) ≡ true → either_read ts ≡ p ts
  either_first ts h = rw h refl

  either_second : (ts : Tokens) → goes (peek ts) ≡ false → either_read ts ≡ q ts
  either_second ts h = rw h refl

  left_told : (ts : Tokens) → goes (peek ts) ≡ true → (r : Outcome A) → Told p P ts r → Told either_read Either ts r
  left_told ts h (Ok read) f = record {
    front = f.front;
    whole = f.whole;
    derived = inl f.derived;
    stays = λ more e. either_first (f.front ++ more) (goes_alike goes true ts f.front read.1 more h f.whole e) ∙ f.stays more e;
  }
  left_told ts h (Err rest) f = record {
    front = f.front;
    whole = f.whole;
    stays = λ more e. either_first (f.front ++ more) (goes_alike goes true ts f.front rest more h f.whole e) ∙ f.stays more e;
    value = f.value;
    back = f.back;
    completed = inl f.completed;
  }

  right_told : (ts : Tokens) → goes (peek ts) ≡ false → (r : Outcome A) → Told q Q ts r → Told either_read Either ts r
  right_told ts h (Ok read) f = record {
    front = f.front;
    whole = f.whole;
    derived = inr f.derived;
    stays = λ more e. either_second (f.front ++ more) (goes_alike goes false ts f.front read.1 more h f.whole e) ∙ f.stays more e;
  }
  right_told ts h (Err rest) f = record {
    front = f.front;
    whole = f.whole;
    stays = λ more e. either_second (f.front ++ more) (goes_alike goes false ts f.front rest more h f.whole e) ∙ f.stays more e;
    value = f.value;
    back = f.back;
    completed = inr f.completed;
  }

  either_told : (ts : Tokens) (b : Bool) → goes (peek ts) ≡ b → Told p P ts (p ts) → Told q Q ts (q ts) → Told either_read Either ts (cond b (p ts) (q ts))
  either_told ts true h f g = left_told ts h (p ts) f
  either_told ts false h f g = right_told ts h (q ts) g

  pub lawful-either : (I J H F : Kind → Bool) → Lawful p P I F → Lawful q Q J F → ((j : Kind) → I j ≡ true → goes j ≡ true) → Apart goes J → ((j : Kind) → I j ≡ true → H j ≡ true) → ((j : Kind) → J j ≡ true → H j ≡ true) → Lawful either_read Either H F
  lawful-either I J H F first second marks apart left right = record {
    told = λ ts. either_told ts (goes (peek ts)) refl (first.told ts) (second.told ts);
    only = λ a front rest d f. only a front rest d f;
    starts = λ a front rest d f. starts a front rest d f;
  }
    where
      clash : (b : Bool) → b ≡ true → (b ≡ true → b ≡ false) → ⊥
      clash true h k = let e : true ≡ false = k refl in cc
      clash false h k = cc

      lost : (j : Kind) (b : Bool) → goes j ≡ b → J j ≡ true → goes j ≡ false
      lost j true e h = let x : J j ≡ false = apart j e in absurd (clash (J j) h (λ _. x))
      lost j false e h = e

      only : (a : A) (front rest : Tokens) → Either a front → F (peek rest) ≡ true → either_read (front ++ rest) ≡ Ok (a, rest)
      only a front rest (inl d) f = either_first (front ++ rest) (marks (peek (front ++ rest)) (first.starts a front rest d f)) ∙ first.only a front rest d f
      only a front rest (inr d) f = let j = peek (front ++ rest) in either_second (front ++ rest) (lost j (goes j) refl (second.starts a front rest d f)) ∙ second.only a front rest d f

      starts : (a : A) (front rest : Tokens) → Either a front → F (peek rest) ≡ true → H (peek (front ++ rest)) ≡ true
      starts a front rest (inl d) f = left (peek (front ++ rest)) (first.starts a front rest d f)
      starts a front rest (inr d) f = right (peek (front ++ rest)) (second.starts a front rest d f)

module _ {A : Type 0} (goes : Kind → Bool) (p : Tokens → Outcome A) (P : Rule A) where
  abbrev optional_read : Tokens → Outcome (Option A)
  optional_read ts = cond (goes (peek ts)) (then_read (p ts) (λ a rest. Ok (Some a, rest))) (Ok (None, ts))

  some_stays : (ts : Tokens) (r : Outcome A) → goes (peek ts) ≡ true → p ts ≡ r → optional_read ts ≡ then_read r (λ a rest. Ok (Some a, rest))
  some_stays ts r h e = rw h (rw e refl)

  some_told : (ts : Tokens) → goes (peek ts) ≡ true → (r : Outcome A) → Told p P ts r → Told optional_read (Maybe P) ts (then_read r (λ a rest. Ok (Some a, rest)))
  some_told ts h (Ok read) f = record {
    front = f.front;
    whole = f.whole;
    derived = f.derived;
    stays = λ more e. some_stays (f.front ++ more) (Ok (read.0, more)) (goes_alike goes true ts f.front read.1 more h f.whole e) (f.stays more e);
  }
  some_told ts h (Err rest) f = record {
    front = f.front;
    whole = f.whole;
    stays = λ more e. some_stays (f.front ++ more) (Err more) (goes_alike goes true ts f.front rest more h f.whole e) (f.stays more e);
    value = Some f.value;
    back = f.back;
    completed = f.completed;
  }

  optional_told : (ts : Tokens) (b : Bool) → goes (peek ts) ≡ b → Told p P ts (p ts) → Told optional_read (Maybe P) ts (cond b (then_read (p ts) (λ a rest. Ok (Some a, rest))) (Ok (None, ts)))
  optional_told ts true h f = some_told ts h (p ts) f
  optional_told ts false h f = record {
    front = [];
    whole = refl;
    derived = refl;
    stays = λ more e. rw (goes_alike goes false ts [] ts more h refl e) refl;
  }

  pub lawful-optional : (I H F : Kind → Bool) → Lawful p P I F → ((j : Kind) → I j ≡ true → goes j ≡ true) → Apart goes F → ((j : Kind) → I j ≡ true → H j ≡ true) → ((j : Kind) → F j ≡ true → H j ≡ true) → Lawful optional_read (Maybe P) H F
  lawful-optional I H F law marks apart left right = record {
    told = λ ts. optional_told ts (goes (peek ts)) refl (law.told ts);
    only = λ a front rest d f. only a front rest d f;
    starts = λ a front rest d f. starts a front rest d f;
  }
    where
      clash : (b c : Bool) → b ≡ true → (c ≡ true → b ≡ false) → c ≡ false
      clash true true h k = let e : true ≡ false = k refl in cc
      clash true false h k = refl
      clash false c h k = cc

      only : (a : Option A) (front rest : Tokens) → Maybe P a front → F (peek rest) ≡ true → optional_read (front ++ rest) ≡ Ok (a, rest)
      only None front rest d f = rw d (rw (clash (F (peek rest)) (goes (peek rest)) f (apart (peek rest))) refl)
      only (Some a) front rest d f = some_stays (front ++ rest) (Ok (a, rest)) (marks (peek (front ++ rest)) (law.starts a front rest d f)) (law.only a front rest d f)

      starts : (a : Option A) (front rest : Tokens) → Maybe P a front → F (peek rest) ≡ true → H (peek (front ++ rest)) ≡ true
      starts None front rest d f = rw d (right (peek rest) f)
      starts (Some a) front rest d f = left (peek (front ++ rest)) (law.starts a front rest d f)
