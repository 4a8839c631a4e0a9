-- The law of what may come any number of times.
use Rattle.std.proofs.Common.{◌≡◌, ℕ, zero, suc, ◌≤◌, Bool, true, false, ◌||◌, Ok, Err, List, [], ◌∷◌, ◌++◌, length, cond, refl, sym, ◌∙◌, ap, subst, append_assoc, length-append, arith}
use Rattle.std.proofs.lemmas.Bool.{or_left, or_right}
use Rattle.std.proofs.lemmas.List.{append-nil}
use Rattle.pads_grammar.specs.declared.kind.Kind.{Kind}
use Rattle.pads_grammar.specs.declared.kind.Kind.TheVariants as kind
use Rattle.pads_grammar.specs.Kinds.{Tokens, peek}
use Rattle.pads_grammar.specs.Grammar.{Rule, Many, Outcome, then_read, read_many, Apart}
use Rattle.pads_grammar.specs.Laws.{Found, Told, Lawful}
use Rattle.pads_grammar.proofs.Parts.{next_peek, goes_alike}
use Rattle.pads_grammar.proofs.Compositions.{NotEmpty}

pub longer : (front rest : Tokens) (n : ℕ) → (front ≡ [] → ⊥) → length (front ++ rest) ≤ suc n → length rest ≤ n
longer [] rest n e h = absurd (e refl)
longer (t ∷ front) rest n e h = omega (arith, length-append front rest)

pub not_nil : {A : Type 0} (P : Rule A) → NotEmpty P → (a : A) (front : Tokens) → P a front → front ≡ [] → ⊥
not_nil P solid a front d e = solid a (subst (P a) e d)

pub none_left : (ts : Tokens) → length ts ≤ zero → ts ≡ []
none_left [] h = refl
none_left (t ∷ ts) h = let e : suc (length ts) ≤ zero = h in absurd (omega arith)

pub falsum : (b : Bool) → b ≡ true → b ≡ false → ⊥
falsum true h k = cc
falsum false h k = cc

module _ {A : Type 0} (goes : Kind → Bool) (p : Tokens → Outcome A) (P : Rule A) (quiet : goes kind.End ≡ false) where
  abbrev pub many_read : Tokens → Outcome (List A)
  many_read ts = read_many goes p (length ts) ts

  abbrev step : ℕ → Tokens → Outcome A → Outcome (List A)
  step n ts r = then_read r (λ a mid. then_read (read_many goes p n mid) (λ xs rest. Ok (a ∷ xs, rest)))

  -- One more item, with any number of times that suffices.
  pub many_goes : (m : ℕ) (ts : Tokens) (r : Outcome A) → goes (peek ts) ≡ true → length ts ≤ m → p ts ≡ r → (k : ℕ) × (m ≡ suc k) × (read_many goes p m ts ≡ step k ts r)
  many_goes zero ts r h l e = absurd (falsum (goes kind.End) (subst (λ (us : Tokens). goes (peek us) ≡ true) (none_left ts l) h) quiet)
  many_goes (suc m) ts r h l e = (m, refl, rw h (rw e refl))

  pub many_stops : (m : ℕ) (ts : Tokens) → goes (peek ts) ≡ false → read_many goes p m ts ≡ Ok ([], ts)
  many_stops zero ts h = refl
  many_stops (suc m) ts h = rw h refl

  pub record ManyFound (ts : Tokens) (xs : List A) (rest : Tokens) : Type 0 where
    pub front : Tokens
    pub whole : ts ≡ front ++ rest
    pub derived : Many P xs front
    pub stays : (m : ℕ) (more : Tokens) → length (front ++ more) ≤ m → peek more ≡ peek rest → read_many goes p m (front ++ more) ≡ Ok (xs, more)

  pub record ManyFault (ts rest : Tokens) : Type 0 where
    pub front : Tokens
    pub whole : ts ≡ front ++ rest
    pub stays : (m : ℕ) (more : Tokens) → length (front ++ more) ≤ m → peek more ≡ peek rest → read_many goes p m (front ++ more) ≡ Err more
    pub value : List A
    pub back : Tokens
    pub completed : Many P value (front ++ back)

  abbrev pub ManyTold : Tokens → Outcome (List A) → Type 0
  ManyTold ts (Ok read) = ManyFound ts read.0 read.1
  ManyTold ts (Err rest) = ManyFault ts rest

  module _ (solid : NotEmpty P) where
    more_stays : (ts : Tokens) (a : A) (mid : Tokens) (f : Found p P ts a mid) (g rest more : Tokens) (s : Outcome (List A)) (m : ℕ) → goes (peek ts) ≡ true → mid ≡ g ++ rest → peek more ≡ peek rest → length ((f.front ++ g) ++ more) ≤ m
        → ((k : ℕ) → length (g ++ more) ≤ k → read_many goes p k (g ++ more) ≡ s)
        → read_many goes p m ((f.front ++ g) ++ more) ≡ then_read s (λ xs rest. Ok (a ∷ xs, rest))
    more_stays ts a mid f g rest more s m h w e l back =
        let at : (f.front ++ g) ++ more ≡ f.front ++ (g ++ more) = append_assoc f.front g more in
        let l2 : length (f.front ++ (g ++ more)) ≤ m = subst (λ (us : Tokens). length us ≤ m) at l in
        let hs : peek (g ++ more) ≡ peek mid = next_peek g rest more mid w e in
        let found : p (f.front ++ (g ++ more)) ≡ Ok (a, g ++ more) = f.stays (g ++ more) hs in
        let h2 : goes (peek (f.front ++ (g ++ more))) ≡ true = goes_alike goes true ts f.front mid (g ++ more) h f.whole hs in
        let one = many_goes m (f.front ++ (g ++ more)) (Ok (a, g ++ more)) h2 l2 found in
        let l3 : length (g ++ more) ≤ one.0 = longer f.front (g ++ more) one.0 (not_nil P solid a f.front f.derived) (subst (λ (n : ℕ). length (f.front ++ (g ++ more)) ≤ n) one.1 l2) in
        ap (λ (us : Tokens). read_many goes p m us) at ∙ (one.2 ∙ ap (λ r. then_read r (λ xs rest. Ok (a ∷ xs, rest))) (back one.0 l3))

    rest_told : (ts : Tokens) (a : A) (mid : Tokens) → goes (peek ts) ≡ true → Found p P ts a mid → (s : Outcome (List A)) → ManyTold mid s → ManyTold ts (then_read s (λ xs rest. Ok (a ∷ xs, rest)))
    rest_told ts a mid h f (Ok read) g = record {
      front = f.front ++ g.front;
      whole = f.whole ∙ (ap (λ us. f.front ++ us) g.whole ∙ sym (append_assoc f.front g.front read.1));
      derived = record { front = f.front; back = g.front; whole = refl; first = f.derived; second = g.derived };
      stays = λ m more l e. more_stays ts a mid f g.front read.1 more (Ok (read.0, more)) m h g.whole e l (λ k l. g.stays k more l e);
    }
    rest_told ts a mid h f (Err rest) g = record {
      front = f.front ++ g.front;
      whole = f.whole ∙ (ap (λ us. f.front ++ us) g.whole ∙ sym (append_assoc f.front g.front rest));
      stays = λ m more l e. more_stays ts a mid f g.front rest more (Err more) m h g.whole e l (λ k l. g.stays k more l e);
      value = a ∷ g.value;
      back = g.back;
      completed = record { front = f.front; back = g.front ++ g.back; whole = append_assoc f.front g.front g.back; first = f.derived; second = g.completed };
    }

    item_told : (n : ℕ) (ts : Tokens) → goes (peek ts) ≡ true → length ts ≤ suc n → (r : Outcome A) → Told p P ts r → ((mid : Tokens) → length mid ≤ n → ManyTold mid (read_many goes p n mid)) → ManyTold ts (step n ts r)
    item_told n ts h l (Ok read) f told =
        let short : length read.1 ≤ n = longer f.front read.1 n (not_nil P solid read.0 f.front f.derived) (subst (λ (us : Tokens). length us ≤ suc n) f.whole l) in
        rest_told ts read.0 read.1 h f (read_many goes p n read.1) (told read.1 short)
    item_told n ts h l (Err rest) f told = record {
      front = f.front;
      whole = f.whole;
      stays = λ m more l e. (many_goes m (f.front ++ more) (Err more) (goes_alike goes true ts f.front rest more h f.whole e) l (f.stays more e)).2;
      value = f.value ∷ [];
      back = f.back;
      completed = record { front = f.front ++ f.back; back = []; whole = sym (append-nil (f.front ++ f.back)); first = f.completed; second = refl };
    }

    stop_told : (ts : Tokens) → goes (peek ts) ≡ false → ManyTold ts (Ok ([], ts))
    stop_told ts h = record {
      front = [];
      whole = refl;
      derived = refl;
      stays = λ m more l e. many_stops m more (goes_alike goes false ts [] ts more h refl e);
    }

    told_by : (n : ℕ) (ts : Tokens) (b : Bool) → goes (peek ts) ≡ b → length ts ≤ suc n → Told p P ts (p ts) → ((mid : Tokens) → length mid ≤ n → ManyTold mid (read_many goes p n mid)) → ManyTold ts (cond b (step n ts (p ts)) (Ok ([], ts)))
    told_by n ts true h l f told = item_told n ts h l (p ts) f told
    told_by n ts false h l f told = stop_told ts h

    pub many_told : ((ts : Tokens) → Told p P ts (p ts)) → (n : ℕ) (ts : Tokens) → length ts ≤ n → ManyTold ts (read_many goes p n ts)
    many_told told zero ts l = stop_told ts (rw (none_left ts l) quiet)
    many_told told (suc n) ts l = told_by n ts (goes (peek ts)) refl l (told ts) (many_told told n)

    as_told : (ts : Tokens) (r : Outcome (List A)) → ManyTold ts r → Told many_read (Many P) ts r
    as_told ts (Ok read) f = record {
      front = f.front;
      whole = f.whole;
      derived = f.derived;
      stays = λ more e. f.stays (length (f.front ++ more)) more (omega arith) e;
    }
    as_told ts (Err rest) f = record {
      front = f.front;
      whole = f.whole;
      stays = λ more e. f.stays (length (f.front ++ more)) more (omega arith) e;
      value = f.value;
      back = f.back;
      completed = f.completed;
    }

    module _ (I F : Kind → Bool) (law : Lawful p P I (λ j. goes j || F j)) (marks : (j : Kind) → I j ≡ true → goes j ≡ true) (apart : Apart goes F) where
      many_starts : (xs : List A) (front rest : Tokens) → Many P xs front → F (peek rest) ≡ true → (goes (peek (front ++ rest)) || F (peek (front ++ rest))) ≡ true
      many_starts [] front rest d f = rw d (or_right (goes (peek rest)) (F (peek rest)) f)
      many_starts (x ∷ xs) front rest d f =
          let at : (d.front ++ d.back) ++ rest ≡ d.front ++ (d.back ++ rest) = append_assoc d.front d.back rest in
          let g : goes (peek (d.front ++ (d.back ++ rest))) ≡ true = marks (peek (d.front ++ (d.back ++ rest))) (law.starts x d.front (d.back ++ rest) d.first (many_starts xs d.back rest d.second f)) in
          rw d.whole (rw at (or_left (goes (peek (d.front ++ (d.back ++ rest)))) (F (peek (d.front ++ (d.back ++ rest)))) g))

      last : (j : Kind) → F j ≡ true → (b : Bool) → goes j ≡ b → goes j ≡ false
      last j f true e = absurd (falsum (F j) f (apart j e))
      last j f false e = e

      many_only : (xs : List A) (front rest : Tokens) (m : ℕ) → Many P xs front → F (peek rest) ≡ true → length (front ++ rest) ≤ m → read_many goes p m (front ++ rest) ≡ Ok (xs, rest)
      many_only [] front rest m d f l = rw d (many_stops m rest (last (peek rest) f (goes (peek rest)) refl))
      many_only (x ∷ xs) front rest m d f l =
          let at : front ++ rest ≡ d.front ++ (d.back ++ rest) = rw d.whole (append_assoc d.front d.back rest) in
          let s = many_starts xs d.back rest d.second f in
          let g : goes (peek (d.front ++ (d.back ++ rest))) ≡ true = marks (peek (d.front ++ (d.back ++ rest))) (law.starts x d.front (d.back ++ rest) d.first s) in
          let l2 : length (d.front ++ (d.back ++ rest)) ≤ m = subst (λ (us : Tokens). length us ≤ m) at l in
          let one = many_goes m (d.front ++ (d.back ++ rest)) (Ok (x, d.back ++ rest)) g l2 (law.only x d.front (d.back ++ rest) d.first s) in
          let l3 : length (d.back ++ rest) ≤ one.0 = longer d.front (d.back ++ rest) one.0 (not_nil P solid x d.front d.first) (subst (λ (n : ℕ). length (d.front ++ (d.back ++ rest)) ≤ n) one.1 l2) in
          ap (λ (us : Tokens). read_many goes p m us) at ∙ (one.2 ∙ ap (λ r. then_read r (λ ys rest. Ok (x ∷ ys, rest))) (many_only xs d.back rest one.0 d.second f l3))

      pub lawful-many : (H : Kind → Bool) → ((j : Kind) → (goes j || F j) ≡ true → H j ≡ true) → Lawful many_read (Many P) H F
      lawful-many H wide = record {
        told = λ ts. as_told ts (many_read ts) (many_told law.told (length ts) ts (omega arith));
        only = λ xs front rest d f. many_only xs front rest (length (front ++ rest)) d f (omega arith);
        starts = λ xs front rest d f. wide (peek (front ++ rest)) (many_starts xs front rest d f);
      }
