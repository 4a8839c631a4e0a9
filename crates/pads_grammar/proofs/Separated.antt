-- The law of what may come any number of times behind a separator that may also stand last.
use Rattle.std.proofs.Common.{◌≡◌, ℕ, zero, suc, ◌≤◌, Bool, true, false, ◌||◌, Ok, Err, List, [], ◌∷◌, ◌++◌, length, cond, inl, inr, refl, sym, ◌∙◌, ap, subst, append_assoc, arith}
use Rattle.std.proofs.lemmas.Bool.{or_left, or_right}
use Rattle.std.proofs.lemmas.List.{append-nil}
use Rattle.pads_lex.specs.declared.token.Token.{Token}
use Rattle.pads_grammar.specs.declared.kind.Kind.{Kind}
use Rattle.pads_grammar.specs.declared.kind.Kind.TheVariants as kind
use Rattle.pads_grammar.specs.Kinds.{Tokens, is, peek, kind_of}
use Rattle.pads_grammar.specs.Grammar.{Rule, IsToken, Rest, Outcome, then_read, read_rest, Apart}
use Rattle.pads_grammar.specs.Laws.{Found, Told, Lawful}
use Rattle.pads_grammar.proofs.Parts.{next_peek, is-same, same-is, goes_alike}
use Rattle.pads_grammar.proofs.Repetitions.{falsum, none_left}

less : (front rest : Tokens) (n : ℕ) → length (front ++ rest) ≤ n → length rest ≤ n
less [] rest n h = h
less (t ∷ front) rest n h = let e : suc (length (front ++ rest)) ≤ n = h in less front rest n (omega arith)

module _ {A : Type 0} (k : Kind) (goes : Kind → Bool) (p : Tokens → Outcome A) (P : Rule A) (quiet : is k kind.End ≡ false) where
  abbrev pub rest_read : Tokens → Outcome (List A)
  rest_read ts = read_rest k goes p (length ts) ts

  abbrev step : ℕ → Outcome A → Outcome (List A)
  step n r = then_read r (λ a mid. then_read (read_rest k goes p n mid) (λ xs rest. Ok (a ∷ xs, rest)))

  pub rest_stops : (m : ℕ) (ts : Tokens) → is k (peek ts) ≡ false → read_rest k goes p m ts ≡ Ok ([], ts)
  rest_stops zero ts h = refl
  rest_stops (suc m) ts h = rw h refl

  pub rest_ends : (m : ℕ) (t : Token) (ts : Tokens) → is k (kind_of t.kind) ≡ true → goes (peek ts) ≡ false → length (t ∷ ts) ≤ m → read_rest k goes p m (t ∷ ts) ≡ Ok ([], ts)
  rest_ends zero t ts h g l = let e : suc (length ts) ≤ zero = l in absurd (omega arith)
  rest_ends (suc m) t ts h g l = rw h (rw g refl)

  pub rest_goes : (m : ℕ) (t : Token) (ts : Tokens) (r : Outcome A) → is k (kind_of t.kind) ≡ true → goes (peek ts) ≡ true → length (t ∷ ts) ≤ m → p ts ≡ r → (n : ℕ) × (m ≡ suc n) × (read_rest k goes p m (t ∷ ts) ≡ step n r)
  rest_goes zero t ts r h g l e = let x : suc (length ts) ≤ zero = l in absurd (omega arith)
  rest_goes (suc m) t ts r h g l e = (m, refl, rw h (rw g (rw e refl)))

  pub record RestFound (ts : Tokens) (xs : List A) (rest : Tokens) : Type 0 where
    pub front : Tokens
    pub whole : ts ≡ front ++ rest
    pub derived : Rest k P xs front
    pub stays : (m : ℕ) (more : Tokens) → length (front ++ more) ≤ m → peek more ≡ peek rest → read_rest k goes p m (front ++ more) ≡ Ok (xs, more)

  pub record RestFault (ts rest : Tokens) : Type 0 where
    pub front : Tokens
    pub whole : ts ≡ front ++ rest
    pub stays : (m : ℕ) (more : Tokens) → length (front ++ more) ≤ m → peek more ≡ peek rest → read_rest k goes p m (front ++ more) ≡ Err more
    pub value : List A
    pub back : Tokens
    pub completed : Rest k P value (front ++ back)

  abbrev pub RestTold : Tokens → Outcome (List A) → Type 0
  RestTold ts (Ok read) = RestFound ts read.0 read.1
  RestTold ts (Err rest) = RestFault ts rest

  separator : (t : Token) → is k (kind_of t.kind) ≡ true → (s : Token) × IsToken k (λ s. s) s (t ∷ [])
  separator t h = (t, record { token = t; alone = refl; kind = sym (is-same k (kind_of t.kind) h); taken = refl })

  shorter : (t : Token) (f more : Tokens) (m n : ℕ) → length (t ∷ (f ++ more)) ≤ m → m ≡ suc n → length more ≤ n
  shorter t f more m n l e =
      let a : suc (length (f ++ more)) ≤ m = l in
      let b : length (f ++ more) ≤ n = omega arith in
      less f more n b

  more_stays : (t : Token) (ts : Tokens) (a : A) (mid : Tokens) (f : Found p P ts a mid) (g rest more : Tokens) (s : Outcome (List A)) (m : ℕ) → is k (kind_of t.kind) ≡ true → goes (peek ts) ≡ true → mid ≡ g ++ rest → peek more ≡ peek rest → length ((t ∷ (f.front ++ g)) ++ more) ≤ m
      → ((n : ℕ) → length (g ++ more) ≤ n → read_rest k goes p n (g ++ more) ≡ s)
      → read_rest k goes p m ((t ∷ (f.front ++ g)) ++ more) ≡ then_read s (λ xs rest. Ok (a ∷ xs, rest))
  more_stays t ts a mid f g rest more s m h go w e l back =
      let at : (f.front ++ g) ++ more ≡ f.front ++ (g ++ more) = append_assoc f.front g more in
      let l2 : length (t ∷ (f.front ++ (g ++ more))) ≤ m = subst (λ (us : Tokens). length (t ∷ us) ≤ m) at l in
      let hs : peek (g ++ more) ≡ peek mid = next_peek g rest more mid w e in
      let found : p (f.front ++ (g ++ more)) ≡ Ok (a, g ++ more) = f.stays (g ++ more) hs in
      let go2 : goes (peek (f.front ++ (g ++ more))) ≡ true = goes_alike goes true ts f.front mid (g ++ more) go f.whole hs in
      let one = rest_goes m t (f.front ++ (g ++ more)) (Ok (a, g ++ more)) h go2 l2 found in
      ap (λ (us : Tokens). read_rest k goes p m (t ∷ us)) at ∙ (one.2 ∙ ap (λ r. then_read r (λ xs rest. Ok (a ∷ xs, rest))) (back one.0 (shorter t f.front (g ++ more) m one.0 l2 one.1)))

  rest_told : (t : Token) (ts : Tokens) (a : A) (mid : Tokens) → is k (kind_of t.kind) ≡ true → goes (peek ts) ≡ true → Found p P ts a mid → (s : Outcome (List A)) → RestTold mid s → RestTold (t ∷ ts) (then_read s (λ xs rest. Ok (a ∷ xs, rest)))
  rest_told t ts a mid h go f (Ok read) g = record {
    front = t ∷ (f.front ++ g.front);
    whole = ap (λ us. t ∷ us) (f.whole ∙ (ap (λ us. f.front ++ us) g.whole ∙ sym (append_assoc f.front g.front read.1)));
    derived = record { front = t ∷ []; back = f.front ++ g.front; whole = refl; first = separator t h; second = record { front = f.front; back = g.front; whole = refl; first = f.derived; second = g.derived } };
    stays = λ m more l e. more_stays t ts a mid f g.front read.1 more (Ok (read.0, more)) m h go g.whole e l (λ n l. g.stays n more l e);
  }
  rest_told t ts a mid h go f (Err rest) g = record {
    front = t ∷ (f.front ++ g.front);
    whole = ap (λ us. t ∷ us) (f.whole ∙ (ap (λ us. f.front ++ us) g.whole ∙ sym (append_assoc f.front g.front rest)));
    stays = λ m more l e. more_stays t ts a mid f g.front rest more (Err more) m h go g.whole e l (λ n l. g.stays n more l e);
    value = a ∷ g.value;
    back = g.back;
    completed = record { front = t ∷ []; back = (f.front ++ g.front) ++ g.back; whole = refl; first = separator t h; second = record { front = f.front; back = g.front ++ g.back; whole = append_assoc f.front g.front g.back; first = f.derived; second = g.completed } };
  }

  item_told : (n : ℕ) (t : Token) (ts : Tokens) → is k (kind_of t.kind) ≡ true → goes (peek ts) ≡ true → length (t ∷ ts) ≤ suc n → (r : Outcome A) → Told p P ts r → ((mid : Tokens) → length mid ≤ n → RestTold mid (read_rest k goes p n mid)) → RestTold (t ∷ ts) (step n r)
  item_told n t ts h go l (Ok read) f told =
      let l2 : length (t ∷ (f.front ++ read.1)) ≤ suc n = subst (λ (us : Tokens). length (t ∷ us) ≤ suc n) f.whole l in
      rest_told t ts read.0 read.1 h go f (read_rest k goes p n read.1) (told read.1 (shorter t f.front read.1 (suc n) n l2 refl))
  item_told n t ts h go l (Err rest) f told = record {
    front = t ∷ f.front;
    whole = ap (λ us. t ∷ us) f.whole;
    stays = λ m more l e. (rest_goes m t (f.front ++ more) (Err more) h (goes_alike goes true ts f.front rest more go f.whole e) l (f.stays more e)).2;
    value = f.value ∷ [];
    back = f.back;
    completed = record { front = t ∷ []; back = f.front ++ f.back; whole = refl; first = separator t h; second = record { front = f.front ++ f.back; back = []; whole = sym (append-nil (f.front ++ f.back)); first = f.completed; second = inl refl } };
  }

  stop_told : (ts : Tokens) → is k (peek ts) ≡ false → RestTold ts (Ok ([], ts))
  stop_told ts h = record {
    front = [];
    whole = refl;
    derived = inl refl;
    stays = λ m more l e. rest_stops m more (ap (is k) (e) ∙ h);
  }

  end_told : (t : Token) (ts : Tokens) → is k (kind_of t.kind) ≡ true → goes (peek ts) ≡ false → RestTold (t ∷ ts) (Ok ([], ts))
  end_told t ts h g = record {
    front = t ∷ [];
    whole = refl;
    derived = inr (separator t h);
    stays = λ m more l e. rest_ends m t more h (ap goes (e) ∙ g) l;
  }

  told_by_item : (n : ℕ) (t : Token) (ts : Tokens) (b : Bool) → is k (kind_of t.kind) ≡ true → goes (peek ts) ≡ b → length (t ∷ ts) ≤ suc n → Told p P ts (p ts) → ((mid : Tokens) → length mid ≤ n → RestTold mid (read_rest k goes p n mid)) → RestTold (t ∷ ts) (cond b (step n (p ts)) (Ok ([], ts)))
  told_by_item n t ts true h g l f told = item_told n t ts h g l (p ts) f told
  told_by_item n t ts false h g l f told = end_told t ts h g

  told_by : (n : ℕ) (t : Token) (ts : Tokens) (b : Bool) → is k (kind_of t.kind) ≡ b → length (t ∷ ts) ≤ suc n → Told p P ts (p ts) → ((mid : Tokens) → length mid ≤ n → RestTold mid (read_rest k goes p n mid)) → RestTold (t ∷ ts) (cond b (cond (goes (peek ts)) (step n (p ts)) (Ok ([], ts))) (Ok ([], t ∷ ts)))
  told_by n t ts true h l f told = told_by_item n t ts (goes (peek ts)) h refl l f told
  told_by n t ts false h l f told = stop_told (t ∷ ts) h

  pub rest_told_all : ((ts : Tokens) → Told p P ts (p ts)) → (n : ℕ) (ts : Tokens) → length ts ≤ n → RestTold ts (read_rest k goes p n ts)
  rest_told_all told zero ts l = stop_told ts (rw (none_left ts l) quiet)
  rest_told_all told (suc n) [] l = subst (λ (r : Outcome (List A)). RestTold [] r) (sym (rest_stops (suc n) [] quiet)) (stop_told [] quiet)
  rest_told_all told (suc n) (t ∷ ts) l = told_by n t ts (is k (kind_of t.kind)) refl l (told ts) (rest_told_all told n)

  as_told : (ts : Tokens) (r : Outcome (List A)) → RestTold ts r → Told rest_read (Rest k P) ts r
  as_told ts (Ok read) f = record {
    front = f.front;
    whole = f.whole;
    derived = f.derived;
    stays = λ more e. f.stays (length (f.front ++ more)) more (omega arith) e;
  }
  as_told ts (Err rest) f = record {
    front = f.front;
    whole = f.whole;
    stays = λ more e. f.stays (length (f.front ++ more)) more (omega arith) e;
    value = f.value;
    back = f.back;
    completed = f.completed;
  }

  module _ (I F : Kind → Bool) (law : Lawful p P I (λ j. is k j || F j)) (marks : (j : Kind) → I j ≡ true → goes j ≡ true) (apart : Apart goes F) (other : F k ≡ false) where
    after_token : (front rest : Tokens) → (s : Token) × IsToken k (λ s. s) s front → is k (peek (front ++ rest)) ≡ true
    after_token front rest d = rw d.1.alone (same-is k (kind_of d.1.token.kind) (sym d.1.kind))

    rest_starts : (xs : List A) (front rest : Tokens) → Rest k P xs front → F (peek rest) ≡ true → (is k (peek (front ++ rest)) || F (peek (front ++ rest))) ≡ true
    rest_starts [] front rest (inl d) f = rw d (or_right (is k (peek rest)) (F (peek rest)) f)
    rest_starts [] front rest (inr d) f = or_left (is k (peek (front ++ rest))) (F (peek (front ++ rest))) (after_token front rest d)
    rest_starts (x ∷ xs) front rest d f =
        let at : front ++ rest ≡ d.front ++ (d.back ++ rest) = rw d.whole (append_assoc d.front d.back rest) in
        rw at (or_left (is k (peek (d.front ++ (d.back ++ rest)))) (F (peek (d.front ++ (d.back ++ rest)))) (after_token d.front (d.back ++ rest) d.first))

    last : (j : Kind) → F j ≡ true → (b : Bool) → goes j ≡ b → goes j ≡ false
    last j f true e = absurd (falsum (F j) f (apart j e))
    last j f false e = e

    none : (j : Kind) → F j ≡ true → (b : Bool) → is k j ≡ b → is k j ≡ false
    none j f true e = absurd (falsum (F j) f (subst (λ (i : Kind). F i ≡ false) (is-same k j e) other))
    none j f false e = e

    end_read : (front rest : Tokens) (m : ℕ) → (s : Token) × IsToken k (λ s. s) s front → F (peek rest) ≡ true → length (front ++ rest) ≤ m → read_rest k goes p m (front ++ rest) ≡ Ok ([], rest)
    end_read front rest m d f l =
        let at : front ++ rest ≡ d.1.token ∷ rest = rw d.1.alone refl in
        let h : is k (kind_of d.1.token.kind) ≡ true = same-is k (kind_of d.1.token.kind) (sym d.1.kind) in
        let l2 : length (d.1.token ∷ rest) ≤ m = subst (λ (us : Tokens). length us ≤ m) at l in
        rw at (rest_ends m d.1.token rest h (last (peek rest) f (goes (peek rest)) refl) l2)

    rest_only : (xs : List A) (front rest : Tokens) (m : ℕ) → Rest k P xs front → F (peek rest) ≡ true → length (front ++ rest) ≤ m → read_rest k goes p m (front ++ rest) ≡ Ok (xs, rest)
    rest_only [] front rest m (inl d) f l = rw d (rest_stops m rest (none (peek rest) f (is k (peek rest)) refl))
    rest_only [] front rest m (inr d) f l = end_read front rest m d f l
    rest_only (x ∷ xs) front rest m d f l =
        let s = d.first.1 in
        let i = d.second in
        let at : front ++ rest ≡ s.token ∷ (i.front ++ (i.back ++ rest)) = rw (d.whole, s.alone, i.whole) (ap (λ us. s.token ∷ us) (append_assoc i.front i.back rest)) in
        let h : is k (kind_of s.token.kind) ≡ true = same-is k (kind_of s.token.kind) (sym s.kind) in
        let n = rest_starts xs i.back rest i.second f in
        let g : goes (peek (i.front ++ (i.back ++ rest))) ≡ true = marks (peek (i.front ++ (i.back ++ rest))) (law.starts x i.front (i.back ++ rest) i.first n) in
        let l2 : length (s.token ∷ (i.front ++ (i.back ++ rest))) ≤ m = subst (λ (us : Tokens). length us ≤ m) at l in
        let one = rest_goes m s.token (i.front ++ (i.back ++ rest)) (Ok (x, i.back ++ rest)) h g l2 (law.only x i.front (i.back ++ rest) i.first n) in
        let l3 : length (i.back ++ rest) ≤ one.0 = shorter s.token i.front (i.back ++ rest) m one.0 l2 one.1 in
        ap (λ (us : Tokens). read_rest k goes p m us) at ∙ (one.2 ∙ ap (λ r. then_read r (λ ys rest. Ok (x ∷ ys, rest))) (rest_only xs i.back rest one.0 i.second f l3))

    pub lawful-rest : (H : Kind → Bool) → ((j : Kind) → (is k j || F j) ≡ true → H j ≡ true) → Lawful rest_read (Rest k P) H F
    lawful-rest H wide = record {
      told = λ ts. as_told ts (rest_read ts) (rest_told_all law.told (length ts) ts (omega arith));
      only = λ xs front rest d f. rest_only xs front rest (length (front ++ rest)) d f (omega arith);
      starts = λ xs front rest d f. wide (peek (front ++ rest)) (rest_starts xs front rest d f);
    }
