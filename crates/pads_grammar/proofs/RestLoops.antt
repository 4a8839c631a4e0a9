-- What a loop over items behind a separator keeps, where the separator may also stand last.
use Rattle.std.proofs.Common.{◌≡◌, ℕ, zero, suc, ◌≤◌, ◌<◌, Bool, true, false, Ok, Err, List, [], ◌∷◌, ◌++◌, length, cond, refl, sym, ◌∙◌, ap, subst, append_assoc, arith}
use Rattle.std.proofs.lemmas.List.{append-nil}
use Rattle.pads_lex.specs.declared.token.Token.{Token}
use Rattle.pads_grammar.specs.declared.kind.Kind.{Kind}
use Rattle.pads_grammar.specs.declared.kind.Kind.TheVariants as kind
use Rattle.pads_grammar.specs.Kinds.{Tokens, is, peek, kind_of}
use Rattle.pads_grammar.specs.Grammar.{Grammar, rest_of, Outcome, then_read, read_token, read_rest, reads, nullable, begins}
use Rattle.pads_grammar.proofs.Loops.{Shorter, shortens}

abbrev left_or : Tokens → Outcome ℕ → Tokens
left_or ts (Ok read) = read.1
left_or ts (Err rest) = ts

abbrev step : {A : Type 0} → Kind → Grammar A → ℕ → Outcome A → Outcome (List A)
step k g n r = then_read r (λ a mid. then_read (read_rest k (begins g) (reads g) n mid) (λ xs rest. Ok (a ∷ xs, rest)))

-- Any number of times that suffices gives the same.
same_after : {A : Type 0} (k : Kind) (g : Grammar A) (n m : ℕ) (us : Tokens) (b : Bool) (r : Outcome A) → Shorter (length us) r → length us ≤ n → length us ≤ m
    → ((mid : Tokens) → length mid ≤ n → length mid ≤ m → read_rest k (begins g) (reads g) n mid ≡ read_rest k (begins g) (reads g) m mid)
    → cond b (step k g n r) (Ok ([], us)) ≡ cond b (step k g m r) (Ok ([], us))
same_after k g n m us true (Ok read) s l h ih = ap (λ x. then_read x (λ xs rest. Ok (read.0 ∷ xs, rest))) (ih read.1 (omega arith) (omega arith))
same_after k g n m us true (Err rest) s l h ih = refl
same_after k g n m us false r s l h ih = refl

same_rest : {A : Type 0} (k : Kind) (g : Grammar A) → nullable g ≡ false → is k kind.End ≡ false → (n m : ℕ) (ts : Tokens) → length ts ≤ n → length ts ≤ m → read_rest k (begins g) (reads g) n ts ≡ read_rest k (begins g) (reads g) m ts
same_rest k g h q zero zero ts l j = refl
same_rest k g h q zero (suc m) [] l j = rw q refl
same_rest k g h q zero (suc m) (t ∷ ts) l j = let e : suc (length ts) ≤ zero = l in absurd (omega arith)
same_rest k g h q (suc n) zero [] l j = rw q refl
same_rest k g h q (suc n) zero (t ∷ ts) l j = let e : suc (length ts) ≤ zero = j in absurd (omega arith)
same_rest k g h q (suc n) (suc m) [] l j = rw q refl
same_rest k g h q (suc n) (suc m) (t ∷ ts) l j =
    let e : suc (length ts) ≤ suc n = l in
    let f : suc (length ts) ≤ suc m = j in
    ap (λ x. cond (is k (kind_of t.kind)) x (Ok ([], t ∷ ts))) (same_after k g n m ts (begins g (peek ts)) (reads g ts) (shortens g h ts) (omega arith) (omega arith) (same_rest k g h q n m))

-- Done, and what may come from here, are the whole.
abbrev pub RestWhole : {A : Type 0} → Kind → Grammar A → Outcome (List A) → List A → Tokens → Type 0
RestWhole k g whole done ts = whole ≡ then_read (reads (rest_of k g) ts) (λ more rest. Ok (done ++ more, rest))

module _ {A : Type 0} (k : Kind) (g : Grammar A) (solid : nullable g ≡ false) (quiet : is k kind.End ≡ false) where
  rest_stop : (ts : Tokens) → is k (peek ts) ≡ false → reads (rest_of k g) ts ≡ Ok ([], ts)
  rest_stop [] h = refl
  rest_stop (t ∷ ts) h = rw h refl

  rest_end : (t : Token) (ts : Tokens) → is k (kind_of t.kind) ≡ true → begins g (peek ts) ≡ false → reads (rest_of k g) (t ∷ ts) ≡ Ok ([], ts)
  rest_end t ts h b = rw h (rw b refl)

  rest_fault : (t : Token) (ts rest : Tokens) → is k (kind_of t.kind) ≡ true → begins g (peek ts) ≡ true → reads g ts ≡ Err rest → reads (rest_of k g) (t ∷ ts) ≡ Err rest
  rest_fault t ts rest h b e = rw h (rw b (rw e refl))

  rest_step : (t : Token) (ts : Tokens) (a : A) (mid : Tokens) → is k (kind_of t.kind) ≡ true → begins g (peek ts) ≡ true → reads g ts ≡ Ok (a, mid) → reads (rest_of k g) (t ∷ ts) ≡ then_read (reads (rest_of k g) mid) (λ xs rest. Ok (a ∷ xs, rest))
  rest_step t ts a mid h b e =
      let l : length mid < length ts = subst (Shorter (length ts)) e (shortens g solid ts) in
      rw h (rw b (rw e (ap (λ x. then_read x (λ xs rest. Ok (a ∷ xs, rest))) (same_rest k g solid quiet (length ts) (length mid) mid (omega arith) (omega arith)))))

  -- What was marked is the first token.
  marked : (ts : Tokens) (at : ℕ) (us : Tokens) → is k (peek ts) ≡ true → read_token k (λ t. t.begin) ts ≡ Ok (at, us) → (t : Token) × (ts ≡ t ∷ us) × (is k (kind_of t.kind) ≡ true)
  marked [] at us h e = cc
  marked (t ∷ ts) at us h e = go (is k (kind_of t.kind)) refl h e
    where
      go : (b : Bool) → is k (kind_of t.kind) ≡ b → is k (kind_of t.kind) ≡ true → cond {A = Outcome ℕ} b (Ok (t.begin, ts)) (Err (t ∷ ts)) ≡ Ok (at, us) → (s : Token) × (t ∷ ts ≡ s ∷ us) × (is k (kind_of s.kind) ≡ true)
      go true q h e = (t, ap (λ vs. t ∷ vs) (ap (left_or ts) e), h)
      go false q h e = let x : false ≡ true = sym q ∙ h in cc

  pub rest_begins : (first : A) (whole : Outcome (List A)) (r : Outcome (List A)) → whole ≡ then_read r (λ xs rest. Ok (first ∷ xs, rest)) → whole ≡ then_read r (λ xs rest. Ok ((first ∷ []) ++ xs, rest))
  rest_begins first whole r w = w

  pub rest_goes : (whole : Outcome (List A)) (done : List A) (ts us : Tokens) (at : ℕ) (a : A) (mid : Tokens) → is k (peek ts) ≡ true → read_token k (λ t. t.begin) ts ≡ Ok (at, us) → begins g (peek us) ≡ true → reads g us ≡ Ok (a, mid) → RestWhole k g whole done ts → RestWhole k g whole (done ++ a ∷ []) mid
  rest_goes whole done ts us at a mid h m b e w =
      let x = marked ts at us h m in
      w ∙ (ap (λ vs. then_read (reads (rest_of k g) vs) (λ more rest. Ok (done ++ more, rest))) x.1
      ∙ (ap (λ y. then_read y (λ more rest. Ok (done ++ more, rest))) (rest_step x.0 us a mid x.2 b e) ∙ go (reads (rest_of k g) mid)))
    where
      go : (r : Outcome (List A)) → then_read (then_read r (λ xs rest. Ok (a ∷ xs, rest))) (λ more rest. Ok (done ++ more, rest)) ≡ then_read r (λ more rest. Ok ((done ++ a ∷ []) ++ more, rest))
      go (Ok read) = ap (λ xs. Ok (xs, read.1)) (sym (append_assoc done (a ∷ []) read.0))
      go (Err rest) = refl

  pub rest_ends : (whole : Outcome (List A)) (done : List A) (ts : Tokens) → is k (peek ts) ≡ false → RestWhole k g whole done ts → whole ≡ Ok (done, ts)
  rest_ends whole done ts h w = w ∙ (ap (λ x. then_read x (λ more rest. Ok (done ++ more, rest))) (rest_stop ts h) ∙ ap (λ xs. Ok (xs, ts)) (append-nil done))

  pub rest_ends_behind : (whole : Outcome (List A)) (done : List A) (ts us : Tokens) (at : ℕ) → is k (peek ts) ≡ true → read_token k (λ t. t.begin) ts ≡ Ok (at, us) → begins g (peek us) ≡ false → RestWhole k g whole done ts → whole ≡ Ok (done, us)
  rest_ends_behind whole done ts us at h m b w =
      let x = marked ts at us h m in
      w ∙ (ap (λ vs. then_read (reads (rest_of k g) vs) (λ more rest. Ok (done ++ more, rest))) x.1
      ∙ (ap (λ y. then_read y (λ more rest. Ok (done ++ more, rest))) (rest_end x.0 us x.2 b) ∙ ap (λ xs. Ok (xs, us)) (append-nil done)))

  pub rest_fails : (whole : Outcome (List A)) (done : List A) (ts us rest : Tokens) (at : ℕ) → is k (peek ts) ≡ true → read_token k (λ t. t.begin) ts ≡ Ok (at, us) → begins g (peek us) ≡ true → reads g us ≡ Err rest → RestWhole k g whole done ts → whole ≡ Err rest
  rest_fails whole done ts us rest at h m b e w =
      let x = marked ts at us h m in
      w ∙ (ap (λ vs. then_read (reads (rest_of k g) vs) (λ more rest. Ok (done ++ more, rest))) x.1
      ∙ ap (λ y. then_read y (λ more rest. Ok (done ++ more, rest))) (rest_fault x.0 us rest x.2 b e))
