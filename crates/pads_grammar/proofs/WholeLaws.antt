-- What a reader that stops tells of the whole list of tokens.
use Rattle.std.proofs.Common.{◌≡◌, ℕ, suc, ◌+◌, ◌-◌, Bool, true, false, Ok, Err, [], ◌∷◌, ◌++◌, length, take, drop, ◌⊎◌, inl, inr, refl, sym, ◌∙◌, ap, subst, append_assoc, length-append, arith, add-one}
use Rattle.std.proofs.lemmas.List.{take-append-drop, append-nil}
use Rattle.pads_lex.specs.declared.token.Token.{Token}
use Rattle.pads_grammar.specs.declared.kind.Kind.TheVariants as kind
use Rattle.pads_grammar.specs.Kinds.{Tokens, is, peek, kind_of, sample}
use Rattle.pads_grammar.specs.Grammar.{Grammar, Outcome, Derives, reads, Decides}
use Rattle.pads_grammar.specs.Laws.{Found, Fault, Told}
use Rattle.pads_grammar.specs.Whole.{Whole, Begins, IsFirstFault}
use Rattle.pads_grammar.proofs.Grammars.{lawful}

take_front : (f x : Tokens) → take (length f) (f ++ x) ≡ f
take_front [] x = refl
take_front (t ∷ f) x = ap (λ us. t ∷ us) (take_front f x)

take_next : (f : Tokens) (r : Token) (x : Tokens) → take (suc (length f)) (f ++ r ∷ x) ≡ f ++ r ∷ []
take_next [] r x = refl
take_next (t ∷ f) r x = ap (λ us. t ∷ us) (take_next f r x)

-- Where one list is written in two ways, the shorter front ends there or goes on with the next token.
abbrev Cut : Tokens → Token → Tokens → Token → Type 0
Cut f r g e = ((g ≡ f) × (r ≡ e)) ⊎ ((more : Tokens) × (g ≡ f ++ r ∷ more))

cut_more : (t s : Token) (f : Tokens) (r : Token) (g : Tokens) (e : Token) → t ≡ s → Cut f r g e → Cut (t ∷ f) r (s ∷ g) e
cut_more t s f r g e h (inl c) = inl (rw h (ap (λ us. s ∷ us) c.0), c.1)
cut_more t s f r g e h (inr c) = inr (c.0, rw h (ap (λ us. s ∷ us) c.1))

cut : (f : Tokens) (r : Token) (b g : Tokens) (e : Token) → f ++ r ∷ b ≡ g ++ e ∷ [] → Cut f r g e
cut [] r b [] e h = let x : r ≡ e = cc in inl (refl, x)
cut [] r b (s ∷ g) e h = let x : r ≡ s = cc in inr (g, rw x refl)
cut (t ∷ f) r b [] e h = let x : f ++ r ∷ b ≡ [] = cc in absurd (nothing f x)
  where
    nothing : (f : Tokens) → f ++ r ∷ b ≡ [] → ⊥
    nothing [] x = cc
    nothing (t ∷ f) x = cc
cut (t ∷ f) r b (s ∷ g) e h =
    let x : f ++ r ∷ b ≡ g ++ e ∷ [] = cc in
    let y : t ≡ s = cc in
    cut_more t s f r g e y (cut f r b g e x)

abbrev value_or : {A : Type 0} → A → Outcome A → A
value_or a (Ok read) = read.0
value_or a (Err rest) = a

abbrev rest_or : {A : Type 0} → Outcome A → Tokens
rest_or (Ok read) = read.1
rest_or (Err rest) = rest

abbrev fails : {A : Type 0} → Outcome A → Bool
fails (Ok read) = false
fails (Err rest) = true

same_value : {A : Type 0} (r : Outcome A) (a b : A) (xs ys : Tokens) → r ≡ Ok (a, xs) → r ≡ Ok (b, ys) → a ≡ b
same_value r a b xs ys h k = ap (value_or a) (sym h ∙ k)

same_rest : {A : Type 0} (r : Outcome A) (a b : A) (xs ys : Tokens) → r ≡ Ok (a, xs) → r ≡ Ok (b, ys) → xs ≡ ys
same_rest r a b xs ys h k = ap rest_or (sym h ∙ k)

unlike : {A : Type 0} (r : Outcome A) (a : A) (xs ys : Tokens) → r ≡ Ok (a, xs) → r ≡ Err ys → ⊥
unlike r a xs ys h k = let e : false ≡ true = ap fails (sym h ∙ k) in cc

module _ {A B : Type 0} (g : Grammar A) (make : A → Token → B) (d : Decides g (is kind.End)) where
  -- What is derived is read to its end.
  read_whole : (a : A) (us : Tokens) → Derives g a us → reads g us ≡ Ok (a, [])
  read_whole a us h = ap (reads g) (sym (append-nil us)) ∙ (lawful g (is kind.End) d).only a us [] h refl

  -- The tree of what was read to the end is the one tree.
  pub whole_read : (us : Tokens) (end : Token) (a : A) → kind_of end.kind ≡ kind.End → reads g us ≡ Ok (a, []) → Whole g make (make a end) (us ++ end ∷ [])
  whole_read us end a h e = go (subst (Told (reads g) (Derives g) us) e ((lawful g (is kind.End) d).told us))
    where
      go : Found (reads g) (Derives g) us a [] → Whole g make (make a end) (us ++ end ∷ [])
      go f = record { front = us; end = end; value = a; whole = refl; last = h; derived = subst (λ (vs : Tokens). Derives g a vs) (sym (f.whole ∙ append-nil f.front)) f.derived; made = refl }

  same_end : (us : Tokens) (end : Token) (w : Tokens) (e : Token) → us ++ end ∷ [] ≡ w ++ e ∷ [] → (w ≡ us) × (end ≡ e)
  same_end [] end [] e h = let x : end ≡ e = cc in (refl, x)
  same_end [] end (s ∷ w) e h = let x : [] ≡ w ++ e ∷ [] = cc in absurd (nothing w x)
    where
      nothing : (w : Tokens) → [] ≡ w ++ e ∷ [] → ⊥
      nothing [] x = cc
      nothing (t ∷ w) x = cc
  same_end (t ∷ us) end [] e h = let x : us ++ end ∷ [] ≡ [] = cc in absurd (nothing us x)
    where
      nothing : (w : Tokens) → w ++ end ∷ [] ≡ [] → ⊥
      nothing [] x = cc
      nothing (t ∷ w) x = cc
  same_end (t ∷ us) end (s ∷ w) e h =
      let x : us ++ end ∷ [] ≡ w ++ e ∷ [] = cc in
      let y : t ≡ s = cc in
      let z = same_end us end w e x in
      (rw y (ap (λ vs. s ∷ vs) z.0), z.1)

  pub one_tree : (us : Tokens) (end : Token) (a : A) (tree : B) → reads g us ≡ Ok (a, []) → Whole g make tree (us ++ end ∷ []) → tree ≡ make a end
  one_tree us end a tree e w =
      let s = same_end us end w.front w.end w.whole in
      let r : reads g us ≡ Ok (w.value, []) = read_whole w.value us (subst (λ (vs : Tokens). Derives g w.value vs) s.0 w.derived) in
      let v = same_value (reads g us) w.value a [] [] r e in
      sym w.made ∙ (ap (λ x. make x w.end) v ∙ ap (make a) (sym s.1))

  -- No whole list goes on with r behind f, where the reader never comes to an end there.
  never : (f : Tokens) (r : Token) → ((more : Tokens) → peek more ≡ kind_of r.kind → (a : A) → reads g (f ++ more) ≡ Ok (a, []) → ⊥) → Begins g make (f ++ r ∷ []) → ⊥
  never f r halts b =
      let w = b.derived in
      go (cut f r b.back w.front w.end (sym (append_assoc f (r ∷ []) b.back) ∙ w.whole))
    where
      go : Cut f r b.derived.front b.derived.end → ⊥
      go (inl c) = halts [] (sym b.derived.last ∙ ap (λ (t : Token). kind_of t.kind) (sym c.1)) b.derived.value
          (ap (reads g) (append-nil f ∙ sym c.0) ∙ read_whole b.derived.value b.derived.front b.derived.derived)
      go (inr c) = halts (r ∷ c.0) refl b.derived.value (ap (reads g) (sym c.1) ∙ read_whole b.derived.value b.derived.front b.derived.derived)

  begun : (us : Tokens) (a : A) (back : Tokens) → Derives g a (us ++ back) → Begins g make us
  begun us a back h = record {
    tree = make a (sample kind.End);
    back = back ++ sample kind.End ∷ [];
    derived = record { front = us ++ back; end = sample kind.End; value = a; whole = sym (append_assoc us back (sample kind.End ∷ [])); last = refl; derived = h; made = refl };
  }

  at_front : (f : Tokens) (r : Token) (x : Tokens) → Begins g make f → (Begins g make (f ++ r ∷ []) → ⊥) → IsFirstFault g make (f ++ r ∷ x) (length f)
  at_front f r x before stops = record {
    within = omega (arith, length-append f (r ∷ x));
    before = subst (λ (us : Tokens). Begins g make us) (sym (take_front f (r ∷ x))) before;
    stops = λ b. stops (subst (λ (us : Tokens). Begins g make us) (ap (λ n. take n (f ++ r ∷ x)) (add-one (length f)) ∙ take_next f r x) b);
  }

  -- The tokens that are left, and the end token behind them.
  abbrev next : Tokens → Token → Token
  next [] end = end
  next (t ∷ rest) end = t

  abbrev next_rest : Tokens → Token → Tokens
  next_rest [] end = []
  next_rest (t ∷ rest) end = rest ++ end ∷ []

  next_is : (rest : Tokens) (end : Token) → rest ++ end ∷ [] ≡ next rest end ∷ next_rest rest end
  next_is [] end = refl
  next_is (t ∷ rest) end = refl

  next_peek : (rest : Tokens) (end : Token) → kind_of end.kind ≡ kind.End → kind_of (next rest end).kind ≡ peek rest
  next_peek [] end h = h
  next_peek (t ∷ rest) end h = refl

  placed : (f rest us : Tokens) (end : Token) (n : ℕ) → us ≡ f ++ rest → n ≡ length f → Begins g make f → (Begins g make (f ++ next rest end ∷ []) → ⊥) → IsFirstFault g make (us ++ end ∷ []) n
  placed f rest us end n w e before stops =
      rw e (subst (λ (vs : Tokens). IsFirstFault g make vs (length f)) (sym (rw w (append_assoc f rest (end ∷ []) ∙ ap (λ vs. f ++ vs) (next_is rest end)))) (at_front f (next rest end) (next_rest rest end) before stops))

  left : (us f rest : Tokens) → us ≡ f ++ rest → length us - length rest ≡ length f
  left us f rest w = rw w (omega (arith, length-append f rest))

  -- The reader met a fault.
  pub fault_met : (us : Tokens) (end : Token) (rest : Tokens) → kind_of end.kind ≡ kind.End → reads g us ≡ Err rest → IsFirstFault g make (us ++ end ∷ []) (length us - length rest)
  fault_met us end rest h e = go (subst (Told (reads g) (Derives g) us) e ((lawful g (is kind.End) d).told us))
    where
      go : Fault (reads g) (Derives g) us rest → IsFirstFault g make (us ++ end ∷ []) (length us - length rest)
      go f = placed f.front rest us end (length us - length rest) f.whole (left us f.front rest f.whole) (begun f.front f.value f.back f.completed)
          (never f.front (next rest end) (λ more p a r. unlike (reads g (f.front ++ more)) a [] more r (f.stays more (p ∙ next_peek rest end h))))

  -- The reader came to an end, and more tokens stand behind it.
  pub fault_left : (us : Tokens) (end : Token) (a : A) (t : Token) (rest : Tokens) → kind_of end.kind ≡ kind.End → reads g us ≡ Ok (a, t ∷ rest) → (kind_of t.kind ≡ kind.End → ⊥) → IsFirstFault g make (us ++ end ∷ []) (length us - length (t ∷ rest))
  fault_left us end a t rest h e other = go (subst (Told (reads g) (Derives g) us) e ((lawful g (is kind.End) d).told us))
    where
      go : Found (reads g) (Derives g) us a (t ∷ rest) → IsFirstFault g make (us ++ end ∷ []) (length us - length (t ∷ rest))
      go f = placed f.front (t ∷ rest) us end (length us - length (t ∷ rest)) f.whole (left us f.front (t ∷ rest) f.whole)
          (begun f.front a [] (subst (λ (vs : Tokens). Derives g a vs) (sym (append-nil f.front)) f.derived))
          (never f.front t (λ more p b r. other (sym p ∙ ap peek (same_rest (reads g (f.front ++ more)) a b more [] (f.stays more p) r))))

  -- The same, where an end token stands there: it ends a tree, and the token behind it is the first that
  -- no tree has.
  pub fault_behind : (us : Tokens) (end : Token) (a : A) (t : Token) (rest : Tokens) → kind_of end.kind ≡ kind.End → reads g us ≡ Ok (a, t ∷ rest) → kind_of t.kind ≡ kind.End → IsFirstFault g make (us ++ end ∷ []) (length us - length rest)
  fault_behind us end a t rest h e same = go (subst (Told (reads g) (Derives g) us) e ((lawful g (is kind.End) d).told us))
    where
      not_nil : (t : Token) (more : Tokens) → t ∷ more ≡ [] → ⊥
      not_nil t more h = cc

      go : Found (reads g) (Derives g) us a (t ∷ rest) → IsFirstFault g make (us ++ end ∷ []) (length us - length rest)
      go f =
          let w : us ≡ (f.front ++ t ∷ []) ++ rest = f.whole ∙ sym (append_assoc f.front (t ∷ []) rest) in
          placed (f.front ++ t ∷ []) rest us end (length us - length rest) w (left us (f.front ++ t ∷ []) rest w)
          (record { tree = make a t; back = []; derived = record { front = f.front; end = t; value = a; whole = append-nil (f.front ++ t ∷ []); last = same; derived = f.derived; made = refl } })
          (never (f.front ++ t ∷ []) (next rest end) (λ more p b r.
          let x : reads g (f.front ++ t ∷ more) ≡ Ok (b, []) = ap (reads g) (sym (append_assoc f.front (t ∷ []) more)) ∙ r in
          not_nil t more (same_rest (reads g (f.front ++ t ∷ more)) a b (t ∷ more) [] (f.stays (t ∷ more) refl) x)))

  -- Where the reader meets a fault, or leaves tokens behind, no tree is derived.
  pub no_tree : (ts : Tokens) (at : ℕ) (tree : B) → IsFirstFault g make ts at → Whole g make tree ts → ⊥
  no_tree ts at tree f w = f.stops (record { tree = tree; back = drop (at + 1) ts; derived = subst (λ (vs : Tokens). Whole g make tree vs) (sym (take-append-drop (at + 1) ts)) w })
