-- Tokens derive at most one tree, have at most one first fault, and do either where an end token stands last.
use Rattle.std.proofs.Common.{◌≡◌, ℕ, ◌+◌, ◌-◌, ◌<◌, ◌≤◌, Ok, Err, [], ◌∷◌, ◌++◌, length, take, drop, ◌⊎◌, inl, inr, refl, sym, ◌∙◌, ap, subst, append_assoc, arith}
use Rattle.std.proofs.lemmas.List.{take-append-drop, take-take, append-nil}
use Rattle.std.proofs.lemmas.Bool.{cases_lt}
use Rattle.pads_lex.specs.Answers.{EndsLast}
use Rattle.pads_lex.specs.declared.token.Token.{Token}
use Rattle.pads_grammar.specs.declared.kind.Kind.TheVariants as kind
use Rattle.pads_grammar.specs.Kinds.{Tokens, is, kind_of}
use Rattle.pads_grammar.specs.Grammar.{Grammar, Outcome, reads, Decides}
use Rattle.pads_grammar.specs.Whole.{Whole, Begins, IsFirstFault}
use Rattle.pads_grammar.proofs.Grammars.{lawful}
use Rattle.pads_grammar.proofs.WholeLaws.{whole_read, fault_met, one_tree, no_tree}
use Rattle.pads_syntax.specs.Answers.{past_end}
use Rattle.pads_syntax.proofs.Stops.{Ends, left_behind}

-- The list of tokens in two, where an end token stands last.
pub record Ended (ts : Tokens) : Type 0 where
  pub front : Tokens
  pub end : Token
  pub ends : Ends ts front end

ended_more : (t : Token) (ts : Tokens) → Ended ts → Ended (t ∷ ts)
ended_more t ts a = record { front = t ∷ a.front; end = a.end; ends = record { whole = ap (λ us. t ∷ us) a.ends.whole; last = a.ends.last } }

ended : (ts : Tokens) → EndsLast ts → Ended ts
ended [] h = absurd h
ended (t ∷ []) h = record { front = []; end = t; ends = record { whole = refl; last = h } }
ended (t ∷ next ∷ ts) h = ended_more t (next ∷ ts) (ended (next ∷ ts) h)

module _ {A B : Type 0} (g : Grammar A) (make : A → Token → B) (d : Decides g (is kind.End)) where
  pub one : (ts : Tokens) (tree other : B) → Whole g make tree ts → Whole g make other ts → tree ≡ other
  one ts tree other v w =
      let r : reads g v.front ≡ Ok (v.value, []) = ap (reads g) (sym (append-nil v.front)) ∙ (lawful g (is kind.End) d).only v.value v.front [] v.derived refl in
      sym v.made ∙ sym (one_tree g make d v.front v.end v.value other r (subst (λ (us : Tokens). Whole g make other us) v.whole w))

  -- What begins some tree's tokens does so from the left on.
  shorter : (ts : Tokens) (m n : ℕ) → m ≤ n → Begins g make (take n ts) → Begins g make (take m ts)
  shorter ts m n h b = record {
    tree = b.tree;
    back = drop m (take n ts) ++ b.back;
    derived = subst (λ (us : Tokens). Whole g make b.tree us) (sym whole) b.derived;
  }
    where
      whole : take m ts ++ (drop m (take n ts) ++ b.back) ≡ take n ts ++ b.back
      whole = sym (append_assoc (take m ts) (drop m (take n ts)) b.back)
          ∙ ap (λ us. us ++ b.back) (ap (λ us. us ++ drop m (take n ts)) (sym (take-take m n ts h)) ∙ take-append-drop m (take n ts))

  -- A fault further right would begin what the one to the left says that nothing begins.
  no_later : (ts : Tokens) (m n : ℕ) → m < n → IsFirstFault g make ts m → IsFirstFault g make ts n → ⊥
  no_later ts m n h f k = f.stops (shorter ts (m + 1) n (omega arith) k.before)

  pub one_fault : (ts : Tokens) (m n : ℕ) → IsFirstFault g make ts m → IsFirstFault g make ts n → m ≡ n
  one_fault ts m n f k = go (cases_lt m n)
    where
      equal : n ≤ m → (n < m) ⊎ (m ≤ n) → m ≡ n
      equal h (inl l) = absurd (no_later ts n m l k f)
      equal h (inr l) = omega arith

      go : (m < n) ⊎ (n ≤ m) → m ≡ n
      go (inl l) = absurd (no_later ts m n l f k)
      go (inr l) = equal l (cases_lt n m)

  pub not_both : (ts : Tokens) (tree : B) (at : ℕ) → Whole g make tree ts → IsFirstFault g make ts at → ⊥
  not_both ts tree at w f = no_tree g make d ts at tree f w

  abbrev Either : Tokens → Type 0
  Either ts = ((tree : B) × Whole g make tree ts) ⊎ ((at : ℕ) × IsFirstFault g make ts at)

  not_nothing : (t : Token) (ts : Tokens) → length (t ∷ ts) ≡ 0 → ⊥
  not_nothing t ts h = omega (arith, h)

  -- What the reader answers, over all tokens but the end token.
  either : (us : Tokens) (end : Token) → kind_of end.kind ≡ kind.End → (r : Outcome A) → reads g us ≡ r → Either (us ++ end ∷ [])
  either us end h (Err left) e = inr (length us - length left, fault_met g make d us end left h e)
  either us end h (Ok read) e = found read.0 read.1 e
    where
      found : (a : A) (left : Tokens) → reads g us ≡ Ok (a, left) → Either (us ++ end ∷ [])
      found a [] e = inl (make a end, whole_read g make d us end a h e)
      found a (t ∷ rest) e = inr (length us - length (past_end (t ∷ rest)), left_behind g make d us end (t ∷ rest) a h e (not_nothing t rest))

  pub tree_or_fault : (ts : Tokens) → EndsLast ts → ((tree : B) × Whole g make tree ts) ⊎ ((at : ℕ) × IsFirstFault g make ts at)
  tree_or_fault ts h =
      let a = ended ts h in
      subst (λ (us : Tokens). Either us) (sym a.ends.whole) (either a.front a.end (ap kind_of a.ends.last) (reads g a.front) refl)
