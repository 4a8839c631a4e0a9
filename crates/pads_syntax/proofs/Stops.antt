-- What a reader that stops tells of the whole list of tokens, by the tokens that it leaves.
use Rattle.std.proofs.Common.{◌≡◌, ℕ, ◌+◌, ◌-◌, ◌<◌, ◌≤◌, Bool, true, false, Ok, Err, [], ◌∷◌, ◌++◌, length, refl, sym, ap, subst, length-append, arith}
use Rattle.pads_lex.specs.Answers.{EndsLast}
use Rattle.pads_lex.specs.declared.token.Token.{Token}
use Rattle.pads_lex.specs.declared.token.TokenKind.TheVariants as token_kind
use Rattle.pads_grammar.specs.declared.kind.Kind.TheVariants as kind
use Rattle.pads_grammar.specs.Kinds.{Tokens, is, kind_of}
use Rattle.pads_grammar.specs.Grammar.{Grammar, Derives, reads, Decides}
use Rattle.pads_grammar.specs.Laws.{Found, Fault, Told}
use Rattle.pads_grammar.specs.Whole.{Whole, IsFirstFault}
use Rattle.pads_grammar.proofs.Grammars.{lawful}
use Rattle.pads_grammar.proofs.Parts.{is-same, same-is}
use Rattle.pads_grammar.proofs.WholeLaws.{whole_read, fault_met, fault_left, fault_behind}
use Rattle.pads_syntax.specs.Answers.{past_end}

-- The end token stands last.
pub record Ends (ts us : Tokens) (end : Token) : Type 0 where
  pub whole : ts ≡ us ++ end ∷ []
  pub last : end.kind ≡ token_kind.End

pub ends : (ts us front : Tokens) (end : Token) → us ≡ front → ts ≡ front ++ end ∷ [] → end.kind ≡ token_kind.End → Ends ts us end
ends ts us front end e w h = record { whole = rw e w; last = h }

-- The last token is that one.
ends_last : (us : Tokens) (end : Token) → EndsLast (us ++ end ∷ []) → end.kind ≡ token_kind.End
ends_last [] end h = h
ends_last (t ∷ []) end h = h
ends_last (t ∷ next ∷ us) end h = ends_last (next ∷ us) end h

pub last_kind : (ts us : Tokens) (end : Token) → EndsLast ts → ts ≡ us ++ end ∷ [] → end.kind ≡ token_kind.End
last_kind ts us end h e = ends_last us end (subst (λ (vs : Tokens). EndsLast vs) e h)

count : (ts us : Tokens) (end : Token) → Ends ts us end → length ts ≡ length us + 1
count ts us end h = rw h.whole (length-append us (end ∷ []))

module _ {A B : Type 0} (g : Grammar A) (make : A → Token → B) (d : Decides g (is kind.End)) where
  found_left : (us left : Tokens) (a : A) → reads g us ≡ Ok (a, left) → length left ≤ length us
  found_left us left a e = go (subst (Told (reads g) (Derives g) us) e ((lawful g (is kind.End) d).told us))
    where
      go : Found (reads g) (Derives g) us a left → length left ≤ length us
      go f = let n : length us ≡ length (f.front ++ left) = ap length f.whole in omega (arith, length-append f.front left)

  met_left : (us left : Tokens) → reads g us ≡ Err left → length left ≤ length us
  met_left us left e = go (subst (Told (reads g) (Derives g) us) e ((lawful g (is kind.End) d).told us))
    where
      go : Fault (reads g) (Derives g) us left → length left ≤ length us
      go f = let n : length us ≡ length (f.front ++ left) = ap length f.whole in omega (arith, length-append f.front left)

  -- Fewer tokens are left than there are.
  pub fewer_found : (ts us : Tokens) (end : Token) (left : Tokens) (a : A) → Ends ts us end → reads g us ≡ Ok (a, left) → length left < length ts
  fewer_found ts us end left a h e = let n = found_left us left a e in let m = count ts us end h in omega arith

  pub fewer_met : (ts us : Tokens) (end : Token) (left : Tokens) → Ends ts us end → reads g us ≡ Err left → length left < length ts
  fewer_met ts us end left h e = let n = met_left us left e in let m = count ts us end h in omega arith

  -- All was read.
  pub completed : (ts us : Tokens) (end : Token) (left : Tokens) (a : A) → Ends ts us end → reads g us ≡ Ok (a, left) → length left ≡ 0 → Whole g make (make a end) ts
  completed ts us end [] a h e n = rw h.whole (whole_read g make d us end a (ap kind_of h.last) e)
  completed ts us end (t ∷ left) a h e n = absurd (omega (arith, n))

  -- The reader met a fault.
  pub stopped_at : (ts us : Tokens) (end : Token) (left : Tokens) (n : ℕ) → Ends ts us end → reads g us ≡ Err left → n + length left + 1 ≡ length ts → IsFirstFault g make ts n
  stopped_at ts us end left n h e m =
      let c = count ts us end h in
      let k : n ≡ length us - length left = omega arith in
      rw (h.whole, k) (fault_met g make d us end left (ap kind_of h.last) e)

  -- The reader came to an end, and more tokens stand behind it.
  pub left_behind : (us : Tokens) (end : Token) (left : Tokens) (a : A) → kind_of end.kind ≡ kind.End → reads g us ≡ Ok (a, left) → (length left ≡ 0 → ⊥) → IsFirstFault g make (us ++ end ∷ []) (length us - length (past_end left))
  left_behind us end [] a h e more = absurd (more refl)
  left_behind us end (t ∷ rest) a h e more = decide (is kind.End (kind_of t.kind)) refl
    where
      unlike : is kind.End (kind_of t.kind) ≡ true → is kind.End (kind_of t.kind) ≡ false → ⊥
      unlike x y = cc

      decide : (b : Bool) → is kind.End (kind_of t.kind) ≡ b → IsFirstFault g make (us ++ end ∷ []) (length us - length (past_end (t ∷ rest)))
      decide true i = rw i (fault_behind g make d us end a t rest h e (sym (is-same kind.End (kind_of t.kind) i)))
      decide false i = rw i (fault_left g make d us end a t rest h e (λ s. unlike (same-is kind.End (kind_of t.kind) (sym s)) i))

  pub stopped_behind : (ts us : Tokens) (end : Token) (left : Tokens) (a : A) (n : ℕ) → Ends ts us end → reads g us ≡ Ok (a, left) → (length left ≡ 0 → ⊥) → n + length (past_end left) + 1 ≡ length ts → IsFirstFault g make ts n
  stopped_behind ts us end left a n h e more m =
      let c = count ts us end h in
      let k : n ≡ length us - length (past_end left) = omega arith in
      rw (h.whole, k) (left_behind us end left a (ap kind_of h.last) e more)
