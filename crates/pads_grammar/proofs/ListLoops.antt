-- The laws of loops in the form that the code's proofs use: over a repetition, and over a list with a
-- mark between each two items.
use Rattle.std.proofs.Common.{◌≡◌, ℕ, ◌<◌, Bool, true, false, Ok, Err, List, [], ◌∷◌, ◌++◌, length, refl}
use Rattle.pads_lex.specs.declared.token.Mark.{Mark}
use Rattle.pads_grammar.specs.declared.kind.Kind.{Kind}
use Rattle.pads_grammar.specs.declared.kind.Kind.TheVariants as kind
use Rattle.pads_grammar.specs.Kinds.{Tokens, is, peek}
use Rattle.pads_grammar.specs.Grammar.{Grammar, mark, many, Outcome, then_read, read_token, reads, nullable, begins, ◌*>◌}
use Rattle.pads_grammar.specs.Lists.{listed}
use Rattle.pads_grammar.proofs.Loops.{Whole, loop_begins, loop_goes, loop_ends, loop_fails, shorter}

module _ {A : Type 0} (g : Grammar A) (solid : nullable g ≡ false) (quiet : begins g kind.End ≡ false) where
  pub many_begins : (ts : Tokens) → Whole g (reads (many g) ts) [] ts
  many_begins ts = loop_begins g ts

  pub many_goes : (whole : Outcome (List A)) (done : List A) (ts rest : Tokens) (a : A) → begins g (peek ts) ≡ true → reads g ts ≡ Ok (a, rest) → Whole g whole done ts → Whole g whole (done ++ a ∷ []) rest
  many_goes whole done ts rest a b h w = loop_goes g whole done ts a rest solid quiet b h w

  pub many_ends : (whole : Outcome (List A)) (done : List A) (ts : Tokens) → begins g (peek ts) ≡ false → Whole g whole done ts → whole ≡ Ok (done, ts)
  many_ends whole done ts b w = loop_ends g whole done ts b w

  pub many_fails : (whole : Outcome (List A)) (done : List A) (ts rest : Tokens) → begins g (peek ts) ≡ true → reads g ts ≡ Err rest → Whole g whole done ts → whole ≡ Err rest
  many_fails whole done ts rest b h w = loop_fails g whole done ts rest quiet b h w

  pub many_shorter : (ts rest : Tokens) (a : A) → reads g ts ≡ Ok (a, rest) → length rest < length ts
  many_shorter ts rest a h = shorter g ts a rest solid h

module _ {A : Type 0} (separator : Mark) (item : Grammar A) where
  abbrev k : Kind
  k = kind.Mark separator

  abbrev pub another : Grammar A
  another = mark separator *> item

  begins_another : (j : Kind) (b : Bool) → is k j ≡ b → begins another j ≡ b
  begins_another j true h = rw h refl
  begins_another j false h = rw h refl

  another_reads : (ts mid rest : Tokens) (at : ℕ) (a : A) → read_token k (λ t. t.begin) ts ≡ Ok (at, mid) → reads item mid ≡ Ok (a, rest) → reads another ts ≡ Ok (a, rest)
  another_reads ts mid rest at a h e = rw h (rw e refl)

  pub listed_begins : (ts mid : Tokens) (a : A) → reads item ts ≡ Ok (a, mid) → Whole another (reads (listed separator item) ts) (a ∷ []) mid
  listed_begins ts mid a e = rw e (go (reads (many another) mid))
    where
      go : (r : Outcome (List A)) → then_read {A = A × List A} {B = List A} (then_read {A = List A} {B = A × List A} r (λ b rest. Ok ((a, b), rest))) (λ p rest. Ok (p.0 ∷ p.1, rest)) ≡ then_read r (λ more rest. Ok ((a ∷ []) ++ more, rest))
      go (Ok read) = refl
      go (Err rest) = refl

  pub listed_fault : (ts rest : Tokens) → reads item ts ≡ Err rest → reads (listed separator item) ts ≡ Err rest
  listed_fault ts rest e = rw e refl

  pub listed_goes : (whole : Outcome (List A)) (done : List A) (ts mid rest : Tokens) (at : ℕ) (a : A) → is k (peek ts) ≡ true → read_token k (λ t. t.begin) ts ≡ Ok (at, mid) → reads item mid ≡ Ok (a, rest) → Whole another whole done ts → Whole another whole (done ++ a ∷ []) rest
  listed_goes whole done ts mid rest at a b h e w = loop_goes another whole done ts a rest refl (begins_another kind.End false refl) (begins_another (peek ts) true b) (another_reads ts mid rest at a h e) w

  pub listed_ends : (whole : Outcome (List A)) (done : List A) (ts : Tokens) → is k (peek ts) ≡ false → Whole another whole done ts → whole ≡ Ok (done, ts)
  listed_ends whole done ts b w = loop_ends another whole done ts (begins_another (peek ts) false b) w

  pub listed_fails_mark : (whole : Outcome (List A)) (done : List A) (ts rest : Tokens) → is k (peek ts) ≡ true → read_token k (λ t. t.begin) ts ≡ Err rest → Whole another whole done ts → whole ≡ Err rest
  listed_fails_mark whole done ts rest b h w = loop_fails another whole done ts rest (begins_another kind.End false refl) (begins_another (peek ts) true b) (rw h refl) w

  pub listed_fails : (whole : Outcome (List A)) (done : List A) (ts mid rest : Tokens) (at : ℕ) → is k (peek ts) ≡ true → read_token k (λ t. t.begin) ts ≡ Ok (at, mid) → reads item mid ≡ Err rest → Whole another whole done ts → whole ≡ Err rest
  listed_fails whole done ts mid rest at b h e w = loop_fails another whole done ts rest (begins_another kind.End false refl) (begins_another (peek ts) true b) (rw h (rw e refl)) w

  pub listed_shorter : (ts mid rest : Tokens) (at : ℕ) (a : A) → read_token k (λ t. t.begin) ts ≡ Ok (at, mid) → reads item mid ≡ Ok (a, rest) → length rest < length ts
  listed_shorter ts mid rest at a h e = shorter another ts a rest refl (another_reads ts mid rest at a h e)
