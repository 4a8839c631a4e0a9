-- What a loop over the items of a repetition keeps: the whole equals what is done, then the rest.
use Rattle.std.proofs.Common.{◌≡◌, ℕ, zero, suc, ◌≤◌, ◌<◌, Bool, true, false, Ok, Err, List, [], ◌∷◌, ◌++◌, length, cond, inl, inr, refl, sym, ◌∙◌, ap, subst, append_assoc, arith}
use Rattle.std.proofs.lemmas.List.{append-nil}
use Rattle.std.proofs.lemmas.Bool.{and_cases, or_parts}
use Rattle.pads_lex.specs.declared.token.Token.{Token}
use Rattle.pads_grammar.specs.declared.kind.Kind.{Kind}
use Rattle.pads_grammar.specs.declared.kind.Kind.TheVariants as kind
use Rattle.pads_grammar.specs.Kinds.{Tokens, is, peek, kind_of}
use Rattle.pads_grammar.specs.Grammar.{Grammar, token, pair, apply, either, optional, many, rest_of, Outcome, then_read, read_token, read_many, read_rest, behind, reads, nullable, begins}

-- What is read leaves no more tokens than that number.
abbrev pub Leaves : {A : Type 0} → ℕ → Outcome A → Type 0
Leaves n (Ok read) = length read.1 ≤ n
Leaves n (Err rest) = Unit {0}

leaves_more : {A : Type 0} (m n : ℕ) (r : Outcome A) → m ≤ n → Leaves m r → Leaves n r
leaves_more m n (Ok read) h l = omega arith
leaves_more m n (Err rest) h l = tt

leaves_then : {A B : Type 0} (m n : ℕ) (r : Outcome A) (f : A → Tokens → Outcome B) → Leaves m r → ((a : A) (mid : Tokens) → length mid ≤ m → Leaves n (f a mid)) → Leaves n (then_read r f)
leaves_then m n (Ok read) f l g = g read.0 read.1 l
leaves_then m n (Err rest) f l g = tt

leaves_if : {A : Type 0} (n : ℕ) (b : Bool) (r s : Outcome A) → Leaves n r → Leaves n s → Leaves n (cond b r s)
leaves_if n true r s l m = l
leaves_if n false r s l m = m

leaves_token : {A : Type 0} (k : Kind) (take : Token → A) (ts : Tokens) (n : ℕ) → length ts ≤ suc n → Leaves n (read_token k take ts)
leaves_token k take [] n l = tt
leaves_token k take (t ∷ ts) n l = let e : suc (length ts) ≤ suc n = l in leaves_if n (is k (kind_of t.kind)) (Ok (take t, ts)) (Err (t ∷ ts)) (let x : length ts ≤ n = omega arith in x) tt

leaves_many : {A : Type 0} (goes : Kind → Bool) (p : Tokens → Outcome A) → ((ts : Tokens) → Leaves (length ts) (p ts)) → (m : ℕ) (ts : Tokens) (n : ℕ) → length ts ≤ n → Leaves n (read_many goes p m ts)
leaves_many goes p item zero ts n l = l
leaves_many goes p item (suc m) ts n l = leaves_if n (goes (peek ts)) _ _
    (leaves_then (length ts) n (p ts) _ (item ts) (λ a mid k. leaves_then n n (read_many goes p m mid) _ (leaves_many goes p item m mid n (omega arith)) (λ xs rest h. h)))
    l

behind_shorter : (ts : Tokens) → length (behind ts) ≤ length ts
behind_shorter [] = omega arith
behind_shorter (t ∷ ts) = let e : length ts ≤ suc (length ts) = omega arith in e

leaves_rest : {A : Type 0} (k : Kind) (goes : Kind → Bool) (p : Tokens → Outcome A) → ((ts : Tokens) → Leaves (length ts) (p ts)) → (m : ℕ) (ts : Tokens) (n : ℕ) → length ts ≤ n → Leaves n (read_rest k goes p m ts)
leaves_rest k goes p item zero ts n l = l
leaves_rest k goes p item (suc m) ts n l =
    let b = behind_shorter ts in
    leaves_if n (is k (peek ts)) _ _
    (leaves_if n (goes (peek (behind ts))) _ _
    (leaves_then (length (behind ts)) n (p (behind ts)) _ (item (behind ts)) (λ a mid h. leaves_then n n (read_rest k goes p m mid) _ (leaves_rest k goes p item m mid n (omega arith)) (λ xs rest h. h)))
    (let e : length (behind ts) ≤ n = omega arith in e))
    l

pub within : {A : Type 0} (g : Grammar A) (ts : Tokens) → Leaves (length ts) (reads g ts)
within (token k take) ts = leaves_token k take ts (length ts) (omega arith)
within (pair g h) ts = leaves_then (length ts) (length ts) (reads g ts) _ (within g ts)
    (λ a mid l. leaves_then (length ts) (length ts) (reads h mid) _ (leaves_more (length mid) (length ts) (reads h mid) l (within h mid)) (λ b rest k. k))
within (apply f g) ts = leaves_then (length ts) (length ts) (reads g ts) _ (within g ts) (λ a rest k. k)
within (either g h) ts = leaves_if (length ts) (begins g (peek ts)) (reads g ts) (reads h ts) (within g ts) (within h ts)
within (optional g) ts = leaves_if (length ts) (begins g (peek ts)) _ _ (leaves_then (length ts) (length ts) (reads g ts) _ (within g ts) (λ a rest k. k)) (let e : length ts ≤ length ts = omega arith in e)
within (many g) ts = leaves_many (begins g) (reads g) (within g) (length ts) ts (length ts) (omega arith)
within (rest_of k g) ts = leaves_rest k (begins g) (reads g) (within g) (length ts) ts (length ts) (omega arith)

abbrev pub Shorter : {A : Type 0} → ℕ → Outcome A → Type 0
Shorter n (Ok read) = length read.1 < n
Shorter n (Err rest) = Unit {0}

shorter_then : {A B : Type 0} (n : ℕ) (r : Outcome A) (f : A → Tokens → Outcome B) → Shorter n r → ((a : A) (mid : Tokens) → length mid < n → Shorter n (f a mid)) → Shorter n (then_read r f)
shorter_then n (Ok read) f l g = g read.0 read.1 l
shorter_then n (Err rest) f l g = tt

leaves_shorter : {A B : Type 0} (m n : ℕ) (r : Outcome A) (f : A → Tokens → Outcome B) → Leaves m r → ((a : A) (mid : Tokens) → length mid ≤ m → Shorter n (f a mid)) → Shorter n (then_read r f)
leaves_shorter m n (Ok read) f l g = g read.0 read.1 l
leaves_shorter m n (Err rest) f l g = tt

below : {A : Type 0} (m n : ℕ) (r : Outcome A) → m < n → Leaves m r → Shorter n r
below m n (Ok read) h l = omega arith
below m n (Err rest) h l = tt

above : {A : Type 0} (m n : ℕ) (r : Outcome A) → m ≤ n → Shorter m r → Shorter n r
above m n (Ok read) h l = omega arith
above m n (Err rest) h l = tt

shorter_if : {A : Type 0} (n : ℕ) (b : Bool) (r s : Outcome A) → Shorter n r → Shorter n s → Shorter n (cond b r s)
shorter_if n true r s l m = l
shorter_if n false r s l m = m

shorter_token : {A : Type 0} (k : Kind) (take : Token → A) (ts : Tokens) → Shorter (length ts) (read_token k take ts)
shorter_token k take [] = tt
shorter_token k take (t ∷ ts) = shorter_if (suc (length ts)) (is k (kind_of t.kind)) (Ok (take t, ts)) (Err (t ∷ ts)) (let x : length ts < suc (length ts) = omega arith in x) tt

-- What is not nullable takes a token.
pub shortens : {A : Type 0} (g : Grammar A) → nullable g ≡ false → (ts : Tokens) → Shorter (length ts) (reads g ts)
shortens (token k take) h ts = shorter_token k take ts
shortens (pair g k) h ts = elim (and_cases (nullable g) (nullable k) h) [
  | inl e ↦ shorter_then (length ts) (reads g ts) _ (shortens g e ts) (λ a mid l. leaves_shorter (length mid) (length ts) (reads k mid) _ (within k mid) (λ b rest m. let x : length rest < length ts = omega arith in x))
  | inr e ↦ leaves_shorter (length ts) (length ts) (reads g ts) _ (within g ts) (λ a mid m. shorter_then (length ts) (reads k mid) _ (above (length mid) (length ts) (reads k mid) m (shortens k e mid)) (λ b rest m. m))
]
shortens (apply f g) h ts = shorter_then (length ts) (reads g ts) _ (shortens g h ts) (λ a rest k. k)
shortens (either g k) h ts = let e = or_parts (nullable g) (nullable k) h in shorter_if (length ts) (begins g (peek ts)) (reads g ts) (reads k ts) (shortens g e.0 ts) (shortens k e.1 ts)
shortens (optional g) h ts = cc
shortens (many g) h ts = cc
shortens (rest_of k g) h ts = cc

pub shorter : {A : Type 0} (g : Grammar A) (ts : Tokens) (a : A) (rest : Tokens) → nullable g ≡ false → reads g ts ≡ Ok (a, rest) → length rest < length ts
shorter g ts a rest h e = subst (Shorter (length ts)) e (shortens g h ts)

-- Any number of times that suffices gives the same.
same_after : {A : Type 0} (g : Grammar A) (n m : ℕ) (ts : Tokens) (b : Bool) (r : Outcome A) → Shorter (length ts) r → length ts ≤ suc n → length ts ≤ suc m
    → ((mid : Tokens) → length mid ≤ n → length mid ≤ m → read_many (begins g) (reads g) n mid ≡ read_many (begins g) (reads g) m mid)
    → cond b (then_read r (λ a mid. then_read (read_many (begins g) (reads g) n mid) (λ xs rest. Ok (a ∷ xs, rest)))) (Ok ([], ts))
    ≡ cond b (then_read r (λ a mid. then_read (read_many (begins g) (reads g) m mid) (λ xs rest. Ok (a ∷ xs, rest)))) (Ok ([], ts))
same_after g n m ts true (Ok read) s l k ih = ap (λ x. then_read x (λ xs rest. Ok (read.0 ∷ xs, rest))) (ih read.1 (omega arith) (omega arith))
same_after g n m ts true (Err rest) s l k ih = refl
same_after g n m ts false r s l k ih = refl

same_many : {A : Type 0} (g : Grammar A) → nullable g ≡ false → begins g kind.End ≡ false → (n m : ℕ) (ts : Tokens) → length ts ≤ n → length ts ≤ m → read_many (begins g) (reads g) n ts ≡ read_many (begins g) (reads g) m ts
same_many g h q zero zero ts l k = refl
same_many g h q zero (suc m) [] l k = rw q refl
same_many g h q zero (suc m) (t ∷ ts) l k = let e : suc (length ts) ≤ zero = l in absurd (omega arith)
same_many g h q (suc n) zero [] l k = rw q refl
same_many g h q (suc n) zero (t ∷ ts) l k = let e : suc (length ts) ≤ zero = k in absurd (omega arith)
same_many g h q (suc n) (suc m) ts l k = same_after g n m ts (begins g (peek ts)) (reads g ts) (shortens g h ts) l k (same_many g h q n m)

pub many_stop : {A : Type 0} (g : Grammar A) (ts : Tokens) → begins g (peek ts) ≡ false → reads (many g) ts ≡ Ok ([], ts)
many_stop g [] h = refl
many_stop g (t ∷ ts) h = rw h refl

pub many_fault : {A : Type 0} (g : Grammar A) (ts rest : Tokens) → begins g kind.End ≡ false → begins g (peek ts) ≡ true → reads g ts ≡ Err rest → reads (many g) ts ≡ Err rest
many_fault g [] rest q h e = let x : true ≡ false = sym h ∙ q in cc
many_fault g (t ∷ ts) rest q h e = rw h (rw e refl)

pub many_step : {A : Type 0} (g : Grammar A) (ts : Tokens) (a : A) (mid : Tokens) → nullable g ≡ false → begins g kind.End ≡ false → begins g (peek ts) ≡ true → reads g ts ≡ Ok (a, mid) → reads (many g) ts ≡ then_read (reads (many g) mid) (λ xs rest. Ok (a ∷ xs, rest))
many_step g [] a mid n q h e = let x : true ≡ false = sym h ∙ q in cc
many_step g (t ∷ ts) a mid n q h e =
    let l : length mid < suc (length ts) = shorter g (t ∷ ts) a mid n e in
    rw h (rw e (ap (λ x. then_read x (λ xs rest. Ok (a ∷ xs, rest))) (same_many g n q (length ts) (length mid) mid (omega arith) (omega arith))))

-- Done, and the rest of the repetition from here, are the whole.
abbrev pub Whole : {A : Type 0} → Grammar A → Outcome (List A) → List A → Tokens → Type 0
Whole g whole done ts = whole ≡ then_read (reads (many g) ts) (λ more rest. Ok (done ++ more, rest))

pub loop_begins : {A : Type 0} (g : Grammar A) (ts : Tokens) → Whole g (reads (many g) ts) [] ts
loop_begins {A} g ts = go (reads (many g) ts)
  where
    go : (r : Outcome (List A)) → r ≡ then_read r (λ more rest. Ok (more, rest))
    go (Ok read) = refl
    go (Err rest) = refl

pub loop_goes : {A : Type 0} (g : Grammar A) (whole : Outcome (List A)) (done : List A) (ts : Tokens) (a : A) (mid : Tokens) → nullable g ≡ false → begins g kind.End ≡ false → begins g (peek ts) ≡ true → reads g ts ≡ Ok (a, mid) → Whole g whole done ts → Whole g whole (done ++ a ∷ []) mid
loop_goes {A} g whole done ts a mid n q h e w = w ∙ (ap (λ x. then_read x (λ more rest. Ok (done ++ more, rest))) (many_step g ts a mid n q h e) ∙ go (reads (many g) mid))
  where
    go : (r : Outcome (List A)) → then_read (then_read r (λ xs rest. Ok (a ∷ xs, rest))) (λ more rest. Ok (done ++ more, rest)) ≡ then_read r (λ more rest. Ok ((done ++ a ∷ []) ++ more, rest))
    go (Ok read) = ap (λ xs. Ok (xs, read.1)) (sym (append_assoc done (a ∷ []) read.0))
    go (Err rest) = refl

pub loop_ends : {A : Type 0} (g : Grammar A) (whole : Outcome (List A)) (done : List A) (ts : Tokens) → begins g (peek ts) ≡ false → Whole g whole done ts → whole ≡ Ok (done, ts)
loop_ends g whole done ts h w = w ∙ (ap (λ x. then_read x (λ more rest. Ok (done ++ more, rest))) (many_stop g ts h) ∙ ap (λ xs. Ok (xs, ts)) (append-nil done))

pub loop_fails : {A : Type 0} (g : Grammar A) (whole : Outcome (List A)) (done : List A) (ts rest : Tokens) → begins g kind.End ≡ false → begins g (peek ts) ≡ true → reads g ts ≡ Err rest → Whole g whole done ts → whole ≡ Err rest
loop_fails g whole done ts rest q h e w = w ∙ ap (λ x. then_read x (λ more rest. Ok (done ++ more, rest))) (many_fault g ts rest q h e)
