-- Each grammar that one token decides: its reader reads what it derives and nothing else.
use Rattle.std.proofs.Common.{◌≡◌, Bool, true, false, ◌||◌, ◌&&◌, None, [], ◌∷◌, ◌++◌, inl, inr, refl, sym, subst}
use Rattle.std.proofs.lemmas.Bool.{or_left, or_right, and_cases, or_parts}
use Rattle.pads_grammar.specs.declared.kind.Kind.{Kind}
use Rattle.pads_grammar.specs.Kinds.{Tokens, is, peek, sample, kind_of_sample}
use Rattle.pads_grammar.specs.Grammar.{Grammar, token, pair, apply, either, optional, many, rest_of, Rule, Outcome, Derives, nullable, begins, ahead, reads, Decides}
use Rattle.pads_grammar.specs.Laws.{Lawful, Inhabited}
use Rattle.pads_grammar.proofs.Parts.{or-only, lawful-token}
use Rattle.pads_grammar.proofs.Compositions.{NotEmpty, lawful-pair, lawful-apply, lawful-either, lawful-optional}
use Rattle.pads_grammar.proofs.Repetitions.{lawful-many}
use Rattle.pads_grammar.proofs.Separated.{lawful-rest}

-- Each grammar derives something.
pub inhabited : {A : Type 0} (g : Grammar A) → Inhabited (Derives g)
inhabited (token k take) = record { value = take (sample k); tokens = sample k ∷ []; derived = record { token = sample k; alone = refl; kind = kind_of_sample k; taken = refl } }
inhabited (pair g h) =
    let a = inhabited g in
    let b = inhabited h in
    record { value = (a.value, b.value); tokens = a.tokens ++ b.tokens; derived = record { front = a.tokens; back = b.tokens; whole = refl; first = a.derived; second = b.derived } }
inhabited (apply f g) = let a = inhabited g in record { value = f a.value; tokens = a.tokens; derived = record { value = a.value; is = refl; derived = a.derived } }
inhabited (either g h) = let a = inhabited h in record { value = a.value; tokens = a.tokens; derived = inr a.derived }
inhabited (optional g) = record { value = None; tokens = []; derived = refl }
inhabited (many g) = record { value = []; tokens = []; derived = refl }
inhabited (rest_of k g) = record { value = []; tokens = []; derived = inl refl }

front_nil : (xs ys : Tokens) → [] ≡ xs ++ ys → xs ≡ []
front_nil [] ys h = refl
front_nil (x ∷ xs) ys h = cc

back_nil : (xs ys : Tokens) → [] ≡ xs ++ ys → ys ≡ []
back_nil [] ys h = sym h
back_nil (x ∷ xs) ys h = cc

-- What is not nullable doesn't derive the empty list.
pub not_empty : {A : Type 0} (g : Grammar A) → nullable g ≡ false → NotEmpty (Derives g)
not_empty (token k take) n a d = let e = d.alone in cc
not_empty (pair g h) n a d = elim (and_cases (nullable g) (nullable h) n) [
  | inl e ↦ not_empty g e a.0 (subst (λ (ts : Tokens). Derives g a.0 ts) (front_nil d.front d.back d.whole) d.first)
  | inr e ↦ not_empty h e a.1 (subst (λ (ts : Tokens). Derives h a.1 ts) (back_nil d.front d.back d.whole) d.second)
]
not_empty (apply f g) n a d = not_empty g n d.value d.derived
not_empty (either g h) n a (inl d) = not_empty g (or_parts (nullable g) (nullable h) n).0 a d
not_empty (either g h) n a (inr d) = not_empty h (or_parts (nullable g) (nullable h) n).1 a d
not_empty (optional g) n a d = cc
not_empty (many g) n a d = cc
not_empty (rest_of k g) n a d = cc

pair_ahead : (a n b m f : Bool) → (a || (n && (b || (m && f)))) ≡ true → ((a || (n && b)) || ((n && m) && f)) ≡ true
pair_ahead true n b m f h = refl
pair_ahead false true true m f h = refl
pair_ahead false true false m f h = h
pair_ahead false false b m f h = h

left_ahead : (a n b m f : Bool) → (a || (n && f)) ≡ true → ((a || b) || ((n || m) && f)) ≡ true
left_ahead true n b m f h = refl
left_ahead false true true m f h = refl
left_ahead false true false m f h = h
left_ahead false false b m f h = cc

right_ahead : (a n b m f : Bool) → (b || (m && f)) ≡ true → ((a || b) || ((n || m) && f)) ≡ true
right_ahead true n b m f h = refl
right_ahead false n true m f h = refl
right_ahead false true false true f h = h
right_ahead false false false true f h = h
right_ahead false n false false f h = cc

wider : {A : Type 0} (p : Tokens → Outcome A) (P : Rule A) (I J F : Kind → Bool) → ((j : Kind) → I j ≡ true → J j ≡ true) → Lawful p P I F → Lawful p P J F
wider p P I J F wide law = record { told = law.told; only = law.only; starts = λ a front rest d f. wide (peek (front ++ rest)) (law.starts a front rest d f) }

marks : {A : Type 0} (g : Grammar A) (F : Kind → Bool) → nullable g ≡ false → (j : Kind) → ahead g F j ≡ true → begins g j ≡ true
marks g F n j h = or-only (nullable g) (begins g j) (F j) n h

pub lawful : {A : Type 0} (g : Grammar A) (F : Kind → Bool) → Decides g F → Lawful (reads g) (Derives g) (ahead g F) F
lawful (token k take) F d = lawful-token k take d (ahead (token k take) F) F (inhabited (token k take)) (λ j h. or_left (is k j) false h)
lawful (pair g h) F d =
    let first = wider (reads g) (Derives g) (ahead g (ahead h F)) (ahead (pair g h) F) (ahead h F)
    (λ j e. pair_ahead (begins g j) (nullable g) (begins h j) (nullable h) (F j) e) (lawful g (ahead h F) d.0) in
    lawful-pair (reads g) (Derives g) (reads h) (Derives h) (ahead (pair g h) F) (ahead h F) F first (lawful h F d.1) (inhabited h)
lawful (apply f g) F d = lawful-apply f (reads g) (Derives g) (ahead g F) F (lawful g F d)
lawful (either g h) F d = lawful-either (begins g) (reads g) (Derives g) (reads h) (Derives h) (ahead g F) (ahead h F) (ahead (either g h) F) F
    (lawful g F d.0) (lawful h F d.1) (marks g F d.2) d.3
    (λ j e. left_ahead (begins g j) (nullable g) (begins h j) (nullable h) (F j) e)
    (λ j e. right_ahead (begins g j) (nullable g) (begins h j) (nullable h) (F j) e)
lawful (optional g) F d = lawful-optional (begins g) (reads g) (Derives g) (ahead g F) (ahead (optional g) F) F
    (lawful g F d.0) (marks g F d.1) d.2
    (λ j e. or_left (begins g j) (F j) (marks g F d.1 j e)) (λ j e. or_right (begins g j) (F j) e)
lawful (many g) F d =
    let more = λ (j : Kind). begins g j || F j in
    lawful-many (begins g) (reads g) (Derives g) d.3 (not_empty g d.1) (ahead g more) F (lawful g more d.0) (marks g more d.1) d.2 (ahead (many g) F) (λ j e. e)
lawful (rest_of k g) F d =
    let more = λ (j : Kind). is k j || F j in
    lawful-rest k (begins g) (reads g) (Derives g) d.4 (ahead g more) F (lawful g more d.0) (marks g more d.1) d.2 d.3 (ahead (rest_of k g) F) (λ j e. e)
