-- The token that is read at the front is the longest one, and the only one of its length.
use Rattle.std.proofs.Common.{◌≡◌, ◌≢◌, ℕ, zero, suc, ◌+◌, ◌<◌, ◌≤◌, Bool, true, false, cond, List, [], ◌∷◌, length, take, Option, Some, None, pos, ◌⊎◌, inl, inr, sym, refl, ap, ◌∙◌, arith, add-one}
use Rattle.std.specs.Prelude.{◌==◌}
use Rattle.std.specs.List.{list_all}
use Rattle.std.specs.Option.{option_or}
use Rattle.std.proofs.lemmas.Bool.{eqb-true, eqb-false, eq-eqb}
use Rattle.std.proofs.lemmas.List.{length-take-le}
use Rattle.pads_lex.specs.Bytes.{is_between, is_letter, is_digit, is_word_byte, is_hex}
use Rattle.pads_lex.specs.Runs.{run}
use Rattle.pads_lex.specs.Numbers.{number_size, hex_length, word_value}
use Rattle.pads_lex.specs.Words.{double_mark, single_mark, double_marks, single_marks}
use Rattle.pads_value.specs.Words.{find_word}
use Rattle.pads_lex.specs.Spelling.{Spells, IsLongest, word_kind, mark_of}
use Rattle.pads_lex.specs.Spelling.Spells.{name, mark}
use Rattle.pads_lex.specs.declared.token.Mark.{Mark}
use Rattle.pads_lex.specs.declared.token.TokenKind.{TokenKind}
use Rattle.pads_lex.specs.declared.token.TokenKind.TheVariants as kind
use Rattle.pads_lex.proofs.ByteLemmas.{is_quote, letter_in_word, digit_first}
use Rattle.pads_lex.proofs.RunLemmas.{run_within, run_all, run_longest}
use Rattle.pads_lex.proofs.TableLemmas.{either_found, double_length, single_length}
use Rattle.pads_lex.proofs.SpelledLemmas.{Spelled, spelled, spells_some, letter_spells, digit_spells, mark_spells, IsNumberWord, number_word_spells}
use Rattle.pads_lex.proofs.SpelledLemmas.IsNumberWord.{just_zero, base_ten, base_sixteen}

-- The longest word, where a word of one byte or more is no longer than that.
pub longest_by : (b : ℕ) (after : List ℕ) (n : ℕ) (k : TokenKind) → n ≤ length after → Spells (b ∷ take n after) k → ((m : ℕ) (other : TokenKind) → m ≤ length after → Spelled b (take m after) other → m ≤ n) → IsLongest (b ∷ after) (suc n) k
longest_by b after n k within spells no_longer = record { within = omega arith; spells = spells; no_longer = go }
  where
    go : (more : ℕ) (other : TokenKind) → more ≤ suc (length after) → Spells (take more (b ∷ after)) other → more ≤ suc n
    go zero other small word = omega arith
    go (suc m) other small word =
        let fits : m ≤ length after = omega arith in
        let bound = no_longer m other fits (spelled b (take m after) other word) in
        omega arith

-- names and keywords
pub word_longest : (b : ℕ) (after : List ℕ) → is_letter b ≡ true → IsLongest (b ∷ after) (suc (run is_word_byte after)) (word_kind (b ∷ take (run is_word_byte after) after))
word_longest b after letter =
    longest_by b after (run is_word_byte after) _ (run_within is_word_byte after)
    (name b (take (run is_word_byte after) after) refl letter (run_all is_word_byte after) refl)
    (λ m other fits word. run_longest is_word_byte after m fits (letter_spells b (take m after) other letter word).0)

pub word_run : (b : ℕ) (after : List ℕ) → is_letter b ≡ true → run is_word_byte (b ∷ after) ≡ suc (run is_word_byte after)
word_run b after letter = rw (letter_in_word b letter) refl

-- digits of base 16 behind `0x`
hex_longest : (after : List ℕ) (m : ℕ) (ds : List ℕ) → m ≤ length after → take m after ≡ 0x78 ∷ ds → 0 < length ds → list_all is_hex ds ≡ true → m ≤ hex_length after
unfolding hex_length
hex_longest [] zero ds fits is some all = cc
hex_longest [] (suc m) ds fits is some all = absurd (omega arith)
hex_longest (x ∷ t) zero ds fits is some all = cc
hex_longest (x ∷ t) (suc m) ds fits is some all =
    let x_is : x ≡ 0x78 = cc in
    let ds_is : take m t ≡ ds = cc in
    let size = length-take-le m t (omega arith) in
    let long : m ≤ run is_hex t = run_longest is_hex t m (omega arith) (ap (list_all is_hex) ds_is ∙ all) in
    let here : (x == 0x78) ≡ true = eq-eqb x 0x78 x_is in
    rw here (go (run is_hex t == 0) refl (omega (arith, ap length ds_is, size, long, some)) long)
  where
    go : (z : Bool) → (run is_hex t == 0) ≡ z → 0 < run is_hex t → m ≤ run is_hex t → suc m ≤ cond z 0 (run is_hex t + 1)
    go true is positive long = absurd (omega (arith, eqb-true (run is_hex t) 0 is))
    go false is positive long = omega arith

hex_within : (after : List ℕ) → hex_length after ≤ length after
unfolding hex_length
hex_within [] = omega arith
hex_within (x ∷ t) = go (x == 0x78) (run is_hex t == 0) (run_within is_hex t)
  where
    go : (x_is z : Bool) → run is_hex t ≤ length t → cond x_is (cond z 0 (run is_hex t + 1)) 0 ≤ suc (length t)
    go true true fits = omega arith
    go true false fits = omega arith
    go false z fits = omega arith

hex_word : (b : ℕ) (after : List ℕ) → b ≡ 0x30 → IsNumberWord b (take (hex_length after) after)
unfolding hex_length
hex_word b [] is = just_zero is refl
hex_word b (x ∷ t) is = go (x == 0x78) refl (run is_hex t == 0) refl (run_all is_hex t) (run_within is_hex t)
  where
    go : (x_is : Bool) → (x == 0x78) ≡ x_is → (z : Bool) → (run is_hex t == 0) ≡ z → list_all is_hex (take (run is_hex t) t) ≡ true → run is_hex t ≤ length t → IsNumberWord b (take (cond x_is (cond z 0 (run is_hex t + 1)) 0) (x ∷ t))
    go true x_is true none all fits = just_zero is refl
    go true x_is false some all fits =
        let positive : run is_hex t ≢ 0 = eqb-false (run is_hex t) 0 some in
        let size = length-take-le (run is_hex t) t fits in
        rw (add-one (run is_hex t)) (base_sixteen (take (run is_hex t) t) is (ap (λ h. h ∷ take (run is_hex t) t) (eqb-true x 0x78 x_is)) (omega (arith, size, positive)) all)
    go false x_is z _ all fits = just_zero is refl

zero_longest : (b : ℕ) (after : List ℕ) (m : ℕ) → b ≡ 0x30 → m ≤ length after → IsNumberWord b (take m after) → m ≤ hex_length after
zero_longest b after m is fits (just_zero _ none) =
    let size = length-take-le m after fits in
    omega (arith, ap length none, size)
zero_longest b after m is fits (base_ten decimal _) = let no_zero : is_between 0x31 0x39 0x30 ≡ true = ap (is_between 0x31 0x39) (sym is) ∙ decimal in cc
zero_longest b after m is fits (base_sixteen ds _ tail some all) = hex_longest after m ds fits tail some all

digits_longest : (b : ℕ) (after : List ℕ) (m : ℕ) → (b ≡ 0x30 → ⊥) → m ≤ length after → IsNumberWord b (take m after) → m ≤ run is_digit after
digits_longest b after m no_zero fits (just_zero is _) = absurd (no_zero is)
digits_longest b after m no_zero fits (base_ten _ all) = run_longest is_digit after m fits all
digits_longest b after m no_zero fits (base_sixteen _ is _ _ _) = absurd (no_zero is)

-- numbers: how many bytes behind the first digit belong to it
abbrev pub number_more : ℕ → List ℕ → ℕ
number_more b after = cond (b == 0x30) (hex_length after) (run is_digit after)

pub number_longest : (b : ℕ) (after : List ℕ) → is_digit b ≡ true → IsLongest (b ∷ after) (suc (number_more b after)) (kind.Number (pos (word_value (b ∷ take (number_more b after) after))))
number_longest b after digit = go (b == 0x30) refl
  where
    go : (z : Bool) → (b == 0x30) ≡ z → IsLongest (b ∷ after) (suc (cond z (hex_length after) (run is_digit after))) (kind.Number (pos (word_value (b ∷ take (cond z (hex_length after) (run is_digit after)) after))))
    go true is =
        let zero_is = eqb-true b 0x30 is in
        longest_by b after (hex_length after) _ (hex_within after)
        (number_word_spells b _ (hex_word b after zero_is))
        (λ m other fits word. zero_longest b after m zero_is fits (digit_spells b _ other digit word).0)
    go false is =
        let no_zero = eqb-false b 0x30 is in
        longest_by b after (run is_digit after) _ (run_within is_digit after)
        (number_word_spells b _ (base_ten (digit_first b digit is) (run_all is_digit after)))
        (λ m other fits word. digits_longest b after m no_zero fits (digit_spells b _ other digit word).0)

pub number_size_is : (b : ℕ) (after : List ℕ) → is_digit b ≡ true → number_size (b ∷ after) ≡ suc (number_more b after)
unfolding number_size
number_size_is b after digit = go (b == 0x30)
  where
    go : (z : Bool) → cond z (hex_length after + 1) (run is_digit (b ∷ after)) ≡ suc (cond z (hex_length after) (run is_digit after))
    go true = omega arith
    go false = rw digit refl

-- marks
mark_length : (word : List ℕ) (k : Mark) → mark_of word ≡ Some k → length word ≤ 2
mark_length word k e = go (either_found _ _ k e)
  where
    go : ((find_word word double_marks ≡ Some k) ⊎ ((find_word word double_marks ≡ None) × (find_word word single_marks ≡ Some k))) → length word ≤ 2
    go (inl h) = omega (arith, double_length word k h)
    go (inr h) = omega (arith, single_length word k h.1)

pub double_longest : (a b : ℕ) (z : List ℕ) (k : Mark) → is_letter a ≡ false → is_digit a ≡ false → is_quote a ≡ false → double_mark a b ≡ Some k → IsLongest (a ∷ b ∷ z) 2 (kind.Mark k)
unfolding double_mark
double_longest a b z k letter digit quote found =
    longest_by a (b ∷ z) 1 (kind.Mark k) (omega arith)
    (mark k (ap (λ o. option_or o (find_word (a ∷ b ∷ []) single_marks)) found) refl)
    (λ m other fits word.
    let size = length-take-le m (b ∷ z) fits in
    let spelled_mark = mark_spells a _ other letter digit quote word in
    omega (arith, mark_length _ spelled_mark.0 spelled_mark.1, size))

-- no mark of two bytes begins here
abbrev pub NoDouble : ℕ → List ℕ → Type 0
NoDouble a [] = Unit {0}
NoDouble a (b ∷ z) = double_mark a b ≡ None

one_is_no_double : (a : ℕ) (o : Option Mark) → find_word (a ∷ []) double_marks ≡ o → o ≡ None
one_is_no_double a None e = refl
one_is_no_double a (Some k) e = absurd (omega (arith, double_length (a ∷ []) k e))

pub one_mark : (a : ℕ) → mark_of (a ∷ []) ≡ single_mark a
unfolding single_mark
one_mark a = ap (λ o. option_or o (find_word (a ∷ []) single_marks)) (one_is_no_double a (find_word (a ∷ []) double_marks) refl)

-- where no mark of two bytes begins, no mark is longer than one byte
short_mark : (a : ℕ) (after : List ℕ) (m : ℕ) (k : Mark) → NoDouble a after → m ≤ length after → mark_of (a ∷ take m after) ≡ Some k → m ≡ 0
unfolding double_mark
short_mark a after zero k none fits found = refl
short_mark a [] (suc m) k none fits found = absurd (omega arith)
short_mark a (b ∷ z) (suc zero) k none fits found = go (either_found _ _ k found)
  where
    go : ((find_word (a ∷ b ∷ []) double_marks ≡ Some k) ⊎ ((find_word (a ∷ b ∷ []) double_marks ≡ None) × (find_word (a ∷ b ∷ []) single_marks ≡ Some k))) → suc zero ≡ zero
    go (inl h) = let no_mark : Some k ≡ None = sym h ∙ none in cc
    go (inr h) = absurd (omega (arith, single_length (a ∷ b ∷ []) k h.1))
short_mark a (b ∷ z) (suc (suc m)) k none fits found =
    let size = length-take-le (suc m) z (omega arith) in
    absurd (omega (arith, mark_length _ k found, size))

pub single_longest : (a : ℕ) (after : List ℕ) (k : Mark) → is_letter a ≡ false → is_digit a ≡ false → is_quote a ≡ false → NoDouble a after → single_mark a ≡ Some k → IsLongest (a ∷ after) 1 (kind.Mark k)
single_longest a after k letter digit quote none found =
    longest_by a after 0 (kind.Mark k) (omega arith) (mark k (one_mark a ∙ found) refl)
    (λ m other fits word.
    let spelled_mark = mark_spells a _ other letter digit quote word in
    omega (arith, short_mark a after m spelled_mark.0 none fits spelled_mark.1))

pub no_mark : (a : ℕ) (after : List ℕ) → is_letter a ≡ false → is_digit a ≡ false → is_quote a ≡ false → NoDouble a after → single_mark a ≡ None → (size : ℕ) (k : TokenKind) → size ≤ suc (length after) → Spells (take size (a ∷ after)) k → ⊥
no_mark a after letter digit quote none missing zero k fits word = spells_some k word
no_mark a after letter digit quote none missing (suc m) k fits word =
    let in_after : m ≤ length after = omega arith in
    let found = mark_spells a _ k letter digit quote (spelled a (take m after) k word) in
    let single = short_mark a after m found.0 none in_after found.1 in
    let there : mark_of (a ∷ []) ≡ Some found.0 = ap (λ n. mark_of (a ∷ take n after)) (sym single) ∙ found.1 in
    let here : Some found.0 ≡ None = sym there ∙ one_mark a ∙ missing in
    cc
