-- A word spells one token, so the longest token at a place is one.
use Rattle.std.proofs.Common.{◌≡◌, ◌≢◌, ℕ, suc, ◌+◌, ◌≤◌, Bool, true, false, List, [], ◌∷◌, ◌++◌, length, take, drop, Option, Some, None, ℤ, ◌⊎◌, inl, inr, sym, refl, ap, ◌∙◌, subst, arith}
use Rattle.std.proofs.lemmas.Bool.{cases_Bool, eq-eqb}
use Rattle.std.proofs.lemmas.List.{length-take-le, length-append, append_assoc, take-append-drop, take_at}
use Rattle.pads_lex.specs.Bytes.{is_letter, is_digit}
use Rattle.pads_lex.specs.Words.{keyword_of}
use Rattle.pads_lex.specs.Literals.{character_at, literal_from}
use Rattle.pads_lex.specs.Spelling.{AreCharacters, Spells, IsLongest, word_kind}
use Rattle.pads_lex.specs.Spelling.Spells.{char, text}
use Rattle.pads_lex.specs.Steps.{closed_step, one_point}
use Rattle.pads_lex.specs.declared.token.Keyword.{Keyword}
use Rattle.pads_lex.specs.declared.token.TokenKind.{TokenKind}
use Rattle.pads_lex.specs.declared.token.TokenKind.TheVariants as kind
use Rattle.pads_lex.specs.declared.literal.Character.TheVariants.{Close}
use Rattle.pads_lex.specs.declared.literal.Literal.TheVariants as literal_is
use Rattle.pads_lex.specs.declared.step.Step.TheVariants as step_is
use Rattle.pads_lex.proofs.ByteLemmas.{is_quote, quote_cases}
use Rattle.pads_lex.proofs.LiteralLemmas.{literal_reads}
use Rattle.pads_lex.proofs.LiteralLaws.{characters_read}
use Rattle.pads_lex.proofs.SpelledLemmas.{spelled, spells_some, letter_spells, digit_spells, quote_spells, mark_spells, IsLiteralKind}
use Rattle.pads_lex.proofs.SpelledLemmas.IsLiteralKind.{one_character, characters}
use Rattle.pads_lex.proofs.LongestLaws.{longest_by}

pub quote_no_escape : (b : ℕ) → is_quote b ≡ true → b ≢ 0x5C
quote_no_escape b is e = go (quote_cases b is)
  where
    go : (b ≡ 0x27) ⊎ (b ≡ 0x22) → ⊥
    go (inl h) = omega (arith, h, e)
    go (inr h) = omega (arith, h, e)

pub quote_closes : (b : ℕ) (rest : List ℕ) → character_at b (b ∷ rest) ≡ Close
unfolding character_at
quote_closes b rest = rw (eq-eqb b b refl) refl

-- a literal is closed by its quote, whatever follows it
pub literal_closed : (b : ℕ) (bytes points rest : List ℕ) → is_quote b ≡ true → AreCharacters b bytes points → literal_from b 0 0 [] (bytes ++ b ∷ rest) ≡ literal_is.Closed (length bytes + 1) points
literal_closed b bytes points rest quote are =
    let size : 0 + length bytes ≡ length bytes = omega arith in
    characters_read b 0 [] bytes points (b ∷ rest) (quote_no_escape b quote) are ∙ literal_reads b (0 + length bytes) points (b ∷ rest) Close (quote_closes b rest) ∙ ap (λ n. literal_is.Closed (n + 1) points) size

literal_kind_same : (b : ℕ) (points : List ℕ) (k l : TokenKind) → IsLiteralKind b points k → IsLiteralKind b points l → k ≡ l
literal_kind_same b points k l (one_character p _ is token) (one_character q _ is' token') =
    let same : p ≡ q = cc in
    token ∙ ap kind.Char same ∙ sym token'
literal_kind_same b points k l (one_character p is _ _) (characters is' _) = absurd (omega (arith, is, is'))
literal_kind_same b points k l (characters is _) (one_character p is' _ _) = absurd (omega (arith, is, is'))
literal_kind_same b points k l (characters _ token) (characters _ token') = token ∙ sym token'

pub spells_same : (w : List ℕ) (k l : TokenKind) → Spells w k → Spells w l → k ≡ l
spells_same [] k l one other = absurd (spells_some k one)
spells_same (b ∷ w) k l one other = by_letter (cases_Bool (is_letter b))
  where
    by_quote : is_letter b ≡ false → is_digit b ≡ false → (is_quote b ≡ true) ⊎ (is_quote b ≡ false) → k ≡ l
    by_quote letter digit (inl quote) =
        let (bytes, points, whole, are, is) = quote_spells b w k quote (spelled b w k one) in
        let (bytes', points', whole', are', is') = quote_spells b w l quote (spelled b w l other) in
        let closed = literal_closed b bytes points [] quote are in
        let closed' = literal_closed b bytes' points' [] quote are' in
        let same : literal_is.Closed (length bytes + 1) points ≡ literal_is.Closed (length bytes' + 1) points' = sym closed ∙ ap (literal_from b 0 0 []) (sym whole ∙ whole') ∙ closed' in
        let same_points : points ≡ points' = cc in
        literal_kind_same b points' k l (subst (λ ps. IsLiteralKind b ps k) same_points is) is'
    by_quote letter digit (inr quote) =
        let first = mark_spells b w k letter digit quote (spelled b w k one) in
        let second = mark_spells b w l letter digit quote (spelled b w l other) in
        let found : Some first.0 ≡ Some second.0 = sym first.1 ∙ second.1 in
        let same : first.0 ≡ second.0 = cc in
        first.2 ∙ ap kind.Mark same ∙ sym second.2

    by_digit : is_letter b ≡ false → (is_digit b ≡ true) ⊎ (is_digit b ≡ false) → k ≡ l
    by_digit letter (inl digit) = (digit_spells b w k digit (spelled b w k one)).1 ∙ sym (digit_spells b w l digit (spelled b w l other)).1
    by_digit letter (inr digit) = by_quote letter digit (cases_Bool (is_quote b))

    by_letter : (is_letter b ≡ true) ⊎ (is_letter b ≡ false) → k ≡ l
    by_letter (inl letter) = (letter_spells b w k letter (spelled b w k one)).1 ∙ sym (letter_spells b w l letter (spelled b w l other)).1
    by_letter (inr letter) = by_digit letter (cases_Bool (is_digit b))

-- the longest token at a place is one
pub longest_same : (z : List ℕ) (n m : ℕ) (k l : TokenKind) → IsLongest z n k → IsLongest z m l → (n ≡ m) × (k ≡ l)
longest_same z n m k l one other =
    let up : n ≤ m = other.no_longer n k one.within one.spells in
    let down : m ≤ n = one.no_longer m l other.within other.spells in
    let same : n ≡ m = omega arith in
    (same, spells_same (take m z) k l (subst (λ size. Spells (take size z) k) same one.spells) other.spells)

-- a closed literal is the longest token
literal_spells : (b : ℕ) (bytes points : List ℕ) (k : TokenKind) → AreCharacters b bytes points → IsLiteralKind b points k → Spells (b ∷ (bytes ++ b ∷ [])) k
literal_spells b bytes points k are (one_character point is one token) =
    char bytes point (ap (λ q. q ∷ (bytes ++ q ∷ [])) is) (subst (λ ps. AreCharacters 0x27 bytes ps) one (subst (λ q. AreCharacters q bytes points) is are)) token
literal_spells b bytes points k are (characters is token) =
    text bytes points (ap (λ q. q ∷ (bytes ++ q ∷ [])) is) (subst (λ q. AreCharacters q bytes points) is are) token

pub literal_longest : (b : ℕ) (bytes points rest : List ℕ) (k : TokenKind) → is_quote b ≡ true → AreCharacters b bytes points → IsLiteralKind b points k → IsLongest (b ∷ (bytes ++ b ∷ rest)) (suc (length bytes + 1)) k
literal_longest b bytes points rest k quote are is =
    longest_by b (bytes ++ b ∷ rest) (length bytes + 1) k (omega (arith, length-append bytes (b ∷ rest)))
    (subst (λ w. Spells (b ∷ w) k) (sym front) (literal_spells b bytes points k are is))
    (λ m other fits word.
    let (bytes', points', whole, are', _) = quote_spells b _ other quote word in
    no_longer m bytes' points' whole are' fits)
  where
    parts : bytes ++ b ∷ rest ≡ (bytes ++ b ∷ []) ++ rest
    parts = sym (append_assoc bytes (b ∷ []) rest)

    front : take (length bytes + 1) (bytes ++ b ∷ rest) ≡ bytes ++ b ∷ []
    front = ap (take (length bytes + 1)) parts ∙ take_at (bytes ++ b ∷ []) rest (length bytes + 1) (length-append bytes (b ∷ []))

    no_longer : (m : ℕ) (bytes' points' : List ℕ) → take m (bytes ++ b ∷ rest) ≡ bytes' ++ b ∷ [] → AreCharacters b bytes' points' → m ≤ length (bytes ++ b ∷ rest) → m ≤ length bytes + 1
    no_longer m bytes' points' whole are' fits =
        let all = sym (take-append-drop m (bytes ++ b ∷ rest)) ∙ ap (λ w. w ++ drop m (bytes ++ b ∷ rest)) whole ∙ append_assoc bytes' (b ∷ []) (drop m (bytes ++ b ∷ rest)) in
        let closed = literal_closed b bytes points rest quote are in
        let closed' = literal_closed b bytes' points' (drop m (bytes ++ b ∷ rest)) quote are' in
        let same : literal_is.Closed (length bytes + 1) points ≡ literal_is.Closed (length bytes' + 1) points' = sym closed ∙ ap (literal_from b 0 0 []) all ∙ closed' in
        let same_size : length bytes + 1 ≡ length bytes' + 1 = cc in
        let size = length-take-le m (bytes ++ b ∷ rest) fits in
        omega (arith, same_size, size, ap length whole, length-append bytes' (b ∷ []))

-- what is read of a closed literal
pub closed_stands : (b n : ℕ) (points : List ℕ) (k : TokenKind) → IsLiteralKind b points k → closed_step b n points ≡ step_is.Stands n k
unfolding closed_step
closed_stands b n points k (one_character point is one token) = rw is (ap (one_point n) one ∙ ap (step_is.Stands n) (sym token))
closed_stands b n points k (characters is token) = rw is (ap (step_is.Stands n) (sym token))

-- no name, keyword, mark or literal is a number
abbrev pub is_number : TokenKind → Bool
is_number (kind.Number n) = true
is_number _ = false

pub word_no_number : (word : List ℕ) → is_number (word_kind word) ≡ false
word_no_number word = go (keyword_of word)
  where
    go : (o : Option Keyword) → is_number (elim o [ None ↦ kind.Name word | Some keyword ↦ kind.Keyword keyword ]) ≡ false
    go None = refl
    go (Some keyword) = refl

pub literal_no_number : (b : ℕ) (points : List ℕ) (k : TokenKind) → IsLiteralKind b points k → is_number k ≡ false
literal_no_number b points k (one_character point _ _ token) = ap is_number token
literal_no_number b points k (characters _ token) = ap is_number token

pub no_number : {P : Type 0} (k : TokenKind) (n : ℤ) → is_number k ≡ false → k ≡ kind.Number n → P
no_number k n none is = let h : true ≡ false = sym (ap is_number is) ∙ none in cc
