-- What a word spells, by its first byte.
use Rattle.std.proofs.Common.{◌≡◌, ℕ, ◌<◌, Bool, true, false, List, [], ◌∷◌, ◌++◌, length, Some, pos, ◌⊎◌, inl, inr, sym, refl, ap, ◌∙◌, subst}
use Rattle.std.specs.Prelude.{◌==◌, ◌&&◌, not}
use Rattle.std.specs.List.{list_all}
use Rattle.std.proofs.lemmas.Bool.{and_parts, not-true}
use Rattle.pads_lex.specs.Bytes.{is_between, is_blank, is_letter, is_digit, is_word_byte, is_hex, digit_value}
use Rattle.pads_lex.specs.Numbers.{value, word_value}
use Rattle.pads_lex.specs.Spelling.{AreCharacters, Spells, word_kind, mark_of}
use Rattle.pads_lex.specs.Spelling.Spells.{name, zero as zero_word, decimal, hexadecimal, char, text, mark}
use Rattle.pads_lex.specs.declared.token.Mark.{Mark}
use Rattle.pads_lex.specs.declared.token.TokenKind.{TokenKind}
use Rattle.pads_lex.specs.declared.token.TokenKind.TheVariants as kind
use Rattle.pads_lex.proofs.ByteLemmas.{is_quote, letter_only, digit_only, decimal_first}
use Rattle.pads_lex.proofs.TableLemmas.{begins_mark, mark_begins}

pub data Spelled (b : ℕ) (w : List ℕ) (k : TokenKind) : Type 0 where
  a_word : is_letter b ≡ true → list_all is_word_byte w ≡ true → k ≡ word_kind (b ∷ w) → Spelled b w k
  a_zero : b ≡ 0x30 → w ≡ [] → k ≡ kind.Number (pos 0) → Spelled b w k
  a_decimal : is_between 0x31 0x39 b ≡ true → list_all is_digit w ≡ true → k ≡ kind.Number (pos (value 10 (b ∷ w))) → Spelled b w k
  a_hex : (ds : List ℕ) → b ≡ 0x30 → w ≡ 0x78 ∷ ds → 0 < length ds → list_all is_hex ds ≡ true → k ≡ kind.Number (pos (value 16 ds)) → Spelled b w k
  a_char : (bytes : List ℕ) (point : ℕ) → b ≡ 0x27 → w ≡ bytes ++ 0x27 ∷ [] → AreCharacters 0x27 bytes (point ∷ []) → k ≡ kind.Char point → Spelled b w k
  a_text : (bytes points : List ℕ) → b ≡ 0x22 → w ≡ bytes ++ 0x22 ∷ [] → AreCharacters 0x22 bytes points → k ≡ kind.Text points → Spelled b w k
  a_mark : (found : Mark) → begins_mark b ≡ true → mark_of (b ∷ w) ≡ Some found → k ≡ kind.Mark found → Spelled b w k

pub spelled : (b : ℕ) (w : List ℕ) (k : TokenKind) → Spells (b ∷ w) k → Spelled b w k
spelled b w k (name first others is letter all token) =
    let head : first ≡ b = cc in
    let tail : others ≡ w = cc in
    a_word (ap is_letter (sym head) ∙ letter) (ap (list_all is_word_byte) (sym tail) ∙ all) token
spelled b w k (zero_word is token) = a_zero (cc) (cc) token
spelled b w k (decimal first others is digit all token) =
    let head : first ≡ b = cc in
    let tail : others ≡ w = cc in
    a_decimal (ap (is_between 0x31 0x39) (sym head) ∙ digit) (ap (list_all is_digit) (sym tail) ∙ all) token
spelled b w k (hexadecimal digits is some all token) = a_hex digits (cc) (cc) some all token
spelled b w k (char bytes point is characters token) = a_char bytes point (cc) (cc) characters token
spelled b w k (text bytes points is characters token) = a_text bytes points (cc) (cc) characters token
spelled b w k (mark found is token) = a_mark found (mark_begins (b ∷ w) found is) is token

pub spells_some : (k : TokenKind) → Spells [] k → ⊥
spells_some k (name first others is letter all token) = cc
spells_some k (zero_word is token) = cc
spells_some k (decimal first others is digit all token) = cc
spells_some k (hexadecimal digits is some all token) = cc
spells_some k (char bytes point is characters token) = cc
spells_some k (text bytes points is characters token) = cc
spells_some k (mark found is token) = let no : false ≡ true = mark_begins [] found is in cc

-- what a byte that begins a mark is not
pub mark_only : (b : ℕ) → begins_mark b ≡ true → (is_blank b ≡ false) × (is_letter b ≡ false) × (is_digit b ≡ false) × (is_quote b ≡ false)
mark_only b is =
    let one = and_parts (not (is_blank b)) (not (is_letter b) && (not (is_digit b) && not (is_quote b))) is in
    let two = and_parts (not (is_letter b)) (not (is_digit b) && not (is_quote b)) one.1 in
    let three = and_parts (not (is_digit b)) (not (is_quote b)) two.1 in
    (not-true _ one.0, not-true _ two.0, not-true _ three.0, not-true _ three.1)

-- a test that passes and fails
pub both : {P : Type 0} (b : Bool) → b ≡ true → b ≡ false → P
both b is fails = let h : true ≡ false = sym is ∙ fails in cc

pub zero_is_digit : (b : ℕ) → b ≡ 0x30 → is_digit b ≡ true
unfolding is_digit
zero_is_digit b is = rw is refl

pub single_is_quote : (b : ℕ) → b ≡ 0x27 → is_quote b ≡ true
single_is_quote b is = rw is refl

pub double_is_quote : (b : ℕ) → b ≡ 0x22 → is_quote b ≡ true
double_is_quote b is = rw is refl

pub letter_spells : (b : ℕ) (w : List ℕ) (k : TokenKind) → is_letter b ≡ true → Spelled b w k → (list_all is_word_byte w ≡ true) × (k ≡ word_kind (b ∷ w))
letter_spells b w k letter (a_word is all token) = (all, token)
letter_spells b w k letter (a_zero is _ _) = both (is_digit b) (zero_is_digit b is) (letter_only b letter).1
letter_spells b w k letter (a_decimal is _ _) = both (is_digit b) (decimal_first b is).0 (letter_only b letter).1
letter_spells b w k letter (a_hex _ is _ _ _ _) = both (is_digit b) (zero_is_digit b is) (letter_only b letter).1
letter_spells b w k letter (a_char _ _ is _ _ _) = both (is_quote b) (single_is_quote b is) (letter_only b letter).2
letter_spells b w k letter (a_text _ _ is _ _ _) = both (is_quote b) (double_is_quote b is) (letter_only b letter).2
letter_spells b w k letter (a_mark _ is _ _) = both (is_letter b) letter (mark_only b is).1

-- the words of numbers
pub data IsNumberWord (b : ℕ) (w : List ℕ) : Type 0 where
  just_zero : b ≡ 0x30 → w ≡ [] → IsNumberWord b w
  base_ten : is_between 0x31 0x39 b ≡ true → list_all is_digit w ≡ true → IsNumberWord b w
  base_sixteen : (ds : List ℕ) → b ≡ 0x30 → w ≡ 0x78 ∷ ds → 0 < length ds → list_all is_hex ds ≡ true → IsNumberWord b w

zero_value : word_value (0x30 ∷ []) ≡ 0
unfolding word_value value digit_value
zero_value = refl

hex_value_is : (ds : List ℕ) → word_value (0x30 ∷ 0x78 ∷ ds) ≡ value 16 ds
unfolding word_value
hex_value_is ds = refl

decimal_value_is : (b : ℕ) (w : List ℕ) → (b == 0x30) ≡ false → word_value (b ∷ w) ≡ value 10 (b ∷ w)
unfolding word_value
decimal_value_is b [] no_zero = refl
decimal_value_is b (x ∷ w) no_zero = rw no_zero refl

pub digit_spells : (b : ℕ) (w : List ℕ) (k : TokenKind) → is_digit b ≡ true → Spelled b w k → IsNumberWord b w × (k ≡ kind.Number (pos (word_value (b ∷ w))))
digit_spells b w k digit (a_word is _ _) = both (is_letter b) is (digit_only b digit).1
digit_spells b w k digit (a_zero is none token) =
    (just_zero is none, token ∙ ap (λ n. kind.Number (pos n)) (sym zero_value) ∙ ap (λ v. kind.Number (pos (word_value v))) (ap (λ x. x ∷ []) (sym is) ∙ ap (λ t. b ∷ t) (sym none)))
digit_spells b w k digit (a_decimal is all token) =
    (base_ten is all, token ∙ ap (λ n. kind.Number (pos n)) (sym (decimal_value_is b w (decimal_first b is).1)))
digit_spells b w k digit (a_hex ds is tail some all token) =
    (base_sixteen ds is tail some all, token ∙ ap (λ n. kind.Number (pos n)) (sym (hex_value_is ds)) ∙ ap (λ v. kind.Number (pos (word_value v))) (ap (λ x. x ∷ 0x78 ∷ ds) (sym is) ∙ ap (λ t. b ∷ t) (sym tail)))
digit_spells b w k digit (a_char _ _ is _ _ _) = both (is_quote b) (single_is_quote b is) (digit_only b digit).2
digit_spells b w k digit (a_text _ _ is _ _ _) = both (is_quote b) (double_is_quote b is) (digit_only b digit).2
digit_spells b w k digit (a_mark _ is _ _) = both (is_digit b) digit (mark_only b is).2

-- and back: each such word spells its number
pub number_word_spells : (b : ℕ) (w : List ℕ) → IsNumberWord b w → Spells (b ∷ w) (kind.Number (pos (word_value (b ∷ w))))
number_word_spells b w (just_zero is none) =
    zero_word (ap (λ x. x ∷ w) is ∙ ap (λ t. 0x30 ∷ t) none) (ap (λ v. kind.Number (pos (word_value v))) (ap (λ x. x ∷ w) is ∙ ap (λ t. 0x30 ∷ t) none) ∙ ap (λ n. kind.Number (pos n)) zero_value)
number_word_spells b w (base_ten is all) =
    decimal b w refl is all (ap (λ n. kind.Number (pos n)) (decimal_value_is b w (decimal_first b is).1))
number_word_spells b w (base_sixteen ds is tail some all) =
    let whole : (b ∷ w) ≡ 0x30 ∷ 0x78 ∷ ds = ap (λ x. x ∷ w) is ∙ ap (λ t. 0x30 ∷ t) tail in
    hexadecimal ds whole some all (ap (λ v. kind.Number (pos (word_value v))) whole ∙ ap (λ n. kind.Number (pos n)) (hex_value_is ds))

-- the token of a literal that is closed
pub data IsLiteralKind (b : ℕ) (points : List ℕ) (k : TokenKind) : Type 0 where
  one_character : (point : ℕ) → b ≡ 0x27 → points ≡ point ∷ [] → k ≡ kind.Char point → IsLiteralKind b points k
  characters : b ≡ 0x22 → k ≡ kind.Text points → IsLiteralKind b points k

pub quote_spells : (b : ℕ) (w : List ℕ) (k : TokenKind) → is_quote b ≡ true → Spelled b w k → (bytes : List ℕ) × (points : List ℕ) × (w ≡ bytes ++ b ∷ []) × AreCharacters b bytes points × IsLiteralKind b points k
quote_spells b w k quote (a_word is _ _) = both (is_quote b) quote (letter_only b is).2
quote_spells b w k quote (a_zero is _ _) = both (is_quote b) quote (digit_only b (zero_is_digit b is)).2
quote_spells b w k quote (a_decimal is _ _) = both (is_quote b) quote (digit_only b (decimal_first b is).0).2
quote_spells b w k quote (a_hex _ is _ _ _ _) = both (is_quote b) quote (digit_only b (zero_is_digit b is)).2
quote_spells b w k quote (a_char bytes point is tail are token) =
    (bytes, point ∷ [], tail ∙ ap (λ q. bytes ++ q ∷ []) (sym is), subst (λ q. AreCharacters q bytes (point ∷ [])) (sym is) are, one_character point is refl token)
quote_spells b w k quote (a_text bytes points is tail are token) =
    (bytes, points, tail ∙ ap (λ q. bytes ++ q ∷ []) (sym is), subst (λ q. AreCharacters q bytes points) (sym is) are, characters is token)
quote_spells b w k quote (a_mark _ is _ _) = both (is_quote b) quote (mark_only b is).3

pub mark_spells : (b : ℕ) (w : List ℕ) (k : TokenKind) → is_letter b ≡ false → is_digit b ≡ false → is_quote b ≡ false → Spelled b w k → (found : Mark) × (mark_of (b ∷ w) ≡ Some found) × (k ≡ kind.Mark found)
mark_spells b w k letter digit quote (a_word is _ _) = both (is_letter b) is letter
mark_spells b w k letter digit quote (a_zero is _ _) = both (is_digit b) (zero_is_digit b is) digit
mark_spells b w k letter digit quote (a_decimal is _ _) = both (is_digit b) (decimal_first b is).0 digit
mark_spells b w k letter digit quote (a_hex _ is _ _ _ _) = both (is_digit b) (zero_is_digit b is) digit
mark_spells b w k letter digit quote (a_char _ _ is _ _ _) = both (is_quote b) (single_is_quote b is) quote
mark_spells b w k letter digit quote (a_text _ _ is _ _ _) = both (is_quote b) (double_is_quote b is) quote
mark_spells b w k letter digit quote (a_mark found _ is token) = (found, is, token)

pub quote_no_blank : (b : ℕ) → (b ≡ 0x27) ⊎ (b ≡ 0x22) → is_blank b ≡ false
unfolding is_blank
quote_no_blank b (inl is) = rw is refl
quote_no_blank b (inr is) = rw is refl

pub spelled_no_blank : (b : ℕ) (w : List ℕ) (k : TokenKind) → Spelled b w k → is_blank b ≡ false
spelled_no_blank b w k (a_word is _ _) = (letter_only b is).0
spelled_no_blank b w k (a_zero is _ _) = (digit_only b (zero_is_digit b is)).0
spelled_no_blank b w k (a_decimal is _ _) = (digit_only b (decimal_first b is).0).0
spelled_no_blank b w k (a_hex _ is _ _ _ _) = (digit_only b (zero_is_digit b is)).0
spelled_no_blank b w k (a_char _ _ is _ _ _) = quote_no_blank b (inl is)
spelled_no_blank b w k (a_text _ _ is _ _ _) = quote_no_blank b (inr is)
spelled_no_blank b w k (a_mark _ is _ _) = (mark_only b is).0
