-- What the words of the language spell. A word is all the bytes that a token stands on.
--
-- A name begins with a letter or `_`, and goes on with letters, digits and `_`; where the keywords have it, it is
-- that keyword. A number is `0`, or a digit from 1 to 9 and then digits, or `0x` and at least one digit of base 16.
-- A character between two single quotes, and any number of them between two double quotes, are literals. The marks
-- are those of their table.
use Rattle.std.specs.Prelude.{◌≡◌, ◌≢◌, ℕ, ◌<◌, ◌≤◌, pos, IsTrue, Bool, false, not, ◌&&◌, List, [], ◌∷◌, ◌++◌, length, take, Option, Some, None, is_some}
use Rattle.std.specs.List.{list_all}
use Rattle.std.specs.Option.{option_or}
use Rattle.pads_lex.specs.Bytes.{is_between, is_letter, is_digit, is_word_byte, is_hex}
use Rattle.pads_lex.specs.Words.{keyword_of, double_marks, single_marks}
use Rattle.pads_value.specs.Words.{find_word}
use Rattle.pads_lex.specs.Numbers.{value}
use Rattle.pads_lex.specs.Literals.{is_printed, escape, hex_point}
use Rattle.pads_lex.specs.declared.token.Mark.{Mark}
use Rattle.pads_lex.specs.declared.token.TokenKind.{TokenKind}
use Rattle.pads_lex.specs.declared.token.TokenKind.TheVariants as kind

-- A character of a literal: a byte from 20 to 7E other than the backslash and the literal's own quote, or an escape
-- of two bytes, or `\x` and two digits of base 16.
pub data IsCharacter (quote : ℕ) (word : List ℕ) (point : ℕ) : Type 0 where
  itself : word ≡ point ∷ [] → IsTrue (is_printed point) → point ≢ 0x5C → point ≢ quote → IsCharacter quote word point
  escaped : (byte : ℕ) → word ≡ 0x5C ∷ byte ∷ [] → escape byte ≡ Some point → IsCharacter quote word point
  coded : (high low : ℕ) → word ≡ 0x5C ∷ 0x78 ∷ high ∷ low ∷ [] → IsTrue (is_hex high) → IsTrue (is_hex low) → point ≡ hex_point high low → IsCharacter quote word point

-- Bytes that are these characters, one after another.
abbrev pub AreCharacters : ℕ → List ℕ → List ℕ → Type 0
AreCharacters quote bytes [] = bytes ≡ []
AreCharacters quote bytes (point ∷ points) = (word : List ℕ) × (rest : List ℕ) × (bytes ≡ word ++ rest) × IsCharacter quote word point × AreCharacters quote rest points

-- What a word of letters, digits and `_` is.
abbrev pub word_kind : List ℕ → TokenKind
word_kind word = elim (keyword_of word) [ None ↦ kind.Name word | Some keyword ↦ kind.Keyword keyword ]

-- A word is spelled as a name: it begins with a letter or `_`, goes on with letters, digits and `_`, and is no keyword.
unfoldable pub is_name : List ℕ → Bool
is_name [] = false
is_name (first ∷ others) = is_letter first && list_all is_word_byte others && not (is_some (keyword_of (first ∷ others)))

-- A mark's word, by its table.
abbrev pub mark_of : List ℕ → Option Mark
mark_of word = option_or (find_word word double_marks) (find_word word single_marks)

-- A word spells a token.
pub data Spells (word : List ℕ) (token : TokenKind) : Type 0 where
  name : (first : ℕ) (others : List ℕ) → word ≡ first ∷ others → IsTrue (is_letter first) → IsTrue (list_all is_word_byte others) → token ≡ word_kind word → Spells word token
  zero : word ≡ 0x30 ∷ [] → token ≡ kind.Number (pos 0) → Spells word token
  decimal : (first : ℕ) (others : List ℕ) → word ≡ first ∷ others → IsTrue (is_between 0x31 0x39 first) → IsTrue (list_all is_digit others) → token ≡ kind.Number (pos (value 10 word)) → Spells word token
  hexadecimal : (digits : List ℕ) → word ≡ 0x30 ∷ 0x78 ∷ digits → 0 < length digits → IsTrue (list_all is_hex digits) → token ≡ kind.Number (pos (value 16 digits)) → Spells word token
  char : (bytes : List ℕ) (point : ℕ) → word ≡ 0x27 ∷ (bytes ++ 0x27 ∷ []) → AreCharacters 0x27 bytes (point ∷ []) → token ≡ kind.Char point → Spells word token
  text : (bytes points : List ℕ) → word ≡ 0x22 ∷ (bytes ++ 0x22 ∷ []) → AreCharacters 0x22 bytes points → token ≡ kind.Text points → Spells word token
  mark : (found : Mark) → mark_of word ≡ Some found → token ≡ kind.Mark found → Spells word token

-- The first `size` bytes spell the token, and no longer front of the bytes spells one.
pub record IsLongest (bytes : List ℕ) (size : ℕ) (token : TokenKind) : Type 0 where
  pub within : size ≤ length bytes
  pub spells : Spells (take size bytes) token
  pub no_longer : (more : ℕ) (other : TokenKind) → more ≤ length bytes → Spells (take more bytes) other → more ≤ size
