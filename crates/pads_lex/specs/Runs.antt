-- How many bytes at the front of a text are of one class.
use Rattle.std.specs.Prelude.{ℕ, suc, Bool, List, [], ◌∷◌, if◌then◌else◌}
use Rattle.pads_lex.specs.Bytes.{is_word_byte, is_digit, is_hex, is_on_line}
use Rattle.pads_lex.specs.declared.run.Class.{Class}
use Rattle.pads_lex.specs.declared.run.Class.TheVariants.{Word, Digit, Hex, Line}

abbrev pub has_byte : Class → ℕ → Bool
has_byte Word = is_word_byte
has_byte Digit = is_digit
has_byte Hex = is_hex
has_byte Line = is_on_line

abbrev pub run : (ℕ → Bool) → List ℕ → ℕ
run test [] = 0
run test (b ∷ z) = if test b then suc (run test z) else 0
