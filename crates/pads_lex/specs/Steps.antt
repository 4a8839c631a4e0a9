-- What stands at the front of a text, as it is read from the left.
use Rattle.std.specs.Prelude.{ℕ, ◌+◌, ℤ, List, [], ◌∷◌, take, drop, Option, Some, None, ◌==◌, ◌||◌, if◌then◌else◌}
use Rattle.pads_lex.specs.Bytes.{is_blank, is_letter, is_digit, is_word_byte}
use Rattle.pads_lex.specs.Runs.{run}
use Rattle.pads_lex.specs.Words.{double_mark, single_mark}
use Rattle.pads_lex.specs.Numbers.{in_range, number_size, word_value}
use Rattle.pads_lex.specs.Literals.{literal_from}
use Rattle.pads_lex.specs.Gaps.{comment}
use Rattle.pads_lex.specs.Spelling.{word_kind}
use Rattle.pads_lex.specs.Cut.{goes_on}
use Rattle.pads_lex.specs.declared.token.Mark.{Mark}
use Rattle.pads_lex.specs.declared.token.TokenKind.TheVariants as kind
use Rattle.pads_lex.specs.declared.fault.LexKind.TheVariants as fault
use Rattle.pads_lex.specs.declared.literal.Literal.{Literal}
use Rattle.pads_lex.specs.declared.literal.Literal.TheVariants as literal_is
use Rattle.pads_lex.specs.declared.step.Step.{Step}
use Rattle.pads_lex.specs.declared.step.Step.TheVariants as step_is

-- a name or a keyword
unfoldable pub word_step : List ℕ → Step
word_step text = step_is.Stands (run is_word_byte text) (word_kind (take (run is_word_byte text) text))

abbrev pub by_number : ℕ → Option ℤ → Step
by_number size None = step_is.Fault fault.NumberTooWide 0
by_number size (Some number) = step_is.Stands size (kind.Number number)

-- a number, by its longest word
unfoldable pub number_step : List ℕ → Step
number_step text =
    if goes_on (drop (number_size text) text) then step_is.Fault fault.BadNumber 0
    else by_number (number_size text) (in_range (word_value (take (number_size text) text)))

-- a literal that is closed, of so many bytes with its quotes
abbrev pub one_point : ℕ → List ℕ → Step
one_point size [] = step_is.Fault fault.BadChar 0
one_point size (point ∷ []) = step_is.Stands size (kind.Char point)
one_point size (point ∷ other ∷ points) = step_is.Fault fault.BadChar 0

unfoldable pub closed_step : ℕ → ℕ → List ℕ → Step
closed_step quote size points = if quote == 0x22 then step_is.Stands size (kind.Text points) else one_point size points

abbrev pub by_literal : ℕ → Literal → Step
by_literal quote (literal_is.Closed size points) = closed_step quote (size + 1) points
by_literal quote literal_is.Open = step_is.Fault fault.OpenText 0
by_literal quote (literal_is.Fault kind at) = step_is.Fault kind (at + 1)

-- a literal, from behind its opening quote
unfoldable pub literal_step : ℕ → List ℕ → Step
literal_step quote after = by_literal quote (literal_from quote 0 0 [] after)

abbrev pub by_mark : ℕ → Option Mark → Step → Step
by_mark size None other = other
by_mark size (Some mark) other = step_is.Stands size (kind.Mark mark)

-- a mark of one byte
unfoldable pub single_step : ℕ → Step
single_step byte = by_mark 1 (single_mark byte) (step_is.Fault fault.BadByte 0)

-- the longest mark
unfoldable pub mark_step : List ℕ → Step
mark_step [] = step_is.Fault fault.BadByte 0
mark_step (first ∷ []) = single_step first
mark_step (first ∷ second ∷ z) = by_mark 2 (double_mark first second) (single_step first)

-- a blank or a token, where no comment begins
unfoldable pub token_step : List ℕ → Step
token_step [] = step_is.Fault fault.BadByte 0
token_step (byte ∷ after) =
    if is_blank byte then step_is.Gap 1
    else if is_letter byte then word_step (byte ∷ after)
    else if is_digit byte then number_step (byte ∷ after)
    else if byte == 0x27 || byte == 0x22 then literal_step byte after
    else mark_step (byte ∷ after)

abbrev pub or_token : Option Step → Step → Step
or_token None other = other
or_token (Some found) other = found

-- what stands at the front
unfoldable pub step_of : List ℕ → Step
step_of text = or_token (comment text) (token_step text)
