-- The words that tell why a description is refused.
use Rattle.std.specs.Prelude.{ℕ, List, [], ◌∷◌, ◌++◌, codes, decimal}
use Rattle.pads_lex.specs.declared.fault.LexKind.{LexKind}
use Rattle.pads_lex.specs.declared.fault.LexKind.TheVariants as kind
use Rattle.pads_rules.specs.Rules.{number}
use Rattle.pads_describe.specs.declared.verdict.Verdict.{Verdict}
use Rattle.pads_describe.specs.declared.verdict.Verdict.TheVariants as verdict

abbrev pub kind_words : LexKind → List ℕ
kind_words kind.BadByte = codes "BadByte"
kind_words kind.BadNumber = codes "BadNumber"
kind_words kind.NumberTooWide = codes "NumberTooWide"
kind_words kind.OpenText = codes "OpenText"
kind_words kind.BadChar = codes "BadChar"
kind_words kind.BadEscape = codes "BadEscape"
kind_words kind.OpenComment = codes "OpenComment"

-- words and a number behind them
abbrev pub with_number : List ℕ → ℕ → List ℕ
with_number words number = words ++ decimal number

-- what is wrong, and where: bytes and tokens are counted from 0
abbrev pub reason : Verdict → List ℕ
reason verdict.TooLong = codes "description too long"
reason (verdict.Lexical kind at) = (codes "description lexical " ++ kind_words kind) ++ with_number (codes " at byte ") at
reason (verdict.Syntax token at) = with_number (codes "description syntax at token ") token ++ with_number (codes " byte ") at
reason (verdict.Rule rule at) = with_number (codes "description rule ") (number rule) ++ with_number (codes " at byte ") at

-- the last line of a run that refuses a description
abbrev pub refusal_line : Verdict → List ℕ
refusal_line v = codes "pads: refused: " ++ reason v ++ 10 ∷ []
