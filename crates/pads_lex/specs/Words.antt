-- How the keywords and the marks of the language are spelled.
use Rattle.std.specs.Prelude.{ℕ, List, [], ◌∷◌, ◌++◌, map, Option, codes}
use Rattle.std.specs.Option.{option_or}
use Rattle.pads_value.specs.Words.{find_word}
use Rattle.pads_lex.specs.declared.token.Keyword.{Keyword}
use Rattle.pads_lex.specs.declared.token.Keyword.TheVariants as keyword
use Rattle.pads_lex.specs.declared.token.Mark.{Mark}
use Rattle.pads_lex.specs.declared.token.Mark.TheVariants as mark

abbrev pub declaration_words : List (List ℕ × Keyword)
declaration_words =
    (codes "Pstruct", keyword.Pstruct) ∷ (codes "Punion", keyword.Punion) ∷ (codes "Parray", keyword.Parray) ∷ (codes "Penum", keyword.Penum)
    ∷ (codes "Popt", keyword.Popt) ∷ (codes "Ptypedef", keyword.Ptypedef) ∷ (codes "Precord", keyword.Precord) ∷ (codes "Psource", keyword.Psource)
    ∷ (codes "Precursive", keyword.Precursive) ∷ []

abbrev pub part_words : List (List ℕ × Keyword)
part_words =
    (codes "Pswitch", keyword.Pswitch) ∷ (codes "Pcase", keyword.Pcase) ∷ (codes "Pdefault", keyword.Pdefault) ∷ (codes "Pwhere", keyword.Pwhere)
    ∷ (codes "Psep", keyword.Psep) ∷ (codes "Pterm", keyword.Pterm) ∷ (codes "Plast", keyword.Plast) ∷ (codes "Peor", keyword.Peor) ∷ []

abbrev pub expression_words : List (List ℕ × Keyword)
expression_words =
    (codes "Pforall", keyword.Pforall) ∷ (codes "Pin", keyword.Pin) ∷ (codes "Pcompute", keyword.Pcompute) ∷ (codes "Pfrom", keyword.Pfrom)
    ∷ (codes "Pis", keyword.Pis) ∷ (codes "Plen", keyword.Plen) ∷ (codes "true", keyword.True) ∷ (codes "false", keyword.False) ∷ []

-- the keyword that a word is
unfoldable pub keyword_of : List ℕ → Option Keyword
keyword_of word = option_or (find_word word declaration_words) (option_or (find_word word part_words) (find_word word expression_words))

abbrev pub double_marks : List (List ℕ × Mark)
double_marks =
    (codes "(:", mark.OpenParams) ∷ (codes ":)", mark.CloseParams) ∷ (codes "..", mark.DotDot) ∷ (codes "==", mark.EqualTo)
    ∷ (codes "=>", mark.Arrow) ∷ (codes "!=", mark.NotEqualTo) ∷ (codes "<=", mark.AtMost) ∷ (codes ">=", mark.AtLeast)
    ∷ (codes "&&", mark.And) ∷ (codes "||", mark.Or) ∷ []

abbrev pub single_marks : List (List ℕ × Mark)
single_marks =
    (codes "{", mark.OpenBrace) ∷ (codes "}", mark.CloseBrace) ∷ (codes "[", mark.OpenBracket) ∷ (codes "]", mark.CloseBracket)
    ∷ (codes "(", mark.OpenParen) ∷ (codes ")", mark.CloseParen) ∷ (codes ";", mark.Semicolon) ∷ (codes ",", mark.Comma)
    ∷ (codes ":", mark.Colon) ∷ (codes ".", mark.Dot) ∷ (codes "=", mark.Equals) ∷ (codes "!", mark.Not)
    ∷ (codes "<", mark.LessThan) ∷ (codes ">", mark.GreaterThan) ∷ (codes "+", mark.Plus) ∷ (codes "-", mark.Minus)
    ∷ (codes "*", mark.Star) ∷ (codes "/", mark.Slash) ∷ (codes "%", mark.Percent) ∷ (codes "$", mark.Dollar) ∷ []

unfoldable pub double_mark : ℕ → ℕ → Option Mark
double_mark first second = find_word (first ∷ second ∷ []) double_marks

unfoldable pub single_mark : ℕ → Option Mark
single_mark byte = find_word (byte ∷ []) single_marks

-- All keywords and all marks, each once.
abbrev pub keywords : List Keyword
keywords = map (λ row. row.1) (declaration_words ++ (part_words ++ expression_words))

abbrev pub marks : List Mark
marks = map (λ row. row.1) (double_marks ++ single_marks)
