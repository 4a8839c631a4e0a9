-- The names and literals of the grammar, of one token each.
use Rattle.std.specs.Prelude.{ℕ, List, []}
use Rattle.pads_lex.specs.declared.token.TokenKind.{TokenKind}
use Rattle.pads_lex.specs.declared.token.TokenKind.TheVariants as token_kind
use Rattle.pads_grammar.specs.declared.kind.Kind.TheVariants as kind
use Rattle.pads_grammar.specs.Grammar.{Grammar, token, either}
use Rattle.pads_ast.specs.Numbers.{natural}
use Rattle.pads_ast.specs.declared.name.Name.{Name}
use Rattle.pads_ast.specs.declared.name.Word.{Word}
use Rattle.pads_ast.specs.declared.name.Word.TheVariants as word_form

-- What a name or a text has, what a character is, what a number is.
abbrev pub text_of : TokenKind → List ℕ
text_of (token_kind.Name text) = text
text_of (token_kind.Text text) = text
text_of _ = []

abbrev pub point_of : TokenKind → ℕ
point_of (token_kind.Char point) = point
point_of _ = 0

abbrev pub number_of : TokenKind → ℕ
number_of (token_kind.Number number) = natural number
number_of _ = 0

abbrev pub name : Grammar Name
name = token kind.Name (λ t. record { text = text_of t.kind; at = t.begin })

abbrev pub number : Grammar (ℕ × ℕ)
number = token kind.Number (λ t. (number_of t.kind, t.begin))

-- word = Char | Text
abbrev pub word : Grammar Word
word = either (token kind.Char (λ t. word_form.Char (point_of t.kind) t.begin))
    (token kind.Text (λ t. word_form.Text (text_of t.kind) t.begin))
