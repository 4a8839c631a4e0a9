-- Each name among the tokens of a text is spelled as a name.
use Rattle.std.proofs.Common.{◌≡◌, ◌∙◌, sym, ap, refl, subst, ℕ, Bool, true, false, not, List, ◌∷◌, take, Result, Ok, Err, Option, Some, None, is_some, ◌&&◌}
use Rattle.std.specs.Prelude.{IfOk}
use Rattle.std.specs.List.{list_all}
use Rattle.std.proofs.lemmas.Bool.{and_from}
use Rattle.pads_lex.specs.Answers.{HasSpelledNames}
use Rattle.pads_lex.specs.Bytes.{is_letter, is_word_byte}
use Rattle.pads_lex.specs.Cut.{IsCut}
use Rattle.pads_lex.specs.Cut.IsCut.{ends, passes, stands}
use Rattle.pads_lex.specs.Spelling.{Spells, is_name, word_kind}
use Rattle.pads_lex.specs.Spelling.Spells.{name, zero, decimal, hexadecimal, char, text, mark}
use Rattle.pads_lex.specs.Words.{keyword_of}
use Rattle.pads_value.specs.declared.memory.Refusal.{Refusal}
use Rattle.pads_lex.specs.declared.fault.LexFault.{LexFault}
use Rattle.pads_lex.specs.declared.token.Token.{Token}
use Rattle.pads_lex.specs.declared.token.Keyword.{Keyword}
use Rattle.pads_lex.specs.declared.token.TokenKind.{TokenKind}
use Rattle.pads_lex.specs.declared.token.TokenKind.TheVariants as kind

-- A token that is a name is spelled as one.
abbrev IsFineKind : TokenKind → Type 0
IsFineKind token = (word : List ℕ) → token ≡ kind.Name word → is_name word ≡ true

-- a token that is no name
abbrev is_other : TokenKind → Bool
is_other (kind.Name word) = false
is_other _ = true

other-fine : (token : TokenKind) → is_other token ≡ true → IsFineKind token
other-fine token other word is = let no : true ≡ false = sym other ∙ ap is_other is in cc

-- what begins with a letter or `_`, goes on with letters, digits and `_`, and is no keyword
name-spelled : (first : ℕ) (others : List ℕ) → is_letter first ≡ true → list_all is_word_byte others ≡ true → keyword_of (first ∷ others) ≡ None → is_name (first ∷ others) ≡ true
unfolding is_name
name-spelled first others letter all none =
    and_from (is_letter first && list_all is_word_byte others) (not (is_some (keyword_of (first ∷ others))))
    (and_from (is_letter first) (list_all is_word_byte others) letter all) (ap (λ o. not (is_some o)) none)

word-fine : (word : List ℕ) → (keyword_of word ≡ None → is_name word ≡ true) → IsFineKind (word_kind word)
word-fine word spelled = go (keyword_of word) refl
  where
    go : (o : Option Keyword) → keyword_of word ≡ o → IsFineKind (elim o [ None ↦ kind.Name word | Some keyword ↦ kind.Keyword keyword ])
    go None is = λ other same. let h : word ≡ other = cc in subst (λ w. is_name w ≡ true) h (spelled is)
    go (Some keyword) is = other-fine (kind.Keyword keyword) refl

spells-fine : (word : List ℕ) (token : TokenKind) → Spells word token → IsFineKind token
spells-fine word token (name first others is letter all same) =
    subst IsFineKind (sym same) (word-fine word (subst (λ w. keyword_of w ≡ None → is_name w ≡ true) (sym is) (name-spelled first others letter all)))
spells-fine word token (zero is same) = subst IsFineKind (sym same) (other-fine _ refl)
spells-fine word token (decimal first others is digit all same) = subst IsFineKind (sym same) (other-fine _ refl)
spells-fine word token (hexadecimal digits is some all same) = subst IsFineKind (sym same) (other-fine _ refl)
spells-fine word token (char bytes point is characters same) = subst IsFineKind (sym same) (other-fine _ refl)
spells-fine word token (text bytes points is characters same) = subst IsFineKind (sym same) (other-fine _ refl)
spells-fine word token (mark found is same) = subst IsFineKind (sym same) (other-fine _ refl)

pub cut_names : (at : ℕ) (bytes : List ℕ) (tokens : List Token) → IsCut at bytes tokens → HasSpelledNames tokens
cut_names at bytes tokens ends = (other-fine kind.End refl, tt)
cut_names at bytes tokens (passes size gap cut) = cut_names _ _ tokens cut
cut_names at bytes tokens (stands {tokens = rest} size token here cut) = (spells-fine (take size bytes) token here.longest.spells, cut_names _ _ rest cut)

pub found_names : (z : List ℕ) (r : Result (List Token) (Refusal LexFault)) → IfOk r (λ tokens. IsCut 0 z tokens) → IfOk r HasSpelledNames
found_names z (Ok tokens) cut = cut_names 0 z tokens cut
found_names z (Err e) cut = tt
