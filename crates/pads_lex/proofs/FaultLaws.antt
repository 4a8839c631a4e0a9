-- What breaks the rules at the front of a text is what is read there.
use Rattle.std.proofs.Common.{◌≡◌, ◌≢◌, ℕ, zero, suc, ◌+◌, ◌<◌, ◌≤◌, Bool, true, false, cond, List, [], ◌∷◌, ◌++◌, length, take, drop, Option, Some, None, ℤ, pos, ◌⊎◌, inl, inr, sym, refl, ap, ◌∙◌, subst, arith}
use Rattle.std.specs.Prelude.{◌==◌}
use Rattle.std.proofs.lemmas.Bool.{eqb-true}
use Rattle.pads_lex.specs.Bytes.{is_blank, is_letter, is_digit}
use Rattle.pads_lex.specs.Numbers.{number_limit, word_value, in_range}
use Rattle.pads_lex.specs.Words.{double_mark, single_mark}
use Rattle.pads_value.specs.Words.{is_word}
use Rattle.pads_lex.specs.Literals.{character_at, literal_from}
use Rattle.pads_lex.specs.Gaps.{to_close}
use Rattle.pads_lex.specs.Spelling.{Spells, IsLongest, mark_of}
use Rattle.pads_lex.specs.Spelling.Spells.{mark}
use Rattle.pads_lex.specs.Steps.{by_number, number_step, closed_step, by_literal, literal_step, by_mark, single_step, mark_step, step_of}
use Rattle.pads_lex.specs.Cut.{opens_comment, goes_on, IsLiteral, IsFault, EndsLine}
use Rattle.pads_lex.specs.Cut.IsFault.{no_token, no_character, bad_number, wide_number, open_text, bad_char, bad_escape, open_comment}
use Rattle.pads_lex.specs.declared.token.Mark.{Mark}
use Rattle.pads_lex.specs.declared.token.Mark.TheVariants.{Slash}
use Rattle.pads_lex.specs.declared.token.TokenKind.{TokenKind}
use Rattle.pads_lex.specs.declared.token.TokenKind.TheVariants as kind
use Rattle.pads_lex.specs.declared.fault.LexKind.{LexKind}
use Rattle.pads_lex.specs.declared.fault.LexKind.TheVariants as fault
use Rattle.pads_lex.specs.declared.literal.Character.TheVariants as character_is
use Rattle.pads_lex.specs.declared.literal.Literal.{Literal}
use Rattle.pads_lex.specs.declared.literal.Literal.TheVariants as literal_is
use Rattle.pads_lex.specs.declared.step.Step.TheVariants.{Fault}
use Rattle.pads_lex.proofs.ByteLemmas.{is_quote, quote_cases, digit_only, decimal_first}
use Rattle.pads_lex.proofs.CloseLemmas.{close_no}
use Rattle.pads_lex.proofs.LiteralLemmas.{literal_reads}
use Rattle.pads_lex.proofs.LiteralLaws.{characters_read, IsFaulty, faulty_reads}
use Rattle.pads_lex.proofs.LiteralLaws.IsFaulty.{no_byte, no_escape}
use Rattle.pads_lex.proofs.SpelledLemmas.{zero_is_digit, Spelled, spelled, spells_some}
use Rattle.pads_lex.proofs.SpelledLemmas.Spelled.{a_word, a_zero, a_decimal, a_hex, a_char, a_text, a_mark}
use Rattle.pads_lex.proofs.SameLaws.{is_number, no_number, word_no_number, quote_no_escape, longest_same, quote_closes}
use Rattle.pads_lex.proofs.LongestLaws.{word_longest, number_longest, number_more, NoDouble, single_longest, double_longest}
use Rattle.pads_lex.proofs.ReadLaws.{taken_nothing, no_slash, step_token, step_comment, step_number, step_quote, step_mark, block_read, number_step_is}
use Rattle.pads_lex.proofs.NumberLemmas.{in_range_above}

-- literals that break the rules
quote_no_slash : (b : ℕ) → is_quote b ≡ true → (b == 0x2F) ≡ false
quote_no_slash b is = go (quote_cases b is)
  where
    go : (b ≡ 0x27) ⊎ (b ≡ 0x22) → (b == 0x2F) ≡ false
    go (inl h) = ap (λ x. x == 0x2F) h
    go (inr h) = ap (λ x. x == 0x2F) h

step_literal : (b : ℕ) (after : List ℕ) → is_quote b ≡ true → step_of (b ∷ after) ≡ by_literal b (literal_from b 0 0 [] after)
unfolding literal_step
step_literal b after quote = step_token (b ∷ after) (no_slash b after (quote_no_slash b quote)) ∙ step_quote b after quote

-- a literal that is read up to what stands behind its characters
literal_goes : (b : ℕ) (z body points rest : List ℕ) (found : Literal) → IsLiteral b z body points rest → literal_from b 0 (length body) points rest ≡ found → step_of z ≡ by_literal b found
literal_goes b z body points rest found literal e =
    let size : 0 + length body ≡ length body = omega arith in
    ap step_of literal.split ∙ step_literal b (body ++ rest) literal.is_quote ∙ ap (by_literal b) (characters_read b 0 [] body points rest (quote_no_escape b literal.is_quote) literal.characters ∙ ap (λ n. literal_from b 0 n points rest) size ∙ e)

literal_fails : (b : ℕ) (z body points rest : List ℕ) (kind : LexKind) → IsLiteral b z body points rest → IsFaulty b rest kind → step_of z ≡ Fault kind (length body + 1)
literal_fails b z body points rest kind literal faulty =
    literal_goes b z body points rest (literal_is.Fault kind (length body)) literal (literal_reads b (length body) points rest (character_is.Fault kind) (faulty_reads b rest kind (quote_no_escape b literal.is_quote) faulty))

quote_no_line : (b : ℕ) → is_quote b ≡ true → (0x0A == b) ≡ false
quote_no_line b is = go (quote_cases b is)
  where
    go : (b ≡ 0x27) ⊎ (b ≡ 0x22) → (0x0A == b) ≡ false
    go (inl h) = ap (λ x. 0x0A == x) h
    go (inr h) = ap (λ x. 0x0A == x) h

open_reads : (b : ℕ) (rest : List ℕ) → is_quote b ≡ true → EndsLine rest → character_at b rest ≡ character_is.Open
unfolding character_at
open_reads b [] quote ends = refl
open_reads b (byte ∷ rest) quote ends =
    let differs = quote_no_line b quote in
    rw (ends, differs) refl

bad_char_step : (size : ℕ) (points : List ℕ) → length points ≢ 1 → closed_step 0x27 size points ≡ Fault fault.BadChar 0
unfolding closed_step
bad_char_step size [] several = refl
bad_char_step size (p ∷ []) several = absurd (several refl)
bad_char_step size (p ∷ q ∷ points) several = refl

-- a number's longest word begins with a digit
pub number_first : (z : List ℕ) (size : ℕ) (number : ℤ) → IsLongest z size (kind.Number number) → (b : ℕ) × (after : List ℕ) × (z ≡ b ∷ after) × (is_digit b ≡ true)
number_first [] size number longest = absurd (spells_some _ (subst (λ w. Spells w (kind.Number number)) (taken_nothing size) longest.spells))
number_first (b ∷ after) zero number longest = absurd (spells_some _ longest.spells)
number_first (b ∷ after) (suc m) number longest = (b, after, refl, go (spelled b (take m after) (kind.Number number) longest.spells))
  where
    go : Spelled b (take m after) (kind.Number number) → is_digit b ≡ true
    go (a_word _ _ token) = no_number (kind.Number number) number (ap is_number token ∙ word_no_number (b ∷ take m after)) refl
    go (a_zero is _ _) = zero_is_digit b is
    go (a_decimal is _ _) = (decimal_first b is).0
    go (a_hex _ is _ _ _ _) = zero_is_digit b is
    go (a_char _ _ _ _ _ token) = cc
    go (a_text _ _ _ _ _ token) = cc
    go (a_mark _ _ _ token) = cc

digit_step : (b : ℕ) (after : List ℕ) → is_digit b ≡ true → step_of (b ∷ after) ≡ number_step (b ∷ after)
digit_step b after digit = step_token (b ∷ after) (no_slash b after (digit_only b digit).3) ∙ step_number b after digit

number_fails : (b : ℕ) (after : List ℕ) (size : ℕ) (number : ℤ) → is_digit b ≡ true → IsLongest (b ∷ after) size (kind.Number number) → goes_on (drop size (b ∷ after)) ≡ true → step_of (b ∷ after) ≡ Fault fault.BadNumber 0
number_fails b after size number digit longest on =
    let same = longest_same (b ∷ after) (suc (number_more b after)) size _ (kind.Number number) (number_longest b after digit) longest in
    digit_step b after digit ∙ number_step_is b after digit ∙ ap (λ t. cond t (Fault fault.BadNumber 0) (by_number (suc (number_more b after)) (in_range (word_value (b ∷ take (number_more b after) after))))) (ap (λ n. goes_on (drop n (b ∷ after))) same.0 ∙ on)

wide_fails : (b : ℕ) (after : List ℕ) (size number : ℕ) → is_digit b ≡ true → IsLongest (b ∷ after) size (kind.Number (pos number)) → goes_on (drop size (b ∷ after)) ≡ false → number_limit < number → step_of (b ∷ after) ≡ Fault fault.NumberTooWide 0
wide_fails b after size number digit longest alone wide =
    let same = longest_same (b ∷ after) (suc (number_more b after)) size _ (kind.Number (pos number)) (number_longest b after digit) longest in
    let value : word_value (b ∷ take (number_more b after) after) ≡ number = cc in
    digit_step b after digit ∙ number_step_is b after digit ∙ ap (λ t. cond t (Fault fault.BadNumber 0) (by_number (suc (number_more b after)) (in_range (word_value (b ∷ take (number_more b after) after))))) (ap (λ n. goes_on (drop n (b ∷ after))) same.0 ∙ alone) ∙ ap (by_number (suc (number_more b after))) (ap in_range value ∙ in_range_above number wide)

-- a byte that begins no token
abbrev SpellsNone : List ℕ → Type 0
SpellsNone z = (size : ℕ) (token : TokenKind) → size ≤ length z → Spells (take size z) token → ⊥

spells_none_longest : {P : Type 0} (z : List ℕ) (n : ℕ) (k : TokenKind) → SpellsNone z → IsLongest z n k → P
spells_none_longest z n k none longest = absurd (none n k longest.within longest.spells)

slash_spells : mark_of (0x2F ∷ []) ≡ Some Slash
unfolding is_word
slash_spells = refl

none_no_comment : (b : ℕ) (after : List ℕ) → SpellsNone (b ∷ after) → opens_comment (b ∷ after) ≡ false
none_no_comment b after none = go (b == 0x2F) refl
  where
    go : (t : Bool) → (b == 0x2F) ≡ t → opens_comment (b ∷ after) ≡ false
    go true e = absurd (none 1 (kind.Mark Slash) (omega arith) (mark Slash (ap (λ x. mark_of (x ∷ [])) (eqb-true b 0x2F e) ∙ slash_spells) refl))
    go false e = no_slash b after e

none_marks : (a : ℕ) (after : List ℕ) → is_letter a ≡ false → is_digit a ≡ false → is_quote a ≡ false → SpellsNone (a ∷ after) → mark_step (a ∷ after) ≡ Fault fault.BadByte 0
unfolding mark_step single_step
none_marks a after letter digit quote none = by_after after refl
  where
    by_single : NoDouble a after → (o : Option Mark) → single_mark a ≡ o → by_mark 1 o (Fault fault.BadByte 0) ≡ Fault fault.BadByte 0
    by_single double None e = refl
    by_single double (Some k) e = spells_none_longest (a ∷ after) 1 (kind.Mark k) none (single_longest a after k letter digit quote double e)

    by_double : (c : ℕ) (z : List ℕ) → after ≡ c ∷ z → (o : Option Mark) → double_mark a c ≡ o → by_mark 2 o (by_mark 1 (single_mark a) (Fault fault.BadByte 0)) ≡ Fault fault.BadByte 0
    by_double c z is None e = by_single (subst (NoDouble a) (sym is) e) (single_mark a) refl
    by_double c z is (Some k) e = spells_none_longest (a ∷ c ∷ z) 2 (kind.Mark k) (subst (λ l. SpellsNone (a ∷ l)) is none) (double_longest a c z k letter digit quote e)

    by_after : (l : List ℕ) → after ≡ l → mark_step (a ∷ l) ≡ Fault fault.BadByte 0
    by_after [] is = by_single (subst (NoDouble a) (sym is) tt) (single_mark a) refl
    by_after (c ∷ z) is = by_double c z is (double_mark a c) refl

none_fails : (b : ℕ) (after : List ℕ) → is_blank b ≡ false → is_quote b ≡ false → SpellsNone (b ∷ after) → step_of (b ∷ after) ≡ Fault fault.BadByte 0
none_fails b after blank_no quote none =
    step_token (b ∷ after) (none_no_comment b after none) ∙ step_mark b after blank_no (letter_no (is_letter b) refl) (digit_no (is_digit b) refl) quote ∙ none_marks b after (letter_no (is_letter b) refl) (digit_no (is_digit b) refl) quote none
  where
    letter_no : (t : Bool) → is_letter b ≡ t → t ≡ false
    letter_no true e = spells_none_longest (b ∷ after) _ _ none (word_longest b after e)
    letter_no false e = refl

    digit_no : (t : Bool) → is_digit b ≡ t → t ≡ false
    digit_no true e = spells_none_longest (b ∷ after) _ _ none (number_longest b after e)
    digit_no false e = refl

pub fault_reads : (z : List ℕ) (k : LexKind) (offset : ℕ) → IsFault z k offset → step_of z ≡ Fault k offset
fault_reads z k offset (no_token byte rest split blank_no quote none) =
    ap step_of split ∙ none_fails byte rest blank_no quote (subst SpellsNone split none)
fault_reads z k offset (no_character quote byte body points rest literal a b c printed) =
    literal_fails quote z body points (byte ∷ rest) fault.BadByte literal (no_byte byte rest refl refl a b c printed)
fault_reads z k offset (bad_number size number longest on) =
    let (b, after, split, digit) = number_first z size number longest in
    ap step_of split ∙ number_fails b after size number digit (subst (λ l. IsLongest l size (kind.Number number)) split longest) (ap (λ l. goes_on (drop size l)) (sym split) ∙ on)
fault_reads z k offset (wide_number size number longest alone wide) =
    let (b, after, split, digit) = number_first z size (pos number) longest in
    ap step_of split ∙ wide_fails b after size number digit (subst (λ l. IsLongest l size (kind.Number (pos number))) split longest) (ap (λ l. goes_on (drop size l)) (sym split) ∙ alone) wide
fault_reads z k offset (open_text quote body points rest literal ends) =
    literal_goes quote z body points rest literal_is.Open literal (literal_reads quote (length body) points rest character_is.Open (open_reads quote rest literal.is_quote ends))
fault_reads z k offset (bad_char body points rest literal several) =
    literal_goes 0x27 z body points (0x27 ∷ rest) (literal_is.Closed (length body + 1) points) literal (literal_reads 0x27 (length body) points (0x27 ∷ rest) character_is.Close (quote_closes 0x27 rest)) ∙ bad_char_step (length body + 1 + 1) points several
fault_reads z k offset (bad_escape quote body points rest literal none) =
    literal_fails quote z body points (0x5C ∷ rest) fault.BadEscape literal (no_escape rest refl refl none)
fault_reads z k offset (open_comment body split none) =
    ap step_of split ∙ step_comment _ _ (block_read body) ∙ ap to_close (close_no body none)
