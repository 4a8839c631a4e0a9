-- What stands at the front of a text by the rules is what is read there.
use Rattle.std.proofs.Common.{◌≡◌, ℕ, zero, suc, ◌+◌, ◌≤◌, Bool, true, false, cond, List, [], ◌∷◌, ◌++◌, length, take, drop, Option, Some, None, pos, ◌≤ℤ◌, ◌⊎◌, inl, inr, sym, refl, ap, ◌∙◌, subst, arith}
use Rattle.std.specs.Prelude.{◌==◌, ◌||◌}
use Rattle.std.proofs.lemmas.Bool.{cases_Bool, eqb-true, or_cases}
use Rattle.std.proofs.lemmas.Int.{ints}
use Rattle.std.proofs.lemmas.List.{length-take-le, take-append-drop, length-append, append_assoc}
use Rattle.pads_lex.specs.Bytes.{is_blank, is_letter, is_digit, is_word_byte, is_on_line}
use Rattle.pads_lex.specs.Runs.{run}
use Rattle.pads_lex.specs.Numbers.{number_limit, word_value, in_range}
use Rattle.pads_lex.specs.Words.{double_mark, single_mark}
use Rattle.pads_lex.specs.Literals.{literal_from}
use Rattle.pads_lex.specs.Gaps.{close_length, to_close, block_comment, behind_slash, comment}
use Rattle.pads_lex.specs.Spelling.{Spells, IsLongest, word_kind}
use Rattle.pads_lex.specs.Steps.{word_step, by_number, number_step, by_literal, literal_step, by_mark, single_step, mark_step, token_step, or_token, step_of}
use Rattle.pads_lex.specs.Cut.{opens_comment, IsGap, goes_on, IsGoodNumber, StandsAt}
use Rattle.pads_lex.specs.Cut.IsGap.{blank, line, block}
use Rattle.pads_lex.specs.declared.token.Mark.{Mark}
use Rattle.pads_lex.specs.declared.token.TokenKind.{TokenKind}
use Rattle.pads_lex.specs.declared.token.TokenKind.TheVariants as kind
use Rattle.pads_lex.specs.declared.fault.LexKind.TheVariants as fault
use Rattle.pads_lex.specs.declared.step.Step.{Step}
use Rattle.pads_lex.specs.declared.step.Step.TheVariants.{Gap, Stands, Fault}
use Rattle.pads_lex.proofs.ByteLemmas.{is_quote, quote_cases, letter_only, digit_only}
use Rattle.pads_lex.proofs.RunLemmas.{run_exact, stops_line}
use Rattle.pads_lex.proofs.CloseLemmas.{close_is}
use Rattle.pads_lex.proofs.SpelledLemmas.{Spelled, spelled, spells_some, both, quote_spells, spelled_no_blank, quote_no_blank}
use Rattle.pads_lex.proofs.SameLaws.{literal_closed, closed_stands, longest_same}
use Rattle.pads_lex.proofs.LongestLaws.{word_longest, word_run, number_longest, number_more, number_size_is, NoDouble, no_mark, single_longest, double_longest}
use Rattle.pads_lex.proofs.StepLaws.{Holds, comment_is}
use Rattle.pads_lex.proofs.NumberLemmas.{in_range_within}

-- where no comment begins, none is read
no_comment_read : (z : List ℕ) → opens_comment z ≡ false → comment z ≡ None
no_comment_read z none = go (comment_is z)
  where
    go : ((s : Step) × (comment z ≡ Some s) × Holds z s × (opens_comment z ≡ true)) ⊎ ((comment z ≡ None) × (opens_comment z ≡ false)) → comment z ≡ None
    go (inl found) = both (opens_comment z) found.3 none
    go (inr missing) = missing.0

pub step_token : (z : List ℕ) → opens_comment z ≡ false → step_of z ≡ token_step z
unfolding step_of
step_token z none = ap (λ o. or_token o (token_step z)) (no_comment_read z none)

-- the steps by the class of the first byte
step_blank : (b : ℕ) (after : List ℕ) → is_blank b ≡ true → token_step (b ∷ after) ≡ Gap 1
unfolding token_step
step_blank b after is = rw is refl

step_word : (b : ℕ) (after : List ℕ) → is_letter b ≡ true → token_step (b ∷ after) ≡ word_step (b ∷ after)
unfolding token_step
step_word b after is =
    let blank_no = (letter_only b is).0 in
    rw (blank_no, is) refl

pub step_number : (b : ℕ) (after : List ℕ) → is_digit b ≡ true → token_step (b ∷ after) ≡ number_step (b ∷ after)
unfolding token_step
step_number b after is =
    let blank_no = (digit_only b is).0 in
    let letter_no = (digit_only b is).1 in
    rw (blank_no, letter_no, is) refl

quote_class : (b : ℕ) → is_quote b ≡ true → (is_letter b ≡ false) × (is_digit b ≡ false)
quote_class b is = (go_letter (is_letter b) refl, go_digit (is_digit b) refl)
  where
    go_letter : (t : Bool) → is_letter b ≡ t → t ≡ false
    go_letter true letter = both (is_quote b) is (letter_only b letter).2
    go_letter false letter = refl

    go_digit : (t : Bool) → is_digit b ≡ t → t ≡ false
    go_digit true digit = both (is_quote b) is (digit_only b digit).2
    go_digit false digit = refl

pub step_quote : (b : ℕ) (after : List ℕ) → is_quote b ≡ true → token_step (b ∷ after) ≡ literal_step b after
unfolding token_step
step_quote b after is =
    let blank_no = quote_no_blank b (quote_cases b is) in
    let letter_no = (quote_class b is).0 in
    let digit_no = (quote_class b is).1 in
    rw (blank_no, letter_no, digit_no, is) refl

pub step_mark : (b : ℕ) (after : List ℕ) → is_blank b ≡ false → is_letter b ≡ false → is_digit b ≡ false → is_quote b ≡ false → token_step (b ∷ after) ≡ mark_step (b ∷ after)
unfolding token_step
step_mark b after blank_no letter_no digit_no quote_no = rw (blank_no, letter_no, digit_no, quote_no) refl

-- gaps
slash_no_blank : is_blank 0x2F ≡ false
unfolding is_blank
slash_no_blank = refl

pub no_slash : (b : ℕ) (after : List ℕ) → (b == 0x2F) ≡ false → opens_comment (b ∷ after) ≡ false
no_slash b [] is = refl
no_slash b (c ∷ after) is = rw is refl

blank_no_slash : (b : ℕ) → is_blank b ≡ true → (b == 0x2F) ≡ false
blank_no_slash b is = go (b == 0x2F) refl
  where
    go : (t : Bool) → (b == 0x2F) ≡ t → t ≡ false
    go true e = both (is_blank b) is (ap is_blank (eqb-true b 0x2F e) ∙ slash_no_blank)
    go false e = refl

pub step_comment : (z : List ℕ) (s : Step) → comment z ≡ Some s → step_of z ≡ s
unfolding step_of
step_comment z s e = ap (λ o. or_token o (token_step z)) e

line_read : (second : ℕ) (body : List ℕ) → (second == 0x2F || second == 0x2D) ≡ true → comment (0x2F ∷ second ∷ body) ≡ Some (Gap (run is_on_line body + 2))
unfolding comment
line_read second body is = go (or_cases _ _ is)
  where
    go : ((second == 0x2F) ≡ true) ⊎ ((second == 0x2D) ≡ true) → behind_slash second body ≡ Some (Gap (run is_on_line body + 2))
    go (inl e) = ap (λ s. behind_slash s body) (eqb-true second 0x2F e)
    go (inr e) = ap (λ s. behind_slash s body) (eqb-true second 0x2D e)

pub block_read : (body : List ℕ) → comment (0x2F ∷ 0x2A ∷ body) ≡ Some (to_close (close_length body))
unfolding comment block_comment
block_read body = refl

pub gap_reads : (z : List ℕ) (n : ℕ) → IsGap z n → step_of z ≡ Gap n
gap_reads z n (blank b rest split is size) =
    ap step_of split ∙ step_token (b ∷ rest) (no_slash b rest (blank_no_slash b is)) ∙ step_blank b rest is ∙ ap Gap (sym size)
gap_reads z n (line second body rest split is all ends size) =
    ap step_of split ∙ step_comment _ _ (line_read second (body ++ rest) is) ∙ ap (λ r. Gap (r + 2)) (run_exact is_on_line body rest all (stops_line rest ends)) ∙ ap Gap (sym size)
gap_reads z n (block body rest split next size) =
    let total : length body + 2 + 2 ≡ n = omega (arith, size) in
    ap step_of split ∙ step_comment _ _ (block_read (body ++ 0x2A ∷ 0x2F ∷ rest)) ∙ ap to_close (close_is body rest next) ∙ ap Gap total

-- tokens
word_step_is : (b : ℕ) (after : List ℕ) → is_letter b ≡ true → word_step (b ∷ after) ≡ Stands (suc (run is_word_byte after)) (word_kind (b ∷ take (run is_word_byte after) after))
unfolding word_step
word_step_is b after letter = ap (λ n. Stands n (word_kind (take n (b ∷ after)))) (word_run b after letter)

same_stands : (n m : ℕ) (k l : TokenKind) → (n ≡ m) × (k ≡ l) → Stands n k ≡ Stands m l
same_stands n m k l (size, token) = ap (λ s. Stands s k) size ∙ ap (Stands m) token

word_reads : (b : ℕ) (after : List ℕ) (n : ℕ) (k : TokenKind) → is_letter b ≡ true → StandsAt (b ∷ after) n k → token_step (b ∷ after) ≡ Stands n k
word_reads b after n k letter stands =
    step_word b after letter ∙ word_step_is b after letter ∙ same_stands _ n _ k (longest_same (b ∷ after) _ n _ k (word_longest b after letter) stands.longest)

from_pos : (m n : ℕ) → pos m ≤ℤ pos n → m ≤ n
from_pos m n h = omega (arith, ints)

-- the step of a number, by its longest word
pub number_step_is : (b : ℕ) (after : List ℕ) → is_digit b ≡ true → number_step (b ∷ after) ≡ cond (goes_on (drop (suc (number_more b after)) (b ∷ after))) (Fault fault.BadNumber 0) (by_number (suc (number_more b after)) (in_range (word_value (b ∷ take (number_more b after) after))))
unfolding number_step
number_step_is b after digit = ap (λ n. cond (goes_on (drop n (b ∷ after))) (Fault fault.BadNumber 0) (by_number n (in_range (word_value (take n (b ∷ after)))))) (number_size_is b after digit)

number_reads : (b : ℕ) (after : List ℕ) (n : ℕ) (k : TokenKind) → is_digit b ≡ true → StandsAt (b ∷ after) n k → token_step (b ∷ after) ≡ Stands n k
number_reads b after n k digit stands =
    step_number b after digit ∙ number_step_is b after digit ∙ ap (λ t. cond t (Fault fault.BadNumber 0) (by_number size (in_range value))) alone ∙ ap (by_number size) (in_range_within value (from_pos value number_limit good.in_range)) ∙ same_stands size n (kind.Number (pos value)) k same
  where
    size : ℕ
    size = suc (number_more b after)

    value : ℕ
    value = word_value (b ∷ take (number_more b after) after)

    same : (size ≡ n) × (kind.Number (pos value) ≡ k)
    same = longest_same (b ∷ after) size n (kind.Number (pos value)) k (number_longest b after digit) stands.longest

    good : IsGoodNumber (pos value) (drop n (b ∷ after))
    good = stands.numbers (pos value) (sym same.1)

    alone : goes_on (drop size (b ∷ after)) ≡ false
    alone = ap (λ m. goes_on (drop m (b ∷ after))) same.0 ∙ good.alone

-- the bytes and the size that a word is taken at
literal_reads_at : (b : ℕ) (after : List ℕ) (m : ℕ) (k : TokenKind) → is_quote b ≡ true → m ≤ length after → Spelled b (take m after) k → token_step (b ∷ after) ≡ Stands (suc m) k
unfolding literal_step
literal_reads_at b after m k quote fits word =
    let (bytes, points, whole, are, is) = quote_spells b (take m after) k quote word in
    let all : after ≡ bytes ++ b ∷ drop m after = sym (take-append-drop m after) ∙ ap (λ w. w ++ drop m after) whole ∙ append_assoc bytes (b ∷ []) (drop m after) in
    let closed = literal_closed b bytes points (drop m after) quote are in
    let taken = length-take-le m after fits in
    let size : length bytes + 1 + 1 ≡ suc m = omega (arith, ap length whole, length-append bytes (b ∷ []), taken) in
    step_quote b after quote ∙ ap (by_literal b) (ap (literal_from b 0 0 []) all ∙ closed) ∙ closed_stands b (length bytes + 1 + 1) points k is ∙ ap (λ n. Stands n k) size

mark_reads : (a : ℕ) (after : List ℕ) (n : ℕ) (k : TokenKind) → is_blank a ≡ false → is_letter a ≡ false → is_digit a ≡ false → is_quote a ≡ false → IsLongest (a ∷ after) n k → mark_step (a ∷ after) ≡ Stands n k
unfolding mark_step single_step
mark_reads a after n k blank_no letter digit quote longest = by_after after refl
  where
    by_single : NoDouble a after → (o : Option Mark) → single_mark a ≡ o → by_mark 1 o (Fault fault.BadByte 0) ≡ Stands n k
    by_single none None e = absurd (no_mark a after letter digit quote none e n k longest.within longest.spells)
    by_single none (Some other) e = same_stands 1 n (kind.Mark other) k (longest_same (a ∷ after) 1 n (kind.Mark other) k (single_longest a after other letter digit quote none e) longest)

    by_double : (c : ℕ) (z : List ℕ) → after ≡ c ∷ z → (o : Option Mark) → double_mark a c ≡ o → by_mark 2 o (by_mark 1 (single_mark a) (Fault fault.BadByte 0)) ≡ Stands n k
    by_double c z is None e = by_single (subst (NoDouble a) (sym is) e) (single_mark a) refl
    by_double c z is (Some other) e = same_stands 2 n (kind.Mark other) k (longest_same (a ∷ c ∷ z) 2 n (kind.Mark other) k (double_longest a c z other letter digit quote e) (subst (λ l. IsLongest (a ∷ l) n k) is longest))

    by_after : (l : List ℕ) → after ≡ l → mark_step (a ∷ l) ≡ Stands n k
    by_after [] is = by_single (subst (NoDouble a) (sym is) tt) (single_mark a) refl
    by_after (c ∷ z) is = by_double c z is (double_mark a c) refl

token_reads : (b : ℕ) (after : List ℕ) (n : ℕ) (k : TokenKind) → StandsAt (b ∷ after) n k → token_step (b ∷ after) ≡ Stands n k
token_reads b after zero k stands = absurd (spells_some k stands.longest.spells)
token_reads b after (suc m) k stands = by_letter (cases_Bool (is_letter b))
  where
    word : Spelled b (take m after) k
    word = spelled b (take m after) k stands.longest.spells

    fits : m ≤ length after
    fits = omega (arith, stands.longest.within)

    by_quote : is_letter b ≡ false → is_digit b ≡ false → (is_quote b ≡ true) ⊎ (is_quote b ≡ false) → token_step (b ∷ after) ≡ Stands (suc m) k
    by_quote letter digit (inl quote) = literal_reads_at b after m k quote fits word
    by_quote letter digit (inr quote) =
        let blank_no = spelled_no_blank b (take m after) k word in
        step_mark b after blank_no letter digit quote ∙ mark_reads b after (suc m) k blank_no letter digit quote stands.longest

    by_digit : is_letter b ≡ false → (is_digit b ≡ true) ⊎ (is_digit b ≡ false) → token_step (b ∷ after) ≡ Stands (suc m) k
    by_digit letter (inl digit) = number_reads b after (suc m) k digit stands
    by_digit letter (inr digit) = by_quote letter digit (cases_Bool (is_quote b))

    by_letter : (is_letter b ≡ true) ⊎ (is_letter b ≡ false) → token_step (b ∷ after) ≡ Stands (suc m) k
    by_letter (inl letter) = word_reads b after (suc m) k letter stands
    by_letter (inr letter) = by_digit letter (cases_Bool (is_digit b))

pub taken_nothing : (n : ℕ) → take {A = ℕ} n [] ≡ []
taken_nothing zero = refl
taken_nothing (suc n) = refl

pub stands_reads : (z : List ℕ) (n : ℕ) (k : TokenKind) → StandsAt z n k → step_of z ≡ Stands n k
stands_reads [] n k stands = absurd (spells_some k (subst (λ w. Spells w k) (taken_nothing n) stands.longest.spells))
stands_reads (b ∷ after) n k stands = step_token (b ∷ after) stands.no_comment ∙ token_reads b after n k stands
