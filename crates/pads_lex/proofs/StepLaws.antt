-- What is read at the front of a text stands there by the rules.
use Rattle.std.proofs.Common.{◌≡◌, ℕ, suc, ◌+◌, ◌<◌, ◌≤◌, Bool, true, false, cond, List, [], ◌∷◌, ◌++◌, length, take, drop, Option, Some, None, pos, ◌≤ℤ◌, ◌⊎◌, inl, inr, sym, refl, ap, ◌∙◌, subst, arith}
use Rattle.std.specs.Prelude.{◌==◌, ◌&&◌, ◌||◌, nat_le}
use Rattle.std.proofs.lemmas.Bool.{or_left as or_from, or_right, eqb-true, leb-true, leb-false}
use Rattle.std.proofs.lemmas.Int.{ints}
use Rattle.std.proofs.lemmas.List.{length-take-le, take-append-drop}
use Rattle.pads_lex.specs.Bytes.{is_blank, is_letter, is_digit, is_on_line}
use Rattle.pads_lex.specs.Runs.{run}
use Rattle.pads_lex.specs.Numbers.{number_limit, word_value, in_range}
use Rattle.pads_lex.specs.Words.{double_mark, single_mark}
use Rattle.pads_lex.specs.Literals.{literal_from}
use Rattle.pads_lex.specs.Gaps.{close_length, to_close, block_comment, behind_slash, comment}
use Rattle.pads_lex.specs.Spelling.{AreCharacters, IsLongest, word_kind}
use Rattle.pads_lex.specs.Steps.{word_step, by_number, number_step, closed_step, one_point, by_literal, literal_step, by_mark, single_step, mark_step, token_step, or_token, step_of}
use Rattle.pads_lex.specs.Cut.{opens_comment, IsGap, goes_on, IsGoodNumber, StandsAt, IsLiteral, IsFault}
use Rattle.pads_lex.specs.Cut.IsGap.{blank, line, block}
use Rattle.pads_lex.specs.Cut.IsFault.{no_token, no_character, bad_number, wide_number, open_text, bad_char, bad_escape, open_comment}
use Rattle.pads_lex.specs.declared.token.Mark.{Mark}
use Rattle.pads_lex.specs.declared.token.TokenKind.{TokenKind}
use Rattle.pads_lex.specs.declared.token.TokenKind.TheVariants as kind
use Rattle.pads_lex.specs.declared.fault.LexKind.{LexKind}
use Rattle.pads_lex.specs.declared.fault.LexKind.TheVariants as fault
use Rattle.pads_lex.specs.declared.literal.Literal.{Literal}
use Rattle.pads_lex.specs.declared.literal.Literal.TheVariants as literal_is
use Rattle.pads_lex.specs.declared.step.Step.{Step}
use Rattle.pads_lex.specs.declared.step.Step.TheVariants.{Gap, Stands, Fault}
use Rattle.pads_lex.proofs.ByteLemmas.{is_quote, quote_cases}
use Rattle.pads_lex.proofs.RunLemmas.{run_all, run_stops, run_within, ends_line}
use Rattle.pads_lex.proofs.CloseLemmas.{close_some, close_none}
use Rattle.pads_lex.proofs.SpelledLemmas.{IsLiteralKind}
use Rattle.pads_lex.proofs.SpelledLemmas.IsLiteralKind.{one_character, characters}
use Rattle.pads_lex.proofs.LiteralLaws.{Parses, literal_parses, IsFaulty, fault_at_front}
use Rattle.pads_lex.proofs.LiteralLaws.IsFaulty.{no_byte, no_escape}
use Rattle.pads_lex.proofs.SameLaws.{quote_no_escape, word_no_number, no_number, literal_longest, literal_no_number}
use Rattle.pads_lex.proofs.LongestLaws.{word_longest, word_run, number_longest, number_more, number_size_is, NoDouble, no_mark, single_longest, double_longest}

-- what a step says, by the rules
abbrev pub Holds : List ℕ → Step → Type 0
Holds z (Gap size) = IsGap z size
Holds z (Stands size token) = StandsAt z size token
Holds z (Fault kind offset) = IsFault z kind offset

-- comments
block_holds : (body : List ℕ) → Holds (0x2F ∷ 0x2A ∷ body) (block_comment body)
unfolding block_comment
block_holds body = go (close_length body) refl
  where
    go : (o : Option ℕ) → close_length body ≡ o → Holds (0x2F ∷ 0x2A ∷ body) (to_close o)
    go None e = open_comment body refl (close_none body e)
    go (Some n) e =
        let found = close_some body n e in
        block found.body found.rest (ap (λ l. 0x2F ∷ 0x2A ∷ l) found.split) found.next (omega (arith, found.size_is))

line_holds : (second : ℕ) (body : List ℕ) → (second == 0x2F || second == 0x2D) ≡ true → IsGap (0x2F ∷ second ∷ body) (run is_on_line body + 2)
line_holds second body is =
    let split : body ≡ take (run is_on_line body) body ++ drop (run is_on_line body) body = sym (take-append-drop (run is_on_line body) body) in
    let size = length-take-le (run is_on_line body) body (run_within is_on_line body) in
    line second (take (run is_on_line body) body) (drop (run is_on_line body) body) (ap (λ l. 0x2F ∷ second ∷ l) split) is (run_all is_on_line body) (ends_line _ (run_stops is_on_line body)) (ap (λ n. n + 2) (sym size))

behind_is : (b : ℕ) (body : List ℕ) → ((s : Step) × (behind_slash b body ≡ Some s) × Holds (0x2F ∷ b ∷ body) s × ((b == 0x2A || b == 0x2F || b == 0x2D) ≡ true)) ⊎ ((behind_slash b body ≡ None) × ((b == 0x2A || b == 0x2F || b == 0x2D) ≡ false))
behind_is b body = go (b == 0x2A) (b == 0x2F) (b == 0x2D) refl refl refl
  where
    go : (star slash dash : Bool) → (b == 0x2A) ≡ star → (b == 0x2F) ≡ slash → (b == 0x2D) ≡ dash → ((s : Step) × (cond star (Some (block_comment body)) (cond slash (Some (Gap (run is_on_line body + 2))) (cond dash (Some (Gap (run is_on_line body + 2))) None)) ≡ Some s) × Holds (0x2F ∷ b ∷ body) s × ((star || slash || dash) ≡ true)) ⊎ ((cond star (Some (block_comment body)) (cond slash (Some (Gap (run is_on_line body + 2))) (cond dash (Some (Gap (run is_on_line body + 2))) None)) ≡ None) × ((star || slash || dash) ≡ false))
    go true slash dash star_is slash_is dash_is =
        inl (block_comment body, refl, subst (λ x. Holds (0x2F ∷ x ∷ body) (block_comment body)) (sym (eqb-true b 0x2A star_is)) (block_holds body), refl)
    go false true dash star_is slash_is dash_is =
        inl (Gap (run is_on_line body + 2), refl, line_holds b body (or_from (b == 0x2F) (b == 0x2D) slash_is), refl)
    go false false true star_is slash_is dash_is =
        inl (Gap (run is_on_line body + 2), refl, line_holds b body (or_right (b == 0x2F) (b == 0x2D) dash_is), refl)
    go false false false star_is slash_is dash_is = inr (refl, refl)

-- a comment that is read stands there, and where none is read none begins
pub comment_is : (z : List ℕ) → ((s : Step) × (comment z ≡ Some s) × Holds z s × (opens_comment z ≡ true)) ⊎ ((comment z ≡ None) × (opens_comment z ≡ false))
unfolding comment
comment_is [] = inr (refl, refl)
comment_is (a ∷ []) = inr (refl, refl)
comment_is (a ∷ b ∷ body) = by_slash (a == 0x2F) refl (behind_is b body)
  where
    by_slash : (slash : Bool) → (a == 0x2F) ≡ slash → ((s : Step) × (behind_slash b body ≡ Some s) × Holds (0x2F ∷ b ∷ body) s × ((b == 0x2A || b == 0x2F || b == 0x2D) ≡ true)) ⊎ ((behind_slash b body ≡ None) × ((b == 0x2A || b == 0x2F || b == 0x2D) ≡ false)) → ((s : Step) × (cond slash (behind_slash b body) None ≡ Some s) × Holds (a ∷ b ∷ body) s × ((slash && (b == 0x2A || b == 0x2F || b == 0x2D)) ≡ true)) ⊎ ((cond slash (behind_slash b body) None ≡ None) × ((slash && (b == 0x2A || b == 0x2F || b == 0x2D)) ≡ false))
    by_slash true is (inl found) = inl (found.0, found.1, subst (λ x. Holds (x ∷ b ∷ body) found.0) (sym (eqb-true a 0x2F is)) found.2, found.3)
    by_slash true is (inr none) = inr none
    by_slash false is _ = inr (refl, refl)

-- the steps that are read where no comment begins
word_holds : (b : ℕ) (after : List ℕ) → opens_comment (b ∷ after) ≡ false → is_letter b ≡ true → Holds (b ∷ after) (word_step (b ∷ after))
unfolding word_step
word_holds b after none letter =
    let size = word_run b after letter in
    subst (λ n. StandsAt (b ∷ after) n (word_kind (take n (b ∷ after)))) (sym size) (record {
      no_comment = none;
      longest = word_longest b after letter;
      numbers = λ number is. no_number _ number (word_no_number _) is;
    })

le_pos : (m n : ℕ) → m ≤ n → pos m ≤ℤ pos n
le_pos m n h = omega (arith, ints)

-- a number in range, as a token's
in_range_is : (n : ℕ) → ((in_range n ≡ Some (pos n)) × (n ≤ number_limit)) ⊎ ((in_range n ≡ None) × (number_limit < n))
unfolding in_range
in_range_is n = go (nat_le n number_limit) refl
  where
    go : (t : Bool) → nat_le n number_limit ≡ t → ((cond t (Some (pos n)) None ≡ Some (pos n)) × (n ≤ number_limit)) ⊎ ((cond t (Some (pos n)) None ≡ None) × (number_limit < n))
    go true is = inl (refl, leb-true _ _ is)
    go false is = inr (refl, leb-false _ _ is)

number_holds : (b : ℕ) (after : List ℕ) → opens_comment (b ∷ after) ≡ false → is_digit b ≡ true → Holds (b ∷ after) (number_step (b ∷ after))
unfolding number_step
number_holds b after none digit =
    subst (λ n. Holds (b ∷ after) (cond (goes_on (drop n (b ∷ after))) (Fault fault.BadNumber 0) (by_number n (in_range (word_value (take n (b ∷ after))))))) (sym (number_size_is b after digit)) (go (goes_on (drop size (b ∷ after))) refl)
  where
    size : ℕ
    size = suc (number_more b after)

    word : List ℕ
    word = b ∷ take (number_more b after) after

    longest : IsLongest (b ∷ after) size (kind.Number (pos (word_value word)))
    longest = number_longest b after digit

    by_range : goes_on (drop size (b ∷ after)) ≡ false → ((in_range (word_value word) ≡ Some (pos (word_value word))) × (word_value word ≤ number_limit)) ⊎ ((in_range (word_value word) ≡ None) × (number_limit < word_value word)) → Holds (b ∷ after) (by_number size (in_range (word_value word)))
    by_range alone (inl fits) = subst (λ o. Holds (b ∷ after) (by_number size o)) (sym fits.0) (record { no_comment = none; longest = longest; numbers = λ number is. let same : pos (word_value word) ≡ number = cc in subst (λ n. IsGoodNumber n (drop size (b ∷ after))) same (record { in_range = le_pos (word_value word) number_limit fits.1; alone = alone }) })
    by_range alone (inr wide) = subst (λ o. Holds (b ∷ after) (by_number size o)) (sym wide.0) (wide_number size (word_value word) longest alone wide.1)

    go : (t : Bool) → goes_on (drop size (b ∷ after)) ≡ t → Holds (b ∷ after) (cond t (Fault fault.BadNumber 0) (by_number size (in_range (word_value word))))
    go true is = bad_number size (pos (word_value word)) longest is
    go false is = by_range is (in_range_is (word_value word))

-- literals
one_point_holds : (z : List ℕ) (body points rest : List ℕ) (size : ℕ) → IsLiteral 0x27 z body points (0x27 ∷ rest) → ((point : ℕ) → points ≡ point ∷ [] → StandsAt z size (kind.Char point)) → Holds z (one_point size points)
one_point_holds z body [] rest size literal stands = bad_char body [] rest literal (λ e. absurd (omega arith))
one_point_holds z body (point ∷ []) rest size literal stands = stands point refl
one_point_holds z body (point ∷ other ∷ points) rest size literal stands = bad_char body (point ∷ other ∷ points) rest literal (λ e. absurd (omega arith))

literal_stands : (b : ℕ) (bytes points rest : List ℕ) (k : TokenKind) → opens_comment (b ∷ (bytes ++ b ∷ rest)) ≡ false → is_quote b ≡ true → AreCharacters b bytes points → IsLiteralKind b points k → StandsAt (b ∷ (bytes ++ b ∷ rest)) (suc (length bytes + 1)) k
literal_stands b bytes points rest k none quote are is = record {
  no_comment = none;
  longest = literal_longest b bytes points rest k quote are is;
  numbers = λ number token. no_number k number (literal_no_number b points k is) token;
}

closed_holds : (b : ℕ) (bytes points rest : List ℕ) → opens_comment (b ∷ (bytes ++ b ∷ rest)) ≡ false → is_quote b ≡ true → AreCharacters b bytes points → Holds (b ∷ (bytes ++ b ∷ rest)) (closed_step b (suc (length bytes + 1)) points)
unfolding closed_step
closed_holds b bytes points rest none quote are = go (quote_cases b quote)
  where
    z : List ℕ
    z = b ∷ (bytes ++ b ∷ rest)

    go : (b ≡ 0x27) ⊎ (b ≡ 0x22) → Holds z (cond (b == 0x22) (Stands (suc (length bytes + 1)) (kind.Text points)) (one_point (suc (length bytes + 1)) points))
    go (inl single) =
        let literal : IsLiteral 0x27 z bytes points (0x27 ∷ rest) = record { is_quote = refl; split = ap (λ q. q ∷ (bytes ++ q ∷ rest)) single; characters = subst (λ q. AreCharacters q bytes points) single are } in
        let test : (b == 0x22) ≡ false = ap (λ q. q == 0x22) single in
        subst (λ t. Holds z (cond t (Stands (suc (length bytes + 1)) (kind.Text points)) (one_point (suc (length bytes + 1)) points))) (sym test)
        (one_point_holds z bytes points rest (suc (length bytes + 1)) literal (λ point one. literal_stands b bytes points rest (kind.Char point) none quote are (one_character point single one refl)))
    go (inr double) =
        let test : (b == 0x22) ≡ true = ap (λ q. q == 0x22) double in
        subst (λ t. Holds z (cond t (Stands (suc (length bytes + 1)) (kind.Text points)) (one_point (suc (length bytes + 1)) points))) (sym test)
        (literal_stands b bytes points rest (kind.Text points) none quote are (characters double refl))

-- a literal that breaks the rules
faulty_holds : (b : ℕ) (body points rest : List ℕ) (z : List ℕ) (kind : LexKind) (place : ℕ) → IsLiteral b z body points rest → place ≡ length body + 1 → IsFaulty b rest kind → IsFault z kind place
faulty_holds b body points rest z kind place literal place_is (no_byte byte more kind_is split a c d printed) =
    subst (λ n. IsFault z kind n) (sym place_is) (subst (λ k. IsFault z k (length body + 1)) (sym kind_is) (no_character b byte body points more (subst (IsLiteral b z body points) split literal) a c d printed))
faulty_holds b body points rest z kind place literal place_is (no_escape more kind_is split none) =
    subst (λ n. IsFault z kind n) (sym place_is) (subst (λ k. IsFault z k (length body + 1)) (sym kind_is) (bad_escape b body points more (subst (IsLiteral b z body points) split literal) none))

literal_holds : (b : ℕ) (after : List ℕ) → opens_comment (b ∷ after) ≡ false → is_quote b ≡ true → Holds (b ∷ after) (literal_step b after)
unfolding literal_step
literal_holds b after none quote =
    go (literal_from b 0 0 [] after) (literal_parses (length after) b 0 [] after (literal_from b 0 0 [] after) (omega arith) refl)
  where
    literal_of : (body points rest : List ℕ) → after ≡ body ++ rest → AreCharacters b body points → IsLiteral b (b ∷ after) body points rest
    literal_of body points rest split are = record { is_quote = quote; split = ap (λ l. b ∷ l) split; characters = are }

    go : (found : Literal) → Parses b 0 [] after found → Holds (b ∷ after) (by_literal b found)
    go (literal_is.Closed size all) parsed =
        let (all_is, size_is, tail) = parsed.behind in
        let (more, rest_is) = tail in
        let whole : after ≡ parsed.body ++ b ∷ more = parsed.split ∙ ap (λ r. parsed.body ++ r) rest_is in
        let none' = ap (λ l. opens_comment (b ∷ l)) (sym whole) ∙ none in
        let size_all : suc (length parsed.body + 1) ≡ size + 1 = omega (arith, size_is) in
        subst (λ l. Holds (b ∷ l) (closed_step b (size + 1) all)) (sym whole)
        (subst (λ ps. Holds (b ∷ (parsed.body ++ b ∷ more)) (closed_step b (size + 1) ps)) (sym all_is)
        (subst (λ n. Holds (b ∷ (parsed.body ++ b ∷ more)) (closed_step b n parsed.points)) size_all
        (closed_holds b parsed.body parsed.points more none' quote parsed.characters)))
    go literal_is.Open parsed = open_text b parsed.body parsed.points parsed.rest (literal_of parsed.body parsed.points parsed.rest parsed.split parsed.characters) parsed.behind
    go (literal_is.Fault kind at) parsed =
        faulty_holds b parsed.body parsed.points parsed.rest (b ∷ after) kind (at + 1) (literal_of parsed.body parsed.points parsed.rest parsed.split parsed.characters) (omega (arith, parsed.behind.0)) (fault_at_front b parsed.rest kind (quote_no_escape b quote) parsed.behind.1)

-- marks
marks_stand : (z : List ℕ) (n : ℕ) (k : Mark) → opens_comment z ≡ false → IsLongest z n (kind.Mark k) → StandsAt z n (kind.Mark k)
marks_stand z n k none longest = record { no_comment = none; longest = longest; numbers = λ number token. no_number (kind.Mark k) number refl token }

single_holds : (a : ℕ) (after : List ℕ) → opens_comment (a ∷ after) ≡ false → is_blank a ≡ false → is_letter a ≡ false → is_digit a ≡ false → is_quote a ≡ false → NoDouble a after → Holds (a ∷ after) (single_step a)
unfolding single_step
single_holds a after none blank_no letter digit quote double = go (single_mark a) refl
  where
    go : (o : Option Mark) → single_mark a ≡ o → Holds (a ∷ after) (by_mark 1 o (Fault fault.BadByte 0))
    go None e = no_token a after refl blank_no quote (no_mark a after letter digit quote double e)
    go (Some k) e = marks_stand (a ∷ after) 1 k none (single_longest a after k letter digit quote double e)

mark_holds : (a : ℕ) (after : List ℕ) → opens_comment (a ∷ after) ≡ false → is_blank a ≡ false → is_letter a ≡ false → is_digit a ≡ false → is_quote a ≡ false → Holds (a ∷ after) (mark_step (a ∷ after))
unfolding mark_step
mark_holds a [] none blank_no letter digit quote = single_holds a [] none blank_no letter digit quote tt
mark_holds a (b ∷ z) none blank_no letter digit quote = go (double_mark a b) refl
  where
    go : (o : Option Mark) → double_mark a b ≡ o → Holds (a ∷ b ∷ z) (by_mark 2 o (single_step a))
    go None e = single_holds a (b ∷ z) none blank_no letter digit quote e
    go (Some k) e = marks_stand (a ∷ b ∷ z) 2 k none (double_longest a b z k letter digit quote e)

token_holds : (b : ℕ) (after : List ℕ) → opens_comment (b ∷ after) ≡ false → Holds (b ∷ after) (token_step (b ∷ after))
unfolding token_step
token_holds b after none = by_blank (is_blank b) refl
  where
    by_quote : is_blank b ≡ false → is_letter b ≡ false → is_digit b ≡ false → (t : Bool) → is_quote b ≡ t → Holds (b ∷ after) (cond t (literal_step b after) (mark_step (b ∷ after)))
    by_quote blank_no letter_no digit_no true is = literal_holds b after none is
    by_quote blank_no letter_no digit_no false is = mark_holds b after none blank_no letter_no digit_no is

    by_digit : is_blank b ≡ false → is_letter b ≡ false → (t : Bool) → is_digit b ≡ t → Holds (b ∷ after) (cond t (number_step (b ∷ after)) (cond (is_quote b) (literal_step b after) (mark_step (b ∷ after))))
    by_digit blank_no letter_no true is = number_holds b after none is
    by_digit blank_no letter_no false is = by_quote blank_no letter_no is (is_quote b) refl

    by_letter : is_blank b ≡ false → (t : Bool) → is_letter b ≡ t → Holds (b ∷ after) (cond t (word_step (b ∷ after)) (cond (is_digit b) (number_step (b ∷ after)) (cond (is_quote b) (literal_step b after) (mark_step (b ∷ after)))))
    by_letter blank_no true is = word_holds b after none is
    by_letter blank_no false is = by_digit blank_no is (is_digit b) refl

    by_blank : (t : Bool) → is_blank b ≡ t → Holds (b ∷ after) (cond t (Gap 1) (cond (is_letter b) (word_step (b ∷ after)) (cond (is_digit b) (number_step (b ∷ after)) (cond (is_quote b) (literal_step b after) (mark_step (b ∷ after))))))
    by_blank true is = blank b after refl is refl
    by_blank false is = by_letter is (is_letter b) refl

-- what is read at the front stands there
pub step_holds : (b : ℕ) (after : List ℕ) → Holds (b ∷ after) (step_of (b ∷ after))
unfolding step_of
step_holds b after = go (comment_is (b ∷ after))
  where
    go : ((s : Step) × (comment (b ∷ after) ≡ Some s) × Holds (b ∷ after) s × (opens_comment (b ∷ after) ≡ true)) ⊎ ((comment (b ∷ after) ≡ None) × (opens_comment (b ∷ after) ≡ false)) → Holds (b ∷ after) (or_token (comment (b ∷ after)) (token_step (b ∷ after)))
    go (inl found) = subst (λ o. Holds (b ∷ after) (or_token o (token_step (b ∷ after)))) (sym found.1) found.2
    go (inr none) = subst (λ o. Holds (b ∷ after) (or_token o (token_step (b ∷ after)))) (sym none.0) (token_holds b after none.1)
