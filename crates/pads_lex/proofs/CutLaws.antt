-- What is read of a whole text is what the rules say, both ways.
use Rattle.std.proofs.Common.{◌≡◌, ℕ, zero, suc, ◌+◌, ◌<◌, ◌≤◌, List, [], ◌∷◌, ◌++◌, length, take, drop, Result, Ok, Err, ◌⊎◌, inl, inr, ℤ, pos, ◌≤ℤ◌, sym, refl, ap, ◌∙◌, subst, arith}
use Rattle.std.specs.Prelude.{IfOk}
use Rattle.std.proofs.lemmas.Int.{ints}
use Rattle.std.proofs.lemmas.List.{length-drop, append_assoc}
use Rattle.pads_lex.specs.Steps.{step_of}
use Rattle.pads_lex.specs.Spelling.{Spells}
use Rattle.pads_lex.specs.Numbers.{value}
use Rattle.pads_lex.specs.Cut.{token_of, IsGap, StandsAt, IsFault, IsLiteral, IsCut, BreaksAt}
use Rattle.pads_lex.specs.Cut.IsCut.{ends, passes as cut_passes, stands as cut_stands}
use Rattle.pads_lex.specs.Cut.BreaksAt.{here, passes as breaks_passes, stands as breaks_stands}
use Rattle.pads_lex.specs.Spelling.Spells.{name, zero as zero_word, decimal, hexadecimal, char, text, mark}
use Rattle.pads_lex.specs.Answers.{EndsLast, HasNoNegative}
use Rattle.pads_value.specs.Refusals.{Gives, OnFault}
use Rattle.pads_value.specs.declared.memory.Refusal.{Refusal}
use Rattle.pads_value.specs.declared.memory.Refusal.TheVariants as refusal
use Rattle.pads_lex.proofs.SameLaws.{is_number, no_number, word_no_number}
use Rattle.pads_lex.specs.Reading.{tokens_from}
use Rattle.pads_lex.specs.declared.token.Token.{Token}
use Rattle.pads_lex.specs.declared.token.TokenKind.{TokenKind}
use Rattle.pads_lex.specs.declared.token.TokenKind.TheVariants as kind
use Rattle.pads_lex.specs.declared.fault.LexKind.{LexKind}
use Rattle.pads_lex.specs.declared.fault.LexFault.{LexFault}
use Rattle.pads_lex.specs.declared.step.Step.{Step}
use Rattle.pads_lex.specs.declared.step.Step.TheVariants.{Gap, Stands, Fault}
use Rattle.pads_lex.proofs.StepLaws.{Holds, step_holds}
use Rattle.pads_lex.proofs.ReadLaws.{gap_reads, stands_reads}
use Rattle.pads_lex.proofs.FaultLaws.{fault_reads, number_first}
use Rattle.pads_lex.specs.Cut.IsFault.{no_token, no_character, bad_number, wide_number, open_text, bad_char, bad_escape, open_comment}
use Rattle.pads_lex.proofs.TokensLemmas.{gap_within, stands_within, tokens_at_end, tokens_read, after_step, some_read}

-- the rest of a text, by what is read of it
abbrev pub IsRead : ℕ → List Token → List ℕ → Result (List Token) LexFault → Type 0
IsRead at front z (Ok tokens) = (more : List Token) × (tokens ≡ front ++ more) × IsCut at z more
IsRead at front z (Err fault) = BreaksAt at z fault.kind fault.at

read_gap : (at size : ℕ) (front : List Token) (z : List ℕ) (answer : Result (List Token) LexFault) → IsGap z size → IsRead (at + size) front (drop size z) answer → IsRead at front z answer
read_gap at size front z (Ok tokens) gap (more, is, cut) = (more, is, cut_passes size gap cut)
read_gap at size front z (Err fault) gap breaks = breaks_passes size gap breaks

read_token : (at size : ℕ) (token : TokenKind) (front : List Token) (z : List ℕ) (answer : Result (List Token) LexFault) → StandsAt z size token → IsRead (at + size) (front ++ token_of token at (at + size) ∷ []) (drop size z) answer → IsRead at front z answer
read_token at size token front z (Ok tokens) stands (more, is, cut) =
    (token_of token at (at + size) ∷ more, is ∙ append_assoc front (token_of token at (at + size) ∷ []) more, cut_stands size token stands cut)
read_token at size token front z (Err fault) stands breaks = breaks_stands size token stands breaks

-- a text that is read is cut so, or breaks there
read_by : (at : ℕ) (front : List Token) (z : List ℕ) (s : Step) → Holds z s → ((size : ℕ) (more : List Token) → 0 < size → size ≤ length z → IsRead (at + size) more (drop size z) (tokens_from 0 (at + size) more (drop size z))) → IsRead at front z (after_step at front z s)
read_by at front z (Gap size) gap more =
    let within = gap_within z size gap in
    read_gap at size front z _ gap (more size front within.0 within.1)
read_by at front z (Stands size token) stands more =
    let within = stands_within z size token stands in
    read_token at size token front z _ stands (more size (front ++ token_of token at (at + size) ∷ []) within.0 within.1)
read_by at front z (Fault kind offset) fault more = here offset fault

read_text : (fuel at : ℕ) (front : List Token) (z : List ℕ) → length z ≤ fuel → IsRead at front z (tokens_from 0 at front z)
read_text fuel at front [] fits = subst (IsRead at front []) (sym (tokens_at_end at front)) (token_of kind.End at at ∷ [], refl, ends)
read_text zero at front (b ∷ z) fits = absurd (omega arith)
read_text (suc fuel) at front (b ∷ z) fits =
    subst (IsRead at front (b ∷ z)) (sym (tokens_read at front b z (step_of (b ∷ z)) refl))
    (read_by at front (b ∷ z) (step_of (b ∷ z)) (step_holds b z) (λ size more some in_z. read_text fuel (at + size) more (drop size (b ∷ z)) (omega (arith, length-drop size (b ∷ z)))))

pub text_is_read : (z : List ℕ) → IsRead 0 [] z (tokens_from 0 0 [] z)
text_is_read z = read_text (length z) 0 [] z (omega arith)

-- tokens that the text is cut into are read
pub cut_is_read : (at : ℕ) (z : List ℕ) (more : List Token) (front : List Token) → IsCut at z more → tokens_from 0 at front z ≡ Ok (front ++ more)
cut_is_read at z more front (ends) = tokens_at_end at front
cut_is_read at z more front (cut_passes size gap cut) =
    let within = gap_within z size gap in
    some_read at front z (Gap size) (omega arith) (gap_reads z size gap) ∙ cut_is_read (at + size) (drop size z) more front cut
cut_is_read at z more front (cut_stands {tokens = others} size token stands cut) =
    let within = stands_within z size token stands in
    let one = token_of token at (at + size) in
    some_read at front z (Stands size token) (omega arith) (stands_reads z size token stands) ∙ cut_is_read (at + size) (drop size z) others (front ++ one ∷ []) cut ∙ ap Ok (append_assoc front (one ∷ []) others)

no_literal_at_end : (quote : ℕ) (body points rest : List ℕ) → IsLiteral quote [] body points rest → ⊥
no_literal_at_end quote body points rest literal = let split = literal.split in cc

no_fault_at_end : (k : LexKind) (offset : ℕ) → IsFault [] k offset → ⊥
no_fault_at_end k offset (no_token byte rest split blank_no quote none) = cc
no_fault_at_end k offset (no_character quote byte body points rest literal a b c printed) = no_literal_at_end quote body points (byte ∷ rest) literal
no_fault_at_end k offset (bad_number size number longest on) = let (b, after, split, digit) = number_first [] size number longest in cc
no_fault_at_end k offset (wide_number size number longest alone wide) = let (b, after, split, digit) = number_first [] size (pos number) longest in cc
no_fault_at_end k offset (open_text quote body points rest literal end) = no_literal_at_end quote body points rest literal
no_fault_at_end k offset (bad_char body points rest literal several) = no_literal_at_end 0x27 body points (0x27 ∷ rest) literal
no_fault_at_end k offset (bad_escape quote body points rest literal none) = no_literal_at_end quote body points (0x5C ∷ rest) literal
no_fault_at_end k offset (open_comment body split none) = cc

-- a fault stands in a text that has a byte
fault_some : (z : List ℕ) (k : LexKind) (offset : ℕ) → IsFault z k offset → 0 < length z
fault_some [] k offset fault = absurd (no_fault_at_end k offset fault)
fault_some (b ∷ z) k offset fault = omega arith

-- where a text breaks the rules first, that is read
pub break_is_read : (at : ℕ) (z : List ℕ) (k : LexKind) (place : ℕ) (front : List Token) → BreaksAt at z k place → tokens_from 0 at front z ≡ Err (record { kind = k; at = place })
break_is_read at z k place front (here offset fault) =
    some_read at front z (Fault k offset) (fault_some z k offset fault) (fault_reads z k offset fault)
break_is_read at z k place front (breaks_passes size gap breaks) =
    let within = gap_within z size gap in
    some_read at front z (Gap size) (omega arith) (gap_reads z size gap) ∙ break_is_read (at + size) (drop size z) k place front breaks
break_is_read at z k place front (breaks_stands size token stands breaks) =
    let within = stands_within z size token stands in
    some_read at front z (Stands size token) (omega arith) (stands_reads z size token stands) ∙ break_is_read (at + size) (drop size z) k place (front ++ token_of token at (at + size) ∷ []) breaks

-- the end token is last
ends_more : (token : Token) (tokens : List Token) → EndsLast tokens → EndsLast (token ∷ tokens)
ends_more token [] last = absurd last
ends_more token (next ∷ tokens) last = last

pub cut_ends : (at : ℕ) (z : List ℕ) (tokens : List Token) → IsCut at z tokens → EndsLast tokens
cut_ends at z tokens (ends) = refl
cut_ends at z tokens (cut_passes size gap cut) = cut_ends (at + size) (drop size z) tokens cut
cut_ends at z tokens (cut_stands {tokens = others} size token stands cut) = ends_more (token_of token at (at + size)) others (cut_ends (at + size) (drop size z) others cut)

-- a number that is spelled is not below 0
at_least : (n : ℕ) (k : TokenKind) (number : ℤ) → k ≡ kind.Number (pos n) → k ≡ kind.Number number → pos 0 ≤ℤ number
at_least n k number token is = let same : pos n ≡ number = cc in subst (λ v. pos 0 ≤ℤ v) same (omega (arith, ints))

spelled_number : (w : List ℕ) (k : TokenKind) (number : ℤ) → Spells w k → k ≡ kind.Number number → pos 0 ≤ℤ number
spelled_number w k number (name first others is letter all token) is_it = no_number k number (ap is_number token ∙ word_no_number w) is_it
spelled_number w k number (zero_word is token) is_it = at_least 0 k number token is_it
spelled_number w k number (decimal first others is digit all token) is_it = at_least (value 10 w) k number token is_it
spelled_number w k number (hexadecimal digits is some all token) is_it = at_least (value 16 digits) k number token is_it
spelled_number w k number (char bytes point is are token) is_it = cc
spelled_number w k number (text bytes points is are token) is_it = cc
spelled_number w k number (mark found is token) is_it = cc

pub cut_numbers : (at : ℕ) (z : List ℕ) (tokens : List Token) → IsCut at z tokens → HasNoNegative tokens
cut_numbers at z tokens (ends) = (λ number is. cc, tt)
cut_numbers at z tokens (cut_passes size gap cut) = cut_numbers (at + size) (drop size z) tokens cut
cut_numbers at z tokens (cut_stands {tokens = others} size token stands cut) =
    (λ number is. spelled_number (take size z) token number stands.longest.spells is, cut_numbers (at + size) (drop size z) others cut)

-- what a call answers that gives what is read
pub answers_found : (z : List ℕ) (r : Result (List Token) (Refusal LexFault)) (answer : Result (List Token) LexFault) → Gives r answer → IsRead 0 [] z answer → IfOk r (λ tokens. IsCut 0 z tokens)
answers_found z (Ok tokens) answer gives read =
    let (more, is, cut) = subst (IsRead 0 [] z) gives read in
    subst (IsCut 0 z) (sym is) cut
answers_found z (Err e) answer gives read = tt

pub answers_fault : (z : List ℕ) (r : Result (List Token) (Refusal LexFault)) (answer : Result (List Token) LexFault) → Gives r answer → IsRead 0 [] z answer → OnFault r (λ fault. BreaksAt 0 z fault.kind fault.at)
answers_fault z (Ok tokens) answer gives read = tt
answers_fault z (Err (refusal.Fault fault)) answer gives read = subst (IsRead 0 [] z) gives read
answers_fault z (Err refusal.Memory) answer gives read = tt

pub answers_only : (z : List ℕ) (r : Result (List Token) (Refusal LexFault)) (tokens : List Token) → Gives r (tokens_from 0 0 [] z) → IsCut 0 z tokens → Gives r (Ok tokens)
answers_only z r tokens gives cut = subst (Gives r) (cut_is_read 0 z tokens [] cut) gives

pub answers_only_fault : (z : List ℕ) (r : Result (List Token) (Refusal LexFault)) (k : LexKind) (place : ℕ) → Gives r (tokens_from 0 0 [] z) → BreaksAt 0 z k place → Gives r (Err (record { kind = k; at = place }))
answers_only_fault z r k place gives breaks = subst (Gives r) (break_is_read 0 z k place [] breaks) gives

pub found_ends : (z : List ℕ) (r : Result (List Token) (Refusal LexFault)) → IfOk r (λ tokens. IsCut 0 z tokens) → IfOk r EndsLast
found_ends z (Ok tokens) cut = cut_ends 0 z tokens cut
found_ends z (Err e) cut = tt

pub found_numbers : (z : List ℕ) (r : Result (List Token) (Refusal LexFault)) → IfOk r (λ tokens. IsCut 0 z tokens) → IfOk r HasNoNegative
found_numbers z (Ok tokens) cut = cut_numbers 0 z tokens cut
found_numbers z (Err e) cut = tt

-- each text has one reading
same_tokens : (one other : List Token) (answer : Result (List Token) LexFault) → answer ≡ Ok one → answer ≡ Ok other → one ≡ other
same_tokens one other answer first second = cc

same_fault : (one other : LexFault) (answer : Result (List Token) LexFault) → answer ≡ Err one → answer ≡ Err other → one ≡ other
same_fault one other answer first second = cc

not_both : (tokens : List Token) (fault : LexFault) (answer : Result (List Token) LexFault) → answer ≡ Ok tokens → answer ≡ Err fault → ⊥
not_both tokens fault answer first second = cc

pub one_cut : (z : List ℕ) (one other : List Token) → IsCut 0 z one → IsCut 0 z other → one ≡ other
one_cut z one other first second =
    same_tokens one other (tokens_from 0 0 [] z) (cut_is_read 0 z one [] first) (cut_is_read 0 z other [] second)

pub one_break : (z : List ℕ) (one other : LexKind) (at place : ℕ) → BreaksAt 0 z one at → BreaksAt 0 z other place → (one ≡ other) × (at ≡ place)
one_break z one other at place first second =
    let fault = same_fault (record { kind = one; at = at }) (record { kind = other; at = place }) (tokens_from 0 0 [] z) (break_is_read 0 z one at [] first) (break_is_read 0 z other place [] second) in
    (ap (λ (f : LexFault). f.kind) fault, ap (λ (f : LexFault). f.at) fault)

pub no_cut_breaks : (z : List ℕ) (tokens : List Token) (k : LexKind) (at : ℕ) → IsCut 0 z tokens → BreaksAt 0 z k at → ⊥
no_cut_breaks z tokens k at cut breaks =
    not_both tokens (record { kind = k; at = at }) (tokens_from 0 0 [] z) (cut_is_read 0 z tokens [] cut) (break_is_read 0 z k at [] breaks)

pub cut_or_breaks : (z : List ℕ) → ((tokens : List Token) × IsCut 0 z tokens) ⊎ ((k : LexKind) × (at : ℕ) × BreaksAt 0 z k at)
cut_or_breaks z = go (tokens_from 0 0 [] z) (text_is_read z)
  where
    go : (answer : Result (List Token) LexFault) → IsRead 0 [] z answer → ((tokens : List Token) × IsCut 0 z tokens) ⊎ ((k : LexKind) × (at : ℕ) × BreaksAt 0 z k at)
    go (Ok tokens) (more, is, cut) = inl (more, cut)
    go (Err fault) breaks = inr (fault.kind, fault.at, breaks)
