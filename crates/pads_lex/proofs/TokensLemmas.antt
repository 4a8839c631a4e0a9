-- A text, step by step.
use Rattle.std.proofs.Common.{◌≡◌, ℕ, zero, suc, ◌+◌, ◌-◌, ◌<◌, ◌≤◌, List, [], ◌∷◌, ◌++◌, length, take, drop, Result, Ok, Err, sym, refl, ap, ◌∙◌, subst, arith}
use Rattle.std.proofs.lemmas.List.{length-append, length-drop, drop-drop, take_rest}
use Rattle.pads_lex.specs.Steps.{step_of}
use Rattle.pads_lex.specs.Cut.{token_of, IsGap, StandsAt, IsFault, IsLiteral}
use Rattle.pads_lex.specs.Cut.IsGap.{blank, line, block}
use Rattle.pads_lex.specs.Cut.IsFault.{no_token, no_character, bad_number, wide_number, open_text, bad_char, bad_escape, open_comment}
use Rattle.pads_lex.specs.Reading.{tokens_by, tokens_from}
use Rattle.pads_lex.specs.declared.token.Token.{Token}
use Rattle.pads_lex.specs.declared.token.TokenKind.{TokenKind}
use Rattle.pads_lex.specs.declared.token.TokenKind.TheVariants as kind
use Rattle.pads_lex.specs.declared.fault.LexKind.{LexKind}
use Rattle.pads_lex.specs.declared.fault.LexFault.{LexFault}
use Rattle.pads_lex.specs.declared.step.Step.{Step}
use Rattle.pads_lex.specs.declared.step.Step.TheVariants.{Gap, Stands, Fault}
use Rattle.pads_lex.proofs.SpelledLemmas.{spells_some}
use Rattle.pads_lex.proofs.StepLaws.{Holds, step_holds}

-- what is read already is passed over
tokens_skip : (left at : ℕ) (front : List Token) (z : List ℕ) → left ≤ length z → tokens_from left at front z ≡ tokens_from 0 (at + left) front (drop left z)
unfolding tokens_from
tokens_skip zero at front z fits = ap (λ n. tokens_from 0 n front z) (omega arith)
tokens_skip (suc left) at front [] fits = absurd (omega arith)
tokens_skip (suc left) at front (b ∷ z) fits =
    let same : at + 1 + left ≡ at + suc left = omega arith in
    tokens_skip left (at + 1) front z (omega arith) ∙ ap (λ n. tokens_from 0 n front (drop left z)) same

tokens_pass : (size at : ℕ) (front : List Token) (b : ℕ) (z : List ℕ) → 0 < size → size ≤ suc (length z) → tokens_from (size - 1) (at + 1) front z ≡ tokens_from 0 (at + size) front (drop size (b ∷ z))
tokens_pass zero at front b z some fits = absurd (omega arith)
tokens_pass (suc n) at front b z some fits =
    let left : suc n - 1 ≡ n = omega arith in
    let same : at + 1 + n ≡ at + suc n = omega arith in
    ap (λ k. tokens_from k (at + 1) front z) left ∙ tokens_skip n (at + 1) front z (omega arith) ∙ ap (λ k. tokens_from 0 k front (drop n z)) same

-- a gap and a token have at least one byte, and they are there
pub gap_within : (z : List ℕ) (n : ℕ) → IsGap z n → (0 < n) × (n ≤ length z)
gap_within z n (blank b rest split is size) = (omega (arith, size), omega (arith, size, ap length split))
gap_within z n (line second body rest split is all ends size) = (omega (arith, size), omega (arith, size, ap length split, length-append body rest))
gap_within z n (block body rest split next size) = (omega (arith, size), omega (arith, size, ap length split, length-append body (0x2A ∷ 0x2F ∷ rest)))

pub stands_within : (z : List ℕ) (n : ℕ) (k : TokenKind) → StandsAt z n k → (0 < n) × (n ≤ length z)
stands_within z zero k stands = absurd (spells_some k stands.longest.spells)
stands_within z (suc n) k stands = (omega arith, stands.longest.within)

-- a fault stands in the text
literal_within : (b : ℕ) (z body points rest : List ℕ) → IsLiteral b z body points rest → length body + 1 ≤ length z
literal_within b z body points rest literal = omega (arith, ap length literal.split, length-append body rest)

pub fault_within : (z : List ℕ) (k : LexKind) (offset : ℕ) → IsFault z k offset → offset ≤ length z
fault_within z k offset (no_token byte rest split blank_no quote none) = omega arith
fault_within z k offset (no_character quote byte body points rest literal a b c printed) = literal_within quote z body points (byte ∷ rest) literal
fault_within z k offset (bad_number size number longest on) = omega arith
fault_within z k offset (wide_number size number longest alone wide) = omega arith
fault_within z k offset (open_text quote body points rest literal ends) = omega arith
fault_within z k offset (bad_char body points rest literal several) = omega arith
fault_within z k offset (bad_escape quote body points rest literal none) = literal_within quote z body points (0x5C ∷ rest) literal
fault_within z k offset (open_comment body split none) = omega arith

-- the tokens, by what stands at the front
abbrev pub after_step : ℕ → List Token → List ℕ → Step → Result (List Token) LexFault
after_step at front z (Gap size) = tokens_from 0 (at + size) front (drop size z)
after_step at front z (Stands size token) = tokens_from 0 (at + size) (front ++ token_of token at (at + size) ∷ []) (drop size z)
after_step at front z (Fault kind offset) = Err (record { kind = kind; at = at + offset })

tokens_at : (at : ℕ) (front : List Token) (b : ℕ) (z : List ℕ) (s : Step) → step_of (b ∷ z) ≡ s → tokens_from 0 at front (b ∷ z) ≡ tokens_by at front s (λ left more. tokens_from left (at + 1) more z)
unfolding tokens_from
tokens_at at front b z s e = ap (λ step. tokens_by at front step (λ left more. tokens_from left (at + 1) more z)) e

pub tokens_at_end : (at : ℕ) (front : List Token) → tokens_from 0 at front [] ≡ Ok (front ++ token_of kind.End at at ∷ [])
unfolding tokens_from
tokens_at_end at front = refl

pub tokens_read : (at : ℕ) (front : List Token) (b : ℕ) (z : List ℕ) (s : Step) → step_of (b ∷ z) ≡ s → tokens_from 0 at front (b ∷ z) ≡ after_step at front (b ∷ z) s
tokens_read at front b z (Gap size) e =
    let within = gap_within (b ∷ z) size (subst (Holds (b ∷ z)) e (step_holds b z)) in
    tokens_at at front b z (Gap size) e ∙ tokens_pass size at front b z within.0 within.1
tokens_read at front b z (Stands size token) e =
    let within = stands_within (b ∷ z) size token (subst (Holds (b ∷ z)) e (step_holds b z)) in
    tokens_at at front b z (Stands size token) e ∙ tokens_pass size at (front ++ token_of token at (at + size) ∷ []) b z within.0 within.1
tokens_read at front b z (Fault kind offset) e = tokens_at at front b z (Fault kind offset) e

pub some_read : (at : ℕ) (front : List Token) (z : List ℕ) (s : Step) → 0 < length z → step_of z ≡ s → tokens_from 0 at front z ≡ after_step at front z s
some_read at front [] s some e = absurd (omega arith)
some_read at front (b ∷ z) s some e = tokens_read at front b z s e

some_holds : (z : List ℕ) (s : Step) → 0 < length z → step_of z ≡ s → Holds z s
some_holds [] s some e = absurd (omega arith)
some_holds (b ∷ z) s some e = subst (Holds (b ∷ z)) e (step_holds b z)

-- the step that is read at an offset of a text
step_there : (text : List ℕ) (at : ℕ) (found s : Step) → found ≡ step_of (take (length text - at) (drop at text)) → found ≡ s → step_of (drop at text) ≡ s
step_there text at found s read is = ap step_of (sym (take_rest text at)) ∙ sym read ∙ is

pub holds_there : (text : List ℕ) (at : ℕ) (found s : Step) → at < length text → found ≡ step_of (take (length text - at) (drop at text)) → found ≡ s → Holds (drop at text) s
holds_there text at found s more read is =
    some_holds (drop at text) s (omega (arith, length-drop at text)) (step_there text at found s read is)

pub read_there : (text : List ℕ) (at : ℕ) (front : List Token) (found s : Step) → at < length text → found ≡ step_of (take (length text - at) (drop at text)) → found ≡ s → tokens_from 0 at front (drop at text) ≡ after_step at front (drop at text) s
read_there text at front found s more read is =
    some_read at front (drop at text) s (omega (arith, length-drop at text)) (step_there text at found s read is)

pub gap_there : (text : List ℕ) (at size : ℕ) (found : Step) → at < length text → found ≡ step_of (take (length text - at) (drop at text)) → found ≡ Gap size → (0 < size) × (at + size ≤ length text)
gap_there text at size found more read is =
    let within = gap_within (drop at text) size (holds_there text at found (Gap size) more read is) in
    (within.0, omega (arith, within.1, length-drop at text))

pub stands_there : (text : List ℕ) (at size : ℕ) (token : TokenKind) (found : Step) → at < length text → found ≡ step_of (take (length text - at) (drop at text)) → found ≡ Stands size token → (0 < size) × (at + size ≤ length text)
stands_there text at size token found more read is =
    let within = stands_within (drop at text) size token (holds_there text at found (Stands size token) more read is) in
    (within.0, omega (arith, within.1, length-drop at text))

pub fault_there : (text : List ℕ) (at offset : ℕ) (kind : LexKind) (found : Step) → at < length text → found ≡ step_of (take (length text - at) (drop at text)) → found ≡ Fault kind offset → at + offset ≤ length text
fault_there text at offset kind found more read is =
    let within = fault_within (drop at text) kind offset (holds_there text at found (Fault kind offset) more read is) in
    omega (arith, within, length-drop at text)

pub passes_there : (text : List ℕ) (at size : ℕ) (front : List Token) (found : Step) (whole : Result (List Token) LexFault) → at < length text → found ≡ step_of (take (length text - at) (drop at text)) → found ≡ Gap size → tokens_from 0 at front (drop at text) ≡ whole → tokens_from 0 (at + size) front (drop (at + size) text) ≡ whole
passes_there text at size front found whole more read is so_far =
    ap (tokens_from 0 (at + size) front) (sym (drop-drop size at text)) ∙ sym (read_there text at front found (Gap size) more read is) ∙ so_far

pub pushes_there : (text : List ℕ) (at size : ℕ) (token : TokenKind) (front pushed : List Token) (found : Step) (whole : Result (List Token) LexFault) → at < length text → found ≡ step_of (take (length text - at) (drop at text)) → found ≡ Stands size token → pushed ≡ front ++ token_of token at (at + size) ∷ [] → tokens_from 0 at front (drop at text) ≡ whole → tokens_from 0 (at + size) pushed (drop (at + size) text) ≡ whole
pushes_there text at size token front pushed found whole more read is push so_far =
    ap (λ ts. tokens_from 0 (at + size) ts (drop (at + size) text)) push ∙ ap (tokens_from 0 (at + size) (front ++ token_of token at (at + size) ∷ [])) (sym (drop-drop size at text)) ∙ sym (read_there text at front found (Stands size token) more read is) ∙ so_far
