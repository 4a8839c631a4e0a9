-- What a look finds, by discipline.
use Rattle.std.proofs.Common.{◌≡◌, ℕ, zero, suc, ◌+◌, ◌-◌, ◌<◌, ◌≤◌, Bool, true, false, ltb, List, [], ◌∷◌, length, sym, refl, ap, ◌∙◌, arith}
use Rattle.std.proofs.lemmas.Bool.{true≢false, lt-ltb, le-ltb}
use Rattle.pads_frame.specs.declared.discipline.Discipline.{Discipline}
use Rattle.pads_frame.specs.declared.discipline.Discipline.TheVariants.{Term, Rdw, Whole}
use Rattle.pads_frame.specs.declared.look.Look.{Look}
use Rattle.pads_frame.specs.declared.look.Look.TheVariants.{Found, Pass, Wait}
use Rattle.pads_frame.specs.Extents.{run, mark_of, word_length, has_word, has_record, broken_extent, extent}
use Rattle.pads_frame.specs.Looks.{IsLost, LookGives, OpenGives}
use Rattle.pads_frame.specs.State.{text, closes_in, MayPass}
use Rattle.pads_frame.proofs.ExtentLemmas.{rdw_record, rdw_broken, rdw_closed, record_from, no_record, word_parts}
use Rattle.pads_frame.proofs.TextLemmas.{length_text, text_none, run_text, word_text}

pub closes_closed : (d : Discipline) (max : ℕ) (xs : List ℕ) (ended : Bool) → (extent d max xs).closed ≡ true → 0 < length xs → closes_in d max xs ended ≡ true
closes_closed d max xs true c l = lt-ltb 0 (length xs) l
closes_closed d max xs false c l = c

pub closes_ended : (d : Discipline) (max : ℕ) (xs : List ℕ) (ended : Bool) → ended ≡ true → 0 < length xs → closes_in d max xs ended ≡ true
closes_ended d max xs ended e l = rw e (lt-ltb 0 (length xs) l)

pub closes_open : (d : Discipline) (max : ℕ) (xs : List ℕ) (ended : Bool) → (extent d max xs).closed ≡ false → (0 < length xs → ended ≡ false) → closes_in d max xs ended ≡ false
closes_open d max [] true c e = refl
closes_open d max (x ∷ xs) true c e = absurd (true≢false (e (omega arith)))
closes_open d max xs false c e = c

-- the terminator stands at place k of the held bytes
pub term_found : (t max p : ℕ) (held : List ℕ) (ended : Bool) (k : ℕ) → run t held ≡ k → k < length held
    → LookGives (Term t) max p held ended (Found (record { lead = 0; len = p + k; terminator = 1; mark = mark_of max (p + k); closed = true }))
term_found t max p held ended k r l =
    let n = length_text (Term t) p held in
    let e : run t (text (Term t) p held) ≡ p + k = run_text t p held ∙ ap (λ (k : ℕ). p + k) r in
    let c : ltb (p + k) (length (text (Term t) p held)) ≡ true = lt-ltb (p + k) (length (text (Term t) p held)) (omega arith) in
    record { closes = closes_closed (Term t) max (text (Term t) p held) ended (rw (e, c) refl) (omega arith); lies = rw (e, c) refl }

-- nothing closes the frame
pub open_look : (d : Discipline) (max p : ℕ) (held : List ℕ) (ended : Bool) (r : Look)
    → extent d max (text d p held) ≡ record { lead = 0; len = p + length held; terminator = 0; mark = mark_of max (p + length held); closed = false }
    → (max < p + length held → IsLost d max (text d p held)) → OpenGives max (p + length held) ended r → LookGives d max p held ended r
open_look d max p held ended (Found found) e lost g =
    let n = length_text d p held in
    record { closes = closes_ended d max (text d p held) ended g.0 (omega (arith, g.1)); lies = g.2 ∙ sym e }
open_look d max p held ended Pass e lost g = record { goes_on = g.0; lost = lost g.1 }
open_look d max p held ended Wait e lost g =
    let n = length_text d p held in
    (closes_open d max (text d p held) ended (rw e refl) (λ l. g.0 (omega arith)), omega (arith, g.1))

pub term_open : (t max p : ℕ) (held : List ℕ) (ended : Bool) (r : Look) → run t held ≡ length held → OpenGives max (p + length held) ended r → LookGives (Term t) max p held ended r
term_open t max p held ended r none g =
    let n = length_text (Term t) p held in
    let e : run t (text (Term t) p held) ≡ p + length held = run_text t p held ∙ ap (λ (k : ℕ). p + k) none in
    let c : ltb (p + length held) (length (text (Term t) p held)) ≡ false = le-ltb (p + length held) (length (text (Term t) p held)) (omega arith) in
    open_look (Term t) max p held ended r (rw (e, c) refl) (λ l. (e ∙ sym n, omega arith)) g

pub whole_open : (max p : ℕ) (held : List ℕ) (ended : Bool) (r : Look) → OpenGives max (p + length held) ended r → LookGives Whole max p held ended r
whole_open max p held ended r g =
    let n = length_text Whole p held in
    open_look Whole max p held ended r (rw n refl) (λ l. omega arith) g

-- the word of the text is the held one, where there is one
pub text_word : (max p : ℕ) (held : List ℕ) → MayPass Rdw max p held → has_word (text Rdw p held) ≡ has_word held
text_word max zero held m = ap has_word (text_none Rdw held)
text_word max (suc p) held m = (word_text (suc p) held (m (omega arith)).0).1

pub record_found : (max p : ℕ) (held : List ℕ) (ended : Bool) → has_word held ≡ true → word_length held ≤ p + length held
    → LookGives Rdw max p held ended (Found (record { lead = 4; len = word_length held - 4; terminator = 0; mark = mark_of max (word_length held - 4); closed = true }))
record_found max p held ended w l =
    let q = word_parts held w in
    let t = word_text p held q.0 in
    let n = length_text Rdw p held in
    let r : has_record (text Rdw p held) ≡ true = record_from (text Rdw p held) (t.1 ∙ w) (omega (arith, t.0)) in
    record {
      closes = closes_closed Rdw max (text Rdw p held) ended (rdw_closed max (text Rdw p held) ∙ r) (omega (arith, q.0));
      lies = sym (rdw_record max (text Rdw p held) r ∙ rw t.0 refl);
    }

pub record_wanted : (p : ℕ) (held : List ℕ) → has_word held ≡ true → p + length held < word_length held → has_record (text Rdw p held) ≡ false
record_wanted p held w l =
    let q = word_parts held w in
    let t = word_text p held q.0 in
    no_record (text Rdw p held) (omega (arith, t.0, length_text Rdw p held))

pub no_word : (max p : ℕ) (held : List ℕ) → MayPass Rdw max p held → has_word held ≡ false → has_record (text Rdw p held) ≡ false
no_word max p held m w = rw (text_word max p held m ∙ w) refl

pub broken_found : (max p : ℕ) (held : List ℕ) → has_record (text Rdw p held) ≡ false → 0 < p + length held → LookGives Rdw max p held true (Found (broken_extent (p + length held)))
broken_found max p held r l =
    let n = length_text Rdw p held in
    record { closes = closes_ended Rdw max (text Rdw p held) true refl (omega arith); lies = sym (rdw_broken max (text Rdw p held) r ∙ rw n refl) }

pub rdw_wait : (max p : ℕ) (held : List ℕ) (ended : Bool) → has_record (text Rdw p held) ≡ false → (0 < p + length held → ended ≡ false) → length held ≤ max + 4 → LookGives Rdw max p held ended Wait
rdw_wait max p held ended r e l =
    let n = length_text Rdw p held in
    (closes_open Rdw max (text Rdw p held) ended (rdw_closed max (text Rdw p held) ∙ r) (λ k. e (omega arith)), l)

pub record_lost : (max p : ℕ) (held : List ℕ) → has_word held ≡ true → p + length held < word_length held → max + 4 < word_length held → LookGives Rdw max p held false Pass
record_lost max p held w l long =
    let q = word_parts held w in
    let t = word_text p held q.0 in
    let n = length_text Rdw p held in
    record { goes_on = refl; lost = (omega (arith, q.0), λ h. (omega (arith, t.0), omega (arith, t.0))) }

pub word_lost : (max p : ℕ) (held : List ℕ) → MayPass Rdw max p held → has_word held ≡ false → 4 ≤ length held → LookGives Rdw max p held false Pass
word_lost max p held m w l =
    let n = length_text Rdw p held in
    let t = text_word max p held m in
    record { goes_on = refl; lost = (omega arith, λ h. absurd (let f : false ≡ true = sym w ∙ sym t ∙ h in cc)) }
